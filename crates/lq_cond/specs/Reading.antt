-- What the value of `preConditions` is read as.
use Rattle.std.specs.List.{flat_map}
use Rattle.std.specs.Map.{lookup}
use Rattle.std.specs.Option.{option_and_then, unwrap_or}
use Rattle.std.specs.Prelude.{Bool, Err, List, None, Ok, Option, Some, [], codes, if◌then◌else◌, suc, zero, ℕ, ◌++◌, ◌+◌, ◌||◌, ◌∷◌}
use Rattle.std.specs.Str.{bytes_eq}
use Rattle.lq_base.specs.declared.dialect.Dialect.{Dialect}
use Rattle.lq_base.specs.declared.fault.KindFault.TheVariants.{Bad}
use Rattle.lq_base.specs.declared.run.OnFail.{OnFail}
use Rattle.lq_base.specs.declared.run.OnFail.TheVariants.{Continue, Halt, MarkRan, Warn}
use Rattle.lq_cond.specs.Kinds.{condition_at}
use Rattle.lq_cond.specs.declared.cond.Cond.{And as AndCond, Cond, Is, Not as NotCond, Or as OrCond}
use Rattle.lq_cond.specs.declared.cond.Reaction.{Reaction}
use Rattle.lq_cond.specs.declared.connective.Connective.{Connective}
use Rattle.lq_cond.specs.declared.connective.Connective.TheVariants.{And, Not, Or}
use Rattle.lq_cond.specs.declared.setting.Setting.{Setting}
use Rattle.lq_cond.specs.declared.setting.Setting.TheVariants.{Condition, Message, OnError, OnFail as OnFailure}
use Rattle.lq_tree.specs.Items.{item_path}
use Rattle.lq_tree.specs.Look.{Found, Taken, and_then, list_of, map_found, map_of, or_bad, text_of, within, within_list}
use Rattle.lq_tree.specs.declared.node.Node.{Node}

-- ---- lists whose items are maps: each key of an item counts as an item

-- the keys of an item, in order
abbrev pub each_key : {A : Type 0} → (List ℕ → Taken A) → List (List ℕ × Node) → Found (List A)
each_key takes [] = Ok []
each_key takes (e ∷ es) = and_then (takes e.0 e.1) (λ a. map_found (λ more. a ∷ more) (each_key takes es))

abbrev pub an_item : {A : Type 0} → (List ℕ → Taken A) → Taken (List A)
an_item takes n = elim (map_of n) [ None ↦ Err (Bad []) | Some es ↦ each_key takes es ]

-- the items in order, from a place on
abbrev pub each_item : {A : Type 0} → ℕ → (List ℕ → Taken A) → List Node → Found (List A)
each_item i takes [] = Ok []
each_item i takes (n ∷ ns) = and_then (within (item_path [] i) (an_item takes n)) (λ found. map_found (λ more. found ++ more) (each_item (i + 1) takes ns))

abbrev pub a_list : {A : Type 0} → (List ℕ → Taken A) → Taken (List A)
a_list takes n = elim (list_of n) [ None ↦ Err (Bad []) | Some ns ↦ each_item 0 takes ns ]

-- ---- conditions

unfoldable pub connective_named : List ℕ → Option Connective
connective_named name = lookup (bytes_eq name) ((codes "and", And) ∷ (codes "or", Or) ∷ (codes "not", Not) ∷ [])

abbrev pub joined : Connective → List Cond → Cond
joined And conds = AndCond conds
joined Or conds = OrCond conds
joined Not conds = NotCond conds

-- what stands at a key: `and`, `or` and `not` hold lists of conditions, any other key is a kind
abbrev pub cond_at : Dialect → Taken (List Cond) → List ℕ → Taken Cond
cond_at d inside key n = elim (connective_named key) [
  | None ↦ map_found (λ one. Is one) (condition_at d key n)
  | Some connective ↦ map_found (joined connective) (within_list key (inside n))
]

-- a list of conditions, which with the lists in it has so many levels at most
abbrev pub conditions : Dialect → ℕ → Taken (List Cond)
conditions d zero n = Err (Bad [])
conditions d (suc levels) n = a_list (cond_at d (conditions d levels)) n

-- ---- the value

abbrev pub reaction_named : List ℕ → Option OnFail
reaction_named name = lookup (bytes_eq name) ((codes "HALT", Halt) ∷ (codes "CONTINUE", Continue) ∷ (codes "MARK_RAN", MarkRan) ∷ (codes "WARN", Warn) ∷ [])

abbrev pub a_reaction : Taken OnFail
a_reaction n = or_bad (option_and_then reaction_named (text_of n))

abbrev pub is_message : List ℕ → Bool
is_message key = bytes_eq key (codes "onFailMessage") || bytes_eq key (codes "onErrorMessage")

-- lists nest at most 64 levels deep
unfoldable pub inner_conditions : Dialect → Taken (List Cond)
inner_conditions d = conditions d 64

-- what a key of an item says: a reaction, a message, which is ignored, or a condition
abbrev pub setting_at : Dialect → List ℕ → Taken Setting
setting_at d key n =
    if bytes_eq key (codes "onFail") then map_found (λ reaction. OnFailure reaction) (within key (a_reaction n))
    else (if bytes_eq key (codes "onError") then map_found (λ reaction. OnError reaction) (within key (a_reaction n))
    else (if is_message key then Ok Message
    else map_found (λ cond. Condition cond) (cond_at d (inner_conditions d) key n)))

abbrev pub conds_of : Setting → List Cond
conds_of (Condition cond) = cond ∷ []
conds_of _ = []

abbrev pub on_fail_of : Setting → Option OnFail
on_fail_of (OnFailure reaction) = Some reaction
on_fail_of _ = None

abbrev pub on_error_of : Setting → Option OnFail
on_error_of (OnError reaction) = Some reaction
on_error_of _ = None

-- the last reaction that is stated, or the one before it
abbrev pub last_stated : (Setting → Option OnFail) → OnFail → List Setting → OnFail
last_stated of before [] = before
last_stated of before (s ∷ settings) = last_stated of (unwrap_or (of s) before) settings

-- all conditions have to hold; the reactions are HALT where none is stated
abbrev pub reaction_of : List Setting → Reaction
reaction_of settings = record {
  cond = AndCond (flat_map conds_of settings);
  on_fail = last_stated on_fail_of Halt settings;
  on_error = last_stated on_error_of Halt settings;
}

unfoldable pub reaction : Dialect → Taken Reaction
reaction d n = map_found reaction_of (a_list (setting_at d) n)
