-- Contexts and labels of changesets.
use Rattle.std.specs.List.{list_all}
use Rattle.std.specs.Option.{unwrap_or}
use Rattle.std.specs.Prelude.{Bool, Err, List, None, Ok, Option, Result, Some, [], codes, cond, false, is_some, map, nat_le, not, option_and_then, true, ℕ, ◌&&◌, ◌++◌, ◌∷◌, ◌≡◌}
use Rattle.std.specs.Str.{bytes_eq}
use Rattle.lq_base.specs.Number.{char_count, has_control}
use Rattle.lq_base.specs.declared.dialect.Dialect.{Dialect}
use Rattle.lq_base.specs.declared.fault.KindFault.TheVariants.{Bad}
use Rattle.lq_base.specs.declared.run.OnFail.TheVariants.{Halt}
use Rattle.lq_canon.specs.Sums as sums
use Rattle.lq_cond.specs.Reading.{reaction}
use Rattle.lq_cond.specs.declared.cond.Cond.TheVariants.{And}
use Rattle.lq_cond.specs.declared.cond.Reaction.{Reaction}
use Rattle.lq_expr.specs.Grammar.{parsed, parsed_names}
use Rattle.lq_expr.specs.Words.{is_blank}
use Rattle.lq_expr.specs.declared.expr.Expr.{Expr}
use Rattle.lq_expr.specs.declared.expr.ExprFault.{ExprFault}
use Rattle.lq_any.specs.AnyChange.{canonical_of}
use Rattle.lq_kinds.specs.Changes.{Files, changes_at, here_keys, rollback_keys}
use Rattle.lq_any.specs.declared.any_change.AnyChange.{AnyChange}
use Rattle.lq_kinds.specs.declared.change_set.ChangeSet.{ChangeSet}
use Rattle.lq_kinds.specs.declared.context.Context.{Context}
use Rattle.lq_kinds.specs.declared.context.LabelNames.{LabelNames}
use Rattle.lq_kinds.specs.declared.fault.SetFault.{SetFault}
use Rattle.lq_kinds.specs.declared.fault.SetFault.TheVariants.{BadPath, InKeys}
use Rattle.lq_kinds.specs.declared.heading.Heading.{Heading}
use Rattle.lq_kinds.specs.declared.heading.Notes.{Notes}
use Rattle.lq_kinds.specs.declared.heading.Running.{Running}
use Rattle.lq_kinds.specs.declared.heading.Selection.{Selection}
use Rattle.lq_tree.specs.Given.{a_text, a_truth, if_so}
use Rattle.lq_tree.specs.Items.{items_from, items_in}
use Rattle.lq_tree.specs.Keys.{Keys, at_optional, fields, known, optional, required, ◌⊛◌}
use Rattle.lq_tree.specs.Look.{Found, Taken, and_then, list_of, map_found, or_bad, printed_of, value_at, within, within_list}
use Rattle.lq_tree.specs.declared.node.Node.{Node}
pub use Rattle.lq_kinds.specs.Changes.{ReadsSet, by_keys, by_set, map_set}

-- blanks alone
abbrev pub is_blank_text : List ℕ → Bool
is_blank_text text = list_all is_blank text

-- what is no expression is bad
abbrev pub if_parsed : {A B : Type 0} → (A → B) → Result A ExprFault → Found B
if_parsed f (Ok a) = Ok (f a)
if_parsed f (Err fault) = Err (Bad [])

-- the expression of a text; blanks alone have none
abbrev pub in_context : List ℕ → Found Context
in_context text = cond (is_blank_text text) (Ok (record { text = text; expression = None })) (if_parsed (λ e. record { text = text; expression = Some e }) (parsed text))

abbrev pub a_context : Taken Context
a_context n = and_then (a_text n) in_context

-- names with commas between; blanks alone are none
abbrev pub in_labels : List ℕ → Found LabelNames
in_labels text = if_parsed (λ names. record { text = text; names = names }) (parsed_names text)

abbrev pub labels : Taken LabelNames
labels n = and_then (a_text n) in_labels

-- where the first name is there, the second is bad
abbrev pub either : Node → Option Context → Found (Option Context)
either n None = at_optional (codes "contextFilter") a_context (value_at (codes "contextFilter") n)
either n (Some first) = cond (is_some (value_at (codes "contextFilter") n)) (Err (Bad (codes "contextFilter"))) (Ok (Some first))

unfoldable pub context_at : Taken (Option Context)
context_at n = and_then (at_optional (codes "context") a_context (value_at (codes "context") n)) (either n)

abbrev pub context_keys : Keys (Option Context)
context_keys = record { names = codes "context" ∷ codes "contextFilter" ∷ []; says = context_at }

-- Texts by which changesets are known.

-- 1 to 255 characters, none a control character
abbrev pub is_label : List ℕ → Bool
is_label bytes = nat_le 1 (char_count bytes) && (nat_le (char_count bytes) 255 && not (has_control bytes))

-- a scalar that is printed as such a text
abbrev pub a_label : Taken (List ℕ)
a_label n = or_bad (option_and_then (if_so is_label) (printed_of n))

-- What a changeset of a tree is read as.

-- a key that may be there, with what it says where it is not
abbrev pub defaulted : {A : Type 0} → A → Keys (Option A) → Keys A
defaulted a keys = record { names = keys.names; says = λ n. map_found (λ found. unwrap_or found a) (keys.says n) }

-- without a context no text and no expression
abbrev pub no_context : Context
no_context = record { text = []; expression = None }

-- without labels no text and no name
abbrev pub no_labels : LabelNames
no_labels = record { text = []; names = [] }

abbrev pub no_reaction : Reaction
no_reaction = record { cond = And []; on_fail = Halt; on_error = Halt }

-- the keys in order

abbrev pub heading_keys : Keys (List AnyChange → Heading)
heading_keys =
    fields (λ id author changes. record { id = id; author = author; changes = changes })
    ⊛ required (codes "id") a_label
    ⊛ required (codes "author") a_label

abbrev pub selection_keys : Dialect → Keys Selection
selection_keys d =
    fields (λ context labels here. record { context = context; labels = labels; here = here })
    ⊛ defaulted no_context context_keys
    ⊛ defaulted no_labels (optional (codes "labels") labels)
    ⊛ here_keys d

abbrev pub running_keys : Keys Running
running_keys =
    fields (λ always on_change fail transaction ignored. record { run_always = always; run_on_change = on_change; fail_on_error = fail; in_transaction = transaction; ignored = ignored })
    ⊛ defaulted false (optional (codes "runAlways") a_truth)
    ⊛ defaulted false (optional (codes "runOnChange") a_truth)
    ⊛ defaulted true (optional (codes "failOnError") a_truth)
    ⊛ defaulted true (optional (codes "runInTransaction") a_truth)
    ⊛ defaulted false (optional (codes "ignore") a_truth)

-- what these keys say, group by group

-- its changes with the bytes of the files that they load
unfoldable pub heading : Dialect → Files → Node → Result Heading SetFault
heading d given n = by_keys (heading_keys.says n) (λ with. map_set with (changes_at d given n))

unfoldable pub selection : Dialect → Taken Selection
selection d = (selection_keys d).says

unfoldable pub running : Taken Running
running = running_keys.says

-- names are always quoted
abbrev pub is_quoting : List ℕ → Bool
is_quoting text = bytes_eq text (codes "QUOTE_ALL_OBJECTS")

abbrev pub a_quoting : Taken (List ℕ)
a_quoting n = or_bad (option_and_then (if_so is_quoting) (printed_of n))

abbrev pub sums_by : Node → Option (List ℕ) → Found (List (List ℕ))
sums_by n (Some text) = Ok (text ∷ [])
sums_by n None = items_in (codes "validCheckSum") a_text (list_of n)

abbrev pub sums_in : Option Node → Found (List (List ℕ))
sums_in None = Ok []
sums_in (Some value) = sums_by value (printed_of value)

-- a text, or a list of texts
abbrev pub sums_keys : Keys (List (List ℕ))
sums_keys = record { names = codes "validCheckSum" ∷ []; says = λ n. sums_in (value_at (codes "validCheckSum") n) }

abbrev pub reaction_in : Dialect → Option Node → Found (Option Reaction)
reaction_in d None = Ok None
reaction_in d (Some value) = map_found (λ found. Some found) (within_list (codes "preConditions") (reaction d value))

abbrev pub reaction_keys : Dialect → Keys (Option Reaction)
reaction_keys d = record { names = codes "preConditions" ∷ []; says = λ n. reaction_in d (value_at (codes "preConditions") n) }

abbrev pub notes_keys : Dialect → Keys Notes
notes_keys d =
    fields (λ quoting sums comment stated rollback. record { valid_sums = sums; comment = comment; reaction = stated; rollback = rollback })
    ⊛ optional (codes "objectQuotingStrategy") a_quoting
    ⊛ sums_keys
    ⊛ defaulted [] (optional (codes "comment") a_text)
    ⊛ defaulted no_reaction (reaction_keys d)
    ⊛ rollback_keys d

unfoldable pub notes : Dialect → Taken Notes
notes d = (notes_keys d).says

-- its path

abbrev pub by_path : {B : Type 0} → Result (List ℕ) SetFault → (List ℕ → Result B SetFault) → Result B SetFault
by_path (Ok path) f = f path
by_path (Err fault) f = Err fault

abbrev pub path_of : Option (List ℕ) → Result (List ℕ) SetFault
path_of None = Err (InKeys (Bad (codes "logicalFilePath")))
path_of (Some path) = cond (is_label path) (Ok path) (Err BadPath)

-- `logicalFilePath`, and without it the path of the file
abbrev pub path_in : List ℕ → Option Node → Result (List ℕ) SetFault
path_in path None = Ok path
path_in path (Some value) = path_of (printed_of value)

unfoldable pub path_at : List ℕ → Node → Result (List ℕ) SetFault
path_at path n = path_in path (value_at (codes "logicalFilePath") n)

-- all keys that a changeset may have
abbrev pub set_names : Dialect → List (List ℕ)
set_names d = heading_keys.names ++ codes "changes" ∷ (selection_keys d).names ++ running_keys.names ++ codes "logicalFilePath" ∷ (notes_keys d).names

-- a changeset has no other key
unfoldable pub only_known : Dialect → Taken (Unit {0})
only_known d = known (set_names d)

-- the checksum of changes
abbrev pub sum_of : List AnyChange → List ℕ
sum_of changes = sums.sum_of (map canonical_of changes)

-- and the one of the old form
abbrev pub old_sum_of : List AnyChange → List ℕ
old_sum_of changes = sums.old_sum_of (map canonical_of changes)

unfoldable pub set_with : Heading → Selection → Running → List ℕ → Notes → ChangeSet
set_with h s r path a = record {
  identity = record { file = path; id = h.id; author = h.author };
  here = s.here;
  changes = h.changes;
  rollback = a.rollback;
  context = s.context.expression;
  labels = s.labels.names;
  context_text = s.context.text;
  labels_text = s.labels.text;
  comment = a.comment;
  run_always = r.run_always;
  run_on_change = r.run_on_change;
  fail_on_error = r.fail_on_error;
  in_transaction = r.in_transaction;
  valid_sums = a.valid_sums;
  cond = a.reaction.cond;
  on_fail = a.reaction.on_fail;
  on_error = a.reaction.on_error;
  sum = sum_of h.changes;
  old_sum = old_sum_of h.changes;
}

-- none where it is to be ignored
abbrev pub if_taken : Running → ChangeSet → Option ChangeSet
if_taken r set = cond r.ignored None (Some set)

-- a changeset of the file at a path: none where it is to be ignored, after all of its keys were read
unfoldable pub set_of : Dialect → List ℕ → Files → Node → Result (Option ChangeSet) SetFault
set_of d path given n =
    by_keys (only_known d n) (λ _.
    by_set (heading d given n) (λ h.
    by_keys (selection d n) (λ s.
    by_keys (running n) (λ r.
    by_path (path_at path n) (λ p.
    by_keys (notes d n) (λ a.
    Ok (if_taken r (set_with h s r p a))))))))
