-- Lemmas on how a statement ends.
use Rattle.std.proofs.Common.{Bool, Err, List, None, Some, [], ap, cond, false, is_none, not, refl, sym, true, unwrap_or, ◌&&◌, ◌||◌, ◌∙◌, ◌∷◌, ◌≡◌}
use Rattle.std.specs.List.{list_any}
use Rattle.std.specs.Prelude.{map}
use Rattle.lq_base.specs.declared.name.Name.{Name}
use Rattle.lq_base.specs.declared.reason.Reason.TheVariants as reason
use Rattle.lq_chain.specs.History.{History}
use Rattle.lq_base.specs.Name.{is_named}
use Rattle.lq_model.specs.Catalogue.{Catalogue, Table, no_table, table_of, the_table, with_table, is_in, constraint_names, key_list}
use Rattle.lq_decide.specs.Faults.{loses_target}
use Rattle.lq_model.specs.Tables.{has_numbered}
use Rattle.lq_keyops.specs.Targets.{any_aims_in_vain}
use Rattle.lq_keyops.proofs.TargetLemmas.{loses_is}
use Rattle.lq_model.specs.Plan.{Plan, decide}
use Rattle.lq_model.specs.NameSpaces.{is_reserved, is_tracking}
use Rattle.lq_model.specs.declared.caller.By.{By}
use Rattle.lq_model.specs.declared.caller.By.TheVariants.{Program, User}
use Rattle.lq_model.proofs.Lists.{any-map}
use Rattle.lq_rows.specs.Stored.{Answers, with_shape}
use Rattle.lq_rows.specs.declared.fault.RunFault.TheVariants.{Refused}
use Rattle.lq_rows.specs.declared.shape.Shape.{Shape}

either : (a b : Bool) → (a || (b || false)) ≡ ((a || false) || (b || false))
either true b = refl
either false b = refl

pub reserved_two : (by : By) (a b : Name) → is_reserved by (a ∷ b ∷ []) ≡ (is_reserved by (a ∷ []) || is_reserved by (b ∷ []))
reserved_two User a b = either (is_tracking a) (is_tracking b)
reserved_two Program a b = refl

-- the reason where something is missing
missing_err : (p : Plan) → p.missing ≡ true → (r : Bool) → p.reserved ≡ r → decide p ≡ Err (cond r reason.Reserved reason.Missing)
unfolding decide
missing_err p missing true is = rw (is) refl
missing_err p missing false is = rw (is, missing) refl

-- a statement whose table is not there
pub gone : (p : Plan) (h : History Catalogue) (r : Bool) → p.missing ≡ true → p.reserved ≡ r → Answers (decide p) h h (Err (Refused (cond r reason.Reserved reason.Missing)))
gone p h r missing is = (missing_err p missing r is, refl)

pub the_is : (c : Catalogue) (t : Name) (it : Table) → table_of c t ≡ Some it → the_table c t ≡ it
the_is c t it here = ap (λ o. unwrap_or o no_table) here

-- what is asked of a table that is there
pub asked : (c : Catalogue) (t : Name) (it : Table) (f : Table → Bool) → table_of c t ≡ Some it → (is_none (table_of c t) || f (the_table c t)) ≡ f it
asked c t it f here = ap (λ o. is_none o || f (unwrap_or o no_table)) here

pub absent : (c : Catalogue) (t : Name) (b : Bool) → table_of c t ≡ None → (is_none (table_of c t) || b) ≡ true
absent c t b none = ap (λ o. is_none o || b) none

pub named : {A : Type 0} (n : Name) (f : A → Name) (xs : List A) → list_any (λ x. is_named n (f x)) xs ≡ is_in n (map f xs)
named n f xs = sym (any-map (is_named n) f xs)

-- what is asked of a name in a table that is there
pub named_there : {A : Type 0} (c : Catalogue) (t n : Name) (it : Table) (xs : Table → List A) (f : A → Name) (found : Bool) → table_of c t ≡ Some it → found ≡ list_any (λ x. is_named n (f x)) (xs it)
    → not found ≡ (is_none (table_of c t) || not (is_in n (map f (xs (the_table c t)))))
named_there c t n it xs f found here is = ap not (is ∙ named n f (xs it)) ∙ sym (asked c t it (λ x. not (is_in n (map f (xs x)))) here)

-- a table of another shape
pub shaped_there : (c : Catalogue) (t : Name) (it : Table) (g : Table → Table) (shape : Shape) → table_of c t ≡ Some it → with_shape shape it ≡ g it → with_table c t (g (the_table c t)) ≡ with_table c t (with_shape shape (the_table c t))
shaped_there c t it g shape here is = ap (λ x. with_table c t x) (ap g (the_is c t it here) ∙ sym is ∙ ap (with_shape shape) (sym (the_is c t it here)))

-- what foreign keys lose where the table becomes `g` of what it was
pub loses : (c : Catalogue) (t : Name) (it : Table) (g : Table → Table) (shape : Shape) (found : Bool) → table_of c t ≡ Some it → with_shape shape it ≡ g it → found ≡ list_any (λ e. any_aims_in_vain t shape e.0 e.1.foreign) c.tables
    → found ≡ loses_target t (g (the_table c t)) c
loses c t it g shape found here is lost = lost ∙ loses_is t shape it c ∙ ap (λ x. loses_target t x c) (is ∙ ap g (sym (the_is c t it here)))

pub numbered_or : (c : Catalogue) (t : Name) (it : Table) (numbered lost : Bool) {l : Bool} → table_of c t ≡ Some it → numbered ≡ has_numbered it → lost ≡ l → (numbered || lost) ≡ (has_numbered (the_table c t) || l)
numbered_or c t it numbered lost here a b = ap (λ x. x || lost) (a ∙ ap has_numbered (sym (the_is c t it here))) ∙ ap (λ x. has_numbered (the_table c t) || x) b

pub key_numbered_or : (c : Catalogue) (t n : Name) (it : Table) (is_key numbered lost : Bool) {l : Bool} → table_of c t ≡ Some it → is_key ≡ list_any (λ k. is_named n k.name) (key_list it.key) → numbered ≡ has_numbered it → lost ≡ l
    → ((is_key && numbered) || lost) ≡ ((list_any (λ k. is_named n k.name) (key_list (the_table c t).key) && has_numbered (the_table c t)) || l)
key_numbered_or c t n it is_key numbered lost here k a b =
    ap (λ x. (x && numbered) || lost) (k ∙ ap (λ x. list_any (λ k. is_named n k.name) (key_list x.key)) (sym (the_is c t it here)))
    ∙ ap (λ x. (list_any (λ k. is_named n k.name) (key_list (the_table c t).key) && x) || lost) (a ∙ ap has_numbered (sym (the_is c t it here)))
    ∙ ap (λ x. (list_any (λ k. is_named n k.name) (key_list (the_table c t).key) && has_numbered (the_table c t)) || x) b

pub constraint_there : (c : Catalogue) (t n : Name) (it : Table) (found : Bool) → table_of c t ≡ Some it → found ≡ is_in n (constraint_names it) → not found ≡ (is_none (table_of c t) || not (is_in n (constraint_names (the_table c t))))
constraint_there c t n it found here is = ap not is ∙ sym (asked c t it (λ x. not (is_in n (constraint_names x))) here)

pub two : {a b x y : Bool} → a ≡ x → b ≡ y → (a || b) ≡ (x || y)
two {b = b} {x = x} p q = ap (λ z. z || b) p ∙ ap (λ z. x || z) q

pub three : {a b e x y z : Bool} → a ≡ x → b ≡ y → e ≡ z → (a || (b || e)) ≡ (x || (y || z))
three p q r = two p (two q r)

all_three : (a b e : Bool) → (a || (b || (e || false))) ≡ ((a || (b || false)) || (e || false))
all_three true b e = refl
all_three false true e = refl
all_three false false e = refl

pub reserved_three : (by : By) (a b e : Name) → (is_reserved by (a ∷ b ∷ []) || is_reserved by (e ∷ [])) ≡ is_reserved by (a ∷ b ∷ e ∷ [])
reserved_three User a b e = sym (all_three (is_tracking a) (is_tracking b) (is_tracking e))
reserved_three Program a b e = refl

last_true : (a b : Bool) → (a || (b || true)) ≡ true
last_true true b = refl
last_true false true = refl
last_true false false = refl

-- a target that is not there
pub target_absent : (c : Catalogue) (t : Name) (a b : Bool) (g : Table → Bool) → table_of c t ≡ None → (a || (b || (is_none (table_of c t) || g (the_table c t)))) ≡ true
target_absent c t a b g none = ap (λ o. a || (b || (is_none o || g (unwrap_or o no_table)))) none ∙ last_true a b
