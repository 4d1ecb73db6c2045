-- A constraint that is added can be dropped.
use Rattle.std.proofs.Common.{ap, sym, ◌∙◌}
use Rattle.std.specs.List.{filter, list_all, list_any}
use Rattle.std.specs.Prelude.{Bool, List, None, Ok, Option, Some, [], cond, false, is_none, map, not, refl, true, ℕ, ◌&&◌, ◌++◌, ◌||◌, ◌∷◌, ◌≡◌}
use Rattle.lq_base.specs.Name.{beside, is_named}
use Rattle.lq_base.specs.declared.dialect.Dialect.TheVariants.{Postgresql}
use Rattle.lq_base.specs.declared.name.Name.{Name}
use Rattle.lq_model.specs.Constraints.{add_foreign_key, add_primary_key, add_unique, with_key, drop_constraint, without_constraint, without_key}
use Rattle.lq_model.specs.Catalogue.{Catalogue, Table, table_of, the_table, with_table, is_in, constraint_names, key_list}
use Rattle.lq_model.specs.Tables.{key_column, has_numbered}
use Rattle.lq_model.specs.NameSpaces.{shared_names, is_reserved, is_tracking}
use Rattle.lq_model.specs.Sound.{IsSound}
use Rattle.lq_model.specs.Step.{step}
use Rattle.lq_model.specs.TakesBack.{is_firm}
use Rattle.lq_model.specs.declared.caller.By.{By}
use Rattle.lq_model.specs.declared.caller.By.TheVariants.{Program, User}
use Rattle.lq_model.specs.declared.column.Column.{Column}
use Rattle.lq_model.specs.declared.constraint.ForeignKey.{ForeignKey}
use Rattle.lq_model.specs.declared.constraint.Key.{Key}
use Rattle.lq_model.specs.declared.constraint.Unique.{Unique}
use Rattle.lq_model.specs.declared.statement.Statement.TheVariants.{AddForeignKey, AddPrimaryKey, AddUnique, DropConstraint}
use Rattle.lq_model.proofs.AddKeeps.{no_number, no_option}
use Rattle.lq_model.proofs.Decide.{accepted, accepts, here}
use Rattle.lq_model.proofs.Kept.{the_table-with_table, with_table-itself, with_table-with_table}
use Rattle.lq_model.proofs.Lists.{and_left, and_no_right, and_right, any-append, any-map, any_same, append-nil, filter-append, filter_kept, named_itself, not_true, or_false, or_left, or_right}
use Rattle.lq_model.proofs.Maps.{lookup-set_value}

pub not_not : (b : Bool) → not (not b) ≡ b
not_not true = refl
not_not false = refl

-- those of another name stay
pub others_stay : {A : Type 0} (n : Name) (f : A → Name) (xs : List A) → is_in n (map f xs) ≡ false → filter (λ x. not (is_named n (f x))) xs ≡ xs
others_stay n f xs out = filter_kept _ xs (any_same _ (λ x. is_named n (f x)) xs (λ x. not_not _) ∙ sym (any-map (is_named n) f xs) ∙ out)

pub last_goes : {A : Type 0} (n : Name) (f : A → Name) (xs : List A) (x : A) → f x ≡ n → is_in n (map f xs) ≡ false → filter (λ y. not (is_named n (f y))) (xs ++ x ∷ []) ≡ xs
last_goes n f xs x named out =
    filter-append _ xs (x ∷ [])
    ∙ ap (λ b. filter (λ y. not (is_named n (f y))) xs ++ cond (not b) (x ∷ []) []) (ap (is_named n) named ∙ named_itself n)
    ∙ append-nil _
    ∙ others_stay n f xs out

pub in_last : {A : Type 0} (n : Name) (f : A → Name) (xs : List A) (x : A) → f x ≡ n → is_in n (map f (xs ++ x ∷ [])) ≡ true
in_last n f [] x named = ap (λ b. b || false) (ap (is_named n) named ∙ named_itself n)
in_last n f (y ∷ xs) x named = elim (is_named n (f y)) as (λ b. (b || is_in n (map f (xs ++ x ∷ []))) ≡ true) [ true ↦ refl | false ↦ in_last n f xs x named ]

key_stays : (n : Name) (key : Option Key) → is_in n (map (λ k. k.name) (key_list key)) ≡ false → without_key n key ≡ key
key_stays n None out = refl
key_stays n (Some k) out = ap (λ b. cond b None (Some k)) (or_left (is_named n k.name) _ out)

no_key : (n : Name) (key : Option Key) (b : Bool) → is_in n (map (λ k. k.name) (key_list key)) ≡ false → (list_any (λ k. is_named n k.name) (key_list key) && b) ≡ false
no_key n key b out = ap (λ x. x && b) (sym (any-map (is_named n) (λ k. k.name) (key_list key)) ∙ out)

-- a name that no constraint of the table has
record IsUnused (it : Table) (n : Name) : Type 0 where
  keys : is_in n (map (λ k. k.name) (key_list it.key)) ≡ false
  uniques : is_in n (map (λ u. u.name) it.uniques) ≡ false
  foreign : is_in n (map (λ f. f.name) it.foreign) ≡ false

no_constraint : (it : Table) (n : Name) → is_in n (constraint_names it) ≡ false → IsUnused it n
no_constraint it n out =
    let h = sym (any-append (is_named n) (map (λ k. k.name) (key_list it.key)) _) ∙ out in
    let i = sym (any-append (is_named n) (map (λ u. u.name) it.uniques) _) ∙ or_right _ _ h in
    record { keys = or_left _ _ h; uniques = or_left _ _ i; foreign = or_right _ _ i }

or_true_left : (a b : Bool) → a ≡ true → (a || b) ≡ true
or_true_left a b h = ap (λ x. x || b) h

or_true_right : (a b : Bool) → b ≡ true → (a || b) ≡ true
or_true_right true b h = refl
or_true_right false b h = h

-- what drops a constraint, where that gives the table back
drop_back : (by : By) (t n : Name) (it : Table) (c : Catalogue) → IsSound Postgresql c → is_none (table_of c t) ≡ false → is_reserved by (t ∷ n ∷ []) ≡ false → (list_any (λ k. is_named n k.name) (key_list it.key) && has_numbered it) ≡ false → is_in n (constraint_names it) ≡ true → without_constraint n it ≡ the_table c t → step by Postgresql (DropConstraint t n) (with_table c t it) ≡ Ok (c, 0)
drop_back by t n it c sound has named free in_it back =
    let there = here c t has in
    let now = the_table-with_table c t it there in
    accepts Postgresql (drop_constraint by Postgresql t n (with_table c t it)) c sound
    (ap (λ x. with_table (with_table c t it) t (without_constraint n x)) now ∙ with_table-with_table c t it (without_constraint n it) ∙ ap (with_table c t) back ∙ with_table-itself c t there)
    (record {
      reserved = named;
      missing = or_false _ _ (ap is_none (lookup-set_value (is_named t) c.tables (the_table c t) it there)) (ap (λ x. not (is_in n (constraint_names x))) now ∙ not_true _ in_it);
      exists = refl;
      depends = ap (λ x. list_any (λ k. is_named n k.name) (key_list x.key) && has_numbered x) now ∙ free;
      wrong = refl;
      wide = refl;
    })

pub drop_after_unique : (t : Name) (u : Unique) (by : By) (c e : Catalogue) (k : ℕ) → IsSound Postgresql c → step by Postgresql (AddUnique t u) c ≡ Ok (e, k) → step by Postgresql (DropConstraint t u.name) e ≡ Ok (c, 0)
drop_after_unique t u by c e k sound made =
    let it = the_table c t in
    let ok = accepted (add_unique by Postgresql t u c) e k made in
    let new = record it { uniques = it.uniques ++ u ∷ [] } in
    let out = no_constraint it u.name (or_right (is_in (beside t u.name) (shared_names c)) _ (or_left _ _ ok.exists)) in
    ap (step by Postgresql (DropConstraint t u.name)) (sym ok.result)
    ∙ drop_back by t u.name new c sound (or_left _ _ ok.missing) ok.reserved (no_key u.name it.key _ out.keys)
    (any-append (is_named u.name) (map (λ k. k.name) (key_list it.key)) _ ∙ or_true_right _ _ (any-append (is_named u.name) (map (λ u. u.name) new.uniques) _ ∙ or_true_left _ _ (in_last u.name (λ u. u.name) it.uniques u refl)))
    (ap (λ x. record it { key = x; uniques = filter (λ y. not (is_named u.name y.name)) new.uniques; foreign = filter (λ f. not (is_named u.name f.name)) it.foreign }) (key_stays u.name it.key out.keys)
    ∙ ap (λ x. record it { uniques = x; foreign = filter (λ f. not (is_named u.name f.name)) it.foreign }) (last_goes u.name (λ u. u.name) it.uniques u refl out.uniques)
    ∙ ap (λ x. record it { foreign = x }) (others_stay u.name (λ f. f.name) it.foreign out.foreign))

pub reserved_less : (by : By) (a b c : Name) → is_reserved by (a ∷ b ∷ c ∷ []) ≡ false → is_reserved by (a ∷ b ∷ []) ≡ false
reserved_less User a b c h = or_false _ _ (or_left (is_tracking a) _ h) (or_false _ _ (or_left (is_tracking b) _ (or_right (is_tracking a) _ h)) refl)
reserved_less Program a b c h = refl

pub drop_after_foreign_key : (t : Name) (f : ForeignKey) (by : By) (c e : Catalogue) (k : ℕ) → IsSound Postgresql c → step by Postgresql (AddForeignKey t f) c ≡ Ok (e, k) → step by Postgresql (DropConstraint t f.name) e ≡ Ok (c, 0)
drop_after_foreign_key t f by c e k sound made =
    let it = the_table c t in
    let ok = accepted (add_foreign_key by Postgresql t f c) e k made in
    let new = record it { foreign = it.foreign ++ f ∷ [] } in
    let out = no_constraint it f.name (or_left _ _ ok.exists) in
    ap (step by Postgresql (DropConstraint t f.name)) (sym ok.result)
    ∙ drop_back by t f.name new c sound (or_left _ _ ok.missing) (reserved_less by t f.name f.table ok.reserved) (no_key f.name it.key _ out.keys)
    (any-append (is_named f.name) (map (λ k. k.name) (key_list it.key)) _ ∙ or_true_right _ _ (any-append (is_named f.name) (map (λ u. u.name) it.uniques) _ ∙ or_true_right _ _ (in_last f.name (λ u. u.name) it.foreign f refl)))
    (ap (λ x. record it { key = x; uniques = filter (λ y. not (is_named f.name y.name)) it.uniques; foreign = filter (λ y. not (is_named f.name y.name)) new.foreign }) (key_stays f.name it.key out.keys)
    ∙ ap (λ x. record it { uniques = x; foreign = filter (λ y. not (is_named f.name y.name)) new.foreign }) (others_stay f.name (λ u. u.name) it.uniques out.uniques)
    ∙ ap (λ x. record it { foreign = x }) (last_goes f.name (λ y. y.name) it.foreign f refl out.foreign))

-- keys

abbrev without_uniques : Name → Table → Table
without_uniques n it = record it { uniques = filter (λ u. not (is_named n u.name)) it.uniques; foreign = filter (λ f. not (is_named n f.name)) it.foreign }

pub keyed_same : (k : Key) (cs : List Column) → list_all (λ c. not (is_in c.name k.columns) || not c.nullable) cs ≡ true → map (key_column (Some k)) cs ≡ cs
keyed_same k [] h = refl
keyed_same k (c ∷ cs) h =
    ap (λ x. x ∷ map (key_column (Some k)) cs) (elim (is_in c.name k.columns) as (λ b. (not b || not c.nullable) ≡ true → cond (b || false) (record c { nullable = false }) c ≡ c) [
      | true ↦ λ p. ap (λ b. record c { nullable = b }) (sym (sym (not_not c.nullable) ∙ ap not p))
      | false ↦ λ p. refl
    ] (and_left (not (is_in c.name k.columns) || not c.nullable) _ h))
    ∙ ap (λ xs. c ∷ xs) (keyed_same k cs (and_right (not (is_in c.name k.columns) || not c.nullable) _ h))

pub drop_after_key : (t : Name) (k : Key) (by : By) (c e : Catalogue) (n : ℕ) → IsSound Postgresql c → is_firm t k.columns c ≡ true → step by Postgresql (AddPrimaryKey t k) c ≡ Ok (e, n) → step by Postgresql (DropConstraint t k.name) e ≡ Ok (c, 0)
drop_after_key t k by c e n sound fresh made =
    let it = the_table c t in
    let ok = accepted (add_primary_key by Postgresql t k c) e n made in
    let new = with_key k it in
    let none = no_option it.key (or_left _ _ ok.exists) in
    let out = no_constraint it k.name (or_right (is_in (beside t k.name) (shared_names c)) _ (or_left _ _ (or_right _ _ ok.exists))) in
    let fine = sound.tables t it (here c t (or_left _ _ ok.missing)) in
    let same = keyed_same k it.columns fresh in
    ap (step by Postgresql (DropConstraint t k.name)) (sym ok.result)
    ∙ drop_back by t k.name new c sound (or_left _ _ ok.missing) ok.reserved
    (and_no_right _ _ (ap (λ cs. list_any (λ e. e.numbered) cs) same ∙ no_number Postgresql it fine none))
    (ap (λ b. b || is_in k.name (map (λ u. u.name) it.uniques ++ map (λ f. f.name) it.foreign)) (named_itself k.name))
    (ap (λ b. without_uniques k.name (record new { key = cond b None (Some k) })) (named_itself k.name)
    ∙ ap (λ o. without_uniques k.name (record new { key = o })) (sym none)
    ∙ ap (λ cs. without_uniques k.name (record it { columns = cs })) same
    ∙ ap (λ x. record it { uniques = x; foreign = filter (λ f. not (is_named k.name f.name)) it.foreign }) (others_stay k.name (λ u. u.name) it.uniques out.uniques)
    ∙ ap (λ x. record it { foreign = x }) (others_stay k.name (λ f. f.name) it.foreign out.foreign))
