-- A change of a column that another change takes back.
use Rattle.std.proofs.Common.{ap, sym, ◌∙◌}
use Rattle.std.specs.List.{list_all}
use Rattle.std.specs.Prelude.{Bool, List, None, Ok, Option, Some, [], cond, false, is_none, map, not, refl, true, ℕ, ◌||◌, ◌∷◌, ◌≡◌}
use Rattle.lq_base.specs.Name.{is_named}
use Rattle.lq_base.specs.Value.{into_kind}
use Rattle.lq_base.specs.declared.dialect.Dialect.{Dialect}
use Rattle.lq_base.specs.declared.literal.Literal.{Literal}
use Rattle.lq_base.specs.declared.name.Name.{Name}
use Rattle.lq_base.specs.declared.value.Value.{Value}
use Rattle.lq_model.specs.Catalogue.{Catalogue, Table, table_of, the_table, with_table, is_in, has_column, key_list}
use Rattle.lq_model.specs.Tables.{changed_at, drop_default, drop_not_null, made_nullable, set_default, set_not_null, with_changed, with_default, is_in_key}
use Rattle.lq_model.specs.Kinds.{kind_in, value_in}
use Rattle.lq_model.specs.Sound.{IsSound, IsSoundTable, is_not_null}
use Rattle.lq_model.specs.Step.{step}
use Rattle.lq_model.specs.TakesBack.{is_each}
use Rattle.lq_model.specs.declared.caller.By.{By}
use Rattle.lq_model.specs.declared.column.Column.{Column}
use Rattle.lq_model.specs.declared.statement.Statement.TheVariants.{DropDefault, DropNotNull, SetDefault, SetNotNull}
use Rattle.lq_model.proofs.ChangeKeeps.{names_stay}
use Rattle.lq_model.proofs.Decide.{accepted, accepts, here}
use Rattle.lq_model.proofs.Kept.{not_so_true, the_table-with_table, with_table-itself, with_table-with_table}
use Rattle.lq_model.proofs.Lists.{and_left, and_right, any_none, not_false, not_true, or_false, or_left, or_right, same_name, true_false, whether}
use Rattle.lq_model.proofs.Maps.{lookup-set_value}

changed_back : (n : Name) (f g : Column → Column) (same : (x : Column) → (f x).name ≡ x.name) (q : Column → Bool) (cs : List Column) → ((x : Column) → q x ≡ true → g (f x) ≡ x) → list_all (λ x. not (is_named n x.name) || q x) cs ≡ true → map (changed_at n g) (map (changed_at n f) cs) ≡ cs
changed_back n f g same q [] back h = refl
changed_back n f g same q (c ∷ cs) back h =
    ap (λ x. x ∷ map (changed_at n g) (map (changed_at n f) cs)) (elim (is_named n c.name) as (λ b. is_named n c.name ≡ b → (not b || q c) ≡ true → changed_at n g (cond b (f c) c) ≡ c) [
      | true ↦ λ p r. ap (λ m. cond (is_named n m) (g (f c)) (f c)) (same c) ∙ ap (λ b. cond b (g (f c)) (f c)) p ∙ back c r
      | false ↦ λ p r. ap (λ b. cond b (g c) c) p
    ] refl (and_left (not (is_named n c.name) || q c) _ h))
    ∙ ap (λ xs. c ∷ xs) (changed_back n f g same q cs back (and_right (not (is_named n c.name) || q c) _ h))

-- what changes the column back is accepted, where nothing else is against it
module _ (d : Dialect) (c : Catalogue) (t n : Name) (f g : Column → Column) (same : (x : Column) → (f x).name ≡ x.name) (q : Column → Bool) (sound : IsSound d c) (there : table_of c t ≡ Some (the_table c t)) (has : has_column (the_table c t) n ≡ true) (fresh : list_all (λ x. not (is_named n x.name) || q x) (the_table c t).columns ≡ true) (back : (x : Column) → q x ≡ true → g (f x) ≡ x) where
  abbrev pub it : Table
  it = the_table c t

  abbrev pub changed_once : Catalogue
  changed_once = with_table c t (with_changed n f it)

  pub now : the_table changed_once t ≡ with_changed n f it
  now = the_table-with_table c t (with_changed n f it) there

  pub back_again : with_table changed_once t (with_changed n g (the_table changed_once t)) ≡ c
  back_again =
      ap (λ x. with_table changed_once t (with_changed n g x)) now
      ∙ with_table-with_table c t (with_changed n f it) (with_changed n g (with_changed n f it))
      ∙ ap (λ cs. with_table c t (record it { columns = cs })) (changed_back n f g same q it.columns back fresh)
      ∙ with_table-itself c t there

  pub still_there : (is_none (table_of changed_once t) || not (has_column (the_table changed_once t) n)) ≡ false
  still_there = or_false _ _ (ap is_none (lookup-set_value (is_named t) c.tables it (with_changed n f it) there))
      (ap (λ x. not (has_column x n)) now ∙ not_true _ (ap (is_in n) (names_stay n f same it.columns) ∙ has))

-- the column is in no key where it is nullable
no_key : (n : Name) (cs : List Column) → list_all (λ c. not (is_named n c.name) || not c.nullable) cs ≡ true → list_all (λ c. not (is_named n c.name) || c.nullable) cs ≡ true → is_in n (map (λ c. c.name) cs) ≡ false
no_key n [] a b = refl
no_key n (c ∷ cs) a b = or_false _ _
    (elim (is_named n c.name) as (λ x. (not x || not c.nullable) ≡ true → (not x || c.nullable) ≡ true → x ≡ false) [
      | true ↦ λ p q. true_false p (not_true c.nullable q)
      | false ↦ λ p q. refl
    ] (and_left (not (is_named n c.name) || not c.nullable) _ a) (and_left (not (is_named n c.name) || c.nullable) _ b))
    (no_key n cs (and_right (not (is_named n c.name) || not c.nullable) _ a) (and_right (not (is_named n c.name) || c.nullable) _ b))

in_all : (q : Name → Bool) (n : Name) (ns : List Name) → list_all q ns ≡ true → is_in n ns ≡ true → q n ≡ true
in_all q n [] h is = true_false refl (sym is)
in_all q n (m ∷ ns) h is = elim (is_named n m) as (λ b. is_named n m ≡ b → (b || is_in n ns) ≡ true → q n ≡ true) [
  | true ↦ λ p r. ap q (same_name n m p) ∙ and_left (q m) _ h
  | false ↦ λ p r. in_all q n ns (and_right (q m) _ h) r
] refl is

pub not_in_key : (d : Dialect) (n : Name) (it : Table) → IsSoundTable d it → list_all (λ x. not (is_named n x.name) || x.nullable) it.columns ≡ true → has_column it n ≡ true → is_in_key it n ≡ false
not_in_key d n it fine fresh there = any_none _ (λ k. list_all (is_not_null it) k.columns) (key_list it.key) (λ k h. whether (is_in n k.columns)
    (λ p. true_false there (no_key n it.columns (in_all (is_not_null it) n k.columns h p) fresh)) (λ p. p)) fine.key

pub drop_not_null_after : (d : Dialect) (t n : Name) (by : By) (c e : Catalogue) (k : ℕ) → IsSound d c → is_each t n (λ x. x.nullable) c ≡ true → step by d (SetNotNull t n) c ≡ Ok (e, k) → step by d (DropNotNull t n) e ≡ Ok (c, 0)
drop_not_null_after d t n by c e k sound fresh made =
    let ok = accepted (set_not_null by d t n c) e k made in
    let there = here c t (or_left _ _ ok.missing) in
    let has = not_false _ (or_right _ _ ok.missing) in
    let f = made_nullable false in
    let g = made_nullable true in
    let nullable : Column → Bool = λ x. x.nullable in
    let turn : (x : Column) → x.nullable ≡ true → g (f x) ≡ x = λ x h. ap (λ b. record x { nullable = b }) (sym h) in
    ap (step by d (DropNotNull t n)) (sym ok.result)
    ∙ accepts d (drop_not_null by d t n (changed_once d c t n f g (λ x. refl) nullable sound there has fresh turn)) c sound (back_again d c t n f g (λ x. refl) nullable sound there has fresh turn)
    (record {
      reserved = ok.reserved;
      missing = still_there d c t n f g (λ x. refl) nullable sound there has fresh turn;
      exists = refl;
      depends = ap (λ x. is_in_key x n) (now d c t n f g (λ x. refl) nullable sound there has fresh turn) ∙ not_in_key d n (the_table c t) (sound.tables t (the_table c t) there) fresh has;
      wrong = refl;
      wide = refl;
    })

pub set_not_null_after : (d : Dialect) (t n : Name) (by : By) (c e : Catalogue) (k : ℕ) → IsSound d c → is_each t n (λ x. not x.nullable) c ≡ true → step by d (DropNotNull t n) c ≡ Ok (e, k) → step by d (SetNotNull t n) e ≡ Ok (c, 0)
set_not_null_after d t n by c e k sound fresh made =
    let ok = accepted (drop_not_null by d t n c) e k made in
    let there = here c t (or_left _ _ ok.missing) in
    let has = not_false _ (or_right _ _ ok.missing) in
    let f = made_nullable true in
    let g = made_nullable false in
    let firm : Column → Bool = λ x. not x.nullable in
    let turn : (x : Column) → not x.nullable ≡ true → g (f x) ≡ x = λ x h. ap (λ b. record x { nullable = b }) (sym (not_so_true _ h)) in
    ap (step by d (SetNotNull t n)) (sym ok.result)
    ∙ accepts d (set_not_null by d t n (changed_once d c t n f g (λ x. refl) firm sound there has fresh turn)) c sound (back_again d c t n f g (λ x. refl) firm sound there has fresh turn)
    (record {
      reserved = ok.reserved;
      missing = still_there d c t n f g (λ x. refl) firm sound there has fresh turn;
      exists = refl;
      depends = refl;
      wrong = refl;
      wide = refl;
    })

pub drop_default_after : (d : Dialect) (t n : Name) (l : Literal) (by : By) (c e : Catalogue) (k : ℕ) → IsSound d c → is_each t n (λ x. is_none x.default) c ≡ true → step by d (SetDefault t n l) c ≡ Ok (e, k) → step by d (DropDefault t n) e ≡ Ok (c, 0)
drop_default_after d t n l by c e k sound fresh made =
    let ok = accepted (set_default by d t n l c) e k made in
    let there = here c t (or_left _ _ ok.missing) in
    let has = not_false _ (or_right _ _ ok.missing) in
    let f = with_default (Some (value_in (into_kind l (kind_in n (the_table c t).columns)))) in
    let g = with_default None in
    let free : Column → Bool = λ x. is_none x.default in
    let turn : (x : Column) → is_none x.default ≡ true → g (f x) ≡ x = λ x h. ap (λ o. record x { default = o }) (sym (none_of x.default h)) in
    ap (step by d (DropDefault t n)) (sym ok.result)
    ∙ accepts d (drop_default by d t n (changed_once d c t n f g (λ x. refl) free sound there has fresh turn)) c sound (back_again d c t n f g (λ x. refl) free sound there has fresh turn)
    (record {
      reserved = ok.reserved;
      missing = still_there d c t n f g (λ x. refl) free sound there has fresh turn;
      exists = refl;
      depends = refl;
      wrong = refl;
      wide = refl;
    })
  where
    none_of : (o : Option Value) → is_none o ≡ true → o ≡ None
    none_of None h = refl
    none_of (Some v) h = true_false h refl
