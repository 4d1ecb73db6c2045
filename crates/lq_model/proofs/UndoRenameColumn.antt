-- A column that is renamed can be renamed back.
use Rattle.std.proofs.Common.{ap, sym, ◌∙◌}
use Rattle.std.proofs.Math.Path.{subst}
use Rattle.std.specs.FinMap.Entries.{below_all, is_sorted}
use Rattle.std.specs.List.{list_any}
use Rattle.std.specs.Option.{option_map, unwrap_or}
use Rattle.std.specs.Ordering.{is_lt}
use Rattle.std.specs.Prelude.{Bool, List, None, Ok, Option, Some, T, [], cond, false, is_none, map, refl, true, ℕ, ◌&&◌, ◌||◌, ◌∷◌, ◌≡◌}
use Rattle.lq_base.specs.Name.{is_named, name_cmp}
use Rattle.lq_base.specs.declared.dialect.Dialect.{Dialect}
use Rattle.lq_base.specs.declared.name.Name.{Name}
use Rattle.lq_model.specs.Catalogue.{Catalogue, Table, no_table, table_of, the_table, is_in, renamed, column_names, has_column, key_list, target_lists}
use Rattle.lq_model.specs.Tables.{aims_at, is_bound, name_at, names_at, rename_column, with_column_renamed}
use Rattle.lq_model.specs.Sound.{IsSound}
use Rattle.lq_model.specs.Step.{step}
use Rattle.lq_model.specs.declared.caller.By.{By}
use Rattle.lq_model.specs.declared.column.Column.{Column}
use Rattle.lq_model.specs.declared.constraint.ForeignKey.{ForeignKey}
use Rattle.lq_model.specs.declared.constraint.Key.{Key}
use Rattle.lq_model.specs.declared.constraint.Unique.{Unique}
use Rattle.lq_model.specs.declared.index.Index.{Index}
use Rattle.lq_model.specs.declared.statement.Statement.TheVariants.{RenameColumn}
use Rattle.lq_model.proofs.AddDropColumn.{nowhere, nowhere_bound}
use Rattle.lq_model.proofs.Decide.{accepted, accepts, here}
use Rattle.lq_model.proofs.Entries.{lookup-entries}
use Rattle.lq_model.proofs.Lists.{any-append, map-map, named_itself, not_false, not_true, or_false, or_left, or_right, same_name, true_false}
use Rattle.lq_model.proofs.Maps.{at_lookup, same_maps, some_same, sorted_entries}

pub renamed_back : (a b x : Name) → is_named b x ≡ false → renamed b a (renamed a b x) ≡ x
renamed_back a b x apart =
    elim (is_named a x) as (λ r. is_named a x ≡ r → renamed b a (cond r b x) ≡ x) [
      | true ↦ λ p. ap (λ r. cond r a b) (named_itself b) ∙ same_name a x p
      | false ↦ λ p. ap (λ r. cond r a x) apart
    ] refl

pub turn : {X Y : Type 0} (f : X → Y) (g : Y → X) (o : Option X) → ((x : X) → o ≡ Some x → g (f x) ≡ x) → option_map g (option_map f o) ≡ o
turn f g None h = refl
turn f g (Some x) h = ap Some (h x refl)

-- a map whose values go by their names
below-entries : {X : Type 0} (g : Name → X → X) (k : Name) (es : List (Name × X)) → below_all name_cmp k (map (λ e. (e.0, g e.0 e.1)) es) ≡ below_all name_cmp k es
below-entries g k [] = refl
below-entries g k (e ∷ es) = ap (λ b. is_lt (name_cmp k e.0) && b) (below-entries g k es)

pub sorted-entries : {X : Type 0} (g : Name → X → X) (es : List (Name × X)) → is_sorted name_cmp (map (λ e. (e.0, g e.0 e.1)) es) ≡ is_sorted name_cmp es
sorted-entries g [] = refl
sorted-entries g (e ∷ es) = ap (λ b. b && is_sorted name_cmp (map (λ x. (x.0, g x.0 x.1)) es)) (below-entries g e.0 es) ∙ ap (λ b. below_all name_cmp e.0 es && b) (sorted-entries g es)

-- names and their lists

module _ (a b : Name) where
  names_back : (own : Bool) (ns : List Name) → (own ≡ true → is_in b ns ≡ false) → names_at own b a (names_at own a b ns) ≡ ns
  names_back own [] out = refl
  names_back own (n ∷ ns) out =
      ap (λ m. m ∷ names_at own b a (names_at own a b ns)) (elim own as (λ o. (o ≡ true → is_in b (n ∷ ns) ≡ false) → name_at o b a (name_at o a b n) ≡ n) [
        | true ↦ λ h. renamed_back a b n (or_left (is_named b n) _ (h refl))
        | false ↦ λ h. refl
      ] out)
      ∙ ap (λ ms. n ∷ ms) (names_back own ns (λ o. or_right (is_named b n) _ (out o)))

  columns_back : (own : Bool) (cs : List Column) → (own ≡ true → is_in b (map (λ c. c.name) cs) ≡ false) → map (λ (c : Column). record c { name = name_at own b a c.name }) (map (λ (c : Column). record c { name = name_at own a b c.name }) cs) ≡ cs
  columns_back own [] out = refl
  columns_back own (c ∷ cs) out =
      ap (λ n. record c { name = n } ∷ map (λ (x : Column). record x { name = name_at own b a x.name }) (map (λ (x : Column). record x { name = name_at own a b x.name }) cs)) (elim own as (λ o. (o ≡ true → is_in b (map (λ x. x.name) (c ∷ cs)) ≡ false) → name_at o b a (name_at o a b c.name) ≡ c.name) [
        | true ↦ λ h. renamed_back a b c.name (or_left (is_named b c.name) _ (h refl))
        | false ↦ λ h. refl
      ] out)
      ∙ ap (λ xs. c ∷ xs) (columns_back own cs (λ o. or_right (is_named b c.name) _ (out o)))

  key_back : (own : Bool) (k : Option Key) → (own ≡ true → list_any (is_in b) (map (λ x. x.columns) (key_list k)) ≡ false) → option_map (λ (x : Key). record x { columns = names_at own b a x.columns }) (option_map (λ (x : Key). record x { columns = names_at own a b x.columns }) k) ≡ k
  key_back own None out = refl
  key_back own (Some k) out = ap (λ ns. Some (record k { columns = ns })) (names_back own k.columns (λ o. or_left (is_in b k.columns) _ (out o)))

  uniques_back : (own : Bool) (us : List Unique) → (own ≡ true → list_any (is_in b) (map (λ u. u.columns) us) ≡ false) → map (λ (u : Unique). record u { columns = names_at own b a u.columns }) (map (λ (u : Unique). record u { columns = names_at own a b u.columns }) us) ≡ us
  uniques_back own [] out = refl
  uniques_back own (u ∷ us) out =
      ap (λ ns. record u { columns = ns } ∷ map (λ (x : Unique). record x { columns = names_at own b a x.columns }) (map (λ (x : Unique). record x { columns = names_at own a b x.columns }) us)) (names_back own u.columns (λ o. or_left (is_in b u.columns) _ (out o)))
      ∙ ap (λ xs. u ∷ xs) (uniques_back own us (λ o. or_right (is_in b u.columns) _ (out o)))

  indexes_back : (own : Bool) (us : List Index) → (own ≡ true → list_any (is_in b) (map (λ u. u.columns) us) ≡ false) → map (λ (u : Index). record u { columns = names_at own b a u.columns }) (map (λ (u : Index). record u { columns = names_at own a b u.columns }) us) ≡ us
  indexes_back own [] out = refl
  indexes_back own (u ∷ us) out =
      ap (λ ns. record u { columns = ns } ∷ map (λ (x : Index). record x { columns = names_at own b a x.columns }) (map (λ (x : Index). record x { columns = names_at own a b x.columns }) us)) (names_back own u.columns (λ o. or_left (is_in b u.columns) _ (out o)))
      ∙ ap (λ xs. u ∷ xs) (indexes_back own us (λ o. or_right (is_in b u.columns) _ (out o)))

  foreign_back : (t : Name) (own : Bool) (fs : List ForeignKey) → (own ≡ true → list_any (λ f. is_in b f.columns) fs ≡ false) → list_any (aims_at t b) fs ≡ false
      → map (λ (f : ForeignKey). record f { columns = names_at own b a f.columns; targets = names_at (is_named t f.table) b a f.targets }) (map (λ (f : ForeignKey). record f { columns = names_at own a b f.columns; targets = names_at (is_named t f.table) a b f.targets }) fs) ≡ fs
  foreign_back t own [] out none = refl
  foreign_back t own (f ∷ fs) out none =
      let rest = map (λ (x : ForeignKey). record x { columns = names_at own b a x.columns; targets = names_at (is_named t x.table) b a x.targets }) (map (λ (x : ForeignKey). record x { columns = names_at own a b x.columns; targets = names_at (is_named t x.table) a b x.targets }) fs) in
      ap (λ ns. record f { columns = ns; targets = names_at (is_named t f.table) b a (names_at (is_named t f.table) a b f.targets) } ∷ rest) (names_back own f.columns (λ o. or_left (is_in b f.columns) _ (out o)))
      ∙ ap (λ ns. record f { targets = ns } ∷ rest) (names_back (is_named t f.table) f.targets (λ o. ap (λ r. r && is_in b f.targets) (sym o) ∙ or_left (aims_at t b f) _ none))
      ∙ ap (λ xs. f ∷ xs) (foreign_back t own fs (λ o. or_right (is_in b f.columns) _ (out o)) (or_right (aims_at t b f) _ none))

  table_back : (t : Name) (own : Bool) (it : Table) → (own ≡ true → has_column it b ≡ false) → (own ≡ true → is_bound it b ≡ false) → list_any (aims_at t b) it.foreign ≡ false → with_column_renamed t own b a (with_column_renamed t own a b it) ≡ it
  table_back t own it out bound none =
      let once = with_column_renamed t own a b it in
      let twice = with_column_renamed t own b a once in
      let lists : own ≡ true → list_any (is_in b) (target_lists it) ≡ false = λ o. or_left _ _ (sym (any-append (is_in b) (target_lists it) _) ∙ or_left _ _ (bound o)) in
      ap (λ x. record twice { columns = x }) (columns_back own it.columns out)
      ∙ ap (λ x. record twice { columns = it.columns; key = x }) (key_back own it.key (λ o. or_left _ _ (sym (any-append (is_in b) (map (λ k. k.columns) (key_list it.key)) _) ∙ lists o)))
      ∙ ap (λ x. record it { uniques = x; foreign = twice.foreign; indexes = twice.indexes }) (uniques_back own it.uniques (λ o. or_right _ _ (sym (any-append (is_in b) (map (λ k. k.columns) (key_list it.key)) _) ∙ lists o)))
      ∙ ap (λ x. record it { foreign = twice.foreign; indexes = x }) (indexes_back own it.indexes (λ o. or_right _ _ (sym (any-append (is_in b) (target_lists it) _) ∙ or_left _ _ (bound o))))
      ∙ ap (λ x. record it { foreign = x }) (foreign_back t own it.foreign (λ o. or_right _ _ (bound o)) none)

  was_there : (ns : List Name) → is_in a ns ≡ true → is_in b (names_at true a b ns) ≡ true
  was_there [] h = h
  was_there (n ∷ ns) h = elim (is_named a n) as (λ r. (r || is_in a ns) ≡ true → (is_named b (cond r b n) || is_in b (names_at true a b ns)) ≡ true) [
    | true ↦ λ p. ap (λ r. r || is_in b (names_at true a b ns)) (named_itself b)
    | false ↦ λ p. elim (is_named b n) as (λ r. (r || is_in b (names_at true a b ns)) ≡ true) [ true ↦ refl | false ↦ was_there ns p ]
  ] h

  is_gone : (ns : List Name) → is_named a b ≡ false → is_in a (names_at true a b ns) ≡ false
  is_gone [] apart = refl
  is_gone (n ∷ ns) apart = or_false _ _ (elim (is_named a n) as (λ r. is_named a n ≡ r → is_named a (cond r b n) ≡ false) [ true ↦ λ p. apart | false ↦ λ p. p ] refl) (is_gone ns apart)

pub column_renamed_back : (d : Dialect) (t a b : Name) (by : By) (c e : Catalogue) (k : ℕ) → IsSound d c → step by d (RenameColumn t a b) c ≡ Ok (e, k) → step by d (RenameColumn t b a) e ≡ Ok (c, 0)
column_renamed_back d t a b by c e k sound made =
    let ok = accepted (rename_column by d t a b c) e k made in
    let it = the_table c t in
    let there = here c t (or_left _ _ ok.missing) in
    let was = not_false _ (or_right _ _ ok.missing) in
    let fine = sound.tables t it there in
    let mid = (rename_column by d t a b c).result in
    let sorted = sorted_entries c.tables sound.ordered in
    let apart : is_named a b ≡ false = elim (is_named a b) as (λ r. is_named a b ≡ r → r ≡ false) [
      | true ↦ λ p. true_false (ap (has_column it) (sym (same_name a b p)) ∙ was) ok.exists
      | false ↦ λ p. refl
    ] refl in
    let looked : (q : Name) → table_of mid q ≡ option_map (with_column_renamed t (is_named t q) a b) (table_of c q) = λ q. lookup-entries q (λ n. with_column_renamed t (is_named t n) a b) c.tables in
    let now : table_of mid t ≡ Some (with_column_renamed t true a b it) = looked t ∙ ap (option_map (with_column_renamed t (is_named t t) a b)) there ∙ ap (λ r. Some (with_column_renamed t r a b it)) (named_itself t) in
    let now_names : (n : Name) → has_column (the_table mid t) n ≡ is_in n (names_at true a b (column_names it)) = λ n. ap (λ o. has_column (unwrap_or o no_table) n) now ∙ ap (is_in n) (map-map (λ x. x.name) (λ (x : Column). record x { name = name_at true a b x.name }) it.columns ∙ sym (map-map (name_at true a b) (λ x. x.name) it.columns)) in
    let back : (q : Name) (x : Table) → table_of c q ≡ Some x → with_column_renamed t (is_named t q) b a (with_column_renamed t (is_named t q) a b x) ≡ x = λ q x is.
    let same : is_named t q ≡ true → x ≡ it = λ o. some_same (sym is ∙ ap (table_of c) (sym (same_name t q o)) ∙ there) in
    table_back a b t (is_named t q) x (λ o. ap (λ y. has_column y b) (same o) ∙ ok.exists) (λ o. ap (λ y. is_bound y b) (same o) ∙ nowhere_bound d c t b sound there ok.exists)
    (at_lookup (is_named q) (λ y. list_any (aims_at t b) y.foreign) c.tables x ((nowhere d c t b sound there ok.exists).aimed) is) in
    ap (step by d (RenameColumn t b a)) (sym ok.result)
    ∙ accepts d (rename_column by d t b a mid) c sound
    (ap (λ ts. record c { tables = ts }) (same_maps (rename_column by d t b a mid).result.tables c.tables
    (subst T (sym (sorted-entries (λ n. with_column_renamed t (is_named t n) b a) mid.tables ∙ sorted-entries (λ n. with_column_renamed t (is_named t n) a b) c.tables)) sorted)
    sorted
    (λ q. lookup-entries q (λ n. with_column_renamed t (is_named t n) b a) mid.tables ∙ ap (option_map (with_column_renamed t (is_named t q) b a)) (looked q) ∙ turn (with_column_renamed t (is_named t q) a b) (with_column_renamed t (is_named t q) b a) (table_of c q) (back q))))
    (record {
      reserved = ok.reserved;
      missing = or_false _ _ (ap is_none now) (not_true _ (now_names b ∙ was_there a b (column_names it) was));
      exists = now_names a ∙ is_gone a b (column_names it) apart;
      depends = (nowhere d c t b sound there ok.exists).shown;
      wrong = refl;
      wide = refl;
    })
