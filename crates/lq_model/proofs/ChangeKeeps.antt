-- Statements that change a column in its place keep a catalogue sound.
use Rattle.std.proofs.Common.{ap, sym, ◌∙◌}
use Rattle.std.specs.List.{list_all, list_any}
use Rattle.std.specs.Prelude.{Bool, List, None, Ok, Option, Some, [], cond, false, is_none, map, not, refl, true, ℕ, ◌&&◌, ◌++◌, ◌||◌, ◌∷◌, ◌≡◌}
use Rattle.lq_base.specs.Kind.{is_kind}
use Rattle.lq_base.specs.Name.{is_elsewhere, is_named}
use Rattle.lq_base.specs.Value.{into_kind, is_value_of}
use Rattle.lq_base.specs.declared.dialect.Dialect.{Dialect}
use Rattle.lq_base.specs.declared.dialect.Dialect.TheVariants.{Mysql, Postgresql}
use Rattle.lq_base.specs.declared.literal.Literal.{Literal}
use Rattle.lq_base.specs.declared.name.Name.{Name}
use Rattle.lq_base.specs.declared.value.Value.{Value}
use Rattle.lq_model.specs.Catalogue.{Catalogue, Table, table_of, the_table, with_table, is_empty, is_in, repeats, row_fits, column_lists, constraint_names, key_list}
use Rattle.lq_model.specs.Tables.{changed_at, drop_default, drop_not_null, made_nullable, set_default, set_not_null, with_changed, with_default, is_in_key}
use Rattle.lq_model.specs.Kinds.{is_number, kind_in, kind_of, value_in}
use Rattle.lq_model.specs.NameSpaces.{AreApartWithin}
use Rattle.lq_model.specs.Sound.{IsSound, IsSoundTable, are_columns, default_fits, is_key_of, is_not_null, is_numbered_well}
use Rattle.lq_model.specs.Step.{step}
use Rattle.lq_model.specs.declared.caller.By.{By}
use Rattle.lq_model.specs.declared.column.Column.{Column}
use Rattle.lq_model.specs.declared.constraint.Key.{Key}
use Rattle.lq_model.specs.declared.index.Index.{Index}
use Rattle.lq_model.specs.declared.statement.Statement.TheVariants.{DropDefault, DropNotNull, SetDefault, SetNotNull}
use Rattle.lq_model.proofs.Between.{name_kept}
use Rattle.lq_model.proofs.Decide.{accepted, here}
use Rattle.lq_model.proofs.IntoKind.{into_fits, null_fits}
use Rattle.lq_model.proofs.Kept.{kept_more, same_apart}
use Rattle.lq_model.proofs.Lists.{all_both, all_more, and_left, and_right, and_true, map-map, map_same, named_itself, none_all, or_left, or_right, same_name, true_false}
use Rattle.lq_model.proofs.Shaped.{IsShaped, keeps}

pub all_changed : (n : Name) (f : Column → Column) (p : Column → Bool) (cs : List Column) → ((c : Column) → is_named n c.name ≡ true → p c ≡ true → p (f c) ≡ true) → list_all p cs ≡ true → list_all p (map (changed_at n f) cs) ≡ true
all_changed n f p [] h all = refl
all_changed n f p (c ∷ cs) h all = and_true _ _
    (elim (is_named n c.name) as (λ b. is_named n c.name ≡ b → p (cond b (f c) c) ≡ true) [ true ↦ λ q. h c q (and_left (p c) _ all) | false ↦ λ q. and_left (p c) _ all ] refl)
    (all_changed n f p cs h (and_right (p c) _ all))

pub unchanged : (n : Name) (f : Column → Column) (cs : List Column) → is_in n (map (λ c. c.name) cs) ≡ false → map (changed_at n f) cs ≡ cs
unchanged n f [] out = refl
unchanged n f (c ∷ cs) out = ap (λ b. cond b (f c) c ∷ map (changed_at n f) cs) (or_left (is_named n c.name) _ out) ∙ ap (λ xs. c ∷ xs) (unchanged n f cs (or_right (is_named n c.name) _ out))

-- a change that keeps the name
module _ (n : Name) (f : Column → Column) (same : (c : Column) → (f c).name ≡ c.name) where
  pub names_stay : (cs : List Column) → map (λ c. c.name) (map (changed_at n f) cs) ≡ map (λ c. c.name) cs
  names_stay cs = map-map (λ (c : Column). c.name) (changed_at n f) cs ∙ map_same _ _ cs (name_kept n f same)

  pub kinds_stay : ((c : Column) → (f c).kind ≡ c.kind) → (m : Name) (cs : List Column) → kind_of m (map (changed_at n f) cs) ≡ kind_of m cs
  kinds_stay kind m [] = refl
  kinds_stay kind m (c ∷ cs) =
      ap (λ x. cond (is_named m x) (Some (changed_at n f c).kind) (kind_of m (map (changed_at n f) cs))) (name_kept n f same c)
      ∙ ap (λ k. cond (is_named m c.name) (Some k) (kind_of m (map (changed_at n f) cs))) (elim (is_named n c.name) as (λ x. (cond x (f c) c).kind ≡ c.kind) [ true ↦ kind c | false ↦ refl ])
      ∙ ap (cond (is_named m c.name) (Some c.kind)) (kinds_stay kind m cs)

  pub rows_stay : ((c : Column) → (f c).kind ≡ c.kind) → (cs : List Column) (row : List Value) → row_fits (map (changed_at n f) cs) row ≡ row_fits cs row
  rows_stay kind [] [] = refl
  rows_stay kind [] (v ∷ vs) = refl
  rows_stay kind (c ∷ cs) [] = refl
  rows_stay kind (c ∷ cs) (v ∷ vs) = ap (λ k. is_value_of k v && row_fits (map (changed_at n f) cs) vs) (elim (is_named n c.name) as (λ x. (cond x (f c) c).kind ≡ c.kind) [ true ↦ kind c | false ↦ refl ]) ∙ ap (λ b. is_value_of c.kind v && b) (rows_stay kind cs vs)

  -- a column that is NOT NULL stays so, where the change keeps that
  pub firm_stays : (m : Name) → (is_named n m ≡ true → (c : Column) → not c.nullable ≡ true → not (f c).nullable ≡ true) → (cs : List Column) → list_all (λ c. not (is_named m c.name) || not c.nullable) cs ≡ true → list_all (λ c. not (is_named m c.name) || not c.nullable) (map (changed_at n f) cs) ≡ true
  firm_stays m h cs all = all_changed n f _ cs (λ c q p.
      ap (λ x. not (is_named m x) || not (f c).nullable) (same c)
      ∙ elim (is_named m c.name) as (λ b. is_named m c.name ≡ b → (not b || not c.nullable) ≡ true → (not b || not (f c).nullable) ≡ true) [
        | true ↦ λ r s. h (ap (is_named n) (same_name m c.name r) ∙ q) c s
        | false ↦ λ r s. refl
      ] refl p) all

  -- the table with the change is sound
  pub change_sound : (d : Dialect) (it : Table) → IsSoundTable d it → list_all (λ c. is_kind c.kind) (with_changed n f it).columns ≡ true → list_all (row_fits (with_changed n f it).columns) it.rows ≡ true → list_all default_fits (with_changed n f it).columns ≡ true → list_all (λ k. list_all (is_not_null (with_changed n f it)) k.columns) (key_list it.key) ≡ true → list_all (is_numbered_well (with_changed n f it)) (with_changed n f it).columns ≡ true → IsSoundTable d (with_changed n f it)
  change_sound d it fine kinds rows defaults key numbered =
      let stay = names_stay it.columns in
      record {
        some = some_still it.columns fine.some;
        differ = ap repeats stay ∙ fine.differ;
        kinds = kinds;
        rows = rows;
        defaults = defaults;
        lists = all_more (are_columns it) _ (column_lists it) (λ ns h. sym (ap (λ ms. not (is_empty ns) && (not (repeats ns) && list_all (λ m. is_in m ms) ns)) (sym stay)) ∙ h) fine.lists;
        foreign = all_more (λ g. are_columns it g.columns) _ it.foreign (λ g h. ap (λ ms. not (is_empty g.columns) && (not (repeats g.columns) && list_all (λ m. is_in m ms) g.columns)) stay ∙ h) fine.foreign;
        key = key;
        key_named = fine.key_named;
        numbered = numbered;
        within = within_still d it fine.within;
        public = ap (λ ns. list_any is_elsewhere (ns ++ (constraint_names it ++ map (λ (i : Index). i.name) it.indexes))) stay ∙ fine.public;
      }
    where
      some_still : (cs : List Column) → is_empty cs ≡ false → is_empty (map (changed_at n f) cs) ≡ false
      some_still [] h = true_false refl h
      some_still (c ∷ cs) h = refl

      within_still : (d : Dialect) (it : Table) → AreApartWithin d it → AreApartWithin d (with_changed n f it)
      within_still Postgresql it h = h
      within_still Mysql it h = h

-- the key's columns stay NOT NULL
pub key_stays_firm : (n : Name) (f : Column → Column) (same : (c : Column) → (f c).name ≡ c.name) (d : Dialect) (it : Table) → IsSoundTable d it → ((m : Name) → is_named n m ≡ true → is_in_key it m ≡ true → (c : Column) → not c.nullable ≡ true → not (f c).nullable ≡ true) → list_all (λ k. list_all (is_not_null (with_changed n f it)) k.columns) (key_list it.key) ≡ true
key_stays_firm n f same d it fine h = at it.key fine.key h where
  in_more : (ns : List Name) (key : List Name) → ((m : Name) → is_in m ns ≡ true → is_in m key ≡ true) → ((m : Name) → is_named n m ≡ true → is_in m key ≡ true → (c : Column) → not c.nullable ≡ true → not (f c).nullable ≡ true) → list_all (is_not_null it) ns ≡ true → list_all (is_not_null (with_changed n f it)) ns ≡ true
  in_more [] key sub h all = refl
  in_more (m ∷ ns) key sub h all = and_true _ _
      (firm_stays n f same m (λ p. h m p (sub m (ap (λ b. b || is_in m ns) (named_itself m)))) it.columns (and_left (is_not_null it m) _ all))
      (in_more ns key (λ x is. sub x (elim (is_named x m) as (λ b. (b || is_in x ns) ≡ true) [ true ↦ refl | false ↦ is ])) h (and_right (is_not_null it m) _ all))

  at : (o : Option Key) → list_all (λ k. list_all (is_not_null it) k.columns) (key_list o) ≡ true → ((m : Name) → is_named n m ≡ true → list_any (λ k. is_in m k.columns) (key_list o) ≡ true → (c : Column) → not c.nullable ≡ true → not (f c).nullable ≡ true) → list_all (λ k. list_all (is_not_null (with_changed n f it)) k.columns) (key_list o) ≡ true
  at None all h = refl
  at (Some k) all h = and_true _ _ (in_more k.columns k.columns (λ m is. is) (λ m p is. h m p (ap (λ b. b || false) is)) (and_left (list_all (is_not_null it) k.columns) _ all)) refl

pub all_changed_to : (n : Name) (f : Column → Column) (p r : Column → Bool) (cs : List Column) → ((c : Column) → is_named n c.name ≡ true → p c ≡ true → r (f c) ≡ true) → ((c : Column) → p c ≡ true → r c ≡ true) → list_all p cs ≡ true → list_all r (map (changed_at n f) cs) ≡ true
all_changed_to n f p r [] h g all = refl
all_changed_to n f p r (c ∷ cs) h g all = and_true _ _
    (elim (is_named n c.name) as (λ b. is_named n c.name ≡ b → r (cond b (f c) c) ≡ true) [ true ↦ λ q. h c q (and_left (p c) _ all) | false ↦ λ q. g c (and_left (p c) _ all) ] refl)
    (all_changed_to n f p r cs h g (and_right (p c) _ all))

-- a change that keeps name and kind
module _ (n : Name) (f : Column → Column) (same : (c : Column) → (f c).name ≡ c.name) (kind : (c : Column) → (f c).kind ≡ c.kind) (d : Dialect) (c : Catalogue) (t : Name) (sound : IsSound d c) (there : table_of c t ≡ Some (the_table c t)) where
  abbrev it' : Table
  it' = the_table c t

  abbrev new' : Table
  new' = with_changed n f it'

  fine : IsSoundTable d it'
  fine = sound.tables t it' there

  kinds_fine : list_all (λ x. is_kind x.kind) new'.columns ≡ true
  kinds_fine = all_changed n f (λ x. is_kind x.kind) it'.columns (λ x p h. ap is_kind (kind x) ∙ h) fine.kinds

  rows_fine : list_all (row_fits new'.columns) it'.rows ≡ true
  rows_fine = all_more (row_fits it'.columns) (row_fits new'.columns) it'.rows (λ r h. rows_stay n f same kind it'.columns r ∙ h) fine.rows

  pub change_keeps : list_all default_fits new'.columns ≡ true → list_all (λ k. list_all (is_not_null new') k.columns) (key_list it'.key) ≡ true → list_all (is_numbered_well new') new'.columns ≡ true → IsShaped d (with_table c t new')
  change_keeps defaults key numbered =
      kept_more d c t new' sound there (λ m h. kinds_stay n f same kind m it'.columns) refl (same_apart d c t new' there refl refl sound.apart)
      (change_sound n f same d it' fine kinds_fine rows_fine defaults key numbered)

pub set_not_null_keeps : (by : By) (d : Dialect) (t n : Name) (c e : Catalogue) (k : ℕ) → IsSound d c → step by d (SetNotNull t n) c ≡ Ok (e, k) → IsSound d e
set_not_null_keeps by d t n c e k sound made =
    let it = the_table c t in
    let p = set_not_null by d t n c in
    let ok = accepted p e k made in
    let there = here c t (or_left _ _ ok.missing) in
    let fine = sound.tables t it there in
    let f = made_nullable false in
    keeps d p e k made (change_keeps n f (λ x. refl) (λ x. refl) d c t sound there
    (all_changed n f default_fits it.columns (λ x q h. h) fine.defaults)
    (key_stays_firm n f (λ x. refl) d it fine (λ m q is x h. refl))
    (all_changed n f (is_numbered_well it) it.columns (λ x q h. h) fine.numbered))

pub drop_not_null_keeps : (by : By) (d : Dialect) (t n : Name) (c e : Catalogue) (k : ℕ) → IsSound d c → step by d (DropNotNull t n) c ≡ Ok (e, k) → IsSound d e
drop_not_null_keeps by d t n c e k sound made =
    let it = the_table c t in
    let p = drop_not_null by d t n c in
    let ok = accepted p e k made in
    let there = here c t (or_left _ _ ok.missing) in
    let fine = sound.tables t it there in
    let f = made_nullable true in
    keeps d p e k made (change_keeps n f (λ x. refl) (λ x. refl) d c t sound there
    (all_changed n f default_fits it.columns (λ x q h. h) fine.defaults)
    (key_stays_firm n f (λ x. refl) d it fine (λ m q is x h. true_false is (ap (is_in_key it) (sym (same_name n m q)) ∙ ok.depends)))
    (all_changed n f (is_numbered_well it) it.columns (λ x q h. h) fine.numbered))

defaults_set : (n : Name) (v : Value) (cs : List Column) → repeats (map (λ x. x.name) cs) ≡ false → is_value_of (kind_in n cs) v ≡ true → list_all default_fits cs ≡ true → list_all default_fits (map (changed_at n (with_default (Some v))) cs) ≡ true
defaults_set n v [] differ fit all = refl
defaults_set n v (c ∷ cs) differ fit all =
    elim (is_named n c.name) as (λ b. is_named n c.name ≡ b → is_value_of (cond b c.kind (kind_in n cs)) v ≡ true → list_all default_fits (cond b (with_default (Some v) c) c ∷ map (changed_at n (with_default (Some v))) cs) ≡ true) [
      | true ↦ λ q h. and_true _ _ h (ap (list_all default_fits) (unchanged n (with_default (Some v)) cs (ap (λ m. is_in m (map (λ x. x.name) cs)) (same_name n c.name q) ∙ or_left (is_in c.name (map (λ x. x.name) cs)) _ differ)) ∙ and_right (default_fits c) _ all)
      | false ↦ λ q h. and_true _ _ (and_left (default_fits c) _ all) (defaults_set n v cs (or_right (is_in c.name (map (λ x. x.name) cs)) _ differ) h (and_right (default_fits c) _ all))
    ] refl fit

pub set_default_keeps : (by : By) (d : Dialect) (t n : Name) (l : Literal) (c e : Catalogue) (k : ℕ) → IsSound d c → step by d (SetDefault t n l) c ≡ Ok (e, k) → IsSound d e
set_default_keeps by d t n l c e k sound made =
    let it = the_table c t in
    let p = set_default by d t n l c in
    let ok = accepted p e k made in
    let there = here c t (or_left _ _ ok.missing) in
    let fine = sound.tables t it there in
    let v = value_in (into_kind l (kind_in n it.columns)) in
    let f = with_default (Some v) in
    let q : Column → Bool = λ x. is_named n x.name && x.numbered in
    keeps d p e k made (change_keeps n f (λ x. refl) (λ x. refl) d c t sound there
    (defaults_set n v it.columns fine.differ (into_fits l (kind_in n it.columns) ok.wrong ok.wide) fine.defaults)
    (key_stays_firm n f (λ x. refl) d it fine (λ m r is x h. h))
    (all_changed_to n f (λ x. is_numbered_well it x && not (q x)) (is_numbered_well (with_changed n f it)) it.columns
    (λ x r h. plain x (ap (λ b. not (b && x.numbered)) (sym r) ∙ and_right (is_numbered_well it x) _ h)) (λ x h. and_left (is_numbered_well it x) _ h)
    (all_both (is_numbered_well it) (λ x. not (q x)) it.columns fine.numbered (none_all q it.columns ok.depends))))
  where
    plain : (x : Column) → not x.numbered ≡ true → (not x.numbered || (is_number x.kind && false)) ≡ true
    plain x h = ap (λ b. b || (is_number x.kind && false)) h

pub drop_default_keeps : (by : By) (d : Dialect) (t n : Name) (c e : Catalogue) (k : ℕ) → IsSound d c → step by d (DropDefault t n) c ≡ Ok (e, k) → IsSound d e
drop_default_keeps by d t n c e k sound made =
    let it = the_table c t in
    let p = drop_default by d t n c in
    let ok = accepted p e k made in
    let there = here c t (or_left _ _ ok.missing) in
    let fine = sound.tables t it there in
    let f = with_default None in
    keeps d p e k made (change_keeps n f (λ x. refl) (λ x. refl) d c t sound there
    (all_changed n f default_fits it.columns (λ x q h. null_fits x.kind) fine.defaults)
    (key_stays_firm n f (λ x. refl) d it fine (λ m q is x h. h))
    (all_changed n f (is_numbered_well it) it.columns (λ x q h. numbered_still x h) fine.numbered))
  where
    numbered_still : (x : Column) → (not x.numbered || (is_number x.kind && (is_none x.default && is_key_of (the_table c t).key x.name))) ≡ true → (not x.numbered || (is_number x.kind && is_key_of (the_table c t).key x.name)) ≡ true
    numbered_still x h = elim (not x.numbered) as (λ b. (b || (is_number x.kind && (is_none x.default && is_key_of (the_table c t).key x.name))) ≡ true → (b || (is_number x.kind && is_key_of (the_table c t).key x.name)) ≡ true) [
      | true ↦ λ p. refl
      | false ↦ λ p. and_true _ _ (and_left (is_number x.kind) _ p) (and_right (is_none x.default) _ (and_right (is_number x.kind) _ p))
    ] h
