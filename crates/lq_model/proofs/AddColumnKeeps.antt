-- A column that is added keeps a catalogue sound.
use Rattle.std.proofs.Common.{ap, arith, sym, ◌∙◌}
use Rattle.std.specs.List.{list_all}
use Rattle.std.specs.Prelude.{List, Ok, Some, [], cond, false, is_none, map, not, refl, true, ℕ, ◌&&◌, ◌++◌, ◌||◌, ◌∷◌, ◌≡◌}
use Rattle.lq_base.specs.Kind.{is_kind}
use Rattle.lq_base.specs.Name.{is_name, is_named}
use Rattle.lq_base.specs.Value.{is_value_of}
use Rattle.lq_base.specs.declared.dialect.Dialect.{Dialect}
use Rattle.lq_base.specs.declared.dialect.Dialect.TheVariants.{Mysql, Postgresql}
use Rattle.lq_base.specs.declared.name.Name.{Name}
use Rattle.lq_base.specs.declared.value.Value.{Value}
use Rattle.lq_model.specs.Catalogue.{Catalogue, Table, the_table, is_empty, is_in, repeats, row_fits, column_lists, column_names, has_column, key_list, target_lists}
use Rattle.lq_model.specs.Tables.{add_column, with_column}
use Rattle.lq_model.specs.Kinds.{is_number, kind_of, column_of, default_value}
use Rattle.lq_model.specs.NameSpaces.{AreApartWithin}
use Rattle.lq_model.specs.Sound.{IsSound, IsSoundTable, are_columns, default_fits, is_key_of, is_not_null}
use Rattle.lq_model.specs.Step.{step}
use Rattle.lq_model.specs.declared.caller.By.{By}
use Rattle.lq_model.specs.declared.column.Column.{Column}
use Rattle.lq_model.specs.declared.column.ColumnDef.{ColumnDef}
use Rattle.lq_model.specs.declared.statement.Statement.TheVariants.{AddColumn}
use Rattle.lq_model.proofs.Decide.{accepted, here}
use Rattle.lq_model.proofs.IntoKind.{default_into}
use Rattle.lq_model.proofs.Kept.{kept_more, same_apart}
use Rattle.lq_model.proofs.Lists.{all-append_left, all-map, all_both, all_more, all_one_more, and_left, and_right, and_true, any-append, map_append_one, or_false, or_left, or_right, other_way, same_name, true_false}
use Rattle.lq_model.proofs.NameCounts.{last_count}
use Rattle.lq_model.proofs.PublicNames.{one_public, public_by}
use Rattle.lq_model.proofs.Shaped.{keeps}

repeats_last : (ns : List Name) (n : Name) → repeats ns ≡ false → is_in n ns ≡ false → repeats (ns ++ n ∷ []) ≡ false
repeats_last [] n h out = refl
repeats_last (k ∷ ns) n h out =
    or_false _ _
    (any-append (is_named k) ns (n ∷ []) ∙ or_false _ _ (or_left (is_in k ns) _ h) (or_false _ _ (other_way n k (or_left (is_named n k) _ out)) refl))
    (repeats_last ns n (or_right (is_in k ns) _ h) (or_right (is_named n k) _ out))

not_empty : {A : Type 0} (xs : List A) (x : A) → is_empty (xs ++ x ∷ []) ≡ false
not_empty [] x = refl
not_empty (y ∷ xs) x = refl

row_longer : (cs : List Column) (c : Column) (row : List Value) (v : Value) → row_fits cs row ≡ true → is_value_of c.kind v ≡ true → row_fits (cs ++ c ∷ []) (row ++ v ∷ []) ≡ true
row_longer [] c [] v h fit = and_true _ _ fit refl
row_longer [] c (x ∷ row) v h fit = true_false refl (sym h)
row_longer (k ∷ cs) c [] v h fit = true_false refl (sym h)
row_longer (k ∷ cs) c (x ∷ row) v h fit = and_true _ _ (and_left (is_value_of k.kind x) _ h) (row_longer cs c row v (and_right (is_value_of k.kind x) _ h) fit)

more_columns : (it : Table) (c : Column) (n : Name) → has_column it n ≡ true → has_column (with_column c it) n ≡ true
more_columns it c n h = ap (is_in n) (map_append_one (λ x. x.name) it.columns c) ∙ any-append (is_named n) (column_names it) (c.name ∷ []) ∙ ap (λ b. b || is_in n (c.name ∷ [])) h

pub kind_more : (cs : List Column) (c : Column) (n : Name) → is_in n (map (λ x. x.name) cs) ≡ true → kind_of n (cs ++ c ∷ []) ≡ kind_of n cs
kind_more [] c n h = true_false refl (sym h)
kind_more (x ∷ cs) c n h = elim (is_named n x.name) as (λ b. (b || is_in n (map (λ x. x.name) cs)) ≡ true → cond b (Some x.kind) (kind_of n (cs ++ c ∷ [])) ≡ cond b (Some x.kind) (kind_of n cs)) [
  | true ↦ λ p. refl
  | false ↦ λ p. kind_more cs c n p
] h

columns_more : (a b : Table) (ns : List Name) → ((n : Name) → has_column a n ≡ true → has_column b n ≡ true) → are_columns a ns ≡ true → are_columns b ns ≡ true
columns_more a b ns more h =
    let rest = and_right (not (is_empty ns)) _ h in
    and_true _ _ (and_left (not (is_empty ns)) _ h) (and_true _ _ (and_left (not (repeats ns)) _ rest) (all_more _ (has_column b) ns more (and_right (not (repeats ns)) _ rest)))

apart_named : (it : Table) (n m : Name) → has_column it n ≡ false → has_column it m ≡ true → is_named m n ≡ false
apart_named it n m out is = elim (is_named m n) as (λ b. is_named m n ≡ b → b ≡ false) [
  | true ↦ λ p. true_false (ap (has_column it) (sym (same_name m n p)) ∙ is) out
  | false ↦ λ p. refl
] refl

-- the key's columns are columns
key_named : (d : Dialect) (it : Table) → IsSoundTable d it → list_all (λ k. are_columns it k.columns) (key_list it.key) ≡ true
key_named d it sound = sym (all-map (are_columns it) (λ k. k.columns) (key_list it.key)) ∙ all-append_left (are_columns it) (map (λ k. k.columns) (key_list it.key)) _ (all-append_left (are_columns it) (target_lists it) _ sound.lists)

key_kept : (d : Dialect) (it : Table) (c : Column) → IsSoundTable d it → has_column it c.name ≡ false → list_all (λ k. list_all (is_not_null (with_column c it)) k.columns) (key_list it.key) ≡ true
key_kept d it c sound out =
    all_more (λ k. are_columns it k.columns && list_all (is_not_null it) k.columns) _ (key_list it.key) (λ k h.
    all_more (λ n. has_column it n && is_not_null it n) _ k.columns (λ n g.
    all_one_more _ it.columns c (and_right (has_column it n) _ g) (ap (λ b. not b || not c.nullable) (apart_named it c.name n out (and_left (has_column it n) _ g))))
    (all_both (has_column it) (is_not_null it) k.columns (and_right (not (repeats k.columns)) _ (and_right (not (is_empty k.columns)) _ (and_left (are_columns it k.columns) _ h))) (and_right (are_columns it k.columns) _ h)))
    (all_both (λ k. are_columns it k.columns) (λ k. list_all (is_not_null it) k.columns) (key_list it.key) (key_named d it sound) sound.key)

wider_within : (d : Dialect) (it : Table) (c : Column) → AreApartWithin d it → AreApartWithin d (with_column c it)
wider_within Postgresql it c h = h
wider_within Mysql it c h = h

wider_sound : (d : Dialect) (it : Table) (c : Column) → IsSoundTable d it → has_column it c.name ≡ false → is_kind c.kind ≡ true → default_fits c ≡ true → c.numbered ≡ false → is_name c.name ≡ true → IsSoundTable d (with_column c it)
wider_sound d it c sound out known fit plain name = record {
  some = not_empty it.columns c;
  differ = ap repeats (map_append_one (λ x. x.name) it.columns c) ∙ repeats_last (column_names it) c.name sound.differ out;
  kinds = all_one_more _ it.columns c sound.kinds known;
  rows = all-map (row_fits (it.columns ++ c ∷ [])) (λ r. r ++ default_value c ∷ []) it.rows ∙ all_more (row_fits it.columns) _ it.rows (λ r h. row_longer it.columns c r (default_value c) h fit) sound.rows;
  defaults = all_one_more _ it.columns c sound.defaults fit;
  lists = all_more (are_columns it) _ (column_lists it) (λ ns h. columns_more it (with_column c it) ns (more_columns it c) h) sound.lists;
  foreign = all_more (λ f. are_columns it f.columns) _ it.foreign (λ f h. columns_more it (with_column c it) f.columns (more_columns it c) h) sound.foreign;
  key = key_kept d it c sound out;
  numbered = all_one_more _ it.columns c sound.numbered (ap (λ b. not b || (is_number c.kind && (is_none c.default && is_key_of it.key c.name))) plain);
  key_named = sound.key_named;
  within = wider_within d it c sound.within;
  public = public_by it (with_column c it) (c.name ∷ []) (one_public c.name name) (λ n. let a = last_count (λ (x : Column). x.name) n it.columns c in omega (arith, a)) sound.public;
}

pub add_column_keeps : (by : By) (d : Dialect) (t : Name) (def : ColumnDef) (c e : Catalogue) (k : ℕ) → is_name def.name ≡ true → is_kind def.kind ≡ true → IsSound d c → step by d (AddColumn t def) c ≡ Ok (e, k) → IsSound d e
add_column_keeps by d t def c e k name known sound made =
    let it = the_table c t in
    let p = add_column by d t def c in
    let ok = accepted p e k made in
    let there = here c t ok.missing in
    let new = with_column (column_of def) it in
    keeps d p e k made (kept_more d c t new sound there (kind_more it.columns (column_of def)) refl (same_apart d c t new there refl refl sound.apart)
    (wider_sound d it (column_of def) (sound.tables t it there) ok.exists known (default_into def ok.wrong ok.wide) ok.depends name))
