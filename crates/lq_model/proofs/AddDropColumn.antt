-- A column that is added can be dropped.
use Rattle.std.proofs.Common.{ap, sym, ◌∙◌}
use Rattle.std.specs.List.{list_all, list_any}
use Rattle.std.specs.Prelude.{List, Ok, Some, [], cond, false, is_none, map, not, refl, true, ℕ, ◌++◌, ◌||◌, ◌∷◌, ◌≡◌}
use Rattle.lq_base.specs.Name.{is_named}
use Rattle.lq_base.specs.Value.{is_value_of}
use Rattle.lq_base.specs.declared.dialect.Dialect.{Dialect}
use Rattle.lq_base.specs.declared.name.Name.{Name}
use Rattle.lq_base.specs.declared.value.Value.{Value}
use Rattle.lq_base.specs.declared.value.Value.TheVariants as value
use Rattle.lq_model.specs.Catalogue.{Catalogue, Table, table_of, the_table, with_table, is_empty, is_in, row_fits, has_column, IsWidened, rows_with, widened}
use Rattle.lq_model.specs.Tables.{add_column, columns_without, drop_column, is_only, row_without, without_column, aims_at, is_bound}
use Rattle.lq_model.specs.Kinds.{column_of, default_value}
use Rattle.lq_model.specs.NameSpaces.{is_reserved}
use Rattle.lq_model.specs.Sound.{IsSound, IsSoundTable}
use Rattle.lq_model.specs.Step.{step}
use Rattle.lq_model.specs.declared.caller.By.{By}
use Rattle.lq_model.specs.declared.column.Column.{Column}
use Rattle.lq_model.specs.declared.column.ColumnDef.{ColumnDef}
use Rattle.lq_model.specs.declared.statement.Statement.TheVariants.{AddColumn, DropColumn}
use Rattle.lq_model.proofs.Decide.{accepted, accepts, here}
use Rattle.lq_model.proofs.Kept.{the_table-with_table, with_table-itself, with_table-with_table}
use Rattle.lq_model.proofs.Lists.{and_left, and_right, any-map, named_itself, not_true, or_false, or_left, or_right, same_name, true_false}
use Rattle.lq_model.proofs.Maps.{any-set_value, lookup-set_value}
use Rattle.lq_model.proofs.Untouched.{IsUntouched, not_in_lists, unused}

columns_back : (n : Name) (cs : List Column) (c : Column) → c.name ≡ n → is_in n (map (λ x. x.name) cs) ≡ false → columns_without n (cs ++ c ∷ []) ≡ cs
columns_back n [] c named out = ap (λ b. cond b [] (c ∷ [])) (ap (is_named n) named ∙ named_itself n)
columns_back n (x ∷ cs) c named out =
    ap (λ b. cond b (cs ++ c ∷ []) (x ∷ columns_without n (cs ++ c ∷ []))) (or_left (is_named n x.name) _ out)
    ∙ ap (λ ys. x ∷ ys) (columns_back n cs c named (or_right (is_named n x.name) _ out))

row_back : (n : Name) (cs : List Column) (c : Column) (row : List Value) (v : Value) → c.name ≡ n → is_in n (map (λ x. x.name) cs) ≡ false → row_fits cs row ≡ true → row_without n (cs ++ c ∷ []) (row ++ v ∷ []) ≡ row
row_back n [] c [] v named out fit = ap (λ b. cond b [] (v ∷ [])) (ap (is_named n) named ∙ named_itself n)
row_back n [] c (x ∷ row) v named out fit = true_false fit refl
row_back n (k ∷ cs) c [] v named out fit = true_false fit refl
row_back n (k ∷ cs) c (x ∷ row) v named out fit =
    ap (λ b. cond b (row ++ v ∷ []) (x ∷ row_without n (cs ++ c ∷ []) (row ++ v ∷ []))) (or_left (is_named n k.name) _ out)
    ∙ ap (λ ys. x ∷ ys) (row_back n cs c row v named (or_right (is_named n k.name) _ out) (and_right (is_value_of k.kind x) _ fit))

rows_back : (n : Name) (cs : List Column) (c : Column) (rows : List (List Value)) (vs : List Value) → c.name ≡ n → is_in n (map (λ x. x.name) cs) ≡ false → list_all (row_fits cs) rows ≡ true → map (row_without n (cs ++ c ∷ [])) (rows_with rows vs) ≡ rows
rows_back n cs c [] vs named out fit = refl
rows_back n cs c (r ∷ rows) [] named out fit =
    ap (λ x. x ∷ map (row_without n (cs ++ c ∷ [])) (rows_with rows [])) (row_back n cs c r value.Null named out (and_left (row_fits cs r) _ fit))
    ∙ ap (λ xs. r ∷ xs) (rows_back n cs c rows [] named out (and_right (row_fits cs r) _ fit))
rows_back n cs c (r ∷ rows) (v ∷ vs) named out fit =
    ap (λ x. x ∷ map (row_without n (cs ++ c ∷ [])) (rows_with rows vs)) (row_back n cs c r v named out (and_left (row_fits cs r) _ fit))
    ∙ ap (λ xs. r ∷ xs) (rows_back n cs c rows vs named out (and_right (row_fits cs r) _ fit))

table_back : (d : Dialect) (n : Name) (c : Column) (vs : List Value) (it : Table) → IsSoundTable d it → c.name ≡ n → has_column it n ≡ false → without_column n (widened c vs it) ≡ it
table_back d n c vs it sound named out =
    ap (λ cs. record it { columns = cs; rows = map (row_without n (it.columns ++ c ∷ [])) (rows_with it.rows vs) }) (columns_back n it.columns c named out)
    ∙ ap (λ rs. record it { rows = rs }) (rows_back n it.columns c it.rows vs named out sound.rows)

has_new : (it : Table) (c : Column) (vs : List Value) (n : Name) → c.name ≡ n → has_column (widened c vs it) n ≡ true
has_new it c vs n named = any-map (is_named n) (λ x. x.name) (it.columns ++ c ∷ []) ∙ at it.columns where
  at : (cs : List Column) → list_any (λ x. is_named n x.name) (cs ++ c ∷ []) ≡ true
  at [] = ap (λ b. b || false) (ap (is_named n) named ∙ named_itself n)
  at (x ∷ cs) = elim (is_named n x.name) as (λ b. (b || list_any (λ x. is_named n x.name) (cs ++ c ∷ [])) ≡ true) [ true ↦ refl | false ↦ at cs ]

not_only : (cs : List Column) (c : Column) → is_empty cs ≡ false → is_only (cs ++ c ∷ []) ≡ false
not_only [] c h = true_false refl h
not_only (x ∷ []) c h = refl
not_only (x ∷ y ∷ cs) c h = refl

-- a name that is no column is used nowhere
module _ (d : Dialect) (c : Catalogue) (t n : Name) (sound : IsSound d c) (there : table_of c t ≡ Some (the_table c t)) (out : has_column (the_table c t) n ≡ false) where
  out_too : (m : Name) → is_named n m ≡ true → has_column (the_table c t) m ≡ false
  out_too m p = ap (has_column (the_table c t)) (sym (same_name n m p)) ∙ out

  pub nowhere : IsUntouched c t (is_named n)
  nowhere = unused (is_named n) d c t sound there out_too

  pub nowhere_bound : is_bound (the_table c t) n ≡ false
  nowhere_bound = or_false _ _ (not_in_lists (is_named n) (the_table c t) out_too d (sound.tables t (the_table c t) there)) nowhere.own

pub drop_widened : (by : By) (d : Dialect) (t n : Name) (c e : Catalogue) → IsSound d c → IsWidened t n c e → is_reserved by (t ∷ []) ≡ false → step by d (DropColumn t n) e ≡ Ok (c, 0)
drop_widened by d t n c e sound wide named =
    let it = the_table c t in
    let there = here c t wide.there in
    let fine = sound.tables t it there in
    let wider = widened wide.column wide.values it in
    let now : the_table (with_table c t wider) t ≡ wider = the_table-with_table c t wider there in
    let free = nowhere d c t n sound there wide.new in
    ap (step by d (DropColumn t n)) wide.is
    ∙ accepts d (drop_column by d t n (with_table c t wider)) c sound
    (ap (λ x. with_table (with_table c t wider) t (without_column n x)) now
    ∙ with_table-with_table c t wider (without_column n wider)
    ∙ ap (with_table c t) (table_back d n wide.column wide.values it fine wide.named wide.new)
    ∙ with_table-itself c t there)
    (record {
      reserved = named;
      missing = or_false _ _ (ap is_none (lookup-set_value (is_named t) c.tables it wider there)) (ap (λ x. not (has_column x n)) now ∙ not_true _ (has_new it wide.column wide.values n wide.named));
      exists = refl;
      depends = or_false _ _ free.shown (or_false _ _ (ap (λ x. is_bound x n) now ∙ nowhere_bound d c t n sound there wide.new) (or_false _ _
          (any-set_value (is_named t) (λ x. list_any (aims_at t n) x.1.foreign) c.tables it wider there (λ k. refl) ∙ free.aimed)
          (ap (λ x. is_only x.columns) now ∙ not_only it.columns wide.column fine.some)));
      wrong = refl;
      wide = refl;
    })

rows_with-same : (rows : List (List Value)) (v : Value) → map (λ r. r ++ v ∷ []) rows ≡ rows_with rows (map (λ r. v) rows)
rows_with-same [] v = refl
rows_with-same (r ∷ rows) v = ap (λ rs. (r ++ v ∷ []) ∷ rs) (rows_with-same rows v)

pub widened_by_add : (by : By) (d : Dialect) (t : Name) (def : ColumnDef) (c e : Catalogue) (k : ℕ) → step by d (AddColumn t def) c ≡ Ok (e, k) → IsWidened t def.name c e
widened_by_add by d t def c e k made =
    let it = the_table c t in
    let p = add_column by d t def c in
    let ok = accepted p e k made in
    record {
      column = column_of def;
      values = map (λ r. default_value (column_of def)) it.rows;
      named = refl;
      there = ok.missing;
      new = ok.exists;
      is = sym ok.result ∙ ap (λ rs. with_table c t (record it { columns = it.columns ++ column_of def ∷ []; rows = rs })) (rows_with-same it.rows _);
    }

pub drop_after_add : (d : Dialect) (t : Name) (def : ColumnDef) (by : By) (c e : Catalogue) (k : ℕ) → IsSound d c → step by d (AddColumn t def) c ≡ Ok (e, k) → step by d (DropColumn t def.name) e ≡ Ok (c, 0)
drop_after_add d t def by c e k sound made =
    drop_widened by d t def.name c e sound (widened_by_add by d t def c e k made) (accepted (add_column by d t def c) e k made).reserved
