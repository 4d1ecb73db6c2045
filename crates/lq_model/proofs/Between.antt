-- What may stand between adding a column and dropping it.
use Rattle.std.proofs.Common.{ap, sym, ◌∙◌}
use Rattle.std.specs.List.{list_all}
use Rattle.std.specs.Prelude.{Bool, List, Ok, Option, [], cond, false, map, refl, true, ℕ, ◌++◌, ◌∷◌, ◌≡◌}
use Rattle.lq_base.specs.Name.{is_named}
use Rattle.lq_base.specs.Value.{into_kind, is_value_of}
use Rattle.lq_base.specs.declared.dialect.Dialect.{Dialect}
use Rattle.lq_base.specs.declared.kind.Kind.{Kind}
use Rattle.lq_base.specs.declared.literal.Literal.{Literal}
use Rattle.lq_base.specs.declared.name.Name.{Name}
use Rattle.lq_base.specs.declared.value.Value.{Value}
use Rattle.lq_base.specs.declared.value.Value.TheVariants as value
use Rattle.lq_model.specs.Catalogue.{Catalogue, the_table, with_table, is_in, row_fits, IsWidened, rows_with, widened}
use Rattle.lq_model.specs.Tables.{changed_at, made_nullable, modified, modify, set_not_null, with_changed}
use Rattle.lq_model.specs.Kinds.{kind_in, value_in}
use Rattle.lq_model.specs.Sound.{IsSound}
use Rattle.lq_model.specs.Step.{step}
use Rattle.lq_model.specs.Truth.{takes}
use Rattle.lq_model.specs.Rows.{edited, set_in, update}
use Rattle.lq_model.specs.declared.caller.By.{By}
use Rattle.lq_model.specs.declared.column.Column.{Column}
use Rattle.lq_model.specs.declared.statement.Statement.TheVariants.{Modify, SetNotNull, Update}
use Rattle.lq_model.specs.declared.test.Test.{Test}
use Rattle.lq_model.proofs.Decide.{accepted, here}
use Rattle.lq_model.proofs.Kept.{the_table-with_table, with_table-with_table}
use Rattle.lq_model.proofs.Lists.{and_left, and_right, named_itself, or_left, or_right, true_false}

pub set_last : (n : Name) (w : Value) (cs : List Column) (c : Column) (row : List Value) (v : Value) → c.name ≡ n → is_in n (map (λ x. x.name) cs) ≡ false → row_fits cs row ≡ true → set_in n w (cs ++ c ∷ []) (row ++ v ∷ []) ≡ row ++ w ∷ []
set_last n w [] c [] v named out fit = ap (λ b. cond b (w ∷ []) (v ∷ [])) (ap (is_named n) named ∙ named_itself n)
set_last n w [] c (x ∷ row) v named out fit = true_false fit refl
set_last n w (k ∷ cs) c [] v named out fit = true_false fit refl
set_last n w (k ∷ cs) c (x ∷ row) v named out fit =
    ap (λ b. cond b (w ∷ (row ++ v ∷ [])) (x ∷ set_in n w (cs ++ c ∷ []) (row ++ v ∷ []))) (or_left (is_named n k.name) _ out)
    ∙ ap (λ ys. x ∷ ys) (set_last n w cs c row v named (or_right (is_named n k.name) _ out) (and_right (is_value_of k.kind x) _ fit))

module _ (n : Name) (w : Value) (picks : List Value → Bool) where
  last_values : List (List Value) → List Value → List Value
  last_values [] vs = []
  last_values (r ∷ rs) [] = cond (picks (r ++ value.Null ∷ [])) w value.Null ∷ last_values rs []
  last_values (r ∷ rs) (v ∷ vs) = cond (picks (r ++ v ∷ [])) w v ∷ last_values rs vs

  edit : List Column → List Value → List Value
  edit cs r = cond (picks r) (set_in n w cs r) r

  edit_row : (cs : List Column) (c : Column) (row : List Value) (v : Value) → c.name ≡ n → is_in n (map (λ x. x.name) cs) ≡ false → row_fits cs row ≡ true → edit (cs ++ c ∷ []) (row ++ v ∷ []) ≡ row ++ cond (picks (row ++ v ∷ [])) w v ∷ []
  unfolding edit
  edit_row cs c row v named out fit =
      elim (picks (row ++ v ∷ [])) as (λ b. cond b (set_in n w (cs ++ c ∷ []) (row ++ v ∷ [])) (row ++ v ∷ []) ≡ row ++ cond b w v ∷ []) [
        | true ↦ set_last n w cs c row v named out fit
        | false ↦ refl
      ]

  edit_rows : (cs : List Column) (c : Column) (rows : List (List Value)) (vs : List Value) → c.name ≡ n → is_in n (map (λ x. x.name) cs) ≡ false → list_all (row_fits cs) rows ≡ true → map (edit (cs ++ c ∷ [])) (rows_with rows vs) ≡ rows_with rows (last_values rows vs)
  unfolding last_values
  edit_rows cs c [] vs named out fit = refl
  edit_rows cs c (r ∷ rows) [] named out fit =
      ap (λ x. x ∷ map (edit (cs ++ c ∷ [])) (rows_with rows [])) (edit_row cs c r value.Null named out (and_left (row_fits cs r) _ fit))
      ∙ ap (λ xs. (r ++ cond (picks (r ++ value.Null ∷ [])) w value.Null ∷ []) ∷ xs) (edit_rows cs c rows [] named out (and_right (row_fits cs r) _ fit))
  edit_rows cs c (r ∷ rows) (v ∷ vs) named out fit =
      ap (λ x. x ∷ map (edit (cs ++ c ∷ [])) (rows_with rows vs)) (edit_row cs c r v named out (and_left (row_fits cs r) _ fit))
      ∙ ap (λ xs. (r ++ cond (picks (r ++ v ∷ [])) w v ∷ []) ∷ xs) (edit_rows cs c rows vs named out (and_right (row_fits cs r) _ fit))

pub widened_by_update : (by : By) (d : Dialect) (t n : Name) (l : Literal) (test : Option Test) (c e f : Catalogue) (k : ℕ) → IsSound d c → IsWidened t n c e → step by d (Update t ((n, l) ∷ []) test) e ≡ Ok (f, k) → IsWidened t n c f
unfolding edit
widened_by_update by d t n l test c e f k sound wide made =
    let it = the_table c t in
    let there = here c t wide.there in
    let wider = widened wide.column wide.values it in
    let cs = it.columns ++ wide.column ∷ [] in
    let w = value_in (into_kind l (kind_in n cs)) in
    let now : the_table e t ≡ wider = ap (λ x. the_table x t) wide.is ∙ the_table-with_table c t wider there in
    record {
      column = wide.column;
      values = last_values n w (takes test cs) it.rows wide.values;
      named = wide.named;
      there = wide.there;
      new = wide.new;
      is = sym (accepted (update by d t ((n, l) ∷ []) test e) f k made).result
          ∙ ap (λ x. with_table e t (edited ((n, l) ∷ []) test x)) now
          ∙ ap (λ x. with_table x t (edited ((n, l) ∷ []) test wider)) wide.is
          ∙ with_table-with_table c t wider (edited ((n, l) ∷ []) test wider)
          ∙ ap (λ rs. with_table c t (record it { columns = cs; rows = rs })) (edit_rows n w (takes test cs) it.columns wide.column it.rows wide.values wide.named wide.new (sound.tables t it there).rows);
    }

-- a change of the new column

pub changed_last : (n : Name) (f : Column → Column) (cs : List Column) (c : Column) → is_in n (map (λ x. x.name) cs) ≡ false → map (changed_at n f) (cs ++ c ∷ []) ≡ cs ++ changed_at n f c ∷ []
changed_last n f [] c out = refl
changed_last n f (x ∷ cs) c out =
    ap (λ y. cond y (f x) x ∷ map (changed_at n f) (cs ++ c ∷ [])) (or_left (is_named n x.name) _ out)
    ∙ ap (λ ys. x ∷ ys) (changed_last n f cs c (or_right (is_named n x.name) _ out))

pub name_kept : (n : Name) (f : Column → Column) → ((c : Column) → (f c).name ≡ c.name) → (c : Column) → (changed_at n f c).name ≡ c.name
name_kept n f same c = elim (is_named n c.name) as (λ x. (cond x (f c) c).name ≡ c.name) [ true ↦ same c | false ↦ refl ]

pub widened_by_change : (t n : Name) (f : Column → Column) → ((c : Column) → (f c).name ≡ c.name) → (c e g : Catalogue) → IsWidened t n c e → with_table e t (with_changed n f (the_table e t)) ≡ g → IsWidened t n c g
widened_by_change t n f same c e g wide is =
    let it = the_table c t in
    let there = here c t wide.there in
    let wider = widened wide.column wide.values it in
    let now : the_table e t ≡ wider = ap (λ x. the_table x t) wide.is ∙ the_table-with_table c t wider there in
    record {
      column = changed_at n f wide.column;
      values = wide.values;
      named = name_kept n f same wide.column ∙ wide.named;
      there = wide.there;
      new = wide.new;
      is = sym is
          ∙ ap (λ x. with_table e t (with_changed n f x)) now
          ∙ ap (λ x. with_table x t (with_changed n f wider)) wide.is
          ∙ with_table-with_table c t wider (with_changed n f wider)
          ∙ ap (λ cs. with_table c t (record wider { columns = cs })) (changed_last n f it.columns wide.column wide.new);
    }

pub widened_by_not_null : (by : By) (d : Dialect) (t n : Name) (c e g : Catalogue) (k : ℕ) → IsWidened t n c e → step by d (SetNotNull t n) e ≡ Ok (g, k) → IsWidened t n c g
widened_by_not_null by d t n c e g k wide made = widened_by_change t n (made_nullable false) (λ c. refl) c e g wide (accepted (set_not_null by d t n e) g k made).result

pub widened_by_modify : (by : By) (d : Dialect) (t n : Name) (kind : Kind) (nullable : Bool) (c e g : Catalogue) (k : ℕ) → IsWidened t n c e → step by d (Modify t n kind nullable) e ≡ Ok (g, k) → IsWidened t n c g
widened_by_modify by d t n kind nullable c e g k wide made = widened_by_change t n (modified kind nullable) (λ c. refl) c e g wide (accepted (modify by d t n kind nullable e) g k made).result
