-- Statements on rows keep a catalogue sound.
use Rattle.std.proofs.Common.{◌∙◌}
use Rattle.std.specs.List.{filter, list_all, list_any}
use Rattle.std.specs.Prelude.{Bool, List, Ok, Option, [], cond, false, map, not, pos, refl, suc, true, zero, ℕ, ◌∷◌, ◌≡◌}
use Rattle.lq_base.specs.Name.{is_named}
use Rattle.lq_base.specs.Value.{into_kind, is_value_of}
use Rattle.lq_base.specs.declared.dialect.Dialect.{Dialect}
use Rattle.lq_base.specs.declared.literal.Literal.{Literal}
use Rattle.lq_base.specs.declared.literal.Literal.TheVariants as literal
use Rattle.lq_base.specs.declared.name.Name.{Name}
use Rattle.lq_base.specs.declared.value.Value.{Value}
use Rattle.lq_model.specs.Catalogue.{Catalogue, the_table, with_table, row_fits}
use Rattle.lq_model.specs.Rows.{cascaded, delete, is_lost, row_count, without_lost, without_taken, cell, insert, row_of, stated, with_row, edited, set_all, set_in, set_value_of, update}
use Rattle.lq_model.specs.Kinds.{kind_in, default_value, is_wide, is_wrong, value_in}
use Rattle.lq_model.specs.Sound.{IsSound, default_fits}
use Rattle.lq_model.specs.Step.{step}
use Rattle.lq_model.specs.Truth.{takes}
use Rattle.lq_model.specs.declared.caller.By.{By}
use Rattle.lq_model.specs.declared.column.Column.{Column}
use Rattle.lq_model.specs.declared.statement.Statement.TheVariants.{Delete, Insert, Update}
use Rattle.lq_model.specs.declared.test.Test.{Test}
use Rattle.lq_model.proofs.Decide.{accepted, here}
use Rattle.lq_model.proofs.IntoKind.{into_fits}
use Rattle.lq_model.proofs.Kept.{kept_rows, same_apart}
use Rattle.lq_model.proofs.Lists.{all-map, all_more, all_one_more, and_left, and_right, and_true, or_left, or_right}
use Rattle.lq_model.proofs.Mapped.{mapped_rows, with_rows}
use Rattle.lq_model.proofs.Shaped.{IsShaped, keeps, shape_of}

-- INSERT

cell_fits : (next : ℕ) (ns : List Name) (ls : List Literal) (c : Column) → default_fits c ≡ true → is_wrong (cell next ns ls c) ≡ false → is_wide (cell next ns ls c) ≡ false → is_value_of c.kind (value_in (cell next ns ls c)) ≡ true
cell_fits next [] ls c fit p q =
    elim c.numbered as (λ b. is_wrong (cond b (into_kind (literal.Int (pos next)) c.kind) (Ok (default_value c))) ≡ false → is_wide (cond b (into_kind (literal.Int (pos next)) c.kind) (Ok (default_value c))) ≡ false → is_value_of c.kind (value_in (cond b (into_kind (literal.Int (pos next)) c.kind) (Ok (default_value c)))) ≡ true) [
      | true ↦ λ h w. into_fits (literal.Int (pos next)) c.kind h w
      | false ↦ λ h w. fit
    ] p q
cell_fits next (n ∷ ns) [] c fit p q = fit
cell_fits next (n ∷ ns) (l ∷ ls) c fit p q =
    elim (is_named c.name n) as (λ b. is_wrong (cond b (into_kind l c.kind) (cell next ns ls c)) ≡ false → is_wide (cond b (into_kind l c.kind) (cell next ns ls c)) ≡ false → is_value_of c.kind (value_in (cond b (into_kind l c.kind) (cell next ns ls c))) ≡ true) [
      | true ↦ λ h w. into_fits l c.kind h w
      | false ↦ λ h w. cell_fits next ns ls c fit h w
    ] p q

cells_fit : (next : ℕ) (ns : List Name) (ls : List Literal) (cs : List Column) → list_all default_fits cs ≡ true → list_any is_wrong (map (cell next ns ls) cs) ≡ false → list_any is_wide (map (cell next ns ls) cs) ≡ false → row_fits cs (map value_in (map (cell next ns ls) cs)) ≡ true
cells_fit next ns ls [] fit p q = refl
cells_fit next ns ls (c ∷ cs) fit p q = and_true _ _
    (cell_fits next ns ls c (and_left (default_fits c) _ fit) (or_left (is_wrong (cell next ns ls c)) _ p) (or_left (is_wide (cell next ns ls c)) _ q))
    (cells_fit next ns ls cs (and_right (default_fits c) _ fit) (or_right (is_wrong (cell next ns ls c)) _ p) (or_right (is_wide (cell next ns ls c)) _ q))

pub insert_keeps : (by : By) (d : Dialect) (t : Name) (ns : List Name) (ls : List Literal) (c e : Catalogue) (k : ℕ) → IsSound d c → step by d (Insert t ns ls) c ≡ Ok (e, k) → IsSound d e
insert_keeps by d t ns ls c e k sound made =
    let it = the_table c t in
    let names = stated it ns in
    let p = insert by d t ns ls c in
    let ok = accepted p e k made in
    let there = here c t (or_left _ _ ok.missing) in
    let fine = sound.tables t it there in
    let row = map value_in (row_of names ls it) in
    let new = with_row d names ls it in
    keeps d p e k made (kept_rows d c t new (shape_of d c sound) there refl refl (same_apart d c t new there refl refl sound.apart)
    (with_rows d it new.rows new.next fine (all_one_more (row_fits it.columns) it.rows row fine.rows (cells_fit it.next names ls it.columns fine.defaults (or_right _ _ ok.wrong) ok.wide))))

-- UPDATE

set_fits : (n : Name) (w : Value) (cs : List Column) (row : List Value) → is_value_of (kind_in n cs) w ≡ true → row_fits cs row ≡ true → row_fits cs (set_in n w cs row) ≡ true
set_fits n w [] row fit h = h
set_fits n w (c ∷ cs) [] fit h = h
set_fits n w (c ∷ cs) (x ∷ row) fit h =
    elim (is_named n c.name) as (λ b. is_value_of (cond b c.kind (kind_in n cs)) w ≡ true → row_fits (c ∷ cs) (cond b (w ∷ row) (x ∷ set_in n w cs row)) ≡ true) [
      | true ↦ λ f. and_true _ _ f (and_right (is_value_of c.kind x) _ h)
      | false ↦ λ f. and_true _ _ (and_left (is_value_of c.kind x) _ h) (set_fits n w cs row f (and_right (is_value_of c.kind x) _ h))
    ] fit

sets_fit : (ss : List (Name × Literal)) (cs : List Column) (row : List Value) → list_any (λ s. is_wrong (set_value_of cs s)) ss ≡ false → list_any (λ s. is_wide (set_value_of cs s)) ss ≡ false → row_fits cs row ≡ true → row_fits cs (set_all ss cs row) ≡ true
sets_fit [] cs row p q h = h
sets_fit (s ∷ ss) cs row p q h = sets_fit ss cs _ (or_right (is_wrong (set_value_of cs s)) _ p) (or_right (is_wide (set_value_of cs s)) _ q)
    (set_fits s.0 _ cs row (into_fits s.1 (kind_in s.0 cs) (or_left (is_wrong (set_value_of cs s)) _ p) (or_left (is_wide (set_value_of cs s)) _ q)) h)

pub update_keeps : (by : By) (d : Dialect) (t : Name) (sets : List (Name × Literal)) (test : Option Test) (c e : Catalogue) (k : ℕ) → IsSound d c → step by d (Update t sets test) c ≡ Ok (e, k) → IsSound d e
update_keeps by d t sets test c e k sound made =
    let it = the_table c t in
    let p = update by d t sets test c in
    let ok = accepted p e k made in
    let there = here c t (or_left _ _ ok.missing) in
    let new = edited sets test it in
    let fine = sound.tables t it there in
    let fit : list_all (row_fits it.columns) new.rows ≡ true =
    all-map (row_fits it.columns) _ it.rows ∙ all_more (row_fits it.columns) _ it.rows (λ r h. elim (takes test it.columns r) as (λ b. row_fits it.columns (cond b (set_all sets it.columns r) r) ≡ true) [
      | true ↦ sets_fit sets it.columns r (or_left _ _ ok.wrong) ok.wide h
      | false ↦ h
    ]) fine.rows in
    keeps d p e k made (kept_rows d c t new (shape_of d c sound) there refl refl (same_apart d c t new there refl refl sound.apart) (with_rows d it new.rows it.next fine fit))

-- DELETE

pub all_filtered : {A : Type 0} (p q : A → Bool) (xs : List A) → list_all p xs ≡ true → list_all p (filter q xs) ≡ true
all_filtered p q [] h = refl
all_filtered p q (x ∷ xs) h = elim (q x) as (λ b. list_all p (cond b (x ∷ filter q xs) (filter q xs)) ≡ true) [
  | true ↦ and_true _ _ (and_left (p x) _ h) (all_filtered p q xs (and_right (p x) _ h))
  | false ↦ all_filtered p q xs (and_right (p x) _ h)
]

round_shaped : (d : Dialect) (c : Catalogue) → IsShaped d c → IsShaped d (without_lost c)
round_shaped d c shape = mapped_rows d c (λ it. filter (λ r. not (is_lost c it r)) it.rows) (λ it h. all_filtered (row_fits it.columns) _ it.rows h) shape

cascade_shaped : (d : Dialect) (n : ℕ) (c : Catalogue) → IsShaped d c → IsShaped d (cascaded n c)
cascade_shaped d zero c shape = shape
cascade_shaped d (suc n) c shape = cascade_shaped d n (without_lost c) (round_shaped d c shape)

pub delete_keeps : (by : By) (d : Dialect) (t : Name) (test : Option Test) (c e : Catalogue) (k : ℕ) → IsSound d c → step by d (Delete t test) c ≡ Ok (e, k) → IsSound d e
delete_keeps by d t test c e k sound made =
    let it = the_table c t in
    let p = delete by d t test c in
    let ok = accepted p e k made in
    let there = here c t (or_left _ _ ok.missing) in
    let new = without_taken test it in
    let fine = sound.tables t it there in
    keeps d p e k made (cascade_shaped d (row_count c) (with_table c t new) (kept_rows d c t new (shape_of d c sound) there refl refl (same_apart d c t new there refl refl sound.apart)
    (with_rows d it new.rows it.next fine (all_filtered (row_fits it.columns) _ it.rows fine.rows))))
