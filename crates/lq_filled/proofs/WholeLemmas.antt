-- Objects that are popped in the order of their names go behind those of a catalogue.
use Rattle.std.proofs.Common.{◌≡◌, ◌&&◌, ◌++◌, ◌∷◌, true, List, [], reverse, sym, ◌∙◌, ap}
use Rattle.std.specs.FinMap.Entries.{is_sorted}
use Rattle.lq_base.specs.Name.{name_cmp}
use Rattle.lq_base.specs.declared.name.Name.{Name}
use Rattle.lq_codec.specs.State.{are_in_order}
use Rattle.lq_model.specs.Catalogue.{Catalogue, Sequence, Table, View, with_new, with_sequence, with_view}
use Rattle.lq_model.proofs.Lists.{and_left, and_right}
use Rattle.lq_filled.specs.With.{with_sequences, with_tables, with_views}
use Rattle.lq_filled.proofs.Behind.{all_moved, next_behind, next_sorted}

-- tables
pub table_fits : (c now : Catalogue) (left old : List (Name × Table)) (n : Name) (x : Table) → old ≡ left ++ (n, x) ∷ [] → now ≡ with_new c n x
    → is_sorted name_cmp (c.tables ++ reverse old) ≡ true → is_sorted name_cmp (now.tables ++ reverse left) ≡ true
table_fits c now left old n x is put sorted =
    ap (λ (k : Catalogue). is_sorted name_cmp (k.tables ++ reverse left)) put ∙ next_sorted c.tables left old n x is sorted

pub table_goes : (c now goal : Catalogue) (left old : List (Name × Table)) (n : Name) (x : Table) → old ≡ left ++ (n, x) ∷ [] → now ≡ with_new c n x
    → is_sorted name_cmp (c.tables ++ reverse old) ≡ true → with_tables (c.tables ++ reverse old) c ≡ goal
    → with_tables (now.tables ++ reverse left) now ≡ goal
table_goes c now goal left old n x is put sorted all =
    ap (λ (k : Catalogue). with_tables (k.tables ++ reverse left) k) put
    ∙ ap (λ (l : List (Name × Table)). with_tables l c) (next_behind c.tables left old n x is sorted)
    ∙ all

pub tables_are : (c goal : Catalogue) (left : List (Name × Table)) → left ≡ [] → with_tables (c.tables ++ reverse left) c ≡ goal → c ≡ goal
tables_are c goal left is all = ap (λ (l : List (Name × Table)). with_tables l c) (sym (all_moved c.tables left is)) ∙ all

-- views
pub view_fits : (c now : Catalogue) (left old : List (Name × View)) (n : Name) (x : View) → old ≡ left ++ (n, x) ∷ [] → now ≡ with_view c n x
    → is_sorted name_cmp (c.views ++ reverse old) ≡ true → is_sorted name_cmp (now.views ++ reverse left) ≡ true
view_fits c now left old n x is put sorted =
    ap (λ (k : Catalogue). is_sorted name_cmp (k.views ++ reverse left)) put ∙ next_sorted c.views left old n x is sorted

pub view_goes : (c now goal : Catalogue) (left old : List (Name × View)) (n : Name) (x : View) → old ≡ left ++ (n, x) ∷ [] → now ≡ with_view c n x
    → is_sorted name_cmp (c.views ++ reverse old) ≡ true → with_views (c.views ++ reverse old) c ≡ goal
    → with_views (now.views ++ reverse left) now ≡ goal
view_goes c now goal left old n x is put sorted all =
    ap (λ (k : Catalogue). with_views (k.views ++ reverse left) k) put
    ∙ ap (λ (l : List (Name × View)). with_views l c) (next_behind c.views left old n x is sorted)
    ∙ all

pub views_are : (c goal : Catalogue) (left : List (Name × View)) → left ≡ [] → with_views (c.views ++ reverse left) c ≡ goal → c ≡ goal
views_are c goal left is all = ap (λ (l : List (Name × View)). with_views l c) (sym (all_moved c.views left is)) ∙ all

-- sequences
pub sequence_fits : (c now : Catalogue) (left old : List (Name × Sequence)) (n : Name) (x : Sequence) → old ≡ left ++ (n, x) ∷ [] → now ≡ with_sequence c n x
    → is_sorted name_cmp (c.sequences ++ reverse old) ≡ true → is_sorted name_cmp (now.sequences ++ reverse left) ≡ true
sequence_fits c now left old n x is put sorted =
    ap (λ (k : Catalogue). is_sorted name_cmp (k.sequences ++ reverse left)) put ∙ next_sorted c.sequences left old n x is sorted

pub sequence_goes : (c now goal : Catalogue) (left old : List (Name × Sequence)) (n : Name) (x : Sequence) → old ≡ left ++ (n, x) ∷ [] → now ≡ with_sequence c n x
    → is_sorted name_cmp (c.sequences ++ reverse old) ≡ true → with_sequences (c.sequences ++ reverse old) c ≡ goal
    → with_sequences (now.sequences ++ reverse left) now ≡ goal
sequence_goes c now goal left old n x is put sorted all =
    ap (λ (k : Catalogue). with_sequences (k.sequences ++ reverse left) k) put
    ∙ ap (λ (l : List (Name × Sequence)). with_sequences l c) (next_behind c.sequences left old n x is sorted)
    ∙ all

pub sequences_are : (c goal : Catalogue) (left : List (Name × Sequence)) → left ≡ [] → with_sequences (c.sequences ++ reverse left) c ≡ goal → c ≡ goal
sequences_are c goal left is all = ap (λ (l : List (Name × Sequence)). with_sequences l c) (sym (all_moved c.sequences left is)) ∙ all

-- the whole, one sort after another
pub in_order : (ts : List (Name × Table)) (vs : List (Name × View)) (ss : List (Name × Sequence)) (c : Catalogue) → record { tables = ts; views = vs; sequences = ss } ≡ c → are_in_order c ≡ true
    → (is_sorted name_cmp ts ≡ true) × (is_sorted name_cmp vs ≡ true) × (is_sorted name_cmp ss ≡ true)
in_order ts vs ss c is sorted =
    let a = is_sorted name_cmp ts in
    let b = is_sorted name_cmp vs in
    let d = is_sorted name_cmp ss in
    let all : a && (b && d) ≡ true = ap are_in_order is ∙ sorted in
    let others : b && d ≡ true = and_right a (b && d) all in
    (and_left a (b && d) all, and_left b d others, and_right b d others)
