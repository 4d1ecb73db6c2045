-- Lemmas on the record of changes of the tables.
use Rattle.std.proofs.Common.{Bool, List, None, Option, Some, [], ap, arith, Bor, cond, false, is_some, length, refl, reverse, slice_get, slice_index_or, slice_set, subst, suc, sym, true, unwrap_or, zero, ℕ, ◌++◌, ◌∙◌, ◌∷◌, ◌≡◌, ◌≤◌, ◌<◌}
use Rattle.std.proofs.lemmas.List.{reverse-append}
use Rattle.std.specs.BTreeMap.{insert_entry}
use Rattle.std.specs.List.{insert, remove}
use Rattle.std.specs.Map.{lookup, remove_entry, set_value}
use Rattle.std.specs.Option.{option_copied, option_map}
use Rattle.lq_base.specs.Name.{is_named, name_cmp}
use Rattle.lq_base.specs.declared.name.Name.{Name}
use Rattle.lq_base.specs.declared.value.Value.{Value}
use Rattle.lq_chain.specs.History.{changed, marked, undone_to}
use Rattle.lq_chain.proofs.HistoryLemmas.{undone_to-changed, undone_to-marked}
use Rattle.lq_model.specs.Catalogue.{no_table}
use Rattle.lq_model.proofs.Maps.{lookup-remove_entry, lookup-values}
use Rattle.lq_parts.specs.Taken.{IsOrdered, place_of, position_of}
use Rattle.lq_parts.specs.Steps.{CanUndo, Entries, HasMark, HasPlace, before, edit_at, past_tables, tables_of}
use Rattle.lq_parts.specs.declared.step.Step.{Step}
use Rattle.lq_parts.specs.declared.step.Step.TheVariants.{Put, Renamed, Rows, Shaped, Taken}
use Rattle.lq_parts.proofs.EntryLemmas.{at_position, insert-remove, insert_at_place, insert_values, longer, ordered_less, ordered_put, remove-insert, remove_at, remove_values, set_at, set_values, shorter, within}
use Rattle.lq_rows.specs.Stored.{Stored, reshaped, rows_of, shape_of, with_rows}
use Rattle.lq_rows.specs.declared.shape.Shape.{Shape}

-- more room serves as well
pub undo_with_more : (room more : ℕ) (es : Entries) (ss : List Step) → room ≤ more → CanUndo room es ss → CanUndo more es ss
undo_with_more room more es [] le can = tt
undo_with_more room more es (s ∷ ss) le can = (can.0, omega (arith, le, can.1), can.2, undo_with_more room more (before s es) ss le can.3)

-- what is recorded last is the newest
pub newest_first : (s : Step) (ss : List Step) → reverse (ss ++ s ∷ []) ≡ s ∷ reverse ss
newest_first s ss = reverse-append ss (s ∷ [])

-- the entries after a change that can be undone

pub step_undone : (room more : ℕ) (es new : Entries) (s : Step) (ss : List Step) → before s new ≡ es → HasPlace s new → room ≤ more → length es ≤ more → IsOrdered es → CanUndo room es ss → CanUndo more new (s ∷ ss)
step_undone room more es new s ss e place le fits order can =
    (place, subst (λ o. length o ≤ more) (sym e) fits, subst IsOrdered (sym e) order, subst (λ o. CanUndo more o ss) (sym e) (undo_with_more room more es ss le can))

pub step_past : (es new : Entries) (s : Step) (ss : List Step) → before s new ≡ es → past_tables new (s ∷ ss) ≡ tables_of es ∷ past_tables es ss
step_past es new s ss e = ap (λ o. tables_of o ∷ past_tables o ss) e

-- a table that is there, and its entry

option_shown : (o : Option Stored) → is_some (option_map (λ (held : Stored). held.now) o) ≡ is_some o
option_shown None = refl
option_shown (Some x) = refl

shown_none : (o : Option Stored) → option_map (λ (held : Stored). held.now) o ≡ None → o ≡ None
shown_none None e = refl
shown_none (Some x) e = absurd (Prim.cc e)

pub table_there : (k : Name) (es : Entries) → is_some (lookup (is_named k) (tables_of es)) ≡ true → is_some (lookup (is_named k) es) ≡ true
table_there k es some = sym (option_shown (lookup (is_named k) es)) ∙ ap is_some (sym (lookup-values (is_named k) (λ held. held.now) es)) ∙ some

pub table_absent : (k : Name) (es : Entries) → lookup (is_named k) (tables_of es) ≡ None → lookup (is_named k) es ≡ None
table_absent k es none = shown_none _ (sym (lookup-values (is_named k) (λ held. held.now) es) ∙ none)

pub table_is : (k : Name) (es : Entries) (x : Name × Stored) → is_some (lookup (is_named k) (tables_of es)) ≡ true → x ≡ slice_index_or es (position_of k es) x → lookup (is_named k) (tables_of es) ≡ Some x.1.now
table_is k es x some is = lookup-values (is_named k) (λ held. held.now) es ∙ ap (option_map (λ (held : Stored). held.now)) (at_position k es x (table_there k es some) is)

pub the_table_is : (k : Name) (es : Entries) (x : Name × Stored) → is_some (lookup (is_named k) (tables_of es)) ≡ true → x ≡ slice_index_or es (position_of k es) x → unwrap_or (lookup (is_named k) (tables_of es)) no_table ≡ x.1.now
the_table_is k es x some is = ap (λ o. unwrap_or o no_table) (table_is k es x some is)

-- a table put in its place

pub put_tables : (k : Name) (x : Stored) (es : Entries) → lookup (is_named k) (tables_of es) ≡ None → tables_of (insert es (place_of k es) (k, x)) ≡ insert_entry name_cmp (tables_of es) k x.now
put_tables k x es none = ap tables_of (insert_at_place k x es (table_absent k es none)) ∙ insert_values (λ held. held.now) es k x

pub put_back : (k : Name) (x : Stored) (es : Entries) → before (Put (place_of k es)) (insert es (place_of k es) (k, x)) ≡ es
put_back k x es = remove-insert es (place_of k es) (k, x) (within _ es)

pub put_place : (k : Name) (x : Stored) (es : Entries) → HasPlace (Put (place_of k es)) (insert es (place_of k es) (k, x))
put_place k x es =
    let place : place_of k es ≤ length es = within _ es in
    let long = longer es (place_of k es) (k, x) place in
    omega (arith, place, long)

pub put_ordered : (k : Name) (x : Stored) (es : Entries) → lookup (is_named k) (tables_of es) ≡ None → IsOrdered es → IsOrdered (insert es (place_of k es) (k, x))
put_ordered k x es none order = ordered_put k x es (table_absent k es none) order

-- a table taken away

pub take_tables : (k : Name) (es : Entries) → tables_of (remove es (position_of k es)) ≡ remove_entry (is_named k) (tables_of es)
take_tables k es = ap tables_of (remove_at k es) ∙ remove_values (λ held. held.now) es k

pub take_back : (at : ℕ) (e : Name × Stored) (es : Entries) → at < length es → e ≡ slice_index_or es at e → before (Taken at e.0 e.1) (remove es at) ≡ es
take_back at e es less is = insert-remove es at e less is

pub take_place : (at : ℕ) (e : Name × Stored) (es : Entries) → at < length es → HasPlace (Taken at e.0 e.1) (remove es at)
take_place at e es less = let short = shorter es at less in omega (arith, less, short)

-- a table changed

pub set_tables : (k : Name) (es : Entries) (x : Name × Stored) (y : Stored) → x ≡ slice_index_or es (position_of k es) x → tables_of (slice_set es (position_of k es) (x.0, y)) ≡ set_value (is_named k) (tables_of es) y.now
set_tables k es x y is = ap tables_of (set_at k es x y is) ∙ set_values (λ held. held.now) es k y

-- a change of the item at a place
pub set_edited : {A : Type 0} (xs : List A) (at : ℕ) (f : A → A) (x y : A) → x ≡ slice_index_or xs at x → y ≡ f x → slice_set xs at y ≡ edit_at at f xs
set_edited [] at f x y e q = refl
set_edited (z ∷ xs) zero f x y e q = ap (λ w. w ∷ xs) (q ∙ ap f e)
set_edited (z ∷ xs) (suc at) f x y e q = ap (λ ws. z ∷ ws) (set_edited xs at f x y e q)

edit_back : {A : Type 0} (xs : List A) (at : ℕ) (f : A → A) (x y : A) → x ≡ slice_index_or xs at x → f y ≡ x → edit_at at f (slice_set xs at y) ≡ xs
edit_back [] at f x y is e = refl
edit_back (z ∷ xs) zero f x y is e = ap (λ w. w ∷ xs) (e ∙ is)
edit_back (z ∷ xs) (suc at) f x y is e = ap (λ ws. z ∷ ws) (edit_back xs at f x y is e)

get_set : {A : Type 0} (xs : List A) (at : ℕ) (y : A) → at < length xs → slice_get (slice_set xs at y) at ≡ Some y
get_set [] at y less = absurd (omega (arith, less))
get_set (z ∷ xs) zero y less = refl
get_set (z ∷ xs) (suc at) y less = get_set xs at y (omega (arith, less))

set_long : {A : Type 0} (xs : List A) (at : ℕ) (y : A) → length (slice_set xs at y) ≡ length xs
set_long [] at y = refl
set_long (z ∷ xs) zero y = refl
set_long (z ∷ xs) (suc at) y = ap suc (set_long xs at y)

gone_back : (x new : Stored) (rows : List (List Value)) (next : ℕ) → new ≡ with_rows (changed (rows_of x) rows) next x → with_rows (undone_to (rows_of new) (marked (rows_of x))) x.now.next new ≡ x
gone_back x new rows next is =
    let same : marked (rows_of x) ≤ marked (rows_of x) = omega arith in
    ap (λ n. with_rows (undone_to (rows_of n) (marked (rows_of x))) x.now.next n) is
    ∙ ap (λ h. with_rows h x.now.next (with_rows (changed (rows_of x) rows) next x)) (undone_to-changed (rows_of x) rows (marked (rows_of x)) same ∙ undone_to-marked (rows_of x))

pub rows_back : (es : Entries) (at : ℕ) (x : Name × Stored) (new : Stored) (rows : List (List Value)) (next : ℕ) → x ≡ slice_index_or es at x → new ≡ with_rows (changed (rows_of x.1) rows) next x.1
    → before (Rows at (marked (rows_of x.1)) x.1.now.next) (slice_set es at (x.0, new)) ≡ es
rows_back es at x new rows next is e = edit_back es at _ x (x.0, new) is (ap (λ y. (x.0, y)) (gone_back x.1 new rows next e))

pub rows_place : (es : Entries) (at mark was : ℕ) (x : Name × Stored) (new : Stored) (rows : List (List Value)) (next : ℕ) → at < length es → mark ≡ marked (rows_of x.1) → new ≡ with_rows (changed (rows_of x.1) rows) next x.1
    → HasPlace (Rows at mark was) (slice_set es at (x.0, new))
rows_place es at mark was x new rows next less is e =
    let long = set_long es at (x.0, new) in
    let more : marked (rows_of x.1) ≤ suc (marked (rows_of x.1)) = omega arith in
    (omega (arith, less, long), rw (HasMark, get_set es at (x.0, new) less) (subst (λ m. m ≤ marked (rows_of new)) (sym is) (subst (λ (n : Stored). marked (rows_of x.1) ≤ marked (rows_of n)) (sym e) more)))

pub shape_back : (es : Entries) (at : ℕ) (x : Name × Stored) (new : Stored) (shape old : Shape) → x ≡ slice_index_or es at x → new ≡ reshaped shape x.1 → old ≡ shape_of x.1.now → before (Shaped at old) (slice_set es at (x.0, new)) ≡ es
shape_back es at x new shape old is e was =
    edit_back es at _ x (x.0, new) is (ap (λ y. (x.0, y)) (ap (λ n. reshaped old n) e ∙ ap (λ s. reshaped s (reshaped shape x.1)) was))

pub shape_place : (es : Entries) (at : ℕ) (y : Name × Stored) (old : Shape) → at < length es → HasPlace (Shaped at old) (slice_set es at y)
shape_place es at y old less = let long = set_long es at y in omega (arith, less, long)

pub set_same : (es : Entries) (at : ℕ) (x : Name × Stored) (y : Stored) → x ≡ slice_index_or es at x → y.now ≡ x.1.now → tables_of (slice_set es at (x.0, y)) ≡ tables_of es
set_same [] at x y is same = refl
set_same (e ∷ es) zero x y is same = ap (λ t. (x.0, t) ∷ tables_of es) same ∙ ap (λ (z : Name × Stored). (z.0, z.1.now) ∷ tables_of es) is
set_same (e ∷ es) (suc at) x y is same = ap (λ ts. (e.0, e.1.now) ∷ ts) (set_same es at x y is same)

-- a table under another name

get_insert : {A : Type 0} (xs : List A) (at : ℕ) (x : A) → at ≤ length xs → slice_get (insert xs at x) at ≡ Some x
get_insert xs zero x le = refl
get_insert [] (suc at) x le = absurd (omega (arith, le))
get_insert (y ∷ xs) (suc at) x le = get_insert xs at x (omega (arith, le))

pub rename_back : (es : Entries) (from at : ℕ) (e : Name × Stored) (to : Name) → from < length es → e ≡ slice_index_or es from e → at ≤ length (remove es from) → before (Renamed at from e.0) (insert (remove es from) at (to, e.1)) ≡ es
rename_back es from at e to less is le =
    let new = insert (remove es from) at (to, e.1) in
    ap (λ (o : Option (Name × Stored)). elim o [ Some x ↦ insert (remove new at) from (e.0, x.1) | None ↦ new ]) (get_insert (remove es from) at (to, e.1) le)
    ∙ ap (λ xs. insert xs from e) (remove-insert (remove es from) at (to, e.1) le)
    ∙ insert-remove es from e less is

pub rename_place : (es : Entries) (from at : ℕ) (name : Name) (y : Name × Stored) → from < length es → at ≤ length (remove es from) → HasPlace (Renamed at from name) (insert (remove es from) at y)
rename_place es from at name y less le =
    let short = shorter es from less in
    let long = longer (remove es from) at y le in
    (omega (arith, le, long), omega (arith, less, short, long))

still_absent : (k to : Name) (es : Entries) → IsOrdered es → lookup (is_named to) es ≡ None → lookup (is_named to) (remove es (position_of k es)) ≡ None
still_absent k to es order none =
    ap (lookup (is_named to)) (remove_at k es) ∙ lookup-remove_entry k es to order ∙ ap (cond (is_named k to) None) none ∙ neither (is_named k to) where
      neither : (b : Bool) → (let o : Option Stored = None in cond b None o) ≡ None
      neither true = refl
      neither false = refl

pub rename_tables : (k to : Name) (es : Entries) (e : Name × Stored) → IsOrdered es → is_some (lookup (is_named k) (tables_of es)) ≡ true → lookup (is_named to) (tables_of es) ≡ None → e ≡ slice_index_or es (position_of k es) e
    → tables_of (insert (remove es (position_of k es)) (place_of to (remove es (position_of k es))) (to, e.1)) ≡ insert_entry name_cmp (remove_entry (is_named k) (tables_of es)) to (unwrap_or (lookup (is_named k) (tables_of es)) no_table)
rename_tables k to es e order some none is =
    ap tables_of (insert_at_place to e.1 (remove es (position_of k es)) (still_absent k to es order (table_absent to es none)))
    ∙ insert_values (λ held. held.now) (remove es (position_of k es)) to e.1
    ∙ ap (λ ts. insert_entry name_cmp ts to e.1.now) (take_tables k es)
    ∙ ap (insert_entry name_cmp (remove_entry (is_named k) (tables_of es)) to) (sym (the_table_is k es e some is))

pub rename_ordered : (k to : Name) (es : Entries) (x : Stored) → IsOrdered es → lookup (is_named to) (tables_of es) ≡ None → IsOrdered (insert (remove es (position_of k es)) (place_of to (remove es (position_of k es))) (to, x))
rename_ordered k to es x order none = ordered_put to x (remove es (position_of k es)) (still_absent k to es order (table_absent to es none)) (ordered_less k es order)

pub within_rest : (k to : Name) (es : Entries) → place_of to (remove es (position_of k es)) ≤ length (remove es (position_of k es))
within_rest k to es = within _ (remove es (position_of k es))

-- a table that is found

copied_shown : (o : Option (Bor Stored)) → option_map (λ (held : Bor Stored). held.now.now) o ≡ option_map (λ (held : Stored). held.now) (option_copied o)
copied_shown None = refl
copied_shown (Some x) = refl

pub table_found : (k : Name) (es : Entries) (found : Option (Bor Stored)) → option_copied found ≡ lookup (is_named k) es → option_map (λ (held : Bor Stored). held.now.now) found ≡ lookup (is_named k) (tables_of es)
table_found k es found is = copied_shown found ∙ ap (option_map (λ (held : Stored). held.now)) is ∙ sym (lookup-values (is_named k) (λ held. held.now) es)
