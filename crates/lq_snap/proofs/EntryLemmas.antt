-- Entries written one by one.
use Rattle.std.proofs.Common.{◌≡◌, ◌&&◌, ◌++◌, ◌∷◌, ℕ, suc, Bool, true, false, List, [], length, refl, sym, ◌∙◌, ap, subst}
use Rattle.std.proofs.lemmas.List.{append_assoc}
use Rattle.std.specs.List.{list_all}
use Rattle.lq_base.specs.declared.name.Name.{Name}
use Rattle.lq_model.specs.Catalogue.{Catalogue, Sequence, Table, View}
use Rattle.lq_parts.specs.Steps.{Entries, tables_of}
use Rattle.lq_rows.specs.Stored.{Stored}
use Rattle.lq_codec.specs.Codec.{both, counted, write_each}
use Rattle.lq_codec.specs.Tables.{bytes_of, can_be_written, catalogue_codec, sequence_codec, view_codec, table_codec}
use Rattle.lq_codec.specs.State.{OnTrue, free, if_both}
use Rattle.lq_codec.specs.Words.{count, name}
use Rattle.lq_coded.proofs.Each as each
use Rattle.lq_codec.proofs.Laws.{both_true}
use Rattle.lq_state.specs.Shaped.{is_shaped, is_shaped_view, is_shaped_whole}
use Rattle.lq_state.proofs.ShapedLemmas.{state_written}

-- the table of an entry
abbrev pub shown : Name × Stored → Name × Table
shown e = (e.0, e.1.now)

pub table_written : (rest more : Entries) (e : Name × Stored) (before after goal : List ℕ) → rest ≡ e ∷ more → after ≡ before ++ (both name table_codec).write (shown e) → before ++ write_each (both name table_codec) (tables_of rest) ≡ goal → after ++ write_each (both name table_codec) (tables_of more) ≡ goal
table_written rest more e before after goal is wrote all =
    each.one_written (both name table_codec) (tables_of rest) (tables_of more) (shown e) before after goal (ap tables_of is) wrote all

pub tables_written : (rest : Entries) (now goal : List ℕ) → rest ≡ [] → now ++ write_each (both name table_codec) (tables_of rest) ≡ goal → now ≡ goal
tables_written rest now goal is all = each.all_written (both name table_codec) (tables_of rest) now goal (ap tables_of is) all

abbrev pub TablesFit : Entries → Type 0
TablesFit es = each.AreFit (if_both free is_shaped) (both name table_codec).ok (tables_of es)

pub table_entry_fits : (rest more whole : Entries) (e : Name × Stored) → rest ≡ e ∷ more → OnTrue (is_shaped e.1.now) ((both name table_codec).ok (shown e) ≡ true) → (TablesFit rest → TablesFit whole) → TablesFit more → TablesFit whole
table_entry_fits rest more whole e is fits all those =
    each.one_fits (if_both free is_shaped) (both name table_codec).ok (tables_of rest) (tables_of more) (tables_of whole) (shown e) (ap tables_of is) fits all those

pub tables_fit : (rest whole : Entries) → rest ≡ [] → (TablesFit rest → TablesFit whole) → TablesFit whole
tables_fit rest whole is all = each.all_fit (if_both free is_shaped) (both name table_codec).ok (tables_of rest) (tables_of whole) (ap tables_of is) all

-- where the second of two has a limit
pub second_fits : (p a b : Bool) → a ≡ true → OnTrue p (b ≡ true) → OnTrue p (a && b ≡ true)
second_fits true a b x y = both_true a b x y
second_fits false a b x y = tt

-- where there is no limit
pub next_fits : {A : Type 0} (ok : A → Bool) (rest more whole : List A) (x : A) → rest ≡ x ∷ more → ok x ≡ true → (list_all ok rest ≡ true → list_all ok whole ≡ true) → list_all ok more ≡ true → list_all ok whole ≡ true
next_fits ok rest more whole x is fits all those =
    all (ap (λ (l : List _). list_all ok l) is ∙ both_true (ok x) (list_all ok more) fits those)

pub all_fit : {A : Type 0} (ok : A → Bool) (rest whole : List A) → rest ≡ [] → (list_all ok rest ≡ true → list_all ok whole ≡ true) → list_all ok whole ≡ true
all_fit ok rest whole is all = all (ap (λ (l : List _). list_all ok l) is)

-- their count before them
as_many : (es : Entries) → length (tables_of es) ≡ length es
as_many [] = refl
as_many (e ∷ es) = ap (λ n. suc n) (as_many es)

pub tables_counted : (es : Entries) (many : ℕ) (n n1 n2 : List ℕ) → n1 ≡ n ++ count.write many → n2 ≡ n1 ++ write_each (both name table_codec) (tables_of es)
    → many ≡ length es → n2 ≡ n ++ (counted count (both name table_codec)).write (tables_of es)
tables_counted es many n n1 n2 first second same =
    second
    ∙ ap (λ (l : List ℕ). l ++ write_each (both name table_codec) (tables_of es)) (first ∙ ap (λ (m : ℕ). n ++ count.write m) (same ∙ sym (as_many es)))
    ∙ append_assoc n (count.write (length (tables_of es))) (write_each (both name table_codec) (tables_of es))

pub tables_ok : (es : Entries) (many : ℕ) → count.ok many ≡ true → TablesFit es → many ≡ length es
    → OnTrue (list_all (if_both free is_shaped) (tables_of es)) ((counted count (both name table_codec)).ok (tables_of es) ≡ true)
tables_ok es many few fit same =
    each.list_fits (list_all (if_both free is_shaped) (tables_of es)) (count.ok (length (tables_of es))) (list_all (both name table_codec).ok (tables_of es))
    (ap (λ (m : ℕ). count.ok m) (as_many es ∙ sym same) ∙ few) fit

-- the whole of a catalogue, list after list
pub parts_written : (c : Catalogue) (es : Entries) (vs : List (Name × View)) (ss : List (Name × Sequence)) (n n1 n2 n3 : List ℕ)
    → n ≡ [] → tables_of es ≡ c.tables → vs ≡ c.views → ss ≡ c.sequences
    → n1 ≡ n ++ (counted count (both name table_codec)).write (tables_of es)
    → n2 ≡ n1 ++ (counted count (both name view_codec)).write vs
    → n3 ≡ n2 ++ (counted count (both name sequence_codec)).write ss
    → n3 ≡ bytes_of c
unfolding bytes_of
parts_written c es vs ss n n1 n2 n3 none tables views sequences first second third =
    state_written c n n1 n2 n3
    (first ∙ ap (λ (l : List (Name × Table)). n ++ (counted count (both name table_codec)).write l) tables)
    (second ∙ ap (λ (l : List (Name × View)). n1 ++ (counted count (both name view_codec)).write l) views)
    (third ∙ ap (λ (l : List (Name × Sequence)). n2 ++ (counted count (both name sequence_codec)).write l) sequences)
    ∙ ap (λ (l : List ℕ). l ++ catalogue_codec.write c) none

-- two with limits, and a third without
whole_fits : (p q a b c : Bool) → OnTrue p (a ≡ true) → OnTrue q (b ≡ true) → c ≡ true → OnTrue (p && q) (a && (b && c) ≡ true)
whole_fits true true a b c x y z = both_true a (b && c) x (both_true b c y z)
whole_fits true false a b c x y z = tt
whole_fits false q a b c x y z = tt

pub parts_fit : (c : Catalogue) (es : Entries) (vs : List (Name × View)) (ss : List (Name × Sequence))
    → tables_of es ≡ c.tables → vs ≡ c.views → ss ≡ c.sequences
    → OnTrue (list_all (if_both free is_shaped) (tables_of es)) ((counted count (both name table_codec)).ok (tables_of es) ≡ true)
    → OnTrue (list_all (if_both free is_shaped_view) vs) ((counted count (both name view_codec)).ok vs ≡ true)
    → (counted count (both name sequence_codec)).ok ss ≡ true
    → OnTrue (is_shaped_whole c) (can_be_written c ≡ true)
unfolding can_be_written
parts_fit c es vs ss tables views sequences first second third =
    let ok_tables = (counted count (both name table_codec)).ok in
    let ok_views = (counted count (both name view_codec)).ok in
    let ok_sequences = (counted count (both name sequence_codec)).ok in
    whole_fits (list_all (if_both free is_shaped) c.tables) (list_all (if_both free is_shaped_view) c.views) (ok_tables c.tables) (ok_views c.views) (ok_sequences c.sequences)
    (subst (λ (l : List (Name × Table)). OnTrue (list_all (if_both free is_shaped) l) (ok_tables l ≡ true)) tables first)
    (subst (λ (l : List (Name × View)). OnTrue (list_all (if_both free is_shaped_view) l) (ok_views l ≡ true)) views second)
    (subst (λ (l : List (Name × Sequence)). ok_sequences l ≡ true) sequences third)
