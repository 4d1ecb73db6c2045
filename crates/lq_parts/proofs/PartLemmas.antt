-- Lemmas on the record of what each change was of.
use Rattle.std.proofs.Common.{Bool, List, [], ap, false, is_some, length, map, refl, reverse, suc, sym, true, ◌++◌, ◌∙◌, ◌||◌, ◌∷◌, ◌≡◌}
use Rattle.std.proofs.lemmas.List.{length-reverse, reverse-append}
use Rattle.std.specs.List.{flat_map}
use Rattle.lq_base.specs.Name.{is_named}
use Rattle.lq_base.specs.declared.name.Name.{Name}
use Rattle.lq_model.specs.Catalogue.{Catalogue, sequence_of, table_of, view_of, is_in}
use Rattle.lq_model.specs.NameSpaces.{names_inside, object_names, shared_names}
use Rattle.lq_model.proofs.Lists.{any-append}
use Rattle.lq_model.proofs.Maps.{found}
use Rattle.lq_parts.specs.Taken.{Kept, one_back, past_catalogues}
use Rattle.lq_parts.specs.declared.part.Part.{Part}

-- what is recorded last is the newest
pub newest_first : (p : Part) (ps : List Part) → reverse (ps ++ p ∷ []) ≡ p ∷ reverse ps
newest_first p ps = reverse-append ps (p ∷ [])

length-past : (k : Kept) (ps : List Part) → length (past_catalogues k ps) ≡ length ps
length-past k [] = refl
length-past k (p ∷ ps) = ap suc (length-past (one_back p k) ps)

-- there is a catalogue for each change that is recorded
pub length_past : (k : Kept) (ps : List Part) → length (past_catalogues k (reverse ps)) ≡ length ps
length_past k ps = length-past k (reverse ps) ∙ length-reverse ps

-- names that are taken

regrouped : (a b c : Bool) → (a || (b || c)) ≡ ((a || b) || c)
regrouped true b c = refl
regrouped false b c = refl

pub object_is : (n : Name) (c : Catalogue) → is_in n (object_names c) ≡ ((is_some (table_of c n) || is_some (view_of c n)) || is_some (sequence_of c n))
object_is n c =
    any-append (is_named n) (map (λ e. e.0) c.tables) (map (λ e. e.0) c.views ++ map (λ e. e.0) c.sequences)
    ∙ ap (λ b. is_in n (map (λ e. e.0) c.tables) || b) (any-append (is_named n) (map (λ e. e.0) c.views) (map (λ e. e.0) c.sequences))
    ∙ ap (λ b. b || (is_in n (map (λ e. e.0) c.views) || is_in n (map (λ e. e.0) c.sequences))) (found n c.tables)
    ∙ ap (λ b. is_some (table_of c n) || (b || is_in n (map (λ e. e.0) c.sequences))) (found n c.views)
    ∙ ap (λ b. is_some (table_of c n) || (is_some (view_of c n) || b)) (found n c.sequences)
    ∙ regrouped (is_some (table_of c n)) (is_some (view_of c n)) (is_some (sequence_of c n))

pub shared_is : (c : Catalogue) (n : Name) → (is_in n (object_names c) || is_in n (flat_map names_inside c.tables)) ≡ is_in n (shared_names c)
shared_is c n = sym (any-append (is_named n) (object_names c) (flat_map names_inside c.tables))
