-- The lists of a table that have a column.
use Rattle.std.proofs.Common.{Bool, ap, false, map, refl, true, ◌∙◌, ◌||◌, ◌≡◌}
use Rattle.std.specs.List.{list_any}
use Rattle.lq_base.specs.declared.name.Name.{Name}
use Rattle.lq_model.specs.Catalogue.{is_in, Table, column_lists, key_list, target_lists}
use Rattle.lq_model.specs.declared.constraint.Key.{Key}
use Rattle.lq_model.specs.declared.constraint.Unique.{Unique}
use Rattle.lq_model.specs.declared.index.Index.{Index}
use Rattle.lq_model.proofs.Lists.{any-append, any-map}

grouped : (a b c : Bool) → ((a || b) || c) ≡ (a || (b || c))
grouped true b c = refl
grouped false b c = refl

-- the column in the lists of a table, sort by sort
pub listed_is : (n : Name) (it : Table) → list_any (is_in n) (column_lists it) ≡ (list_any (λ k. is_in n k.columns) (key_list it.key) || (list_any (λ u. is_in n u.columns) it.uniques || list_any (λ i. is_in n i.columns) it.indexes))
listed_is n it =
    let keys = map (λ (k : Key). k.columns) (key_list it.key) in
    let uniques = map (λ (u : Unique). u.columns) it.uniques in
    let indexes = map (λ (i : Index). i.columns) it.indexes in
    any-append (is_in n) (target_lists it) indexes
    ∙ ap (λ b. b || list_any (is_in n) indexes) (any-append (is_in n) keys uniques)
    ∙ grouped (list_any (is_in n) keys) (list_any (is_in n) uniques) (list_any (is_in n) indexes)
    ∙ ap (λ b. b || (list_any (is_in n) uniques || list_any (is_in n) indexes)) (any-map (is_in n) (λ (k : Key). k.columns) (key_list it.key))
    ∙ ap (λ b. list_any (λ (k : Key). is_in n k.columns) (key_list it.key) || (b || list_any (is_in n) indexes)) (any-map (is_in n) (λ (u : Unique). u.columns) it.uniques)
    ∙ ap (λ b. list_any (λ (k : Key). is_in n k.columns) (key_list it.key) || (list_any (λ (u : Unique). is_in n u.columns) it.uniques || b)) (any-map (is_in n) (λ (i : Index). i.columns) it.indexes)
