-- A list of one node at least is read as one item at least.
use Rattle.std.specs.List.{list_all}
use Rattle.std.specs.Prelude.{Bool, Err, IfOk, List, Ok, [], false, length, true, ℕ, ◌==◌, ◌∷◌, ◌≡◌}
use Rattle.lq_tree.specs.Look.{Found, Reads, Taken, and_then, map_found, within}
use Rattle.lq_tree.specs.Items.{are_some, item_path, items_from}
use Rattle.lq_tree.specs.declared.node.Node.{Node}

pub never_empty : {A : Type 0} (first : Found A) (more : Found (List A)) → and_then first (λ a. map_found (λ items. a ∷ items) more) ≡ Ok [] → ⊥
never_empty (Ok a) (Ok items) e = Prim.cc
never_empty (Ok a) (Err fault) e = Prim.cc
never_empty (Err fault) more e = Prim.cc

pub some_read : {A : Type 0} (key : List ℕ) (takes : Taken A) (fits : A → Bool) (ns : List Node) (found : Found (List A)) → false ≡ (length ns == 0) → Reads (items_from key 0 takes ns) found → IfOk found (λ items. list_all fits items ≡ true) → IfOk found (λ items. are_some fits items ≡ true)
some_read key takes fits [] found some is all = absurd Prim.cc
some_read key takes fits (n ∷ ns) (Ok []) some is all = absurd (never_empty (within (item_path key 0) (takes n)) (items_from key 1 takes ns) is)
some_read key takes fits (n ∷ ns) (Ok (x ∷ xs)) some is all = all
some_read key takes fits (n ∷ ns) (Err fault) some is all = tt
