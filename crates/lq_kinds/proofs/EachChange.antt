-- One change more of a list was read.
use Rattle.std.proofs.Common.{ap, append_assoc, drop, get_or, length, length-append, refl, sym, ◌+◌, ◌<◌, ◌∙◌}
use Rattle.std.proofs.lemmas.List.{drop_more}
use Rattle.std.specs.Prelude.{Err, List, Ok, Result, [], codes, ℕ, ◌++◌, ◌∷◌, ◌≡◌}
use Rattle.lq_base.specs.declared.dialect.Dialect.{Dialect}
use Rattle.lq_tree.specs.Items.{item_path}
use Rattle.lq_tree.specs.declared.node.Node.{Node}
use Rattle.lq_kinds.specs.Changes.{Files, change_at, changes_from, left_by, by_set, map_set}
use Rattle.lq_any.specs.declared.any_change.AnyChange.{AnyChange}
use Rattle.lq_kinds.specs.declared.fault.SetFault.{SetFault}

joins : (all : List AnyChange) (x : AnyChange) (rest : Result (List AnyChange) SetFault) → map_set (λ more. all ++ more) (map_set (λ more. x ∷ more) rest) ≡ map_set (λ more. (all ++ x ∷ []) ++ more) rest
joins all x (Ok xs) = ap (λ (ys : List AnyChange). Ok ys) (sym (append_assoc all (x ∷ []) xs))
joins all x (Err fault) = refl

-- the rest is read with one change more before it
pub one_more : (d : Dialect) (all new : List AnyChange) (given left : Files) (nodes : List Node) (i : ℕ) (n : Node) (x : AnyChange) → i < length nodes → n ≡ get_or nodes i n → change_at d (item_path (codes "changes") (length all)) given n ≡ Ok x → new ≡ all ++ x ∷ [] → left ≡ left_by given n
    → map_set (λ more. all ++ more) (changes_from d (length all) given (drop i nodes)) ≡ map_set (λ more. new ++ more) (changes_from d (length new) left (drop (i + 1) nodes))
one_more d all new given left nodes i n x below is read grown behind =
    let after : List Node = drop (i + 1) nodes in
    let split : drop i nodes ≡ n ∷ after = drop_more nodes i n below ∙ ap (λ m. m ∷ after) (sym is) in
    let count : length new ≡ length all + 1 = ap length grown ∙ length-append all (x ∷ []) in
    ap (λ ns. map_set (λ more. all ++ more) (changes_from d (length all) given ns)) split
    ∙ ap (λ r. map_set (λ more. all ++ more) (by_set r (λ y. map_set (λ more. y ∷ more) (changes_from d (length all + 1) (left_by given n) after)))) read
    ∙ joins all x (changes_from d (length all + 1) (left_by given n) after)
    ∙ ap (λ xs. map_set (λ more. xs ++ more) (changes_from d (length all + 1) (left_by given n) after)) (sym grown)
    ∙ ap (λ k. map_set (λ more. new ++ more) (changes_from d k (left_by given n) after)) (sym count)
    ∙ ap (λ l. map_set (λ more. new ++ more) (changes_from d (length new) l after)) (sym behind)
