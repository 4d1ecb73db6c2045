-- The changesets that have a turn, one after another.
use Rattle.std.proofs.Common.{add-one, drop, get_or, length, map, suc, ◌+◌, ◌++◌, ◌<◌, ◌≡◌, ◌∙◌}
use Rattle.std.proofs.Math.Seq.{drop-cons}
use Rattle.std.proofs.lemmas.List.{append_assoc}
use Rattle.std.specs.Prelude.{List, Option, ℕ}
use Rattle.lq_base.specs.declared.tracking.Tracked.{Tracked}
use Rattle.lq_turns.specs.Settle.{what}
use Rattle.lq_turns.specs.declared.choice.What.{What}
use Rattle.lq_plan.specs.Told.{headed, item_at, work_from}
use Rattle.lq_plan.specs.declared.head.Head.{Head}
use Rattle.lq_plan.specs.declared.turns.Item.{Item}

pub work_more : (heads : List Head) (i : ℕ) (d head : Head) (rows : List Tracked) (items new all : List Item) (place : ℕ) {now : Option What} → i < length heads → head ≡ get_or heads i d
    → items ++ work_from i (map headed (drop i heads)) rows ≡ all → place ≡ i → now ≡ what (headed head) rows → new ≡ items ++ item_at place now → new ++ work_from (i + 1) (map headed (drop (i + 1) heads)) rows ≡ all
work_more heads i d head rows items new all place {now} within is so at by grown =
    let split : items ++ (item_at i (what (headed head) rows) ++ work_from (suc i) (map headed (drop (suc i) heads)) rows) ≡ all = rw (drop-cons heads i d, ← is) at so in
    rw (add-one, grown, by, at) (append_assoc items (item_at i (what (headed head) rows)) (work_from (suc i) (map headed (drop (suc i) heads)) rows) ∙ split)
