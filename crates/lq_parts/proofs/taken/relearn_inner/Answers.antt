use Rattle.std.proofs.Common.{sym, ◌∙◌}
use Rattle.lq_model.specs.NameSpaces.{names_inside}
use Rattle.lq_model.specs.Catalogue.{inner_names}
use Rattle.lq_parts.specs.Taken.{names_in}
use Rattle.lq_parts.proofs.TakenLemmas.{among_placed, inner_among, set_more}
use Rattle.lq_parts.proofs.taken.relearn_inner.Goals as goal

pub returns-then-inner_stay : goal.returns-then-inner_stay
returns-then-inner_stay c = λ tables was it old new there known.
    set_more names_inside tables c.args.table.now was it c.learn_inner.new.known there (among_placed c.args.table.now (inner_names was) (inner_names it) (inner_among c.args.old.now c.args.new.now was it old new (sym c.inner_stay.ensures ∙ c.if-inner_stay.true)))
    (c.in_ok-learn_inner.ensures it (names_in names_inside tables) new known)
