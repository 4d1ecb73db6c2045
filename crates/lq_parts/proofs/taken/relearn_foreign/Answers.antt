use Rattle.std.proofs.Common.{sym, ◌∙◌}
use Rattle.lq_parts.specs.Taken.{foreign_inside, names_in}
use Rattle.lq_parts.proofs.TakenLemmas.{foreign_among, set_more}
use Rattle.lq_parts.proofs.taken.relearn_foreign.Goals as goal

pub returns-then-foreign_stay : goal.returns-then-foreign_stay
returns-then-foreign_stay c = λ tables n was it old new there known.
    set_more foreign_inside tables n was it c.learn_foreign.new.known there (foreign_among c.args.old.now c.args.new.now was it old new (sym c.foreign_stay.ensures ∙ c.if-foreign_stay.true))
    (c.in_ok-learn_foreign.ensures it (names_in foreign_inside tables) new known)
