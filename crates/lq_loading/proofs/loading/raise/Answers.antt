use Rattle.std.proofs.Common.{sym, subst}
use Rattle.lq_codec.specs.State.{state_of}
use Rattle.lq_loading.specs.Raise.{MayNotRead}
use Rattle.lq_loading.proofs.Raises.{new_at, not_begun}
use Rattle.lq_loading.proofs.loading.raise.Goals as goal

pub raise_from-requires-clause-at : goal.raise_from-requires-clause-at
raise_from-requires-clause-at g c = new_at g.P.SqlText.dialect c.args.dialect _ c.requires.dialect c.new.ensures

pub returns-in-Err : goal.returns-in-Err
returns-in-Err g c =
    not_begun g.P.SqlText.dialect c.args.entries.now c.in-Some.behind.now c.in-Some.at c.args.used c.in-Some.bytes.now c.in-Err.fault c.in-Some.ensures
    (subst (λ d. MayNotRead c.in-Some.at (state_of d c.in-Some.bytes.now) c.in-Err.fault) (sym c.requires.dialect) c.in-Err.ensures)
