use Rattle.std.proofs.lemmas.Bool.{OnFalse_at}
use Rattle.lq_back.proofs.Synced.{keeps, same_kept}
use Rattle.lq_back.proofs.sync_rows.keep.Goals as goal

pub returns-in-Ok : goal.returns-in-Ok
returns-in-Ok c = λ rows has.
    keeps rows c.args.of.now c.args.seen.now c.insert.new.self c.key_of.result c.key_of.ensures.file c.key_of.ensures.id c.key_of.ensures.author has
    c.in-Ok.is_new c.in-Ok.ensures.added c.in-Ok.ensures.updates (λ not_new. same_kept rows c.args.seen.now c.insert.new.self (OnFalse_at not_new c.in-Ok.ensures.unchanged) has)
