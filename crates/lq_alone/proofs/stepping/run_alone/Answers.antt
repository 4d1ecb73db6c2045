use Rattle.lq_alone.proofs.Plainly.{behind_alone, crashes_alone, ends_alone, lock_alone, moments_alone, rests_alone}
use Rattle.lq_alone.proofs.stepping.run_alone.Goals as goal

pub returns-clause-ends : goal.returns-clause-ends
returns-clause-ends g c = λ database stands_for. ends_alone _ _ _ g.R.Player.failed (g.R.Player.standing c.args.player.now).job (g.S.Store.state c.args.store.now) (g.S.Store.state c.alone.new.store) database (g.R.Player.standing c.alone.new.player) c.alone.result (c.alone.ensures.runs database stands_for)

pub returns-clause-crash : goal.returns-clause-crash
returns-clause-crash g c = λ database stands_for. crashes_alone _ _ _ g.R.Player.failed (g.R.Player.standing c.args.player.now).job (g.S.Store.state c.args.store.now) (g.S.Store.state c.alone.new.store) database (g.R.Player.standing c.alone.new.player) (g.S.Store.crashes c.args.store.now) (g.S.Store.crashes c.alone.new.store) (c.alone.ensures.crash database stands_for)

pub returns-clause-lock : goal.returns-clause-lock
returns-clause-lock g c = λ database stands_for used next is. lock_alone _ _ _ g.R.Player.failed (g.R.Player.standing c.args.player.now).job (g.S.Store.state c.args.store.now) (g.S.Store.state c.alone.new.store) database (g.R.Player.standing c.alone.new.player) used next c.alone.result is (c.alone.ensures.runs database stands_for)

pub returns-clause-behind : goal.returns-clause-behind
returns-clause-behind g c = λ database stands_for may. behind_alone c.statements_read_back.ensures _ _ _ g.R.Player.failed (g.R.Player.standing c.args.player.now).job (g.S.Store.state c.args.store.now) (g.S.Store.state c.alone.new.store) database (g.R.Player.standing c.alone.new.player) may c.alone.result (c.alone.ensures.runs database stands_for)

pub returns-clause-any_moment : goal.returns-clause-any_moment
returns-clause-any_moment g c = λ database stands_for may. moments_alone c.statements_read_back.ensures _ _ _ g.R.Player.failed (g.R.Player.standing c.args.player.now).job (g.S.Store.state c.args.store.now) (g.S.Store.state c.alone.new.store) database (g.R.Player.standing c.alone.new.player) may (g.S.Store.crashes c.args.store.now) (g.S.Store.crashes c.alone.new.store) (c.alone.ensures.crash database stands_for)

pub returns-clause-rests : goal.returns-clause-rests
returns-clause-rests g c = λ database stands_for may own used next is. rests_alone _ _ _ g.R.Player.failed (g.R.Player.standing c.args.player.now).job (g.S.Store.state c.args.store.now) (g.S.Store.state c.alone.new.store) database (g.R.Player.standing c.alone.new.player) may own c.alone.ensures.shut used next c.alone.result is (c.alone.ensures.runs database stands_for)
