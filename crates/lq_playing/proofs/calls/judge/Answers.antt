use Rattle.lq_playing.proofs.Told.{found_busy, judged, kept_out}
use Rattle.lq_playing.proofs.calls.judge.Goals as goal

pub returns-then-is_kept_out-clause-judged : goal.returns-then-is_kept_out-clause-judged
returns-then-is_kept_out-clause-judged g c = kept_out c.args.dialect g.T.Source.meaning c.args.stamp.now g.T.Source.way g.T.Checks.ends (g.T.Checks.job c.args.source.now c.args.dialect c.args.stamp.now) g.T.Checks.reports (g.T.Source.left c.args.source.now) c.args.source.now c.args.session (g.S.Store.state c.args.store.now) c.is_kept_out.result (c.is_kept_out.ensures c.args.dialect c.args.stamp.now) c.lock.result.now c.held.result c.if-is_kept_out.true (c.lock.ensures c.requires.live) c.held.ensures

pub returns-in-Ok-clause-judged : goal.returns-in-Ok-clause-judged
returns-in-Ok-clause-judged g c = judged c.args.dialect g.T.Source.meaning c.args.stamp.now g.T.Source.way g.T.Checks.ends (g.T.Checks.job c.args.source.now c.args.dialect c.args.stamp.now) g.T.Checks.reports (g.T.Source.left c.check.new.self) c.check.new.self c.args.session (g.S.Store.state c.args.store.now) c.is_kept_out.result (c.is_kept_out.ensures c.args.dialect c.args.stamp.now) c.if-is_kept_out.false c.requires.closed c.in-Ok.ensures.alone (g.S.View.Look.catalogue c.in-Ok.view.now) c.in-Ok.ensures.seen c.check.result c.check.ensures.checked

pub returns-in-Err-clause-judged : goal.returns-in-Err-clause-judged
returns-in-Err-clause-judged g c = found_busy c.args.dialect g.T.Source.meaning c.args.stamp.now g.T.Source.way g.T.Checks.ends (g.T.Checks.job c.args.source.now c.args.dialect c.args.stamp.now) g.T.Checks.reports (g.T.Source.left c.args.source.now) c.args.source.now c.args.session (g.S.Store.state c.args.store.now) c.is_kept_out.result (c.is_kept_out.ensures c.args.dialect c.args.stamp.now) c.if-is_kept_out.false c.in-Err.fault c.busy.result c.in-Err.ensures.alone c.busy.ensures
