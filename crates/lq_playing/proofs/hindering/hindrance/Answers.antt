use Rattle.std.proofs.Common.{sym, ◌∙◌}
use Rattle.lq_playing.proofs.Told.{bare_hinders, free_within, lost_hinders, marked_hinders}
use Rattle.lq_resting.specs.Asking.{asks_open}
use Rattle.lq_playing.proofs.hindering.hindrance.Goals as goal

pub returns-then-asks_open : goal.returns-then-asks_open
returns-then-asks_open g c = free_within c.args.dialect c.args.stamp.now c.args.session (asks_open c.args.hand.now) (g.S.Store.state c.args.store.now) (sym c.asks_open.ensures ∙ c.if-asks_open.true) c.requires.opens

pub returns-in-Lost : goal.returns-in-Lost
returns-in-Lost g c = lost_hinders c.args.dialect c.args.stamp.now c.args.session (asks_open c.args.hand.now) (g.S.Store.state c.args.store.now) c.lost.result (sym c.asks_open.ensures ∙ c.if-asks_open.false) c.in-Lost.ensures c.lost.ensures.tells c.lost.ensures.own c.lost.ensures.fault

pub returns-in-Bare : goal.returns-in-Bare
returns-in-Bare g c = bare_hinders c.args.dialect c.args.stamp.now c.args.session (asks_open c.args.hand.now) (g.S.Store.state c.args.store.now) c.busy.result (sym c.asks_open.ensures ∙ c.if-asks_open.false) c.in-Bare.ensures c.busy.ensures

pub returns-in-Marked : goal.returns-in-Marked
returns-in-Marked g c = marked_hinders c.args.dialect c.args.stamp.now c.args.session (asks_open c.args.hand.now) (g.S.Store.state c.args.store.now) c.busy-in-Marked.result (sym c.asks_open.ensures ∙ c.if-asks_open.false) c.in-Marked.ensures c.busy-in-Marked.ensures
