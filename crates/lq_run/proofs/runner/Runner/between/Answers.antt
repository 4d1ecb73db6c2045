use Rattle.lq_run.proofs.UnderWay.{lost_stays}
use Rattle.std.proofs.Common.{inl, inr, refl, sym, ◌∙◌}
use Rattle.lq_run.proofs.Counting.{not_true}
use Rattle.lq_run.proofs.Losing.{lost_steps, told_at}
use Rattle.lq_run.specs.Stands.{IsBare, IsMarked}
use Rattle.lq_run.specs.Steps.{TellsLock, standing}
use Rattle.lq_run.proofs.Since.{leave_none}
use Rattle.lq_run.proofs.Beside.{stays_as}
use Rattle.lq_run.specs.Beside.{is_disk_step}
use Rattle.lq_store.specs.Journal.{Keeps}
use Rattle.lq_run.proofs.runner.Runner.between.Goals as goal

pub returns-in-Bare-clause-lost : goal.returns-in-Bare-clause-lost
returns-in-Bare-clause-lost g c = λ there is database stands lost. absurd (lost (inl (told_at (IsBare c.args.self.now.stamp) _ c.args.self.now.dialect _ database c.in-Bare.ensures is stands)))

pub returns-in-Marked-clause-lost : goal.returns-in-Marked-clause-lost
returns-in-Marked-clause-lost g c = λ there is database stands lost. absurd (lost (inr (told_at (IsMarked c.args.self.now.stamp) _ c.args.self.now.dialect _ database c.in-Marked.ensures is stands)))

pub returns-in-Lost-clause-steps : goal.returns-in-Lost-clause-steps
returns-in-Lost-clause-steps g c = lost_steps c.args.self.now.dialect g.T.Source.meaning c.args.self.now.stamp c.args.session (g.S.Store.state c.args.store.now) (standing g.T.Source.left g.T.Source.way c.args.self.now) _ (g.S.Store.state c.args.store.now) c.locked.result (c.requires.inside, c.requires.none_left) c.in-Lost.ensures

pub returns-in-Lost-clause-lost : goal.returns-in-Lost-clause-lost
returns-in-Lost-clause-lost g c = λ there is database stands lost. (refl, told_at (λ lock. TellsLock lock c.locked.result) _ c.args.self.now.dialect _ database c.locked.ensures.tells is stands)

pub returns-in-Lost-clause-rose : goal.returns-in-Lost-clause-rose
returns-in-Lost-clause-rose g c = λ is. absurd (not_true (sym c.locked.ensures.told ∙ is))

pub returns-in-Lost-clause-crash : goal.returns-in-Lost-clause-crash
returns-in-Lost-clause-crash g c = λ start s told is held. leave_none (g.S.Store.state c.args.store.now).entries _ (g.S.Store.crashes c.args.store.now)

pub returns-in-Lost-clause-beside : goal.returns-in-Lost-clause-beside
returns-in-Lost-clause-beside g c = stays_as c.args.session (is_disk_step c.locked.result) (g.S.Store.state c.args.store.now) (g.S.Store.state c.args.store.now) c.locked.ensures.told c.requires.live refl

pub returns-in-Lost-clause-asks : goal.returns-in-Lost-clause-asks
returns-in-Lost-clause-asks g c = λ none live. c.requires.closed

pub returns-in-Lost-clause-keeps : goal.returns-in-Lost-clause-keeps
returns-in-Lost-clause-keeps g c = leave_none (g.S.Store.state c.args.store.now).entries Keeps (g.S.Store.crashes c.args.store.now)

pub returns-in-Lost-clause-stops : goal.returns-in-Lost-clause-stops
returns-in-Lost-clause-stops g c = λ met. c.locked.ensures.stops c.args.self.now.fault met

pub returns-in-Lost-clause-under_way : goal.returns-in-Lost-clause-under_way
returns-in-Lost-clause-under_way g c = λ start s told is held met.
    absurd (lost_stays c.args.self.now.dialect g.T.Source.meaning c.args.self.now.stamp c.args.session (g.S.Store.state c.args.store.now) (standing g.T.Source.left g.T.Source.way c.args.self.now) (c.requires.inside, c.requires.none_left) c.in-Lost.ensures start s told is held)
