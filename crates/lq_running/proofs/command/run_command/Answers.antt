use Rattle.lq_run.proofs.Behind.{behind_all}
use Rattle.lq_run.proofs.Stopped.{left_all}
use Rattle.lq_run.proofs.Whole.{ends_whole, leaves, not_taken, opens, tells, tells_whole}
use Rattle.lq_run.specs.Commands.{script, both_on}
use Rattle.lq_run.specs.Ends.{EndsAs}
use Rattle.lq_hand.specs.Hand.{calls_left}
use Rattle.lq_hand.specs.Way.{IsUnderWay}
use Rattle.lq_run.proofs.UnderWay.{if_full, known_under}
use Rattle.lq_run.specs.Steps.{end_of, place, standing, TellsTo}
use Rattle.lq_turns.specs.Session.{all_called}
use Rattle.std.proofs.Common.{ap, false, subst, sym, true, ◌≡◌, ◌∙◌}
use Rattle.std.specs.Prelude.{Err, None}
use Rattle.lq_run.specs.Beside.{is_disk_end}
use Rattle.lq_run.proofs.Known.{tells_fault}
use Rattle.lq_run.proofs.Counting.{end_disk, is_the_disk, rose_later}
use Rattle.lq_run.proofs.Stopping.{begun, not_begun}
use Rattle.lq_running.proofs.command.run_command.Goals as goal

pub take_lock-requires-clause-live : goal.take_lock-requires-clause-live
take_lock-requires-clause-live g c = c.requires.may_run.is.stands.live

pub run_on-requires-clause-runs : goal.run_on-requires-clause-runs
run_on-requires-clause-runs g c =
    let k = c.requires.may_run in
    let r = c.args.runner.now in
    opens r.dialect g.T.Source.meaning r.stamp c.args.session (standing g.T.Source.left g.T.Source.way r) k.start (g.S.Store.state c.args.store.now) (g.S.Store.state c.take_lock.new.store) k.session k.told k.is c.requires.new c.in-Ok.ensures.does

pub returns-in-Ok-clause-ends : goal.returns-in-Ok-clause-ends
returns-in-Ok-clause-ends g c =
    let r = c.args.runner.now in
    λ start s told is. ends_whole r.dialect g.T.Source.meaning r.stamp c.args.session (standing g.T.Source.left g.T.Source.way r) start (g.S.Store.state c.args.store.now) (g.S.Store.state c.take_lock.new.store) s told is
    (g.S.Store.state c.run_on.new.store) c.run_on.result c.requires.new c.in-Ok.ensures.does c.run_on.ensures.ends

pub returns-in-Ok-clause-leaves : goal.returns-in-Ok-clause-leaves
returns-in-Ok-clause-leaves g c =
    let r = c.args.runner.now in
    leaves r.dialect g.T.Source.meaning r.stamp c.args.session (standing g.T.Source.left g.T.Source.way r) c.requires.new (g.S.Store.state c.args.store.now) (g.S.Store.state c.run_on.new.store) c.run_on.result
    (λ start s told is. ends_whole r.dialect g.T.Source.meaning r.stamp c.args.session (standing g.T.Source.left g.T.Source.way r) start (g.S.Store.state c.args.store.now) (g.S.Store.state c.take_lock.new.store) s told is
    (g.S.Store.state c.run_on.new.store) c.run_on.result c.requires.new c.in-Ok.ensures.does c.run_on.ensures.ends)

pub returns-in-Err-clause-ends : goal.returns-in-Err-clause-ends
returns-in-Err-clause-ends g c =
    let r = c.args.runner.now in
    λ start s told is. subst (λ e. EndsAs r.dialect g.T.Source.meaning r.stamp c.args.session start s
    (all_called r.dialect (script r.dialect g.T.Source.meaning r.stamp (place (standing g.T.Source.left g.T.Source.way r)) s.committed) s) false None e (g.S.Store.state c.take_lock.new.store)) (sym c.end_of.ensures)
    (not_taken r.dialect g.T.Source.meaning r.stamp c.args.session (standing g.T.Source.left g.T.Source.way r) start (g.S.Store.state c.args.store.now) (g.S.Store.state c.take_lock.new.store) s told is c.in-Err.fault c.in-Err.ensures.does)

pub returns-in-Ok-clause-rose : goal.returns-in-Ok-clause-rose
returns-in-Ok-clause-rose g c = λ is. rose_later (g.S.Store.faults c.args.store.now) (g.S.Store.faults c.take_lock.new.store) (g.S.Store.faults c.run_on.new.store) c.take_lock.ensures.faults.later (c.run_on.ensures.rose is)

pub returns-in-Err-clause-rose : goal.returns-in-Err-clause-rose
returns-in-Err-clause-rose g c = λ is. c.in-Err.ensures.faults.rose (ap Err (is_the_disk c.in-Err.fault (sym (end_disk c.in-Err.fault) ∙ subst (λ e. is_disk_end e ≡ true) c.end_of.ensures is)))

pub returns-in-Ok-clause-tells : goal.returns-in-Ok-clause-tells
returns-in-Ok-clause-tells g c =
    let r = c.args.runner.now in
    let now = standing g.T.Source.left g.T.Source.way r in
    tells r.dialect g.T.Source.meaning r.stamp c.args.session now c.requires.new (g.S.Store.state c.args.store.now) (g.S.Store.state c.run_on.new.store) c.run_on.result (g.T.Source.way c.run_on.new.runner.source)
    (λ start s told is. tells_whole r.dialect g.T.Source.meaning r.stamp c.args.session now start (g.S.Store.state c.args.store.now) (g.S.Store.state c.take_lock.new.store) s told is
    (g.S.Store.state c.run_on.new.store) c.run_on.result (g.T.Source.way c.run_on.new.runner.source) c.requires.new c.in-Ok.ensures.does c.run_on.ensures.tells)

pub returns-in-Err-clause-tells : goal.returns-in-Err-clause-tells
returns-in-Err-clause-tells g c =
    let r = c.args.runner.now in
    λ database told has known fits.
    let way = g.T.Source.way r.source r.dialect r.stamp told in
    subst (TellsTo way) (sym c.end_of.ensures)
    (tells_fault way c.in-Err.fault, if_full (IsUnderWay way) (end_of c.in-Err.fault) (known_under r.dialect way r.hand.goes_on (calls_left r.hand) r.progress (both_on database) known))

pub returns-in-Ok-clause-left : goal.returns-in-Ok-clause-left
returns-in-Ok-clause-left g c =
    let r = c.args.runner.now in
    left_all r.dialect g.T.Source.meaning r.stamp c.args.session (standing g.T.Source.left g.T.Source.way r) c.requires.new (g.S.Store.state c.args.store.now) (g.S.Store.state c.run_on.new.store) c.run_on.result
    (λ start s told is. ends_whole r.dialect g.T.Source.meaning r.stamp c.args.session (standing g.T.Source.left g.T.Source.way r) start (g.S.Store.state c.args.store.now) (g.S.Store.state c.take_lock.new.store) s told is
    (g.S.Store.state c.run_on.new.store) c.run_on.result c.requires.new c.in-Ok.ensures.does c.run_on.ensures.ends)

pub returns-in-Err-clause-left : goal.returns-in-Err-clause-left
returns-in-Err-clause-left g c =
    let r = c.args.runner.now in
    left_all r.dialect g.T.Source.meaning r.stamp c.args.session (standing g.T.Source.left g.T.Source.way r) c.requires.new (g.S.Store.state c.args.store.now) (g.S.Store.state c.take_lock.new.store) c.end_of.result
    (λ start s told is. subst (λ e. EndsAs r.dialect g.T.Source.meaning r.stamp c.args.session start s
    (all_called r.dialect (script r.dialect g.T.Source.meaning r.stamp (place (standing g.T.Source.left g.T.Source.way r)) s.committed) s) false None e (g.S.Store.state c.take_lock.new.store)) (sym c.end_of.ensures)
    (not_taken r.dialect g.T.Source.meaning r.stamp c.args.session (standing g.T.Source.left g.T.Source.way r) start (g.S.Store.state c.args.store.now) (g.S.Store.state c.take_lock.new.store) s told is c.in-Err.fault c.in-Err.ensures.does))

pub returns-in-Ok-clause-any_moment : goal.returns-in-Ok-clause-any_moment
returns-in-Ok-clause-any_moment g c =
    let r = c.args.runner.now in
    begun c.statements_read_back.ensures r.dialect g.T.Source.meaning r.stamp c.args.session (standing g.T.Source.left g.T.Source.way r) (g.S.Store.state c.args.store.now) (g.S.Store.crashes c.args.store.now) (g.S.Store.crashes c.take_lock.new.store) c.in-Ok.ensures.crash
    c.requires.new (g.S.Store.state c.take_lock.new.store) (g.S.Store.crashes c.run_on.new.store) c.in-Ok.ensures.does c.run_on.ensures.crash

pub returns-in-Err-clause-any_moment : goal.returns-in-Err-clause-any_moment
returns-in-Err-clause-any_moment g c =
    let r = c.args.runner.now in
    not_begun c.statements_read_back.ensures r.dialect g.T.Source.meaning r.stamp c.args.session (standing g.T.Source.left g.T.Source.way r) (g.S.Store.state c.args.store.now) (g.S.Store.crashes c.args.store.now) (g.S.Store.crashes c.take_lock.new.store) c.in-Err.ensures.crash

pub returns-in-Ok-clause-behind : goal.returns-in-Ok-clause-behind
returns-in-Ok-clause-behind g c =
    let r = c.args.runner.now in
    behind_all c.statements_read_back.ensures r.dialect g.T.Source.meaning r.stamp c.args.session (standing g.T.Source.left g.T.Source.way r) c.requires.new (g.S.Store.state c.args.store.now) (g.S.Store.state c.run_on.new.store) c.run_on.result
    (λ start s told is. ends_whole r.dialect g.T.Source.meaning r.stamp c.args.session (standing g.T.Source.left g.T.Source.way r) start (g.S.Store.state c.args.store.now) (g.S.Store.state c.take_lock.new.store) s told is
    (g.S.Store.state c.run_on.new.store) c.run_on.result c.requires.new c.in-Ok.ensures.does c.run_on.ensures.ends)

pub returns-in-Err-clause-behind : goal.returns-in-Err-clause-behind
returns-in-Err-clause-behind g c =
    let r = c.args.runner.now in
    behind_all c.statements_read_back.ensures r.dialect g.T.Source.meaning r.stamp c.args.session (standing g.T.Source.left g.T.Source.way r) c.requires.new (g.S.Store.state c.args.store.now) (g.S.Store.state c.take_lock.new.store) c.end_of.result
    (λ start s told is. subst (λ e. EndsAs r.dialect g.T.Source.meaning r.stamp c.args.session start s
    (all_called r.dialect (script r.dialect g.T.Source.meaning r.stamp (place (standing g.T.Source.left g.T.Source.way r)) s.committed) s) false None e (g.S.Store.state c.take_lock.new.store)) (sym c.end_of.ensures)
    (not_taken r.dialect g.T.Source.meaning r.stamp c.args.session (standing g.T.Source.left g.T.Source.way r) start (g.S.Store.state c.args.store.now) (g.S.Store.state c.take_lock.new.store) s told is c.in-Err.fault c.in-Err.ensures.does))
