use Rattle.std.proofs.Common.{◌≡◌, false}
use Rattle.std.specs.Prelude.{◌≤◌}
use Rattle.lq_store.specs.Journal.{State}
use Rattle.lq_turns.specs.Rest.{rest, both_of}
use Rattle.lq_turns.specs.Session.{Session}
use Rattle.lq_run.specs.Crashing.{CrashesOn}
use Rattle.lq_run.specs.Ends.{IsRunning, KeepsFull, Reaches, at_end, disk_failed}
use Rattle.lq_run.specs.Steps.{is_over, place, standing, IsAfterFault}
use Rattle.lq_running.proofs.running.run_on.Given as goal

-- wherever it began, it is on the way to the same end
abbrev pub invariant-loop : goal.invariant-loop
invariant-loop g l =
    let r = l.fn.runner in
    record {
      valid : g.S.Store.valid l.store;
      dialect : l.runner.dialect ≡ r.dialect;
      stamp : l.runner.stamp ≡ r.stamp;
      reads : g.T.Source.reads l.runner.source l.runner.dialect;
      begun : is_over l.runner.hand.phase ≡ false;
      disk : disk_failed l.runner.fault ≡ false;
      later : g.S.Store.faults l.fn.store ≤ g.S.Store.faults l.store;
      reaches : (start : State) (s : Session) (told : g.T.Source.Told) → IsRunning r.dialect g.T.Source.meaning r.stamp l.session (standing g.T.Source.left g.T.Source.way r) (g.S.Store.state l.fn.store) start s told
          → (there : Reaches r.dialect g.T.Source.meaning r.stamp l.session (standing g.T.Source.left g.T.Source.way l.runner) (g.S.Store.state l.store) start s
          (at_end r.dialect g.T.Source.meaning r.stamp l.session (place (standing g.T.Source.left g.T.Source.way r)) s) told)
          × KeepsFull r.dialect g.T.Source.meaning r.stamp l.session start s (at_end r.dialect g.T.Source.meaning r.stamp l.session (place (standing g.T.Source.left g.T.Source.way r)) s) r.fault there.session
          (rest r.dialect g.T.Source.meaning r.stamp (place (standing g.T.Source.left g.T.Source.way l.runner)) (both_of there.session)) l.runner.fault;
      under_way : (start : State) (s : Session) (told : g.T.Source.Told) → IsRunning r.dialect g.T.Source.meaning r.stamp l.session (standing g.T.Source.left g.T.Source.way r) (g.S.Store.state l.fn.store) start s told
          → IsAfterFault r.dialect r.stamp (standing g.T.Source.left g.T.Source.way r) told → IsAfterFault r.dialect r.stamp (standing g.T.Source.left g.T.Source.way l.runner) told;
      crash : CrashesOn r.dialect g.T.Source.meaning r.stamp l.session (standing g.T.Source.left g.T.Source.way r) (g.S.Store.state l.fn.store) (g.S.Store.crashes l.fn.store) (g.S.Store.crashes l.store);
    }
