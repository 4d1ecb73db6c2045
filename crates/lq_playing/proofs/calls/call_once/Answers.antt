use Rattle.std.proofs.Common.{ap, rules, sym, ◌∙◌}
use Rattle.std.specs.Prelude.{Err, ◌≡◌}
use Rattle.lq_playing.proofs.Told.{err_is, fault_beside, once_crashes, once_done, once_failed, the_disk}
use Rattle.lq_playing.proofs.calls.call_once.Goals as goal

pub returns-in-Ok-clause-calls : goal.returns-in-Ok-clause-calls
returns-in-Ok-clause-calls g c =
    let same : c.as_slice.result.now ≡ c.args.call.deeds = search rules in
    once_done c.args.dialect c.args.session c.args.call (g.S.Store.state c.args.store.now) (g.S.Store.state c.do_alone.new.store) c.as_slice.result.now c.in-Ok.field-0 same c.in-Ok.ensures.does

pub returns-in-Ok-clause-beside : goal.returns-in-Ok-clause-beside
returns-in-Ok-clause-beside g c = c.in-Ok.ensures.beside

pub returns-in-Ok-clause-later : goal.returns-in-Ok-clause-later
returns-in-Ok-clause-later g c = c.in-Ok.ensures.faults.later

pub returns-in-Ok-clause-crash : goal.returns-in-Ok-clause-crash
returns-in-Ok-clause-crash g c =
    let same : c.as_slice.result.now ≡ c.args.call.deeds = search rules in
    once_crashes c.args.dialect c.args.session c.args.call (g.S.Store.state c.args.store.now) (g.S.Store.crashes c.args.store.now) (g.S.Store.crashes c.do_alone.new.store) c.as_slice.result.now same c.do_alone.ensures.crash

pub returns-clause-calls : goal.returns-clause-calls
returns-clause-calls g c =
    let same : c.as_slice.result.now ≡ c.args.call.deeds = search rules in
    once_failed c.args.dialect c.args.session c.args.call (g.S.Store.state c.args.store.now) (g.S.Store.state c.do_alone.new.store) c.as_slice.result.now c.in-Err.fault c.fault_of.result c.fault_of.ensures same c.in-Err.ensures.does

pub returns-clause-crash : goal.returns-clause-crash
returns-clause-crash g c =
    let same : c.as_slice.result.now ≡ c.args.call.deeds = search rules in
    once_crashes c.args.dialect c.args.session c.args.call (g.S.Store.state c.args.store.now) (g.S.Store.crashes c.args.store.now) (g.S.Store.crashes c.do_alone.new.store) c.as_slice.result.now same c.do_alone.ensures.crash

pub returns-clause-beside : goal.returns-clause-beside
returns-clause-beside g c = fault_beside c.args.session (g.S.Store.state c.args.store.now) (g.S.Store.state c.do_alone.new.store) c.in-Err.fault c.fault_of.result c.fault_of.ensures c.in-Err.ensures.beside

pub returns-clause-later : goal.returns-clause-later
returns-clause-later g c = c.in-Err.ensures.faults.later

pub returns-clause-rose : goal.returns-clause-rose
returns-clause-rose g c = λ is. c.in-Err.ensures.faults.rose (ap (λ w. Err w) (the_disk c.in-Err.fault (sym c.fault_of.ensures ∙ err_is is)))
