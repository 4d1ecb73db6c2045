use Rattle.std.proofs.Common.{Err, Ok, ap, reverse, subst, sym, true, ◌≡◌}
use Rattle.lq_chain.specs.History.{marked}
use Rattle.lq_model.specs.Step.{step, is_statement}
use Rattle.lq_model.proofs.KeepsSound.{statement_keeps}
use Rattle.lq_engine.specs.State.{State}
use Rattle.lq_engine.proofs.Marks as lemma
use Rattle.lq_engine.proofs.Tried.{Tried, mark_there, refused, tried, unchanged}
use Rattle.lq_engine.proofs.engine.Engine.run.Goals as goal

pub carry_out-outcome-requires : goal.carry_out-outcome-requires
carry_out-outcome-requires c = lemma.is_sound c.self.inside.dialect c.self.inside.parts (reverse c.self.inside.starts.items) c.self.invariant

pub keep_or_undo-requires : goal.keep_or_undo-requires
keep_or_undo-requires c = mark_there _ c.self.inside.parts c.carry_out-outcome.new.parts c.mark-mark.result c.carry_out-outcome.result c.mark-mark.ensures c.carry_out-outcome.ensures

pub invariant_of-self-in-Ok : goal.invariant_of-self-in-Ok
invariant_of-self-in-Ok c =
    let d = c.self.inside.dialect in
    let h = c.self.inside.parts in
    let marks = reverse c.self.inside.starts.items in
    let new = c.keep_or_undo.new.parts in
    let came : Tried (step c.args.by d c.args.statement.now h.now) h new (Ok c.in-Ok.count)
    = subst (Tried (step c.args.by d c.args.statement.now h.now) h new) c.in-Ok.is
    (tried (step c.args.by d c.args.statement.now h.now) h c.carry_out-outcome.new.parts new c.mark-mark.result c.mark-mark.ensures c.carry_out-outcome.result c.keep_or_undo.result c.keep_or_undo.ensures.outcome c.carry_out-outcome.ensures c.keep_or_undo.ensures.parts) in
    let sound = lemma.is_sound d h marks c.self.invariant in
    rw (c.push_reserved.ensures.items, c.reserve.ensures.items, c.mark-mark.ensures, lemma.newest (marked h) c.self.inside.starts.items)
    (lemma.ran d h new marks came.1 c.self.invariant (statement_keeps d c.args.statement.now c.args.by h.now new.now c.in-Ok.count (subst (λ (s : State). is_statement s.dialect c.args.statement.now ≡ true) (sym c.self.view_is) c.requires) sound came.0))

pub returns-in-Ok : goal.returns-in-Ok
returns-in-Ok c =
    let d = c.self.inside.dialect in
    let h = c.self.inside.parts in
    let marks = reverse c.self.inside.starts.items in
    let new = c.keep_or_undo.new.parts in
    let came : Tried (step c.args.by d c.args.statement.now h.now) h new (Ok c.in-Ok.count)
    = subst (Tried (step c.args.by d c.args.statement.now h.now) h new) c.in-Ok.is
    (tried (step c.args.by d c.args.statement.now h.now) h c.carry_out-outcome.new.parts new c.mark-mark.result c.mark-mark.ensures c.carry_out-outcome.result c.keep_or_undo.result c.keep_or_undo.ensures.outcome c.carry_out-outcome.ensures c.keep_or_undo.ensures.parts) in
    rw (c.push_reserved.ensures.items, c.reserve.ensures.items, c.mark-mark.ensures, lemma.newest (marked h) c.self.inside.starts.items, ← c.self.view_is) (came.0, lemma.ran_view d h new marks came.1 c.self.invariant)

pub invariant_of-self-in-Err : goal.invariant_of-self-in-Err
invariant_of-self-in-Err c =
    let d = c.self.inside.dialect in
    let h = c.self.inside.parts in
    let marks = reverse c.self.inside.starts.items in
    let new = c.keep_or_undo.new.parts in
    let meant = step c.args.by d c.args.statement.now h.now in
    let came : Tried meant h new (Err c.in-Err.fault)
    = subst (Tried meant h new) c.in-Err.is
    (tried meant h c.carry_out-outcome.new.parts new c.mark-mark.result c.mark-mark.ensures c.carry_out-outcome.result c.keep_or_undo.result c.keep_or_undo.ensures.outcome c.carry_out-outcome.ensures c.keep_or_undo.ensures.parts) in
    rw (c.reserve.ensures.items, unchanged meant h new c.in-Err.fault came) c.self.invariant

pub returns-in-Err : goal.returns-in-Err
returns-in-Err c =
    let d = c.self.inside.dialect in
    let h = c.self.inside.parts in
    let marks = reverse c.self.inside.starts.items in
    let new = c.keep_or_undo.new.parts in
    let meant = step c.args.by d c.args.statement.now h.now in
    let came : Tried meant h new (Err c.in-Err.fault)
    = subst (Tried meant h new) c.in-Err.is
    (tried meant h c.carry_out-outcome.new.parts new c.mark-mark.result c.mark-mark.ensures c.carry_out-outcome.result c.keep_or_undo.result c.keep_or_undo.ensures.outcome c.carry_out-outcome.ensures c.keep_or_undo.ensures.parts) in
    refused d c.args.by c.args.statement.now h new marks _ (ap reverse c.reserve.ensures.items) c.args.self.now c.self.view_is c.in-Err.fault came
