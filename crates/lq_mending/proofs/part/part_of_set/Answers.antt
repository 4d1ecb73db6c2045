use Rattle.std.proofs.Common.{ap, rules, subst, sym, ◌∙◌}
use Rattle.std.specs.List.{list_all}
use Rattle.std.specs.Prelude.{List, Some, false, true, ◌≡◌, ◌≤◌}
use Rattle.laws_repair.specs.Repair.{is_mark_text, by_of}
use Rattle.lq_any.specs.AnyChange.{is_for}
use Rattle.lq_kinds.specs.ReadFor.{is_block_for}
use Rattle.lq_any.specs.declared.any_change.AnyChange.{AnyChange}
use Rattle.lq_model.proofs.Lists.{and_left}
use Rattle.lq_report.specs.Mark.{Marked}
use Rattle.lq_seen.specs.View.{any_meaning, view}
use Rattle.lq_turns.specs.Set.{statements_of}
use Rattle.lq_unrecorded.specs.Part.{is_back}
use Rattle.lq_mending.proofs.Passing.{all_stated, all_within, can_of, is_the_part, may_be, may_not, no_memory}
use Rattle.lq_mending.specs.Undoes.{can_undo, unless_undone}
use Rattle.lq_mending.specs.declared.outcome.RepairFault.TheVariants.{NotReversible}
use Rattle.lq_mending.specs.declared.part.Part.{Part}
use Rattle.lq_mending.proofs.part.part_of_set.Goals as goal

pub statements_of-requires : goal.statements_of-requires
statements_of-requires g c =
    let d = c.args.options.now.dialect in
    record {
      read = subst (λ (xs : List AnyChange). list_all (is_for d) xs ≡ true) (sym c.as_slice.ensures) (and_left (list_all (is_for d) c.args.set.now.changes) (is_block_for d c.args.set.now.rollback) c.requires.read);
    }

pub returns-in_err-statements-clause-passes : goal.returns-in_err-statements-clause-passes
returns-in_err-statements-clause-passes g c =
    let o = c.args.options.now in
    let mark : Marked = (c.args.mark.now.identity.now, c.args.mark.now.form, c.args.mark.now.statement.now) in
    no_memory (unless_undone o mark (Some (view o c.args.set.now))) c.from_residual.result (search rules)

pub returns-in-Some-clause-passes : goal.returns-in-Some-clause-passes
returns-in-Some-clause-passes g c =
    let o = c.args.options.now in
    let x = view o c.args.set.now in
    let made : c.in_ok-statements.statements ≡ statements_of c.args.options.now.dialect any_meaning c.args.set.now.changes = c.in_ok-statements.ensures ∙ ap (statements_of c.args.options.now.dialect any_meaning) c.as_slice.ensures in
    may_be (can_undo o x c.args.mark.now.statement.now) (NotReversible x.identity) c.whole_part.result
    (can_of o x c.args.mark.now.statement.now true c.in_ok-statements.statements c.len.result made c.len.ensures (c.in-Some.ensures.counts o.dialect)) c.whole_part.ensures.memory

pub returns-in-Some-clause-part : goal.returns-in-Some-clause-part
returns-in-Some-clause-part g c =
    let o = c.args.options.now in
    let mark : Marked = (c.args.mark.now.identity.now, c.args.mark.now.form, c.args.mark.now.statement.now) in
    let is = c.whole_part.ensures in
    let made : c.in_ok-statements.statements ≡ statements_of c.args.options.now.dialect any_meaning c.args.set.now.changes = c.in_ok-statements.ensures ∙ ap (statements_of c.args.options.now.dialect any_meaning) c.as_slice.ensures in
    is_the_part o c.args.last.now c.args.lock.now mark (view o c.args.set.now) c.whole_part.result c.in-Some.number c.in_ok-statements.statements made c.in-Some.ensures.number is.count is.who is.identity is.statements

pub returns-in-Some-clause-stated : goal.returns-in-Some-clause-stated
returns-in-Some-clause-stated g c =
    let d = c.args.options.now.dialect in
    let made : c.in_ok-statements.statements ≡ statements_of c.args.options.now.dialect any_meaning c.args.set.now.changes = c.in_ok-statements.ensures ∙ ap (statements_of c.args.options.now.dialect any_meaning) c.as_slice.ensures in
    all_stated d c.whole_part.result c.in_ok-statements.statements (statements_of d any_meaning c.args.set.now.changes) made c.whole_part.ensures.statements
    (c.statements_are_spelled.ensures d c.args.set.now.changes (and_left (list_all (is_for d) c.args.set.now.changes) (is_block_for d c.args.set.now.rollback) c.requires.read))

pub returns-in-Some-clause-within : goal.returns-in-Some-clause-within
returns-in-Some-clause-within g c =
    let o = c.args.options.now in
    let is = c.whole_part.ensures in
    all_within (is_back c.args.mark.now.form) (is_mark_text o.dialect (by_of c.args.lock.now) c.args.last.now) c.in-Some.number c.whole_part.result c.in_ok-statements.statements is.statements is.count (subst (λ n. c.in-Some.number ≤ n) c.len.ensures c.in-Some.ensures.within)

pub returns-in-None-clause-passes : goal.returns-in-None-clause-passes
returns-in-None-clause-passes g c =
    let o = c.args.options.now in
    let x = view o c.args.set.now in
    let made : c.in_ok-statements.statements ≡ statements_of c.args.options.now.dialect any_meaning c.args.set.now.changes = c.in_ok-statements.ensures ∙ ap (statements_of c.args.options.now.dialect any_meaning) c.as_slice.ensures in
    may_not Part (can_undo o x c.args.mark.now.statement.now) (NotReversible x.identity) c.not_reversible.result
    (can_of o x c.args.mark.now.statement.now false c.in_ok-statements.statements c.len.result made c.len.ensures (c.in-None.ensures.counts o.dialect)) c.not_reversible.ensures.same
