use Rattle.std.proofs.Common.{ap, rules, subst, sym, ◌∙◌}
use Rattle.std.specs.Prelude.{Err, IfOk, List, None, Option, Some, option_map, ◌≡◌}
use Rattle.laws_repair.specs.Repair.{marked_set}
use Rattle.lq_any.specs.declared.any_change.AnyChange.{AnyChange}
use Rattle.lq_kinds.specs.declared.change_set.ChangeSet.{ChangeSet}
use Rattle.lq_report.specs.Mark.{Marked}
use Rattle.lq_seen.specs.View.{view, views}
use Rattle.lq_turns.specs.Set.{Set}
use Rattle.lq_mending.proofs.Passing.{no_memory}
use Rattle.lq_mending.specs.Undoes.{IsPart, Passes, set_marked, standing_in, unless_undone}
use Rattle.lq_mending.specs.declared.part.Part.{Part}
use Rattle.lq_mending.proofs.part.marked_part.Goals as goal
use denote.Ref.{Bor}

pub returns-in_err-found-clause-passes : goal.returns-in_err-found-clause-passes
returns-in_err-found-clause-passes g c =
    let o = c.args.options.now in
    let mark : Marked = (c.args.mark.now.identity.now, c.args.mark.now.form, c.args.mark.now.statement.now) in
    no_memory (unless_undone o mark (set_marked o c.args.changelog.now c.args.rows.now mark)) c.from_residual.result (search rules)

pub returns-in-Some-clause-passes : goal.returns-in-Some-clause-passes
returns-in-Some-clause-passes g c =
    let o = c.args.options.now in
    let mark : Marked = (c.args.mark.now.identity.now, c.args.mark.now.form, c.args.mark.now.statement.now) in
    let is : Some (view o c.in-Some.set.now) ≡ set_marked o c.args.changelog.now c.args.rows.now mark =
    ap (λ (found : Option (Bor ChangeSet)). option_map (λ (set : Bor ChangeSet). view o set.now) found) (sym c.in-Some.is) ∙ (c.in_ok-found.ensures.found o ∙ ap (λ (sets : List ChangeSet). marked_set c.args.mark.now.identity.now c.args.rows.now (views o sets)) c.as_slice.ensures) in
    subst (λ (found : Option (Set AnyChange)). Passes (unless_undone o mark found) c.part_of_set.result) is c.part_of_set.ensures.passes

pub returns-in-Some-clause-part : goal.returns-in-Some-clause-part
returns-in-Some-clause-part g c =
    let o = c.args.options.now in
    let mark : Marked = (c.args.mark.now.identity.now, c.args.mark.now.form, c.args.mark.now.statement.now) in
    let is : Some (view o c.in-Some.set.now) ≡ set_marked o c.args.changelog.now c.args.rows.now mark =
    ap (λ (found : Option (Bor ChangeSet)). option_map (λ (set : Bor ChangeSet). view o set.now) found) (sym c.in-Some.is) ∙ (c.in_ok-found.ensures.found o ∙ ap (λ (sets : List ChangeSet). marked_set c.args.mark.now.identity.now c.args.rows.now (views o sets)) c.as_slice.ensures) in
    subst (λ (found : Option (Set AnyChange)). IfOk c.part_of_set.result (IsPart o (standing_in o.dialect c.args.last.now c.args.lock.now mark found) c.args.lock.now)) is c.part_of_set.ensures.part

pub returns-in-None-clause-passes : goal.returns-in-None-clause-passes
returns-in-None-clause-passes g c =
    let o = c.args.options.now in
    let mark : Marked = (c.args.mark.now.identity.now, c.args.mark.now.form, c.args.mark.now.statement.now) in
    let is : None ≡ set_marked o c.args.changelog.now c.args.rows.now mark =
    ap (λ (found : Option (Bor ChangeSet)). option_map (λ (set : Bor ChangeSet). view o set.now) found) (sym c.in-None.is) ∙ (c.in_ok-found.ensures.found o ∙ ap (λ (sets : List ChangeSet). marked_set c.args.mark.now.identity.now c.args.rows.now (views o sets)) c.as_slice.ensures) in
    subst (λ (found : Option (Set AnyChange)). Passes {A = Part} (unless_undone o mark found) (Err c.not_named.result)) is c.not_named.ensures.same
