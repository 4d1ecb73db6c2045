use Rattle.std.proofs.Common.{inl, refl, subst}
use Rattle.std.specs.Prelude.{Err, IfOk, None, Option, Some, ◌≡◌, option_and_then}
use Rattle.lq_report.specs.Mark.{Marked}
use Rattle.lq_unrecorded.specs.Part.{part_mark}
use Rattle.lq_mending.specs.Undoes.{IsPart, Passes, refusal_at, set_marked, standing_in}
use Rattle.lq_mending.specs.declared.outcome.RepairFault.TheVariants.{NothingToUndo}
use Rattle.lq_mending.specs.declared.part.Part.{Part}
use Rattle.lq_mending.proofs.part.part_of.Goals as goal

pub returns-in-Some-clause-passes : goal.returns-in-Some-clause-passes
returns-in-Some-clause-passes g c =
    let mark = c.in-Some.mark in
    let is : Some (mark.identity.now, mark.form, mark.statement.now) ≡ part_mark c.args.lock.now = c.in-Some.ensures in
    subst (λ (m : Option Marked). Passes (refusal_at c.args.options.now c.args.changelog.now c.args.rows.now m) c.checked_part.result) is c.checked_part.ensures.passes

pub returns-in-Some-clause-part : goal.returns-in-Some-clause-part
returns-in-Some-clause-part g c =
    let mark = c.in-Some.mark in
    let o = c.args.options.now in
    let lock = c.args.lock.now in
    let is : Some (mark.identity.now, mark.form, mark.statement.now) ≡ part_mark lock = c.in-Some.ensures in
    subst (λ (m : Option Marked). IfOk c.checked_part.result (IsPart o (option_and_then (λ k. standing_in o.dialect c.args.last.now lock k (set_marked o c.args.changelog.now c.args.rows.now k)) m) lock)) is c.checked_part.ensures.part

pub returns-in-None-clause-passes : goal.returns-in-None-clause-passes
returns-in-None-clause-passes g c =
    let is : None ≡ part_mark c.args.lock.now = c.in-None.ensures in
    subst (λ (m : Option Marked). Passes {A = Part} (refusal_at c.args.options.now c.args.changelog.now c.args.rows.now m) (Err NothingToUndo)) is (inl refl)
