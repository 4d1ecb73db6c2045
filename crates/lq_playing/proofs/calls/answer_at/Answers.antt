use Rattle.std.proofs.Common.{ap, refl, subst, sym, ◌∙◌}
use Rattle.std.specs.Prelude.{IfErr}
use Rattle.lq_drill.specs.declared.fault.DrillFault.TheVariants as drill
use Rattle.lq_playing.specs.Answers.{FailsAs, is_failed_end, is_told_end, refusal_in}
use Rattle.lq_playing.proofs.Told.{always, no_disk, no_fact, ok_map}
use Rattle.lq_playing.proofs.calls.answer_at.Goals as goal

pub returns-in-Done-clause-whole : goal.returns-in-Done-clause-whole
returns-in-Done-clause-whole g c = always c.told.result _ (ap is_failed_end c.in-Done.is)

pub returns-in-Done-clause-ends : goal.returns-in-Done-clause-ends
returns-in-Done-clause-ends g c = ok_map c.told.result _ _ c.told.ensures.ends (λ a it is. it ∙ ap (λ r. g.T.Checks.ends c.args.source.now r) (sym (ap refusal_in c.in-Done.is)))

pub returns-in-Done-clause-locked : goal.returns-in-Done-clause-locked
returns-in-Done-clause-locked g c = ok_map c.told.result _ _ c.told.ensures.own (λ a own untold. no_fact (sym untold ∙ ap is_told_end c.in-Done.is))

pub returns-in-Done-clause-disk : goal.returns-in-Done-clause-disk
returns-in-Done-clause-disk g c = λ is. no_disk c.told.result c.told.ensures.fault is

pub returns-in-Refused-clause-whole : goal.returns-in-Refused-clause-whole
returns-in-Refused-clause-whole g c = always c.told-in-Refused.result _ (ap is_failed_end c.in-Refused.is)

pub returns-in-Refused-clause-ends : goal.returns-in-Refused-clause-ends
returns-in-Refused-clause-ends g c = ok_map c.told-in-Refused.result _ _ c.told-in-Refused.ensures.ends (λ a it is. it ∙ ap (λ r. g.T.Checks.ends c.args.source.now r) (sym (ap refusal_in c.in-Refused.is)))

pub returns-in-Refused-clause-locked : goal.returns-in-Refused-clause-locked
returns-in-Refused-clause-locked g c = ok_map c.told-in-Refused.result _ _ c.told-in-Refused.ensures.own (λ a own untold. no_fact (sym untold ∙ ap is_told_end c.in-Refused.is))

pub returns-in-Refused-clause-disk : goal.returns-in-Refused-clause-disk
returns-in-Refused-clause-disk g c = λ is. no_disk c.told-in-Refused.result c.told-in-Refused.ensures.fault is

pub returns-in-Done-clause-fails : goal.returns-in-Done-clause-fails
returns-in-Done-clause-fails g c = subst (λ e. IfErr c.told.result (FailsAs e)) (sym c.in-Done.is) c.told.ensures.fault

pub returns-in-Refused-clause-fails : goal.returns-in-Refused-clause-fails
returns-in-Refused-clause-fails g c = subst (λ e. IfErr c.told-in-Refused.result (FailsAs e)) (sym c.in-Refused.is) c.told-in-Refused.ensures.fault

pub returns-in-Disk-clause-fails : goal.returns-in-Disk-clause-fails
returns-in-Disk-clause-fails g c = subst (λ e. FailsAs e drill.Disk) (sym c.in-Disk.is) refl

pub returns-in-Full-clause-fails : goal.returns-in-Full-clause-fails
returns-in-Full-clause-fails g c = subst (λ e. FailsAs e (drill.Full c.in-Full.used c.in-Full.next)) (sym c.in-Full.is) refl

pub returns-in-OutOfMemory-clause-fails : goal.returns-in-OutOfMemory-clause-fails
returns-in-OutOfMemory-clause-fails g c = subst (λ e. FailsAs e drill.OutOfMemory) (sym c.in-OutOfMemory.is) refl
