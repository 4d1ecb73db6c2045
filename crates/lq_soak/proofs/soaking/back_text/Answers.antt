use Rattle.std.proofs.Common.{subst, sym}
use Rattle.std.specs.Prelude.{IfSome, ◌≤◌}
use Rattle.lq_base.specs.Number.{char_count}
use Rattle.lq_base.specs.declared.command.Command.{Command}
use Rattle.lq_commands.specs.Scripts.{tag_in}
use Rattle.lq_commands.specs.Stamp.{stamp_of}
use Rattle.lq_soak.proofs.SoakRuns.{taken_so}
use Rattle.lq_soak.proofs.soaking.back_text.Goals as goal

pub disk_after-requires-clause-tag : goal.disk_after-requires-clause-tag
disk_after-requires-clause-tag g c = subst (λ (command : Command). IfSome (tag_in command) (λ tag. char_count tag ≤ 255)) (sym c.take_back-rollback.ensures) tt

pub returns-clause-back : goal.returns-clause-back
returns-clause-back g c =
    let soaker = c.args.soaker in
    let there = c.args.there in
    let back = c.in_ok-back.back in
    taken_so soaker.dialect soaker.seed.number soaker.seed.sets (stamp_of soaker.who.now soaker.reading) c.take_back-rollback.result _ _ there.entries there.used c.args.sum c.in_ok-text.text back.entries back.used _ _
    c.take_back-rollback.ensures c.in_ok-after.ensures.did c.in_ok-back.ensures.measured c.in_ok-text.ensures
