use Rattle.std.proofs.Common.{subst, sym}
use Rattle.std.specs.Prelude.{Bool, IfOk, ◌≡◌}
use Rattle.lq_commands.specs.Works.{update_output}
use Rattle.lq_commands.proofs.update.output.Goals as goal

pub returns-then-prints : goal.returns-then-prints
returns-then-prints c =
    subst (λ (b : Bool). IfOk c.sql_text.result (λ text. text ≡ update_output b c.args.happened.now c.args.not_fresh c.args.printed.now)) (sym c.if-prints.true) c.sql_text.ensures

pub returns-else-prints : goal.returns-else-prints
returns-else-prints c =
    subst (λ (b : Bool). IfOk c.update_text.result (λ text. text ≡ update_output b c.args.happened.now c.args.not_fresh c.args.printed.now)) (sym c.if-prints.false) c.update_text.ensures
