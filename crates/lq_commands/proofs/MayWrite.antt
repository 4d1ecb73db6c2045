-- Of a command that may write.
use Rattle.std.proofs.Common.{ap, sym, ◌∙◌}
use Rattle.std.specs.Prelude.{false, true, ◌≡◌}
use Rattle.lq_base.specs.declared.command.Command.{Command}
use Rattle.lq_commands.specs.Works.{only_reads}

false_true : false ≡ true → ⊥
false_true h = Prim.cc

-- it does not only read
pub writes : {A : Type 0} (c k : Command) → c ≡ k → only_reads k ≡ false → only_reads c ≡ true → A
writes c k is off reads = absurd (false_true (sym off ∙ sym (ap only_reads is) ∙ reads))
