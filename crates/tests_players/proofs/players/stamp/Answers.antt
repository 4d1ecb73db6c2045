use Rattle.std.proofs.Common.{subst, sym}
use Rattle.std.specs.Prelude.{List, false, ℕ, ◌≡◌}
use Rattle.lq_drill.specs.Faults.{is_barred}
use Rattle.tests_players.proofs.Added.{of_ok}
use Rattle.tests_players.proofs.players.stamp.Goals as goal

pub returns-clause-plain : goal.returns-clause-plain
returns-clause-plain g c = subst (λ (who : List ℕ). is_barred who ≡ false) (sym (of_ok c.new.result (λ made. made ≡ c.name.result.now) c.expect.result c.expect.ensures c.new.ensures)) c.name.ensures
