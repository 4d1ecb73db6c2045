use Rattle.std.proofs.Common.{rules, subst, sym}
use Rattle.std.specs.Prelude.{Err, List, false, length, ℕ, ◌≡◌}
use Rattle.lq_commands.proofs.BareName.{clean_no_bar}
use Rattle.lq_commands.specs.Stamp.{clean}
use Rattle.lq_drill.specs.Faults.{is_barred}
use Rattle.lq_drills.proofs.Readings.{unread}
use Rattle.lq_drills.proofs.drilling.cast_of.Goals as goal
use Rattle.lq_drills.specs.Players.{Begun}

pub returns-in_err-name : goal.returns-in_err-name
returns-in_err-name g c =
    let coming = g.C.Clock.to_come c.args.clock.now in
    let is : c.from_residual.result ≡ Err c.in_err-name.field-0.0 = search rules in
    record { begun = subst (Begun c.args.dialect (clean c.args.who.now) c.args.entrants coming coming) (sym is) (unread (length c.args.entrants) coming) }

pub cast_named-requires-clause-name : goal.cast_named-requires-clause-name
cast_named-requires-clause-name g c = subst (λ (name : List ℕ). is_barred name ≡ false) (sym c.in_ok-name.ensures) (clean_no_bar c.args.who.now)
