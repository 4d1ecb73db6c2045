use Rattle.std.proofs.Common.{Some, ap, rules, ◌∙◌}
use Rattle.lq_commands.specs.Stamp.{stamp_of}
use Rattle.lq_soak.proofs.Results.{ok_map}
use Rattle.lq_soak.proofs.SoakRuns.{soaks}
use Rattle.lq_soak.proofs.SoakStops.{back_stops, err_map, update_stops}
use Rattle.lq_soak.proofs.soaking.there_and_back.Goals as goal
use Rattle.lq_soak.specs.Soaked.{FailsSoak}

pub returns-clause-soaks : goal.returns-clause-soaks
returns-clause-soaks g c =
    let soaker = c.args.soaker in
    let there = c.in_ok-there.there in
    ok_map c.back_text.result _ _ c.back_text.ensures.back (λ text back.
    soaks soaker.dialect soaker.seed.number soaker.seed.sets (stamp_of soaker.who.now soaker.reading) _ _ _ (c.new-empty.ensures.told ∙ ap Some c.new.ensures.items) _ _ there.entries there.used c.in_ok-after.ensures.did
    c.in_ok-there.ensures.measured c.in_ok-there.ensures.told _ c.in_ok-sum.sum text c.bytes.ensures c.in_ok-sum.ensures back)

pub returns-in_err-after-clause-ends : goal.returns-in_err-after-clause-ends
returns-in_err-after-clause-ends g c =
    let soaker = c.args.soaker in
    let fails : FailsSoak soaker.dialect soaker.seed.number soaker.seed.sets (stamp_of soaker.who.now soaker.reading) c.in_err-after.field-0.0 =
    update_stops soaker.dialect soaker.seed.number soaker.seed.sets (stamp_of soaker.who.now soaker.reading) _ _ (c.new-empty.ensures.told ∙ ap Some c.new.ensures.items) c.in_err-after.ensures.ends in
    search rules

pub returns-clause-ends : goal.returns-clause-ends
returns-clause-ends g c =
    let soaker = c.args.soaker in
    err_map c.back_text.result _ _ c.back_text.ensures.ends (λ s ended.
    back_stops soaker.dialect soaker.seed.number soaker.seed.sets (stamp_of soaker.who.now soaker.reading) _ _ _ _ _ s (c.new-empty.ensures.told ∙ ap Some c.new.ensures.items) c.in_ok-after.ensures.did c.in_ok-there.ensures.told ended)
