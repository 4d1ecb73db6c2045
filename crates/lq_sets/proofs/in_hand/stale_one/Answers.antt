use Rattle.std.proofs.Common.{ap, None, Option, rules, Some, sym, ◌≡◌, ◌∙◌}
use Rattle.std.specs.List.{slice_get}
use Rattle.lq_any.specs.AnyChange.{is_for}
use Rattle.lq_any.specs.declared.any_change.AnyChange.{AnyChange}
use Rattle.lq_seen.proofs.Read.{all_at}
use Rattle.lq_sets.proofs.in_hand.stale_one.Goals as goal
use Rattle.lq_sets.specs.Counting.{stale_one}

pub stale_change-requires : goal.stale_change-requires
stale_change-requires g c =
    let there : slice_get c.args.set.now.changes c.args.place ≡ Some c.in-Some.change.now = search rules in
    record { read = all_at (is_for c.args.dialect) c.args.set.now.changes c.args.place c.in-Some.change.now c.requires.read there }

pub returns-in-Some : goal.returns-in-Some
returns-in-Some g c =
    let there : slice_get c.args.set.now.changes c.args.place ≡ Some c.in-Some.change.now = search rules in
    c.stale_change.ensures ∙ ap (λ (o : Option AnyChange). stale_one c.args.dialect o (g.K.Look.catalogue c.args.look.now)) (sym there)

pub returns-in-None : goal.returns-in-None
returns-in-None g c =
    let missing : slice_get c.args.set.now.changes c.args.place ≡ None = search rules in
    ap (λ (o : Option AnyChange). stale_one c.args.dialect o (g.K.Look.catalogue c.args.look.now)) (sym missing)
