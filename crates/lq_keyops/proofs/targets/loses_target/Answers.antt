use Rattle.std.proofs.Common.{false, rules, sym, ◌≡◌}
use Rattle.std.specs.List.{list_any}
use Rattle.lq_keyops.proofs.TargetLemmas.{own_lose}
use Rattle.lq_keyops.proofs.targets.loses_target.Goals as goal
use Rattle.lq_keyops.specs.Targets.{aims_in_vain}
use Rattle.lq_model.specs.Tables.{is_targeted}

pub returns-then-not-any_aims_in_vain : goal.returns-then-not-any_aims_in_vain
returns-then-not-any_aims_in_vain c =
    let t = c.args.table.now in
    let shape = c.args.shape.now in
    let untargeted : is_targeted c.args.parts.now.now t ≡ false = search rules in
    let own : list_any (aims_in_vain t shape) shape.foreign ≡ false = search rules in
    sym (own_lose t shape c.args.parts.now.now untargeted own)
