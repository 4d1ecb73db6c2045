use Rattle.std.proofs.Common.{◌≡◌, rules, Some, None}
use Rattle.lq_props.specs.Props.{value_of}
use Rattle.lq_props.specs.Replaced.{cut_at, use_behind}
use Rattle.lq_props.proofs.Cuts.{use_step, on_step, end_step}
use Rattle.lq_props.proofs.Defined.{on_ok}
use Rattle.lq_props.proofs.replacing.append_closed.Goals as goal

pub returns-in-Some-used_value : goal.returns-in-Some-used_value
returns-in-Some-used_value c =
    let is : cut_at 36 c.loop-before.rest.now ≡ Some (c.in-Some.before.now, c.in-Some.behind.now) = search rules in
    let has : use_behind (value_of c.args.props.now c.args.file.now) c.in-Some.behind.now ≡ Some c.in-Some-used_value.value.now = search rules in
    on_ok c.push_str-in-Some-used_value.result c.push_str-in-Some-used_value.ensures.ok
    (λ more. use_step _ _ _ _ _ _ _ _ _ is has c.in_ok-push_str.ensures.ok more c.loop-before.invariant.1)

pub loop-before-preserved : goal.loop-before-preserved
loop-before-preserved c =
    let is : cut_at 36 c.loop-before.rest.now ≡ Some (c.in-Some.before.now, c.in-Some.behind.now) = search rules in
    let none : use_behind (value_of c.args.props.now c.args.file.now) c.in-Some.behind.now ≡ None = search rules in
    (search rules, on_step _ _ _ _ _ _ _ _ is none c.in_ok-push_str.ensures.ok c.in_ok-push_str-2.ensures.ok c.loop-before.invariant.1)

pub returns : goal.returns
returns c =
    let is : cut_at 36 c.loop-before.rest.now ≡ None = search rules in
    on_ok c.push_str-3.result c.push_str-3.ensures.ok (λ more. end_step _ _ _ _ _ _ is c.in_ok-push_str-3.ensures.ok more c.loop-before.invariant.1)
