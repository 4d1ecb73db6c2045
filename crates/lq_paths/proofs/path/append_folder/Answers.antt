use Rattle.std.proofs.Common.{rules, ◌≡◌, map}
use Rattle.lq_paths.specs.Paths.{parts}
use Rattle.lq_paths.proofs.Paths.{folder_end}
use Rattle.lq_paths.proofs.path.append_folder.Goals as goal

pub returns-in-Some : goal.returns-in-Some
returns-in-Some c =
    let are : map (λ q. q.now) c.as_slice.result.now ≡ parts c.args.path.now = search rules in
    folder_end c.append_ended.result c.args.path.now c.args.text.now c.append_ended.new.text c.as_slice.result.now c.in-Some.front.now c.in-Some.field-0-0.now are c.in-Some.ensures.cases.0 c.append_ended.ensures
