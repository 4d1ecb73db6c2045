use Rattle.std.proofs.Common.{rules, ◌≡◌, Some, None}
use Rattle.lq_yaml.specs.declared.line.Line as line
use Rattle.lq_yaml.specs.Laws.{shown_line}
use Rattle.lq_yaml.specs.Line.{line_by}
use Rattle.lq_yaml.proofs.Dashes.{same}
use Rattle.lq_yaml.proofs.line.plain_line.Goals as goal

pub returns-then-begins_with : goal.returns-then-begins_with
returns-then-begins_with c =
    let l : line.Line = record { tokens = c.new.result; mode = c.without_block-mode.result } in
    let is : Some (shown_line l) ≡ line_by c.args.mode c.args.line.now None = search rules in
    same (Some l) _ is
