use Rattle.std.proofs.Common.{rules, ◌≡◌, false, Some, option_map}
use Rattle.lq_yaml.specs.declared.line.Line as line
use Rattle.lq_yaml.specs.declared.mode.Mode.TheVariants.{Between}
use Rattle.lq_yaml.specs.Laws.{shown_line, shallow, enough}
use Rattle.lq_yaml.specs.Line.{parent_of, is_marker, mode_after, content_tokens, tokens_at}
use Rattle.lq_yaml.proofs.Dashes.{content_shows, same}
use Rattle.lq_yaml.proofs.line.content.Goals as goal

pub returns-then-is_marker : goal.returns-then-is_marker
returns-then-is_marker c =
    let l : line.Line = record { tokens = c.new.result; mode = Between 0 } in
    let is : Some (shown_line l) ≡ content_tokens c.args.mode c.args.column c.args.from.now = search rules in
    same (Some l) _ is

pub returns-in-Some : goal.returns-in-Some
returns-in-Some c =
    let l : line.Line = record { tokens = c.in-Some.tokens; mode = c.mode_after-mode.result } in
    let other : is_marker c.args.mode c.args.column c.args.from.now ≡ false = search rules in
    let is : option_map (shallow enough) (tokens_at c.args.column c.args.from.now) ≡ Some l.tokens.items = search rules in
    let mode : l.mode ≡ mode_after (parent_of c.args.mode) l.tokens.items = search rules in
    content_shows l c.args.mode c.args.column c.args.from.now other is mode
