use Rattle.std.proofs.Common.{rules, chars, Some}
use Rattle.lq_yaml.specs.Yaml.{state_of}
use Rattle.lq_yaml.specs.Line.{line_tokens}
use Rattle.lq_yaml.specs.Laws.{Shows}
use Rattle.lq_yaml.proofs.Dashes.{entered_ok}
use Rattle.lq_yaml.proofs.reading.Reader.take_line.Goals as goal

pub returns-in-Some : goal.returns-in-Some
returns-in-Some c =
    let shows : Shows (Some c.in-Some.line) (line_tokens c.args.self.now.mode (chars c.args.line.now)) = search rules in
    entered_ok c.take_all.result c.in-Some.line (chars c.args.line.now) (state_of c.args.self.now) _ shows c.take_all.ensures
