use Rattle.std.proofs.Common.{rules, ◌≡◌, map}
use Rattle.std.specs.Str.Lines.{lines}
use Rattle.lq_yaml.specs.File.{lines_of}
use Rattle.lq_yaml.proofs.Files.{err_found, ok_found, found_in}
use Rattle.lq_yaml.proofs.reading.read_text.Goals as goal

pub returns-clause-found : goal.returns-clause-found
returns-clause-found c =
    let are : map (λ l. l.now) c.as_slice.result.now ≡ lines c.args.text.now = search rules in
    found_in c.args.text.now c.as_slice.result.now c.read_lines.result are c.read_lines.ensures

pub returns-clause-ok : goal.returns-clause-ok
returns-clause-ok c =
    let are : map (λ l. l.now) c.as_slice.result.now ≡ lines c.args.text.now = search rules in
    ok_found (lines_of c.args.text.now) c.read_lines.result (found_in c.args.text.now c.as_slice.result.now c.read_lines.result are c.read_lines.ensures)

pub returns-clause-err : goal.returns-clause-err
returns-clause-err c =
    let are : map (λ l. l.now) c.as_slice.result.now ≡ lines c.args.text.now = search rules in
    err_found (lines_of c.args.text.now) c.read_lines.result (found_in c.args.text.now c.as_slice.result.now c.read_lines.result are c.read_lines.ensures)
