use Rattle.std.specs.Str.Lines.{lines}
use Rattle.lq_sqltree.proofs.Files.{file_is}
use Rattle.lq_sqltree.proofs.reading.file_in.Goals as goal

pub returns : goal.returns
returns c = file_is (lines c.args.bytes.now) c.read_sql.result c.read_sql.ensures.file c.read_sql.ensures.no_header c.read_sql.ensures.line
