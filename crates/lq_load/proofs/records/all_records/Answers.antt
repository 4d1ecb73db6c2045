use Rattle.std.proofs.Common.{arith, length, map, sym, ◌+◌}
use Rattle.csv.specs.Reading.{strip_bom}
use Rattle.csv.specs.Records.{fields_of}
use Rattle.csv.specs.declared.parser.State.TheVariants as st
use Rattle.lq_load.specs.LoadKeys.{config, records_in}
use Rattle.lq_load.proofs.All.{all_found}
use Rattle.lq_load.proofs.records.all_records.Goals as goal

pub returns-in-Ok : goal.returns-in-Ok
unfolding records_in
returns-in-Ok c = sym (all_found (config c.args.separator) st.StartRecord (strip_bom c.args.bytes.now) (map fields_of c.in-Ok.found.items) (length (strip_bom c.args.bytes.now) + 1) (omega arith) c.in-Ok.ensures)
