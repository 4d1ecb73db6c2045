use Rattle.std.proofs.Common.{length}
use Rattle.lq_props.specs.Replaced.{value_in, value_in_file}
use Rattle.lq_props.proofs.Lengths.{outside, still_none, still_none_in}
use Rattle.lq_props.proofs.props.Props.define.Goals as goal

pub invariant_of-self-in-Command : goal.invariant_of-self-in-Command
invariant_of-self-in-Command c = record {
  of_lengths = λ n far.
      let was = c.args.self.now in
      let out = outside was.lengths.keys c.insert.new.self.keys (length c.args.name.now) (length n) c.in_ok-insert.ensures.keys far in
      let none = was.of_lengths n out.0 in
      (still_none c.define_in.result (value_in was.command) (value_in c.define_in.new.values) c.args.name.now c.args.value.now n c.define_in.ensures.ok c.define_in.ensures.err out.1 none.0, none.1, none.2);
}

pub invariant_of-self-in-File : goal.invariant_of-self-in-File
invariant_of-self-in-File c = record {
  of_lengths = λ n far.
      let was = c.args.self.now in
      let out = outside was.lengths.keys c.insert.new.self.keys (length c.args.name.now) (length n) c.in_ok-insert.ensures.keys far in
      let none = was.of_lengths n out.0 in
      (none.0, λ f. still_none_in c.define_in_file.result (value_in_file was.files) (value_in_file c.define_in_file.new.files) _ c.args.name.now c.args.value.now f n c.define_in_file.ensures.ok c.define_in_file.ensures.err out.1 (none.1 f), none.2);
}

pub invariant_of-self-in-Global : goal.invariant_of-self-in-Global
invariant_of-self-in-Global c = record {
  of_lengths = λ n far.
      let was = c.args.self.now in
      let out = outside was.lengths.keys c.insert.new.self.keys (length c.args.name.now) (length n) c.in_ok-insert.ensures.keys far in
      let none = was.of_lengths n out.0 in
      (none.0, none.1, still_none c.define_in-in-Global.result (value_in was.global) (value_in c.define_in-in-Global.new.values) c.args.name.now c.args.value.now n c.define_in-in-Global.ensures.ok c.define_in-in-Global.ensures.err out.1 none.2);
}
