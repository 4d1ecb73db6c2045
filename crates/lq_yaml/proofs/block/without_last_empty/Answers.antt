use Rattle.std.proofs.Common.{rules, arith, ◌≡◌, ◌∙◌, sym, true, false}
use Rattle.lq_yaml.specs.Tree.{is_nil}
use Rattle.lq_yaml.proofs.Trim.{one_less, no_less, none_left}
use Rattle.lq_yaml.proofs.block.without_last_empty.Goals as goal
use Rattle.lq_yaml.proofs.block.without_last_empty.Goals.{then-loop-end-test+else-is_nothing, else-loop-end-test}

pub loop-end-preserved : goal.loop-end-preserved
loop-end-preserved c =
    let empty : is_nil c.index-lines-end.result ≡ true = search rules in
    (omega arith, c.loop-end.invariant.1 ∙ one_less is_nil c.args.lines.now c.loop-end.end c.index-lines-end.result (omega arith) (omega arith) (search rules) empty)

pub returns : goal.returns
returns c =
    elim c.loop-end-test.branch [
      | then-loop-end-test+else-is_nothing w ↦
          let empty : is_nil w.index-lines-end.result ≡ false = search rules in
          sym (c.loop-end.invariant.1 ∙ no_less is_nil c.args.lines.now c.loop-end.end w.index-lines-end.result (omega arith) (omega arith) (search rules) empty)
      | else-loop-end-test w ↦
          let none : c.loop-end.end ≡ 0 = omega arith in
          sym (c.loop-end.invariant.1 ∙ none_left is_nil c.args.lines.now c.loop-end.end none)
    ]
