use Rattle.std.proofs.Common.{rules, arith, ◌≡◌, ◌∙◌, sym, true, false}
use Rattle.lq_yaml.specs.Tree.{is_blank}
use Rattle.lq_yaml.proofs.Trim.{one_less, no_less, none_left}
use Rattle.lq_yaml.proofs.chars.trimmed.Goals as goal
use Rattle.lq_yaml.proofs.chars.trimmed.Goals.{then-loop-end-test+else-is_blank, else-loop-end-test}

pub loop-end-preserved : goal.loop-end-preserved
loop-end-preserved c =
    let blank : is_blank c.index-from-end.result ≡ true = search rules in
    (omega arith, c.loop-end.invariant.1 ∙ one_less is_blank c.args.from.now c.loop-end.end c.index-from-end.result (omega arith) (omega arith) (search rules) blank)

pub returns-clause-front : goal.returns-clause-front
returns-clause-front c =
    elim c.loop-end-test.branch [
      | then-loop-end-test+else-is_blank w ↦
          let blank : is_blank w.index-from-end.result ≡ false = search rules in
          sym (c.loop-end.invariant.1 ∙ no_less is_blank c.args.from.now c.loop-end.end w.index-from-end.result (omega arith) (omega arith) (search rules) blank)
      | else-loop-end-test w ↦
          let none : c.loop-end.end ≡ 0 = omega arith in
          sym (c.loop-end.invariant.1 ∙ none_left is_blank c.args.from.now c.loop-end.end none)
    ]
