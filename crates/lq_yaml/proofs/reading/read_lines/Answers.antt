use Rattle.std.proofs.Common.{rules, arith, sym, ◌≡◌, length, Some, None, inr}
use Rattle.lq_yaml.specs.Yaml.{state_of, shown_lines, text_tree}
use Rattle.lq_yaml.specs.Machine.{finish}
use Rattle.lq_yaml.proofs.Dashes.{high, low}
use Rattle.lq_yaml.proofs.Files.{begun_tree, deeper, ended, stepped, stuck}
use Rattle.lq_yaml.proofs.reading.read_lines.Goals as goal

pub loop-i-init : goal.loop-i-init
loop-i-init c = begun_tree c.args.lines.now _ (search rules)

pub loop-i-preserved : goal.loop-i-preserved
loop-i-preserved c =
    let took = rw c.if-not-branch.false at c.in_ok-take_line.ensures in
    stepped c.args.lines.now c.loop-i.i _ _ _ (text_tree (shown_lines c.args.lines.now)) c.loop-i-test.true c.loop-i.invariant (low _ _ took (omega arith)) (omega arith)

pub returns-then-not-branch : goal.returns-then-not-branch
returns-then-not-branch c =
    let none = rw c.if-not-branch.true at c.in_ok-take_line.ensures in
    inr (sym (stuck c.args.lines.now c.loop-i.i _ _ (text_tree (shown_lines c.args.lines.now)) c.loop-i-test.true c.loop-i.invariant none))

pub returns-then-reader-gt64 : goal.returns-then-reader-gt64
returns-then-reader-gt64 c =
    let took = rw c.if-not-branch.false at c.in_ok-take_line.ensures in
    let deep = high _ _ took c.if-reader-gt64.true in
    inr (sym (deeper c.args.lines.now c.loop-i.i _ _ deep.0 (text_tree (shown_lines c.args.lines.now)) c.loop-i-test.true c.loop-i.invariant deep.1 deep.2))

pub returns-in-Some : goal.returns-in-Some
returns-in-Some c =
    let at : c.loop-i.i ≡ length c.args.lines.now = omega arith in
    let end : finish (state_of c.loop-i.reader).deep.at ≡ Some c.in-Some.node = search rules in
    inr (sym (ended c.args.lines.now c.loop-i.i _ (text_tree (shown_lines c.args.lines.now)) (Some c.in-Some.node) at c.loop-i.invariant end))

pub returns-in-None : goal.returns-in-None
returns-in-None c =
    let at : c.loop-i.i ≡ length c.args.lines.now = omega arith in
    let end : finish (state_of c.loop-i.reader).deep.at ≡ None = search rules in
    inr (sym (ended c.args.lines.now c.loop-i.i _ (text_tree (shown_lines c.args.lines.now)) None at c.loop-i.invariant end))
