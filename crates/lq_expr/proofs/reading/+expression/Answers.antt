use Rattle.std.proofs.Common.{rules, ◌≡◌, None, Some}
use Rattle.lq_expr.specs.Cuts.{negated, enclosed}
use Rattle.lq_expr.proofs.Levels.{lowest, negation_is, enclosed_is, name_is}
use Rattle.lq_expr.proofs.reading.+expression.Goals as goal

pub factor-returns-then-levels-eq0 : goal.factor-returns-then-levels-eq0
factor-returns-then-levels-eq0 t c = rw (lowest c.args.levels c.args.words.now c.if-levels-eq0.true) c.name.ensures

pub factor-returns-in-Some : goal.factor-returns-in-Some
factor-returns-in-Some t c =
    let behind : negated c.args.words.now ≡ Some c.in-Some.negated.now = search rules in
    rw (negation_is c.args.levels c.args.words.now c.in-Some.negated.now c.if-levels-eq0.false behind) c.negation.ensures

pub factor-returns-in-Some-enclosed : goal.factor-returns-in-Some-enclosed
factor-returns-in-Some-enclosed t c =
    let between : enclosed c.args.words.now ≡ Some c.in-Some-enclosed.inside.now = search rules in
    rw (enclosed_is c.args.levels c.args.words.now c.in-Some-enclosed.inside.now c.if-levels-eq0.false between) c.joined.ensures

pub factor-returns : goal.factor-returns
factor-returns t c =
    let no_not : negated c.args.words.now ≡ None = search rules in
    let no_open : enclosed c.args.words.now ≡ None = search rules in
    rw (name_is c.args.levels c.args.words.now c.if-levels-eq0.false no_not no_open) c.name-2.ensures
