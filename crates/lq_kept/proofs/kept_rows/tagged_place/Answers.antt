use Rattle.std.proofs.Common.{rules, sym, ◌∙◌}
use Rattle.lq_kept.proofs.Kept.{tag_found, tag_missing, tag_passed}
use Rattle.lq_kept.proofs.kept_rows.tagged_place.Goals as goal

pub returns-then-has_tag : goal.returns-then-has_tag
returns-then-has_tag c = tag_found c.args.tag.now c.args.rows.now c.loop-row.rest.now c.in-Some.front.now c.in-Some.row.now (search rules) (sym c.has_tag.ensures ∙ c.if-has_tag.true) c.loop-row.invariant

pub loop-row-preserved : goal.loop-row-preserved
loop-row-preserved c = tag_passed c.args.tag.now c.args.rows.now c.loop-row.rest.now c.in-Some.front.now c.in-Some.row.now (search rules) (sym c.has_tag.ensures ∙ c.if-has_tag.false) c.loop-row.invariant

pub returns : goal.returns
returns c = tag_missing c.args.tag.now c.args.rows.now c.loop-row.rest.now (search rules) c.loop-row.invariant
