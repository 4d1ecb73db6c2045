use Rattle.std.proofs.Common.{List, ap, rules, subst, ◌∙◌, ◌∷◌, ◌≡◌}
use Rattle.lq_base.specs.declared.value.Value.{Value as Held}
use Rattle.lq_model.specs.declared.column.Column.{Column as Shape}
use Rattle.lq_rows.specs.Stored.{AllShow, ShowsRows, has_values}
use Rattle.lq_rows.specs.declared.held.Seen.{Seen}
use Rattle.lq_rows.proofs.seen.has_seen.Goals as goal

-- what is shown of a list is shown of its first and of the rest
parts : (columns : List Shape) (rows : List (List Held)) (left : List Seen) (one : Seen) (after : List Seen) → left ≡ one ∷ after → AllShow columns rows left → ShowsRows columns one.columns rows one.values × AllShow columns rows after
parts columns rows left one after is shown = subst (AllShow columns rows) is shown

pub returns-then-same_names : goal.returns-then-same_names
returns-then-same_names c columns rows shown =
    let both = parts columns rows _ _ _ c.in-Some.ensures.cases.0 (c.loop-one.invariant columns rows shown) in
    let same : c.in-Some.one.now.columns ≡ c.args.names.now = search rules in
    c.contains.ensures ∙ (both.0 c.args.values.now ∙ ap (λ names. has_values columns names rows c.args.values.now) same)

pub loop-one-preserved : goal.loop-one-preserved
loop-one-preserved c columns rows shown = (parts columns rows _ _ _ c.in-Some.ensures.cases.0 (c.loop-one.invariant columns rows shown)).1
