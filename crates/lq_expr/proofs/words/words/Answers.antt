use Rattle.std.proofs.Common.{rules, ◌≡◌, ◌++◌, sym, ◌∙◌, string_bytes}
use Rattle.std.specs.Char.{encode_utf8}
use Rattle.lq_expr.proofs.Runs.{start, blank_step, mark_step, other_step, finish}
use Rattle.lq_expr.proofs.words.words.Goals as goal

pub loop-c-init : goal.loop-c-init
loop-c-init c = start _ _ _ _ (search rules) (search rules) (search rules)

pub loop-c-preserved-in-Continue-1 : goal.loop-c-preserved-in-Continue-1
loop-c-preserved-in-Continue-1 c =
    blank_step _ _ _ _ _ _ _ c.in-Some.c (sym c.is_blank.ensures ∙ c.if-is_blank.true) c.in-Some.ensures.steps.0 c.in_ok-end_run.ensures.words c.in_ok-end_run.ensures.empty c.loop-c.invariant

pub loop-c-preserved-in-Continue-branch-4 : goal.loop-c-preserved-in-Continue-branch-4
loop-c-preserved-in-Continue-branch-4 c =
    let mark : string_bytes c.push.new.self ≡ encode_utf8 c.in-Some.c = search rules in
    mark_step _ _ _ _ _ _ _ _ _ c.in-Some.c (sym c.is_blank.ensures ∙ c.if-is_blank.false) (sym c.is_mark.ensures ∙ c.if-is_mark.true) c.in-Some.ensures.steps.0
    c.in_ok-end_run-2.ensures.words mark c.in_ok-end_run-3.ensures.words c.in_ok-end_run-3.ensures.empty c.loop-c.invariant

pub loop-c-preserved : goal.loop-c-preserved
loop-c-preserved c =
    let longer : string_bytes c.push-else-is_mark.new.self ≡ string_bytes c.loop-c.run ++ encode_utf8 c.in-Some.c = search rules in
    other_step _ _ _ _ _ _ c.in-Some.c (sym c.is_blank.ensures ∙ c.if-is_blank.false) (sym c.is_mark.ensures ∙ c.if-is_mark.false) c.in-Some.ensures.steps.0 longer c.loop-c.invariant

pub returns : goal.returns
returns c = finish _ _ _ _ _ c.in-None.ensures.steps.0.0 c.in_ok-end_run-4.ensures.words c.loop-c.invariant
