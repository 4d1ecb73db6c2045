use Rattle.std.proofs.Common.{false, ◌≡◌, ◌<◌, ◌≤◌, ◌+◌, suc, length, drop, sym, ap, ◌∙◌, rules, arith}
use Rattle.lq_chain.proofs.KeepLemmas.{kept_from, keep_step, keep_count, from_end, drop_at, drop_past}
use Rattle.lq_chain.proofs.chain.Chain.keep_marked.Goals as goal

pub loop-mark-preserved : goal.loop-mark-preserved
loop-mark-preserved g c =
    let marks = c.args.marks.now in let i = c.loop-mark.mark-index in let at = c.loop-mark.at in let rows = c.loop-mark.self.now in
    let within : i < length marks = search rules in
    let first = drop_at marks i false within in
    let long : length rows ≡ at + suc (length (drop (i + 1) marks)) = c.loop-mark.invariant.2 ∙ ap (λ ms. at + length ms) first in
    let less : at < length rows = omega (arith, long) in
    let e = c.in_ok-at.ensures in (
      keep_step _ at c.in_ok-at.at (drop (i + 1) marks) rows c.keep_or_take.new.self.now less e.next e.now ∙ ap (λ ms. kept_from at ms rows) (sym first) ∙ c.loop-mark.invariant.0,
      c.keep_or_take.ensures.past ∙ c.loop-mark.invariant.1,
      keep_count _ at c.in_ok-at.at (length (drop (i + 1) marks)) rows c.keep_or_take.new.self.now long e.next e.now,
    )

pub returns-clause-ok : goal.returns-clause-ok
returns-clause-ok g c =
    let marks = c.args.marks.now in let rows = c.loop-mark.self.now in
    let past : length marks ≤ c.loop-mark.mark-index = omega (arith, c.loop-mark-test.false) in
    let done = drop_past marks c.loop-mark.mark-index past in
    let all : length rows ≡ c.loop-mark.at = c.loop-mark.invariant.2 ∙ ap (λ ms. c.loop-mark.at + length ms) done ∙ omega arith in
    sym (from_end c.loop-mark.at rows all) ∙ ap (λ ms. kept_from c.loop-mark.at ms rows) (sym done) ∙ c.loop-mark.invariant.0
