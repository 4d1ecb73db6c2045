use Rattle.std.proofs.Common.{◌≡◌, ◌<◌, ◌+◌, suc, length, ◌∷◌, sym, ap, ◌∙◌, rules, arith}
use Rattle.std.specs.Vec.Iter.{into_iter_items, into_iter_len}
use Rattle.lq_chain.proofs.KeepLemmas.{replaced_from, put_step, put_count, replaced_end, none_left}
use Rattle.lq_chain.proofs.chain.Chain.put_some.Goals as goal

pub loop-new-preserved : goal.loop-new-preserved
loop-new-preserved g c =
    let at = c.loop-new.at in let rows = c.loop-new.self.now in let left = into_iter_items c.next.new.self in
    let first : into_iter_items c.loop-new.by ≡ c.in-Some.new ∷ left = search rules in
    let long : length rows ≡ at + suc (length left) = c.loop-new.invariant.2 ∙ ap (λ by. at + length by) first in
    let less : at < length rows = omega (arith, long) in
    let e = c.in_ok-at.ensures in
    let same : length left ≡ into_iter_len c.next.new.self = search rules in (
      put_step c.in-Some.new at c.in_ok-at.at left rows c.pass_or_put.new.self.now less e.next e.now ∙ ap (λ by. replaced_from at by rows) (sym first) ∙ c.loop-new.invariant.0,
      c.pass_or_put.ensures.past ∙ c.loop-new.invariant.1,
      put_count c.in-Some.new at c.in_ok-at.at (length left) rows c.pass_or_put.new.self.now long e.next e.now,
      same,
    )

pub returns-clause-ok : goal.returns-clause-ok
returns-clause-ok g c =
    let rows = c.loop-new.self.now in
    let none : length (into_iter_items c.loop-new.by) ≡ 0 = search rules in
    let done = none_left (into_iter_items c.loop-new.by) none in
    let all : length rows ≡ c.loop-new.at = c.loop-new.invariant.2 ∙ ap (λ by. c.loop-new.at + length by) done ∙ omega arith in
    sym (replaced_end c.loop-new.at rows all) ∙ ap (λ by. replaced_from c.loop-new.at by rows) (sym done) ∙ c.loop-new.invariant.0
