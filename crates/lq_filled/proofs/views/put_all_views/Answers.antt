use Rattle.std.proofs.Common.{refl, rules}
use Rattle.lq_filled.proofs.Behind.{next_absent}
use Rattle.lq_filled.proofs.WholeLemmas.{view_fits, view_goes, views_are}
use Rattle.lq_filled.proofs.views.put_all_views.Goals as goal

pub put_view-requires : goal.put_view-requires
put_view-requires c =
    next_absent c.loop-name.parts.now.views c.pop.new.self c.loop-name.left c.in-Some.name c.in-Some.view c.in-Some.ensures c.loop-name.invariant.sorted

pub loop-name-init : goal.loop-name-init
loop-name-init c = record { sorted = c.requires; all = refl }

pub loop-name-preserved : goal.loop-name-preserved
loop-name-preserved c =
    let there = c.loop-name.parts.now in
    let now = c.put_view.new.parts.now in
    record {
      sorted = view_fits there now c.pop.new.self c.loop-name.left c.in-Some.name c.in-Some.view c.in-Some.ensures c.in_ok-put_view.ensures c.loop-name.invariant.sorted;
      all = view_goes there now _ c.pop.new.self c.loop-name.left c.in-Some.name c.in-Some.view c.in-Some.ensures c.in_ok-put_view.ensures c.loop-name.invariant.sorted c.loop-name.invariant.all;
    }

pub returns : goal.returns
returns c = views_are c.loop-name.parts.now _ c.loop-name.left (search rules) c.loop-name.invariant.all
