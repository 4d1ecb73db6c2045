use Rattle.std.proofs.Common.{length, refl, rules, ◌≡◌, ◌++◌, ◌∷◌, []}
use Rattle.lq_seen.proofs.Inverses.{front_read, last_read}
use Rattle.lq_sets.proofs.Begins.{all_begun, all_to_come, one_more_begins}
use Rattle.lq_sets.proofs.beginnings.beginnings.Goals as goal

pub loop-change-init : goal.loop-change-init
loop-change-init c = (all_to_come c.args.dialect c.args.changes.now _ c.new-beginnings.ensures, c.requires.read)

pub statement_count-requires : goal.statement_count-requires
statement_count-requires c =
    let is : c.loop-change.rest.now ≡ c.in-Some.front.now ++ c.in-Some.change.now ∷ [] = search rules in
    last_read c.args.dialect c.loop-change.rest.now c.in-Some.front.now c.in-Some.change.now is c.loop-change.invariant.1

pub loop-change-preserved : goal.loop-change-preserved
loop-change-preserved c =
    let is : c.loop-change.rest.now ≡ c.in-Some.front.now ++ c.in-Some.change.now ∷ [] = search rules in (
      one_more_begins c.args.dialect c.loop-change.rest.now c.in-Some.front.now c.in-Some.change.now (length c.in-Some.front.now) c.in_ok-count.count c.loop-change.beginnings c.push_change.new.beginnings _ is refl c.in_ok-count.ensures c.in_ok-push_change.ensures
          c.loop-change.invariant.0,
      front_read c.args.dialect c.loop-change.rest.now c.in-Some.front.now c.in-Some.change.now is c.loop-change.invariant.1,
    )

pub returns : goal.returns
returns c = all_begun c.args.dialect c.loop-change.rest.now c.loop-change.beginnings _ (search rules) c.loop-change.invariant.0
