use Rattle.std.proofs.Common.{arith, rules, ◌≡◌}
use Rattle.lq_plan.proofs.Behind.{behind_here, behind_other}
use Rattle.lq_plan.proofs.validation.faults.Goals as goal
use Rattle.lq_plan.proofs.validation.faults.Goals.{then-head+in_ok-is_twice+in_ok-add_twice+in_ok-add_changed_at, else-head}

pub loop-head-preserved : goal.loop-head-preserved
loop-head-preserved c =
    elim c.if-head.branch [
      | then-head+in_ok-is_twice+in_ok-add_twice+in_ok-add_changed_at w ↦
          let set : c.if-head.seen ≡ w.was_seen.new.seen = search rules in
          let found : c.if-head.found ≡ w.add_changed_at.new.found = search rules in
          rw (set, found) (behind_here c.args.heads.now c.args.rows.now c.loop-head.head-index _ c.head-item.result c.loop-head.seen c.loop-head.found (omega arith) c.head-item.is c.loop-head.invariant
          w.was_seen.new.seen w.key_of.result w.in_ok-is_twice.is_twice _ w.add_twice.new.found w.add_changed_at.new.found w.if-head.true
          w.key_of.ensures.file w.key_of.ensures.id w.key_of.ensures.author w.in_ok-is_twice.ensures.before w.in_ok-is_twice.ensures.after
          w.in_ok-add_twice.ensures (w.row_at.ensures c.args.rows.now c.in_ok-index.ensures) w.in_ok-add_changed_at.ensures)
      | else-head w ↦
          let set : c.if-head.seen ≡ c.loop-head.seen = search rules in
          let found : c.if-head.found ≡ c.loop-head.found = search rules in
          rw (set, found) (behind_other c.args.heads.now c.args.rows.now c.loop-head.head-index _ c.head-item.result c.loop-head.seen c.loop-head.found (omega arith) c.head-item.is c.loop-head.invariant w.if-head.false)
    ]
