use Rattle.std.proofs.Common.{ap, arith, rules, subst, sym}
use Rattle.std.specs.List.{All, remove}
use Rattle.std.specs.Prelude.{Err, [], length, ◌++◌, ◌∷◌, ◌≡◌}
use Rattle.lq_drills.proofs.DrillFiles.{all_removed, head_has, one_less}
use Rattle.lq_drills.proofs.DrillPlayers.{Casting, cut_cast, none_cast, one_cast, one_longer}
use Rattle.lq_drills.proofs.drilling.cast_named.Goals as goal
use Rattle.lq_drills.specs.Drilled.{IsEntrant}
use Rattle.lq_drills.specs.Players.{Begun}

pub loop-alloc-init : goal.loop-alloc-init
loop-alloc-init g c =
    let coming = g.C.Clock.to_come c.args.clock.now in
    record {
      each = c.requires.each;
      few = omega (arith, c.requires.few, ap length c.new.ensures.items);
      casting = subst (λ players. Casting c.args.dialect c.args.name.now c.args.entrants coming coming c.args.entrants players c.new-2.result) (sym c.new.ensures.items)
          (subst (λ commands. Casting c.args.dialect c.args.name.now c.args.entrants coming coming c.args.entrants [] commands) (sym c.new-2.ensures) (none_cast c.args.dialect c.args.name.now c.args.entrants coming));
    }

pub joined-requires-clause-is : goal.joined-requires-clause-is
joined-requires-clause-is g c = head_has (IsEntrant c.args.dialect) c.loop-alloc.entrants c.remove-entrant.result c.remove-entrant.ensures.item c.loop-alloc.invariant.each

pub loop-alloc-preserved : goal.loop-alloc-preserved
loop-alloc-preserved g c =
    let k = c.loop-alloc.invariant in
    let it = c.in_ok-cast.ensures in
    let out = c.remove-entrant.ensures in
    let d = c.args.dialect in
    let name = c.args.name.now in
    let all = c.args.entrants in
    let coming = g.C.Clock.to_come c.args.clock.now in
    let after = g.C.Clock.to_come c.now-reading.new.self in
    let cast = c.in_ok-cast.cast in
    record {
      each = subst (All (IsEntrant d)) (sym out.rest) (all_removed (IsEntrant d) c.loop-alloc.entrants k.each);
      few = omega (arith, k.few, ap length it.players, one_longer c.loop-alloc.cast.players.items it.player, ap length out.rest, one_less c.loop-alloc.entrants c.remove-entrant.result out.item);
      casting = subst (λ entrants. Casting d name all coming after entrants cast.players.items cast.commands) (sym out.rest)
          (subst (λ players. Casting d name all coming after (remove c.loop-alloc.entrants 0) players cast.commands) (sym it.players)
          (subst (λ commands. Casting d name all coming after (remove c.loop-alloc.entrants 0) (c.loop-alloc.cast.players.items ++ it.player ∷ []) commands) (sym it.commands)
          (one_cast d name all coming (g.C.Clock.to_come c.loop-alloc.clock) c.loop-alloc.entrants c.loop-alloc.cast.players.items c.loop-alloc.cast.commands k.casting c.remove-entrant.result out.item c.now-reading.result after c.now-reading.ensures.first c.now-reading.ensures.rest it.player it.starts)));
    }

pub returns-in_err-cast : goal.returns-in_err-cast
returns-in_err-cast g c =
    let coming = g.C.Clock.to_come c.args.clock.now in
    let after = g.C.Clock.to_come c.now-reading.new.self in
    let is : c.from_residual.result ≡ Err c.in_err-cast.field-0.0 = search rules in
    record {
      begun = subst (Begun c.args.dialect c.args.name.now c.args.entrants coming after) (sym is)
          (cut_cast c.args.dialect c.args.name.now c.args.entrants coming (g.C.Clock.to_come c.loop-alloc.clock) c.loop-alloc.entrants c.loop-alloc.cast.players.items c.loop-alloc.cast.commands c.loop-alloc.invariant.casting c.remove-entrant.result c.remove-entrant.ensures.item c.now-reading.result after c.now-reading.ensures.first c.now-reading.ensures.rest);
    }
