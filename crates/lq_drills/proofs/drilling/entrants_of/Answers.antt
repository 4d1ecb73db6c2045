use Rattle.std.proofs.Common.{ap, arith, le_trans, subst, sym, ◌∙◌}
use Rattle.std.proofs.lemmas.List.Elements.{All-append, All-cons, All-nil}
use Rattle.std.specs.List.{All, remove}
use Rattle.std.specs.Prelude.{[], length, true, ◌∷◌, ◌≡◌}
use Rattle.lq_cli.specs.declared.line.Line.{Line}
use Rattle.lq_lines.specs.File.{is_run}
use Rattle.lq_players.specs.AtOnce.{HasShortTag}
use Rattle.lq_sources.specs.Faults.{IsTold}
use Rattle.lq_drills.proofs.DrillFiles.{all_removed, behind, one_less, one_read}
use Rattle.lq_drills.proofs.DrillPlayers.{one_longer}
use Rattle.lq_drills.proofs.drilling.entrants_of.Goals as goal
use Rattle.lq_drills.specs.Drilled.{IsEntrant}
use Rattle.lq_jobs.specs.Drills.{command_in, entrants_of}

pub loop-alloc-preserved : goal.loop-alloc-preserved
loop-alloc-preserved g c =
    let k = c.loop-alloc.invariant in
    let e = c.in_ok-entrant_of.field-0 in
    let d = c.args.dialect in
    let out = c.remove-line.ensures in
    let more = c.in_ok-push.ensures.ok in
    let found = c.in_ok-entrant_of.ensures in
    record {
      told = found.told ∙ k.told;
      later = le_trans k.later found.later;
      count = omega (arith, k.count, ap length more, one_longer c.loop-alloc.entrants e, ap length out.rest, one_less c.loop-alloc.lines c.remove-line.result out.item);
      each = subst (All (IsEntrant d)) (sym more) (All-append (IsEntrant d) c.loop-alloc.entrants (e ∷ []) k.each (All-cons (IsEntrant d) e [] found.is (All-nil (IsEntrant d))));
      runs = subst (All (λ (line : Line). is_run line.job ≡ true)) (sym out.rest) (all_removed (λ (line : Line). is_run line.job ≡ true) c.loop-alloc.lines k.runs);
      short = subst (All (λ (line : Line). HasShortTag (command_in line.job))) (sym out.rest) (all_removed (λ (line : Line). HasShortTag (command_in line.job)) c.loop-alloc.lines k.short);
      found = λ source tells.
          k.found source tells
          ∙ one_read source d c.loop-alloc.entrants c.loop-alloc.lines c.remove-line.result e out.item (found.found source (subst (λ files. IsTold files source) (sym k.told) tells))
          ∙ ap (λ front. behind front (entrants_of source d (remove c.loop-alloc.lines 0))) (sym more)
          ∙ ap (λ lines. behind c.push.new.self (entrants_of source d lines)) (sym out.rest);
    }
