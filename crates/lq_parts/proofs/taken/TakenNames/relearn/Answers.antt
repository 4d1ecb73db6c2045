use Rattle.std.proofs.Common.{map, subst, sym, ◌++◌}
use Rattle.std.specs.Map.{remove_entry}
use Rattle.lq_base.specs.Name.{is_named}
use Rattle.lq_parts.specs.Taken.{AreCounts, names_in, targets_inside}
use Rattle.lq_parts.proofs.TargetLemmas.{set_counts, split_counts}
use Rattle.lq_parts.proofs.taken.TakenNames.relearn.Goals as goal
use Rattle.lq_rows.specs.declared.shape.Shape.{Shape}

pub returns : goal.returns
returns c = λ tables was it old new there known.
    let others = names_in targets_inside (remove_entry (is_named c.args.table.now) tables) in
    record {
      inner = c.in_ok-relearn_inner.ensures tables was it old new there known.inner;
      foreign = c.in_ok-relearn_foreign.ensures tables c.args.table.now was it old new there known.foreign;
      targets = set_counts tables c.args.table.now was it c.learn_targets.new.known there
          (subst (λ (s : Shape). AreCounts (map (λ f. f.table) s.foreign ++ others) c.learn_targets.new.known) new
          (c.in_ok-learn_targets.ensures others (c.in_ok-unlearn_targets.ensures others
          (subst (λ (s : Shape). AreCounts (map (λ f. f.table) s.foreign ++ others) c.args.self.now.targets) (sym old) (split_counts tables c.args.table.now was c.args.self.now.targets there known.targets)))));
    }
