use Rattle.std.proofs.Common.{map, subst, sym, ◌++◌}
use Rattle.std.specs.Map.{remove_entry}
use Rattle.lq_base.specs.Name.{is_named}
use Rattle.lq_parts.specs.Taken.{AreCounts, names_in, targets_inside}
use Rattle.lq_parts.proofs.TargetLemmas.{split_counts}
use Rattle.lq_parts.proofs.taken.TakenNames.take.Goals as goal
use Rattle.lq_rows.specs.declared.shape.Shape.{Shape}

pub returns-in-Ok : goal.returns-in-Ok
returns-in-Ok c = λ tables n was is there known.
    let others = names_in targets_inside (remove_entry (is_named n) tables) in
    record {
      inner = tt;
      foreign = tt;
      targets = c.in-Ok.ensures others (subst (λ (s : Shape). AreCounts (map (λ f. f.table) s.foreign ++ others) c.args.self.now.targets) (sym is) (split_counts tables n was c.args.self.now.targets there known.targets));
    }
