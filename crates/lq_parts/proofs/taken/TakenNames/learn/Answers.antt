use Rattle.std.proofs.Common.{map, subst, ◌++◌}
use Rattle.lq_model.specs.NameSpaces.{names_inside}
use Rattle.lq_parts.specs.Taken.{AreCounts, foreign_inside, names_in, targets_inside}
use Rattle.lq_parts.proofs.TakenLemmas.{put_more}
use Rattle.lq_parts.proofs.TargetLemmas.{put_counts}
use Rattle.lq_parts.proofs.taken.TakenNames.learn.Goals as goal
use Rattle.lq_rows.specs.declared.shape.Shape.{Shape}

pub returns : goal.returns
returns c = λ tables it is none known. record {
  inner = put_more names_inside tables c.args.table.now it c.learn_inner.new.known none (c.in_ok-learn_inner.ensures it (names_in names_inside tables) is known.inner);
  foreign = put_more foreign_inside tables c.args.table.now it c.learn_foreign.new.known none (c.in_ok-learn_foreign.ensures it (names_in foreign_inside tables) is known.foreign);
  targets = put_counts tables c.args.table.now it c.learn_targets.new.known none
      (subst (λ (s : Shape). AreCounts (map (λ f. f.table) s.foreign ++ names_in targets_inside tables) c.learn_targets.new.known) is (c.in_ok-learn_targets.ensures (names_in targets_inside tables) known.targets));
}
