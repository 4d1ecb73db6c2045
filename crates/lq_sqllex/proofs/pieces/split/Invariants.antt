use Rattle.std.proofs.Common.{◌≡◌, ◌≤◌, ◌<◌, ◌-◌, ℕ, false, length, take, drop}
use Rattle.std.specs.Str.{IsCharBoundary}
use Rattle.lq_base.specs.Sql.{begins}
use Rattle.lq_sqllex.specs.Pieces.{pieces}
use Rattle.lq_sqllex.proofs.PieceSteps.{going}
use Rattle.lq_sqllex.proofs.pieces.split.Given as goal

abbrev pub invariant-loop-place : goal.invariant-loop-place
invariant-loop-place l = record {
  whole : pieces l.dialect l.text l.delimiter ≡ going l.dialect l.delimiter l.found (take (l.place - l.start) (drop l.start l.text)) (drop l.place l.text);
  order : l.start ≤ l.place;
  within : l.place ≤ length l.text;
  boundary : IsCharBoundary l.text l.start;
  clear : (k : ℕ) → l.place ≤ k → k < l.clear → begins l.delimiter (drop k l.text) ≡ false;
}

abbrev pub decreases-loop-place : goal.decreases-loop-place
decreases-loop-place l = length l.text - l.place
