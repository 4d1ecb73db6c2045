-- What lists of conditions tell, one level at a time.
use Rattle.std.proofs.Common.{rules}
use Rattle.std.specs.Prelude.{List, map, not, ◌≡◌}
use Rattle.lq_base.specs.declared.dialect.Dialect.{Dialect}
use Rattle.lq_base.specs.declared.tracking.Tracked.{Tracked}
use Rattle.lq_model.specs.Catalogue.{Catalogue}
use Rattle.lq_cond.specs.Told.{tells, told}
use Rattle.lq_cond.specs.declared.cond.Cond.{And, Cond, Is, Not, Or, the_lemmas}
use Rattle.lq_cond.specs.declared.condition.Condition.{Condition}
use Rattle.lq_verdicts.specs.Verdict.{all_hold, each_told, map_told, one_holds}

pub and_told : (d : Dialect) (c : Catalogue) (rows : List Tracked) (conds : List Cond) → told d (And conds) c rows ≡ map_told all_hold (each_told (map (λ cond. told d cond c rows) conds))
and_told d c rows conds = search (rules, the_lemmas)

pub or_told : (d : Dialect) (c : Catalogue) (rows : List Tracked) (conds : List Cond) → told d (Or conds) c rows ≡ map_told one_holds (each_told (map (λ cond. told d cond c rows) conds))
or_told d c rows conds = search (rules, the_lemmas)

pub not_told : (d : Dialect) (c : Catalogue) (rows : List Tracked) (conds : List Cond) → told d (Not conds) c rows ≡ map_told not (map_told one_holds (each_told (map (λ cond. told d cond c rows) conds)))
not_told d c rows conds = search (rules, the_lemmas)

pub is_told : (d : Dialect) (c : Catalogue) (rows : List Tracked) (one : Condition) → told d (Is one) c rows ≡ tells d c rows one
is_told d c rows one = search (rules, the_lemmas)
