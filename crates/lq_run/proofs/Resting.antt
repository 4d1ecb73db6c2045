-- The lock after a full journal.
use Rattle.std.proofs.Common.{ap, refl, ◌∙◌}
use Rattle.std.specs.List.{list_any}
use Rattle.std.specs.Prelude.{Bool, List, [], false, true, ℕ, ◌==◌, ◌++◌, ◌||◌, ◌∷◌, ◌≡◌}
use Rattle.lq_base.specs.declared.dialect.Dialect.{Dialect}
use Rattle.lq_base.specs.declared.dialect.Dialect.TheVariants.{Mysql, Postgresql}
use Rattle.lq_base.specs.declared.tracking.Lock.{Lock}
use Rattle.lq_drill.specs.Faults.{has_bar}
use Rattle.lq_track.specs.Lock.{free}
use Rattle.lq_turns.specs.Script.{closing}
use Rattle.lq_turns.specs.Session.{Session, called}
use Rattle.lq_turns.specs.declared.stamp.Stamp.{Stamp}
use Rattle.lq_run.specs.Stands.{IsMarked}

or_true : (b : Bool) → (b || true) ≡ true
or_true true = refl
or_true false = refl

pub bar_in : (front back : List ℕ) → list_any (λ b. b == 124) (front ++ 124 ∷ back) ≡ true
bar_in [] back = refl
bar_in (b ∷ front) back = ap (λ r. (b == 124) || r) (bar_in front back) ∙ or_true (b == 124)

-- a mark stands behind a bar
pub marked_some : (stamp : Stamp) (lock : Lock) → IsMarked stamp lock → has_bar lock ≡ true
marked_some stamp lock is = ap has_bar is.1 ∙ bar_in stamp.who is.0

-- the call that frees the lock leaves it free, and no transaction

pub closing_frees : (d : Dialect) (s : Session) → (called d closing s).committed.lock ≡ free
closing_frees Postgresql s = refl
closing_frees Mysql s = refl

pub closing_shuts : (d : Dialect) (s : Session) → (called d closing s).is_open ≡ false
closing_shuts Postgresql s = refl
closing_shuts Mysql s = refl
