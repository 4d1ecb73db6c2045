-- What a crash leaves of a disk that is only read.
use Rattle.std.proofs.Common.{subst, sym, ◌∙◌}
use Rattle.std.specs.Prelude.{IsTrue, List, Option, ℕ}
use Rattle.lq_outside.proofs.Moments.{goes_on, started, then, weaker}
use Rattle.lq_outside.specs.Crash.{Crashes, Goes, IsSound, LeavesOnly, Same}

module _ (told : Option (List ℕ)) (a : Crashes) (sound : IsSound told a) where
  -- no call
  pub read_nothing : LeavesOnly a a a.leaves
  read_nothing = started told a a.leaves sound (λ honest c left. left)

  module _ (b : Crashes) (goes : Goes Same a b) where
    left_before : IsTrue a.is_honest → (c : List ℕ) → b.leaves c → a.leaves c
    left_before honest c left =
        let was = goes.follows honest c left in
        subst a.leaves (sym was.2) was.1

    pub read_once : LeavesOnly a b a.leaves
    read_once = goes_on Same a a b a.leaves read_nothing goes left_before

    -- and other calls after it
    pub read_on : (c : Crashes) → LeavesOnly b c b.leaves → LeavesOnly a c a.leaves
    read_on c rest = then a b c a.leaves read_once (weaker b c b.leaves a.leaves rest (λ honest bytes left. left_before (sym goes.honest ∙ honest) bytes left))
