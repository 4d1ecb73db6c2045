-- Of a real disk nothing is known: neither its bytes nor what a crash leaves of them.
use Rattle.std.specs.Prelude.{List, None, [], false, ℕ, ◌++◌, ◌∷◌}
use Rattle.lq_outside.specs.Crash.{Crashes, IsSound}

abbrev pub unknown : Crashes
unknown = record { is_honest = false; moment = 0; leaves = λ _. ⊥; left_since = λ _ _. ⊥; synced = λ _. ⊥ }

pub unknown_sound : IsSound None unknown
unknown_sound = record {
  stays = λ _. tt;
  counts_now = λ _ t c _ now. absurd now;
  past_syncs = λ _ t synced. absurd synced;
  only_now = λ _ c left. absurd left;
}

-- The path of what lies in a folder.

-- the folder, a slash and the name; in the current folder, which has the empty text, the name alone
abbrev pub joined : List ℕ → List ℕ → List ℕ
joined [] name = name
joined folder name = folder ++ 47 ∷ name
