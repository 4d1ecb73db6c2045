-- One reading of the clock.
use Rattle.std.specs.Fmt.{decimal}
use Rattle.std.specs.Option.{option_map}
use Rattle.std.specs.Prelude.{IfSome, List, Option, Some, codes, encode_utf8_all, if◌then◌else◌, map, min, slice_get, ℕ, ◌++◌, ◌≡◌}
use Rattle.std.specs.Str.{chars}
use Rattle.lq_outside.specs.Forms.{after_first}
use Rattle.lq_turns.specs.declared.stamp.Stamp.{Stamp}
use Rattle.lq_words.specs.Words.{is_bar, shown}

-- the reading was the first of the answers to come, and the others are still to come
pub record ReadOnce (before after : Option (List ℕ)) (reading : ℕ) : Type 0 where
  pub first : IfSome before (λ answers. slice_get answers 0 ≡ Some reading)
  pub rest : after ≡ option_map after_first before

-- Who runs a command.

-- each `|` and each control character counts as `_`
abbrev pub kept : ℕ → ℕ
kept c = if is_bar c then 95 else shown c

abbrev pub clean : List ℕ → List ℕ
clean who = encode_utf8_all (map kept (chars who))

-- Who runs a command, and when.

-- a reading past the year 9999 counts as its end
abbrev pub stamp_of : List ℕ → ℕ → Stamp
stamp_of who reading = record { who = clean who; reading = min reading 253402300799999 }

-- of the command of a number among several, which one name runs

abbrev pub numbered : List ℕ → ℕ → List ℕ
numbered name n = name ++ (codes "#" ++ decimal n)

abbrev pub numbered_stamp : List ℕ → ℕ → ℕ → Stamp
numbered_stamp name n reading = record { who = numbered name n; reading = min reading 253402300799999 }
