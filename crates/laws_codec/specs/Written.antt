-- What holds of the bytes of databases.
use Rattle.std.specs.Prelude.{List, None, Some, replicate, true, ℕ, ◌↔◌, ◌≡◌}
use Rattle.lq_base.specs.declared.dialect.Dialect.{Dialect}
use Rattle.lq_codec.specs.Codec.{IsCodec}
use Rattle.lq_codec.specs.State.{is_sound, state_of}
use Rattle.lq_codec.specs.Tables.{bytes_of, can_be_written, catalogue_codec, catalogue_of}
use Rattle.lq_model.specs.Catalogue.{Catalogue, no_objects}
use Rattle.lq_model.specs.Sound.{IsSound}

abbrev pub BytesAreRead : Type 0
BytesAreRead = (c : Catalogue) → can_be_written c ≡ true → catalogue_of (bytes_of c) ≡ Some c

abbrev pub BytesAreWritten : Type 0
BytesAreWritten =
    (bytes : List ℕ) (c : Catalogue) → catalogue_of bytes ≡ Some c
    → (can_be_written c ≡ true) × (bytes ≡ bytes_of c)

abbrev pub FrontsAreRead : Type 0
FrontsAreRead = IsCodec catalogue_codec

-- the empty state
abbrev pub zeros : ℕ → List ℕ
zeros n = replicate n 0

abbrev pub NothingIsZeros : Type 0
NothingIsZeros = (bytes_of no_objects ≡ zeros 48) × (catalogue_of (zeros 47) ≡ None)

abbrev pub SoundnessIsTested : Type 0
SoundnessIsTested = (d : Dialect) (c : Catalogue) → (is_sound d c ≡ true) ↔ IsSound d c

abbrev pub StatesAreRead : Type 0
StatesAreRead =
    (d : Dialect) (c : Catalogue) → IsSound d c → can_be_written c ≡ true
    → state_of d (bytes_of c) ≡ Some c

abbrev pub StatesAreSound : Type 0
StatesAreSound =
    (d : Dialect) (bytes : List ℕ) (c : Catalogue) → state_of d bytes ≡ Some c
    → IsSound d c × (can_be_written c ≡ true) × (bytes ≡ bytes_of c)
