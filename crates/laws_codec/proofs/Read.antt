-- What is written is read, and what is read was written.
use Rattle.std.proofs.Common.{◌≡◌, ◌∷◌, ℕ, Bool, true, false, List, [], Option, None, Some, if◌then◌else◌, refl, sym, ◌∙◌, ap}
use Rattle.std.proofs.lemmas.List.{append-nil}
use Rattle.lq_base.specs.declared.dialect.Dialect.{Dialect}
use Rattle.lq_model.specs.Catalogue.{Catalogue}
use Rattle.lq_codec.specs.Codec.{if_all}
use Rattle.lq_codec.specs.Tables.{bytes_of, can_be_written, catalogue_codec, catalogue_of}
use Rattle.lq_codec.specs.State.{is_sound, if_sound, state_of}
use Rattle.lq_codec.specs.Words.{count, front_number, number, number_bytes}
use Rattle.lq_codec.proofs.Laws.{some_is}
use Rattle.laws_codec.specs.Written.{BytesAreRead, BytesAreWritten, NothingIsZeros, SoundnessIsTested, StatesAreRead, StatesAreSound}
use Rattle.laws_codec.proofs.SoundLemmas.{sound_from, sound_test}
use Rattle.laws_codec.proofs.Whole.{is_catalogue_codec}

pub are_read : BytesAreRead
unfolding bytes_of can_be_written catalogue_of
are_read c ok =
    ap (λ (l : List ℕ). if_all (catalogue_codec.read l)) (sym (append-nil (catalogue_codec.write c)))
    ∙ ap if_all (is_catalogue_codec.back c [] ok)

all_read : (o : Option (Catalogue × List ℕ)) (c : Catalogue) → if_all o ≡ Some c → o ≡ Some (c, [])
all_read None c is = absurd (cc is)
all_read (Some (a, [])) c is = ap (λ (it : Catalogue). Some (it, [])) (some_is a c is)
all_read (Some (a, x ∷ rest)) c is = absurd (cc is)

pub are_written : BytesAreWritten
unfolding bytes_of can_be_written catalogue_of
are_written bytes c is =
    let it = is_catalogue_codec.only bytes [] c (all_read (catalogue_codec.read bytes) c is) in
    (it.0, it.1 ∙ append-nil (catalogue_codec.write c))

pub is_zeros : NothingIsZeros
unfolding bytes_of catalogue_of count number number_bytes front_number
is_zeros = (refl, refl)

pub is_tested : SoundnessIsTested
is_tested d c = (sound_from d c, sound_test d c)

found : (d : Dialect) (c : Catalogue) → is_sound d c ≡ true → if_sound d (Some c) ≡ Some c
found d c is = by (is_sound d c) is where
  by : (b : Bool) → b ≡ true → (if b then Some c else None) ≡ Some c
  by true is = refl
  by false is = absurd (cc is)

pub states_are_read : StatesAreRead
unfolding state_of
states_are_read d c sound ok = ap (if_sound d) (are_read c ok) ∙ found d c (sound_test d c sound)

was_sound : (d : Dialect) (o : Option Catalogue) (c : Catalogue) → if_sound d o ≡ Some c → (is_sound d c ≡ true) × (o ≡ Some c)
was_sound d None c is = absurd (cc is)
was_sound d (Some a) c is = by (is_sound d a) refl is where
  by : (b : Bool) → is_sound d a ≡ b → (if b then Some a else None) ≡ Some c → (is_sound d c ≡ true) × (Some a ≡ Some c)
  by true sound is = (ap (is_sound d) (sym (some_is a c is)) ∙ sound, is)
  by false sound is = absurd (cc is)

pub states_are_sound : StatesAreSound
unfolding state_of
states_are_sound d bytes c is =
    let it = was_sound d (catalogue_of bytes) c is in
    let written = are_written bytes c it.1 in
    (sound_from d c it.0, written.0, written.1)
