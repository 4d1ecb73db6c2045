-- What the test of soundness tells.
use Rattle.std.proofs.Common.{◌≡◌, ◌&&◌, Bool, true, false, [], Option, None, Some, ap, sym, ◌∙◌}
use Rattle.std.specs.Option.{MatchOption}
use Rattle.lq_base.specs.declared.dialect.Dialect.{Dialect}
use Rattle.lq_chain.specs.History.{History, history}
use Rattle.lq_codec.specs.State.{are_in_order, has_sound_objects, has_sound_rows, is_sound}
use Rattle.lq_model.specs.Catalogue.{Catalogue}
use Rattle.lq_model.specs.Sound.{IsSound}
use Rattle.laws_codec.proofs.Read.{is_tested}

pub out_of_order : (d : Dialect) (c : Catalogue) → are_in_order c ≡ false → is_sound d c ≡ false
out_of_order d c is = ap (λ (b : Bool). b && (has_sound_objects d c && has_sound_rows c)) is

-- of a catalogue that was looked at, and is this one
pub found_unsound : (d : Dialect) (c k : Catalogue) (b : Bool) → k ≡ c → b ≡ is_sound d k → b ≡ false → is_sound d c ≡ false
found_unsound d c k b same tells is = ap (is_sound d) (sym same) ∙ sym tells ∙ is

pub found_sound : (d : Dialect) (c k : Catalogue) (b : Bool) (h : History Catalogue) → k ≡ c → b ≡ is_sound d k → b ≡ true → h ≡ history k []
    → (is_sound d c ≡ true) × (h ≡ history c [])
found_sound d c k b h same tells is new =
    (ap (is_sound d) (sym same) ∙ sym tells ∙ is, new ∙ ap (λ (it : Catalogue). history it []) same)

pub told : (d : Dialect) (c : Catalogue) (found : Option (History Catalogue))
    → MatchOption found (is_sound d c ≡ false) (λ parts. (is_sound d c ≡ true) × (parts ≡ history c []))
    → MatchOption found (¬ IsSound d c) (λ parts. IsSound d c × (parts ≡ history c []))
told d c None is = λ sound. let both : true ≡ false = sym ((is_tested d c).1 sound) ∙ is in absurd (cc both)
told d c (Some parts) is = ((is_tested d c).0 is.0, is.1)
