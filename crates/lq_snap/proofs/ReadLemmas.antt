-- The state whose bytes these are, where it is sound.
use Rattle.std.proofs.Common.{◌≡◌, ℕ, Bool, true, false, List, [], Option, None, Some, if◌then◌else◌, refl, sym, ◌∙◌, ap}
use Rattle.lq_base.specs.declared.dialect.Dialect.{Dialect}
use Rattle.lq_model.specs.Catalogue.{Catalogue}
use Rattle.lq_model.specs.Sound.{IsSound}
use Rattle.lq_codec.specs.Tables.{catalogue_of}
use Rattle.lq_codec.specs.State.{is_sound, if_sound, state_of}
use Rattle.lq_engine.specs.State.{State, state}
use Rattle.lq_store.specs.Executor.{Held, forgotten, holding}
use Rattle.laws_codec.proofs.Read.{is_tested}

kept : (c : Catalogue) (b : Bool) → b ≡ true → (let o : Option Catalogue = if b then Some c else None in o) ≡ Some c
kept c true is = refl
kept c false is = absurd (cc is)

dropped : (c : Catalogue) (b : Bool) → ¬ (b ≡ true) → (let o : Option Catalogue = if b then Some c else None in o) ≡ None
dropped c true is = absurd (is refl)
dropped c false is = refl

pub sound_state : (d : Dialect) (bytes : List ℕ) (c : Catalogue) → catalogue_of bytes ≡ Some c → IsSound d c → state_of d bytes ≡ Some c
unfolding state_of
sound_state d bytes c is sound = ap (if_sound d) is ∙ kept c (is_sound d c) ((is_tested d c).1 sound)

pub unsound_state : (d : Dialect) (bytes : List ℕ) (c : Catalogue) → catalogue_of bytes ≡ Some c → ¬ IsSound d c → state_of d bytes ≡ None
unfolding state_of
unsound_state d bytes c is unsound =
    ap (if_sound d) is ∙ dropped c (is_sound d c) (λ sound. unsound ((is_tested d c).0 sound))

pub no_state : (d : Dialect) (bytes : List ℕ) → catalogue_of bytes ≡ None → state_of d bytes ≡ None
unfolding state_of
no_state d bytes is = ap (if_sound d) is

-- an engine of a state, with nothing to undo
pub opened : (d : Dialect) (c : Catalogue) (e : State) → e ≡ state d c [] → e ≡ state d e.now []
opened d c e is = is ∙ ap (λ (s : State). state d s.now []) (sym is)

pub opened_state : (d : Dialect) (bytes : List ℕ) (c : Catalogue) (e : State) → e ≡ state d c [] → catalogue_of bytes ≡ Some c → IsSound d c → state_of d bytes ≡ Some e.now
opened_state d bytes c e is read sound =
    sound_state d bytes c read sound ∙ ap (λ (s : State). Some s.now) (sym is)

-- written and read again
pub same_again : (d : Dialect) (bytes again : List ℕ) (h k : Held) → h.dialect ≡ d → again ≡ bytes → state_of h.dialect bytes ≡ Some h.now
    → k ≡ holding d k.now [] → state_of d again ≡ Some k.now → k ≡ forgotten h
same_again d bytes again h k dialect same wrote new read =
    let now : Some k.now ≡ Some h.now = sym read ∙ ap (state_of d) same ∙ ap (λ (e : Dialect). state_of e bytes) (sym dialect) ∙ wrote in
    let is : k.now ≡ h.now = cc in
    new ∙ ap (λ (c : Catalogue). holding d c []) is ∙ ap (λ (e : Dialect). holding e h.now []) (sym dialect)

pub never_refused : (d : Dialect) (bytes again : List ℕ) (h : Held) → h.dialect ≡ d → again ≡ bytes → state_of h.dialect bytes ≡ Some h.now → ¬ (state_of d again ≡ None)
never_refused d bytes again h dialect same wrote none =
    let both : Some h.now ≡ None = sym wrote ∙ ap (λ (e : Dialect). state_of e bytes) dialect ∙ ap (state_of d) (sym same) ∙ none in
    absurd (cc both)
