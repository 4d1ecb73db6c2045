use Rattle.std.proofs.Common.{◌≡◌, ⊎_elim, [], ◌∷◌, ap, sym, refl, ◌∙◌, true, false, Bool, ◌&&◌, List, None, Some}
use Rattle.clap.specs.Kinds.{Kinds, IsAmong}
use Rattle.clap.specs.Walk.{Row, Text}
use Rattle.clap.specs.Simple.{App, matches_of}
use Rattle.clap.specs.Faults.{fault_of}
use Rattle.clap.specs.declared.error.kind.ErrorKind.{ErrorKind}
use Rattle.lq_cli.specs.Options.{matched, unless_faults}
use Rattle.lq_cli.proofs.chosen.matched.Goals as goal

first_true : (a b : Bool) → (a && b) ≡ true → a ≡ true
first_true true b h = refl
first_true false b h = h

matched_none : (app : App) (words : List Text) (k : ErrorKind) (ks : Kinds) → fault_of app words ≡ ks → IsAmong k ks → matched app words ≡ None
unfolding matched
matched_none app words k [] is among = absurd among
matched_none app words k (x ∷ xs) is among = ap (λ kinds. unless_faults kinds (matches_of app words)) is

matched_some : (app : App) (words : List Text) (rows : List Row) → fault_of app words ≡ [] → rows ≡ matches_of app words → matched app words ≡ Some rows
unfolding matched
matched_some app words rows is these = ap (λ kinds. unless_faults kinds (matches_of app words)) is ∙ ap Some (sym these)

pub returns-in-Ok : goal.returns-in-Ok
returns-in-Ok c =
    matched_some _ _ _ (c.in-Ok.ensures.kinds c.requires) (c.in-Ok.ensures.matches (first_true _ _ c.requires)).0

pub returns : goal.returns
returns c =
    ⊎_elim (λ memory. absurd (c.in_default.not-OutOfMemory (c.kind.ensures ∙ memory))) (λ among. matched_none _ _ _ _ refl among) (c.in-Err.ensures.kinds c.requires)
