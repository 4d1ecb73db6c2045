-- A lock tells whose it is by what stands before the first bar.
use Rattle.std.proofs.Common.{ap, inl, inr, sym, ◌∙◌}
use Rattle.std.specs.List.{list_any}
use Rattle.std.specs.Option.{option_map}
use Rattle.std.specs.Prelude.{Bool, List, Option, Some, [], false, if◌then◌else◌, refl, true, ℕ, ◌==◌, ◌++◌, ◌||◌, ◌∷◌, ◌≡◌}
use Rattle.lq_base.specs.declared.tracking.Lock.{Lock}
use Rattle.lq_players.specs.AnyCommand.{NamesAreApart}
use Rattle.lq_run.specs.Stands.{IsHeld}
use Rattle.lq_turns.specs.declared.stamp.Stamp.{Stamp}

not_true : false ≡ true → ⊥
not_true h = Prim.cc

abbrev has_bar : List ℕ → Bool
has_bar text = list_any (λ b. b == 124) text

abbrev before_bar : List ℕ → List ℕ
before_bar [] = []
before_bar (b ∷ text) = if b == 124 then [] else b ∷ before_bar text

bare : (who : List ℕ) → has_bar who ≡ false → before_bar who ≡ who
bare [] none = refl
bare (b ∷ who) none = by (b == 124) none (bare who) where
  by : (is : Bool) → (is || has_bar who) ≡ false → (has_bar who ≡ false → before_bar who ≡ who) → (if is then [] else b ∷ before_bar who) ≡ b ∷ who
  by true none more = absurd (not_true (sym none))
  by false none more = ap (λ l. b ∷ l) (more none)

marked : (who mark : List ℕ) → has_bar who ≡ false → before_bar (who ++ 124 ∷ mark) ≡ who
marked [] mark none = refl
marked (b ∷ who) mark none = by (b == 124) none (marked who mark) where
  by : (is : Bool) → (is || has_bar who) ≡ false → (has_bar who ≡ false → before_bar (who ++ 124 ∷ mark) ≡ who) → (if is then [] else b ∷ before_bar (who ++ 124 ∷ mark)) ≡ b ∷ who
  by true none more = absurd (not_true (sym none))
  by false none more = ap (λ l. b ∷ l) (more none)

named : (stamp : Stamp) (lock : Lock) → has_bar stamp.who ≡ false → IsHeld stamp lock → option_map before_bar lock.by ≡ Some stamp.who
named stamp lock none (inl is) = ap (λ (l : Lock). option_map before_bar l.by) is ∙ ap (λ w. Some w) (bare stamp.who none)
named stamp lock none (inr is) = ap (λ (l : Lock). option_map before_bar l.by) is.1 ∙ ap (λ w. Some w) (marked stamp.who is.0 none)

same_name : {a b : List ℕ} → (let o : Option (List ℕ) = Some a in o) ≡ Some b → a ≡ b
same_name h = Prim.cc

pub names_are_apart : NamesAreApart
names_are_apart one two first second differ lock its also = differ (same_name (sym (named one lock first its) ∙ named two lock second also))
