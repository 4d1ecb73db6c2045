use Rattle.std.proofs.Common.{◌≡◌, ℕ, List, true, false, refl}
use Rattle.std.specs.Str.{is_utf8, IsUtf8}
use Rattle.std.proofs.lemmas.Str.{IsUtf8-from_is_utf8, is_utf8-from_IsUtf8}
use Rattle.lq_load.proofs.rows.as_text.Goals as goal

not_utf8 : (bs : List ℕ) → (IsUtf8 bs → ⊥) → is_utf8 bs ≡ false
not_utf8 bs h =
    elim (is_utf8 bs) as (λ b. (b ≡ true → IsUtf8 bs) → b ≡ false) [
      | true ↦ λ f. absurd (h (f refl))
      | false ↦ λ f. refl
    ] (IsUtf8-from_is_utf8 bs)

pub returns-in-Ok : goal.returns-in-Ok
returns-in-Ok c = (c.in-Ok.ensures.cases.0, is_utf8-from_IsUtf8 _ c.in-Ok.ensures.cases.1)

pub returns-in-Err : goal.returns-in-Err
returns-in-Err c = not_utf8 _ c.in-Err.ensures.cases.0
