-- The row of a changeset goes into its columns.
use Rattle.std.proofs.Common.{arith, rules, tests}
use Rattle.std.specs.List.{All}
use Rattle.std.specs.Prelude.{IfSome, List, None, Option, Some, codes, pos, refl, suc, true, ℕ, ◌∷◌, ◌≡◌, ◌≤◌}
use Rattle.lq_base.specs.Number.{char_count}
use Rattle.lq_base.specs.Moment.{is_moment}
use Rattle.lq_base.specs.declared.tracking.Exec.{Exec}
use Rattle.lq_model.proofs.Lists.{and_true}
use Rattle.lq_turns.specs.Schedule.{is_short, is_within}
use Rattle.lq_turns.specs.Set.{Set}
use Rattle.lq_turns.specs.Settle.{row_for}
use Rattle.lq_beside.specs.Replays.{HasTexts, IsTime}
use Rattle.lq_beside.proofs.Characters.{at_most, cut_within, digits_within, within}
use Rattle.lq_beside.proofs.Moments as moments

moment_in_range : (n : ℕ) → IsTime n → is_moment (pos n) ≡ true
moment_in_range n time = search (rules, tests, moments.is_moment n time)

tag_within : (tag : Option (List ℕ)) → IfSome tag (λ t. char_count t ≤ 255) → is_within 255 tag ≡ true
tag_within None few = refl
tag_within (Some t) few = at_most (char_count t) 255 few

module _ {Key : Type 0} where
  pub row_is_short : (reading order : ℕ) (e : Exec) (x : Set Key) → IsTime reading → HasTexts x → is_short (row_for reading order e x) ≡ true
  row_is_short reading order e x time has =
      and_true _ _ (and_true _ _ (moment_in_range reading time) (and_true _ _ (at_most (char_count x.sum) 35 has.sum) (digits_within 10 reading)))
      (and_true _ _ (at_most (char_count x.identity.id) 255 has.id)
      (and_true _ _ (at_most (char_count x.identity.author) 255 has.author)
      (and_true _ _ (at_most (char_count x.identity.file) 255 has.file)
      (and_true _ _ (cut_within x.description has.description)
      (and_true _ _ (cut_within x.comments has.comments)
      (and_true _ _ (cut_within x.contexts has.contexts)
      (and_true _ _ (cut_within x.labels has.labels)
      (and_true _ _ (tag_within x.tag has.tag) (within (codes "profile-1") 20 (omega arith))))))))))

  pub first_has : (x : Set Key) (xs : List (Set Key)) → All HasTexts (x ∷ xs) → HasTexts x
  first_has x xs all = all 0 x (omega arith)

  pub others_have : (x : Set Key) (xs : List (Set Key)) → All HasTexts (x ∷ xs) → All HasTexts xs
  others_have x xs all = λ k e less. all (suc k) e (omega (arith, less))
