-- The lengths of the names that were defined.
use Rattle.std.proofs.Common.{◌≡◌, ◌≢◌, ◌==◌, ◌||◌, ℕ, Bool, true, false, cond, List, [], ◌∷◌, ◌++◌, length, Option, Some, None, unwrap_or, Result, Ok, Err, OnOk, OnErr, refl, sym, ap, subst, ◌∙◌, true≢false, eq-eqb}
use Rattle.std.specs.List.{list_any}
use Rattle.std.specs.Str.{bytes_eq}
use Rattle.std.proofs.lemmas.List.Folds.{list_any-append}
use Rattle.std.proofs.lemmas.Slice.Eq.{bytes_eq-Decides}
use Rattle.indexmap.specs.IndexSet.{insert_key}
use Rattle.lq_props.specs.Replaced.{defined, defined_in_file}

neither : (a b : Bool) → (a || b) ≡ false → (a ≡ false) × (b ≡ false)
neither true b e = absurd (true≢false e)
neither false b e = (refl, e)

-- a length that is not there after one more is put in was not there before, and is not that one
pub outside : (before after : List ℕ) (put at : ℕ) → after ≡ insert_key (λ a b. a == b) before put → list_any (λ n. at == n) after ≡ false → (list_any (λ n. at == n) before ≡ false) × (at ≢ put)
outside before after put at is none =
    elim (list_any (λ n. put == n) before) as (λ t. list_any (λ n. put == n) before ≡ t → list_any (λ n. at == n) (cond t before (before ++ put ∷ [])) ≡ false → (list_any (λ n. at == n) before ≡ false) × (at ≢ put)) [
      | true ↦ λ has none. (none, λ same. true≢false (sym has ∙ ap (λ z. list_any (λ n. z == n) before) (sym same) ∙ none))
      | false ↦ λ has none.
          let parts = neither (list_any (λ n. at == n) before) (list_any (λ n. at == n) (put ∷ [])) (sym (list_any-append (λ n. at == n) before (put ∷ [])) ∙ none) in
          (parts.0, λ same. true≢false (sym (eq-eqb at put same) ∙ (neither (at == put) false parts.1).0))
    ] refl (subst (λ z. list_any (λ n. at == n) z ≡ false) is none)

none_given : (look : List ℕ → Option (List ℕ)) (name value n : List ℕ) → length n ≢ length name → look n ≡ None → defined look name value n ≡ None
none_given look name value n other none =
    elim (bytes_eq name n) as (λ t. bytes_eq name n ≡ t → cond t (Some (unwrap_or (look n) value)) (look n) ≡ None) [
      | true ↦ λ same. absurd (other (ap length (sym ((bytes_eq-Decides name n).0 same))))
      | false ↦ λ apart. none
    ] refl

-- a definition gives no name of another length a value
pub still_none : {X E : Type 0} (r : Result X E) (look new : List ℕ → Option (List ℕ)) (name value n : List ℕ)
    → OnOk r ((m : List ℕ) → new m ≡ defined look name value m) → OnErr r ((m : List ℕ) → new m ≡ look m)
    → length n ≢ length name → look n ≡ None → new n ≡ None
still_none (Ok x) look new name value n ok err other none = ok n ∙ none_given look name value n other none
still_none (Err e) look new name value n ok err other none = err n ∙ none

-- nor does one in a file
pub still_none_in : {X E : Type 0} (r : Result X E) (look new : List ℕ → List ℕ → Option (List ℕ)) (file name value f n : List ℕ)
    → OnOk r ((g m : List ℕ) → new g m ≡ defined_in_file look file name value g m) → OnErr r ((g m : List ℕ) → new g m ≡ look g m)
    → length n ≢ length name → look f n ≡ None → new f n ≡ None
still_none_in (Ok x) look new file name value f n ok err other none =
    ok f n
    ∙ elim (bytes_eq file f) as (λ t. cond t (defined (look f) name value n) (look f n) ≡ None) [
      | true ↦ none_given (look f) name value n other none
      | false ↦ none
    ]
still_none_in (Err e) look new file name value f n ok err other none = err f n ∙ none
