-- Steps of reading a journal, and its ends.
use Rattle.std.proofs.Common.{◌≡◌, ◌<◌, ◌≤◌, ℕ, Bool, true, false, List, [], ◌∷◌, ◌++◌, length, take, drop, Option, None, Some, refl, sym, ◌∙◌, ap, arith, length-drop, take-append-drop, if◌then◌else◌}
use Rattle.std.specs.Option.{option_map}
use Rattle.std.specs.Str.{is_utf8, IsUtf8}
use Rattle.std.proofs.lemmas.List.{append_assoc, append-nil, take_at, length-take-le}
use Rattle.std.proofs.lemmas.Str.{IsUtf8-from_is_utf8, is_utf8-from_IsUtf8}
use Rattle.lq_frames.specs.Body.{front_number, with_text, texts_from}
use Rattle.lq_frames.proofs.Texts.{passes_text, texts_step, texts_past, with_text-none, with_text-utf8}

-- behind a length its text is read, and then what follows
texts_at : (bytes : List ℕ) → 4 ≤ length bytes → texts_from 0 bytes ≡ with_text (take (front_number bytes) (drop 4 bytes)) (texts_from (front_number bytes) (drop 4 bytes))
texts_at bytes size =
    let whole : take 4 bytes ++ drop 4 bytes ≡ bytes = take-append-drop 4 bytes in
    ap (λ (l : List ℕ). texts_from 0 l) (sym whole) ∙ texts_step (take 4 bytes) (drop 4 bytes) (length-take-le 4 bytes size)
    ∙ ap (λ (l : List ℕ). with_text (take (front_number l) (drop 4 bytes)) (texts_from (front_number l) (drop 4 bytes))) whole

-- the text does not fit
pub text_far : (bytes rest : List ℕ) (n : ℕ) → 4 ≤ length bytes → n ≡ front_number bytes → rest ≡ drop 4 bytes → length rest < n → texts_from 0 bytes ≡ None
text_far bytes rest n size n_is rest_is far =
    texts_at bytes size ∙ ap (with_text (take (front_number bytes) (drop 4 bytes))) (texts_past (front_number bytes) (drop 4 bytes) (omega (arith, far, n_is, ap length rest_is)))
    ∙ with_text-none (is_utf8 (take (front_number bytes) (drop 4 bytes))) (take (front_number bytes) (drop 4 bytes))

not_utf8 : (b : Bool) → ¬ b ≡ true → b ≡ false
not_utf8 true bad = absurd (bad refl)
not_utf8 false bad = refl

pub utf8_not : (text : List ℕ) → ¬ IsUtf8 text → is_utf8 text ≡ false
utf8_not text bad = not_utf8 (is_utf8 text) (λ yes. bad (IsUtf8-from_is_utf8 text yes))

pub utf8_is : (text : List ℕ) → IsUtf8 text → is_utf8 text ≡ true
utf8_is text is = is_utf8-from_IsUtf8 text is

-- the text fits
pub text_there : (bytes text after : List ℕ) (n : ℕ) → 4 ≤ length bytes → n ≡ front_number bytes → drop 4 bytes ≡ text ++ after → length text ≡ n
    → texts_from 0 bytes ≡ with_text text (texts_from 0 after)
text_there bytes text after n size n_is rest_is len =
    let front : take (front_number bytes) (drop 4 bytes) ≡ text = ap (take (front_number bytes)) rest_is ∙ take_at text after (front_number bytes) (len ∙ n_is) in
    let rest : texts_from (front_number bytes) (drop 4 bytes) ≡ texts_from 0 after =
    ap (λ (k : ℕ). texts_from k (drop 4 bytes)) (sym (len ∙ n_is)) ∙ ap (texts_from (length text)) rest_is ∙ passes_text text after in
    texts_at bytes size ∙ ap (λ (l : List ℕ). with_text l (texts_from (front_number bytes) (drop 4 bytes))) front ∙ ap (with_text text) rest

-- The texts that were read stand before those that are still to be read.
pub record ReadTexts (texts : List (List ℕ)) (bytes rest : List ℕ) : Type 0 where
  pub is : texts_from 0 bytes ≡ option_map (λ more. texts ++ more) (texts_from 0 rest)

same_read : (read : Option (List (List ℕ))) → read ≡ option_map (λ more. [] ++ more) read
same_read None = refl
same_read (Some texts) = refl

pub read_start : (bytes : List ℕ) → ReadTexts [] bytes bytes
read_start bytes = record { is = same_read (texts_from 0 bytes) }

one_more : (texts : List (List ℕ)) (text : List ℕ) (after : Option (List (List ℕ)))
    → option_map (λ more. texts ++ more) (option_map (λ more. text ∷ more) after) ≡ option_map (λ more. (texts ++ text ∷ []) ++ more) after
one_more texts text None = refl
one_more texts text (Some more) = ap Some (sym (append_assoc texts (text ∷ []) more))

pub read_more : (texts : List (List ℕ)) (text bytes rest after : List ℕ) → ReadTexts texts bytes rest → texts_from 0 rest ≡ with_text text (texts_from 0 after) → is_utf8 text ≡ true
    → ReadTexts (texts ++ text ∷ []) bytes after
read_more texts text bytes rest after so_far next utf8 = record {
  is = so_far.is ∙ ap (option_map (λ more. texts ++ more)) (next ∙ with_text-utf8 text (texts_from 0 after) utf8) ∙ one_more texts text (texts_from 0 after);
}

pub read_none : (texts : List (List ℕ)) (bytes rest : List ℕ) → ReadTexts texts bytes rest → texts_from 0 rest ≡ None → None ≡ texts_from 0 bytes
read_none texts bytes rest so_far none = sym (so_far.is ∙ ap (option_map (λ more. texts ++ more)) none)

pub read_bad : (texts : List (List ℕ)) (text bytes rest after : List ℕ) → ReadTexts texts bytes rest → texts_from 0 rest ≡ with_text text (texts_from 0 after) → is_utf8 text ≡ false
    → None ≡ texts_from 0 bytes
read_bad texts text bytes rest after so_far next bad =
    read_none texts bytes rest so_far (next ∙ ap (λ (b : Bool). if b then option_map (λ more. text ∷ more) (texts_from 0 after) else None) bad)

pub read_all : (texts : List (List ℕ)) (bytes rest : List ℕ) → ReadTexts texts bytes rest → rest ≡ [] → Some texts ≡ texts_from 0 bytes
read_all texts bytes rest so_far end =
    sym (so_far.is ∙ ap (λ (l : List ℕ). option_map (λ more. texts ++ more) (texts_from 0 l)) end ∙ ap Some (append-nil texts))

-- the same of a slice that is cut in two
pub text_cut : (bytes rest text after : List ℕ) (n : ℕ) → 4 ≤ length bytes → n ≡ front_number bytes → rest ≡ drop 4 bytes → text ≡ take n rest → after ≡ drop n rest → n ≤ length rest
    → (texts_from 0 bytes ≡ with_text text (texts_from 0 after)) × (length after < length bytes)
text_cut bytes rest text after n size n_is rest_is text_is after_is fits =
    let whole : drop 4 bytes ≡ text ++ after =
    sym rest_is ∙ sym (take-append-drop n rest) ∙ ap (λ (l : List ℕ). l ++ drop n rest) (sym text_is) ∙ ap (λ (l : List ℕ). text ++ l) (sym after_is) in (
      text_there bytes text after n size n_is whole (ap length text_is ∙ length-take-le n rest fits),
      omega (arith, size, ap length after_is, length-drop n rest, ap length rest_is, length-drop 4 bytes),
    )
