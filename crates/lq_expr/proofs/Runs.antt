-- The runs of a text, character by character.
use Rattle.std.proofs.Common.{◌≡◌, ◌<◌, ◌≤◌, ◌==◌, ℕ, suc, Bool, true, false, cond, List, [], ◌∷◌, ◌++◌, length, get_or, arith, refl, sym, ap, ◌∙◌, inl, inr, append_assoc, true≢false}
use Rattle.std.specs.Char.{encode_utf8}
use Rattle.std.specs.List.{flat_map}
use Rattle.std.proofs.lemmas.Str.{encode_ascii, inside_one}
use Rattle.std.proofs.lemmas.List.{append-nil}
use Rattle.std.proofs.lemmas.Bool.{cases_lt}
use Rattle.lq_operators.specs.declared.word.Word.{Word}
use Rattle.lq_expr.specs.Words.{is_blank, is_mark, longer, runs, spelled_words, words}

-- the first of the runs begins with these bytes
abbrev pub onto : List ℕ → List (List ℕ) → List (List ℕ)
onto w [] = w ∷ []
onto w (p ∷ ps) = (w ++ p) ∷ ps

-- the words of a text that goes on behind a run
abbrev pub words_behind : List ℕ → List ℕ → List Word
words_behind run rest = flat_map spelled_words (onto run (runs rest))

onto_none_longer : (b : ℕ) (ps : List (List ℕ)) → onto [] (longer b ps) ≡ longer b ps
onto_none_longer b [] = refl
onto_none_longer b (p ∷ ps) = refl

onto_longer : (b : ℕ) (w : List ℕ) (ps : List (List ℕ)) → longer b (onto w ps) ≡ onto (b ∷ w) ps
onto_longer b w [] = refl
onto_longer b w (p ∷ ps) = refl

pub onto_none : (rest : List ℕ) → onto [] (runs rest) ≡ runs rest
unfolding runs
onto_none [] = refl
onto_none (b ∷ bs) =
    elim (is_blank b) as (λ t. (let next : List (List ℕ) = cond t ([] ∷ runs bs) (cond (is_mark b) ([] ∷ (b ∷ []) ∷ runs bs) (longer b (runs bs))) in onto [] next ≡ next)) [
      | true ↦ refl
      | false ↦ elim (is_mark b) as (λ t. (let next : List (List ℕ) = cond t ([] ∷ (b ∷ []) ∷ runs bs) (longer b (runs bs)) in onto [] next ≡ next)) [
        | true ↦ refl
        | false ↦ onto_none_longer b (runs bs)
      ]
    ]

onto_append : (v w : List ℕ) (ps : List (List ℕ)) → onto (v ++ w) ps ≡ onto v (onto w ps)
onto_append v w [] = refl
onto_append v w (p ∷ ps) = ap (λ z. z ∷ ps) (append_assoc v w p)

-- ---- bytes of longer characters are neither blanks nor marks

other_than : (b mark : ℕ) → mark < b → (b == mark) ≡ false
other_than b mark h = search (arith)

no_blank : (b : ℕ) → 128 ≤ b → is_blank b ≡ false
no_blank b h = rw (other_than b 32 (omega arith), other_than b 9 (omega arith), other_than b 10 (omega arith), other_than b 13 (omega arith)) refl

no_mark : (b : ℕ) → 128 ≤ b → is_mark b ≡ false
no_mark b h = rw (other_than b 40 (omega arith), other_than b 41 (omega arith), other_than b 44 (omega arith), other_than b 33 (omega arith)) refl

low : (test : ℕ → Bool) (c : ℕ) → ((b : ℕ) → 128 ≤ b → test b ≡ false) → test c ≡ true → c < 128
low test c high is =
    elim (cases_lt c 128) [
      | inl lt ↦ lt
      | inr ge ↦ absurd (true≢false (sym is ∙ high c ge))
    ]

one_run : (b : ℕ) (rest : List ℕ) → is_blank b ≡ false → is_mark b ≡ false → runs (b ∷ rest) ≡ longer b (runs rest)
unfolding runs
one_run b rest blank mark = rw (blank, mark) refl

high_run : (w rest : List ℕ) → ((k : ℕ) → k < length w → 128 ≤ get_or w k 0) → runs (w ++ rest) ≡ onto w (runs rest)
high_run [] rest high = sym (onto_none rest)
high_run (b ∷ w) rest high =
    one_run b (w ++ rest) (no_blank b (high 0 (omega arith))) (no_mark b (high 0 (omega arith)))
    ∙ ap (longer b) (high_run w rest (λ k lt. high (suc k) (omega arith)))
    ∙ onto_longer b w (runs rest)

all_high : (c k : ℕ) → 128 ≤ c → k < length (encode_utf8 c) → 128 ≤ get_or (encode_utf8 c) k 0
all_high c k big lt =
    elim (cases_lt (get_or (encode_utf8 c) k 0) 128) [
      | inl low ↦ let same : c ≡ get_or (encode_utf8 c) k 0 = inside_one c [] (encode_utf8 c) k (sym (append-nil (encode_utf8 c))) lt low in absurd (omega arith)
      | inr high ↦ high
    ]

-- ---- one character more

runs_blank : (c : ℕ) (rest : List ℕ) → is_blank c ≡ true → runs (encode_utf8 c ++ rest) ≡ [] ∷ runs rest
unfolding runs
runs_blank c rest is = rw (encode_ascii c (low is_blank c no_blank is), is) refl

runs_mark : (c : ℕ) (rest : List ℕ) → is_blank c ≡ false → is_mark c ≡ true → runs (encode_utf8 c ++ rest) ≡ [] ∷ encode_utf8 c ∷ runs rest
unfolding runs
runs_mark c rest blank is = rw (encode_ascii c (low is_mark c no_mark is), blank, is) refl

runs_other : (c : ℕ) (rest : List ℕ) → is_blank c ≡ false → is_mark c ≡ false → runs (encode_utf8 c ++ rest) ≡ onto (encode_utf8 c) (runs rest)
runs_other c rest blank mark =
    elim (cases_lt c 128) [
      | inl lt ↦ rw (encode_ascii c lt) (one_run c rest blank mark ∙ ap (longer c) (sym (onto_none rest)) ∙ onto_longer c [] (runs rest))
      | inr ge ↦ high_run (encode_utf8 c) rest (λ k lt. all_high c k ge lt)
    ]

ends : (run : List ℕ) (ps : List (List ℕ)) → flat_map spelled_words (onto run ([] ∷ ps)) ≡ spelled_words run ++ flat_map spelled_words ps
ends run ps = ap (λ z. spelled_words z ++ flat_map spelled_words ps) (append-nil run)

pub behind_blank : (c : ℕ) (run rest : List ℕ) → is_blank c ≡ true → words_behind run (encode_utf8 c ++ rest) ≡ spelled_words run ++ words_behind [] rest
behind_blank c run rest is = rw (runs_blank c rest is) (ends run (runs rest) ∙ ap (λ z. spelled_words run ++ flat_map spelled_words z) (sym (onto_none rest)))

pub behind_mark : (c : ℕ) (run rest : List ℕ) → is_blank c ≡ false → is_mark c ≡ true
    → words_behind run (encode_utf8 c ++ rest) ≡ spelled_words run ++ (spelled_words (encode_utf8 c) ++ words_behind [] rest)
behind_mark c run rest blank is =
    rw (runs_mark c rest blank is) (ends run (encode_utf8 c ∷ runs rest) ∙ ap (λ z. spelled_words run ++ (spelled_words (encode_utf8 c) ++ flat_map spelled_words z)) (sym (onto_none rest)))

pub behind_other : (c : ℕ) (run rest : List ℕ) → is_blank c ≡ false → is_mark c ≡ false → words_behind run (encode_utf8 c ++ rest) ≡ words_behind (run ++ encode_utf8 c) rest
behind_other c run rest blank mark = rw (runs_other c rest blank mark) (ap (flat_map spelled_words) (sym (onto_append run (encode_utf8 c) (runs rest))))

pub behind_all : (run : List ℕ) → words_behind run [] ≡ spelled_words run
unfolding runs
behind_all run = ends run [] ∙ append-nil (spelled_words run)

-- ---- one step of reading

pub start : (found : List Word) (run rest text : List ℕ) → found ≡ [] → run ≡ [] → rest ≡ text → found ++ words_behind run rest ≡ words text
unfolding words
start found run rest text none empty all = rw (none, empty, all) (ap (flat_map spelled_words) (onto_none text))

pub blank_step : (all found next : List Word) (run after text rest : List ℕ) (c : ℕ) → is_blank c ≡ true → text ≡ encode_utf8 c ++ rest → next ≡ found ++ spelled_words run → after ≡ []
    → found ++ words_behind run text ≡ all → next ++ words_behind after rest ≡ all
blank_step all found next run after text rest c is begins more empty so =
    rw (more, empty) (append_assoc found (spelled_words run) (words_behind [] rest)
    ∙ ap (λ z. found ++ z) (sym (behind_blank c run rest is))
    ∙ ap (λ z. found ++ words_behind run z) (sym begins)
    ∙ so)

pub mark_step : (all found between next : List Word) (run mark after text rest : List ℕ) (c : ℕ) → is_blank c ≡ false → is_mark c ≡ true → text ≡ encode_utf8 c ++ rest
    → between ≡ found ++ spelled_words run → mark ≡ encode_utf8 c → next ≡ between ++ spelled_words mark → after ≡ []
    → found ++ words_behind run text ≡ all → next ++ words_behind after rest ≡ all
mark_step all found between next run mark after text rest c blank is begins more one then empty so =
    rw (then, one, more, empty) (append_assoc (found ++ spelled_words run) (spelled_words (encode_utf8 c)) (words_behind [] rest)
    ∙ append_assoc found (spelled_words run) (spelled_words (encode_utf8 c) ++ words_behind [] rest)
    ∙ ap (λ z. found ++ z) (sym (behind_mark c run rest blank is))
    ∙ ap (λ z. found ++ words_behind run z) (sym begins)
    ∙ so)

pub other_step : (all found : List Word) (run after text rest : List ℕ) (c : ℕ) → is_blank c ≡ false → is_mark c ≡ false → text ≡ encode_utf8 c ++ rest → after ≡ run ++ encode_utf8 c
    → found ++ words_behind run text ≡ all → found ++ words_behind after rest ≡ all
other_step all found run after text rest c blank mark begins longer so =
    rw longer (ap (λ z. found ++ z) (sym (behind_other c run rest blank mark)) ∙ ap (λ z. found ++ words_behind run z) (sym begins) ∙ so)

no_more : (rest : List ℕ) → length rest ≡ 0 → rest ≡ []
no_more [] h = refl
no_more (b ∷ bs) h = absurd (omega arith)

pub finish : (all found next : List Word) (run rest : List ℕ) → length rest ≡ 0 → next ≡ found ++ spelled_words run → found ++ words_behind run rest ≡ all → next ≡ all
finish all found next run rest none more so = more ∙ ap (λ z. found ++ z) (sym (behind_all run)) ∙ ap (λ z. found ++ words_behind run z) (sym (no_more rest none)) ∙ so
