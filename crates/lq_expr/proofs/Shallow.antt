-- Where more parentheses are open than an expression has levels there is none. Parentheses are counted by the bytes.
use Rattle.std.proofs.Common.{◌≡◌, ◌≤◌, ◌<◌, ◌+◌, ◌-◌, ◌==◌, ◌||◌, ℕ, zero, suc, Bool, true, false, cond, List, [], ◌∷◌, ◌++◌, Option, Some, None, arith, refl, sym, ap, ◌∙◌, subst, append_assoc, length, drop, get_or, true≢false}
use Rattle.std.specs.List.{flat_map}
use Rattle.std.specs.Prelude.{codes}
use Rattle.std.proofs.lemmas.List.{drop_more}
use Rattle.std.specs.Str.{bytes_eq, str_eq_ignore_ascii_case}
use Rattle.lq_operators.specs.declared.word.Word.{Word}
use Rattle.lq_operators.specs.declared.word.Word.TheVariants as word
use Rattle.lq_expr.specs.declared.expr.Expr.{Expr}
use Rattle.lq_expr.specs.Grammar.{depth_after, expression, factor}
use Rattle.lq_expr.specs.Words.{is_blank, is_mark, longer, runs, spelled_words, word_of, words}
use Rattle.lq_expr.specs.Spelled.{Factor, a_name, negation, parentheses, Ands, factor_alone, factor_and, Ors, ands_alone, ands_or, Commas, ors_alone, ors_comma, factor_words, ands_words, ors_words, commas_words, FactorFits, AndsFit, OrsFit, CommasFit, IsSpelled}
use Rattle.lq_expr.proofs.ReadLemmas.{spelled}

-- behind each of the words at most so many parentheses are open
abbrev pub Within : ℕ → ℕ → List Word → Type 0
Within most depth [] = Unit {0}
Within most depth (w ∷ ws) = (depth_after w depth ≤ most) × Within most (depth_after w depth) ws

-- ---- the words of an expression

less : (depth : ℕ) → suc depth - 1 ≡ depth
less depth = search (arith)

plain : (w : Word) (most depth : ℕ) (rest : List Word) → depth_after w depth ≡ depth → depth ≤ most → Within most depth rest → Within most depth (w ∷ rest)
plain w most depth rest same low within = (subst (λ d. d ≤ most) (sym same) low, subst (λ d. Within most d rest) (sym same) within)

mutual
  factor_within : (levels most depth : ℕ) (f : Factor) → FactorFits levels f → depth + levels ≤ most → (rest : List Word) → Within most depth rest → Within most depth (factor_words f ++ rest)
  factor_within levels most depth (a_name n) fits low rest within = plain (word.Name n) most depth rest refl (omega arith) within
  factor_within zero most depth (negation f) fits low rest within = absurd fits
  factor_within (suc levels) most depth (negation f) fits low rest within =
      plain word.Not most depth (factor_words f ++ rest) refl (omega arith) (factor_within levels most depth f fits (omega arith) rest within)
  factor_within zero most depth (parentheses c) fits low rest within = absurd fits
  factor_within (suc levels) most depth (parentheses c) fits low rest within =
      let close : Within most (suc depth) (word.Close ∷ rest) = (subst (λ d. d ≤ most) (sym (less depth)) (omega arith), subst (λ d. Within most d rest) (sym (less depth)) within) in
      let inner : Within most (suc depth) (commas_words c ++ word.Close ∷ rest) = commas_within levels most (suc depth) c fits (omega arith) (word.Close ∷ rest) close in
      (omega arith, subst (Within most (suc depth)) (sym (append_assoc (commas_words c) (word.Close ∷ []) rest)) inner)

  ands_within : (levels most depth : ℕ) (a : Ands) → AndsFit levels a → depth + levels ≤ most → (rest : List Word) → Within most depth rest → Within most depth (ands_words a ++ rest)
  ands_within levels most depth (factor_alone f) fits low rest within = factor_within levels most depth f fits low rest within
  ands_within levels most depth (factor_and f a) fits low rest within =
      let more : Within most depth (word.And ∷ (ands_words a ++ rest)) = plain word.And most depth (ands_words a ++ rest) refl (omega arith) (ands_within levels most depth a fits.1 low rest within) in
      subst (Within most depth) (sym (append_assoc (factor_words f) (word.And ∷ ands_words a) rest)) (factor_within levels most depth f fits.0 low (word.And ∷ (ands_words a ++ rest)) more)

  ors_within : (levels most depth : ℕ) (o : Ors) → OrsFit levels o → depth + levels ≤ most → (rest : List Word) → Within most depth rest → Within most depth (ors_words o ++ rest)
  ors_within levels most depth (ands_alone a) fits low rest within = ands_within levels most depth a fits low rest within
  ors_within levels most depth (ands_or a o) fits low rest within =
      let more : Within most depth (word.Or ∷ (ors_words o ++ rest)) = plain word.Or most depth (ors_words o ++ rest) refl (omega arith) (ors_within levels most depth o fits.1 low rest within) in
      subst (Within most depth) (sym (append_assoc (ands_words a) (word.Or ∷ ors_words o) rest)) (ands_within levels most depth a fits.0 low (word.Or ∷ (ors_words o ++ rest)) more)

  commas_within : (levels most depth : ℕ) (c : Commas) → CommasFit levels c → depth + levels ≤ most → (rest : List Word) → Within most depth rest → Within most depth (commas_words c ++ rest)
  commas_within levels most depth (ors_alone o) fits low rest within = ors_within levels most depth o fits low rest within
  commas_within levels most depth (ors_comma o c) fits low rest within =
      let more : Within most depth (word.Comma ∷ (commas_words c ++ rest)) = plain word.Comma most depth (commas_words c ++ rest) refl (omega arith) (commas_within levels most depth c fits.1 low rest within) in
      subst (Within most depth) (sym (append_assoc (ors_words o) (word.Comma ∷ commas_words c) rest)) (ors_within levels most depth o fits.0 low (word.Comma ∷ (commas_words c ++ rest)) more)

append_none : (ws : List Word) → ws ++ [] ≡ ws
append_none [] = refl
append_none (w ∷ ws) = ap (λ more. w ∷ more) (append_none ws)

-- what is read as an expression has no more levels than that
pub is_within : (levels : ℕ) (ws : List Word) (e : Expr) → expression (factor levels) ws ≡ Some e → Within levels 0 ws
is_within levels ws e is =
    let it : IsSpelled levels ws e = spelled levels ws e is in
    let whole : Within levels 0 (commas_words it.parts ++ []) = commas_within levels levels 0 it.parts it.fits (omega arith) [] tt in
    subst (Within levels 0) (append_none (commas_words it.parts) ∙ it.words) whole

-- ---- the bytes of a text

kept : (b : Bool) (v w : Word) (depth : ℕ) → depth_after v depth ≡ depth → depth_after w depth ≡ depth → depth_after (cond b v w) depth ≡ depth
kept true v w depth one two = one
kept false v w depth one two = two

-- a word that begins with no parenthesis is none
plain_word : (b : ℕ) (bs : List ℕ) (depth : ℕ) → (b == 40) ≡ false → (b == 41) ≡ false → depth_after (word_of (b ∷ bs)) depth ≡ depth
unfolding word_of
plain_word b bs depth no_open no_close =
    rw (no_open, no_close) (kept (bytes_eq (b ∷ bs) (codes ",")) word.Comma _ depth refl (kept (bytes_eq (b ∷ bs) (codes "!")) word.Not _ depth refl
    (kept (str_eq_ignore_ascii_case (b ∷ bs) (codes "or")) word.Or _ depth refl (kept (str_eq_ignore_ascii_case (b ∷ bs) (codes "and")) word.And _ depth refl
    (kept (str_eq_ignore_ascii_case (b ∷ bs) (codes "not")) word.Not _ depth refl refl)))))

no_parenthesis : (b : ℕ) → is_mark b ≡ false → ((b == 40) ≡ false) × ((b == 41) ≡ false)
no_parenthesis b plain_one = by_case (b == 40) (b == 41) (b == 44) (b == 33) plain_one where
  by_case : (x y z w : Bool) → (x || y || z || w) ≡ false → (x ≡ false) × (y ≡ false)
  by_case true y z w h = absurd (true≢false h)
  by_case false true z w h = absurd (true≢false h)
  by_case false false z w h = (refl, refl)

-- the run that a text begins with has no mark at its front
first_run : (bs : List ℕ) (c : ℕ) (r : List ℕ) (rs : List (List ℕ)) → runs bs ≡ (c ∷ r) ∷ rs → is_mark c ≡ false
unfolding runs
first_run [] c r rs is = absurd (Prim.cc is)
first_run (b ∷ bs) c r rs is = first_of (is_blank b) (is_mark b) refl is where
  first_of : (blank mark : Bool) → is_mark b ≡ mark → cond blank ([] ∷ runs bs) (cond mark ([] ∷ (b ∷ []) ∷ runs bs) (longer b (runs bs))) ≡ (c ∷ r) ∷ rs → is_mark c ≡ false
  first_of true mark at is = absurd (Prim.cc is)
  first_of false true at is = absurd (Prim.cc is)
  first_of false false at is = begins (runs bs) is where
    begins : (ps : List (List ℕ)) → longer b ps ≡ (c ∷ r) ∷ rs → is_mark c ≡ false
    begins [] so = let same : b ≡ c = Prim.cc so in subst (λ x. is_mark x ≡ false) same at
    begins (p ∷ ps) so = let same : b ≡ c = Prim.cc so in subst (λ x. is_mark x ≡ false) same at

-- behind a character that is no parenthesis as many are open
goes_on : (most depth b : ℕ) (bs : List ℕ) → depth ≤ most → (b == 40) ≡ false → (b == 41) ≡ false → (ps : List (List ℕ)) → runs bs ≡ ps → Within most depth (flat_map spelled_words (longer b ps)) → Within most depth (flat_map spelled_words ps)
goes_on most depth b bs low no_open no_close [] is within = tt
goes_on most depth b bs low no_open no_close ([] ∷ ps) is within = subst (λ d. Within most d (flat_map spelled_words ps)) (plain_word b [] depth no_open no_close) within.1
goes_on most depth b bs low no_open no_close ((c ∷ r) ∷ ps) is within =
    let rest : Within most depth (flat_map spelled_words ps) = subst (λ d. Within most d (flat_map spelled_words ps)) (plain_word b (c ∷ r) depth no_open no_close) within.1 in
    let none : ((c == 40) ≡ false) × ((c == 41) ≡ false) = no_parenthesis c (first_run bs c r ps is) in
    plain (word_of (c ∷ r)) most depth (flat_map spelled_words ps) (plain_word c r depth none.0 none.1) low rest

first_byte : (most depth : ℕ) (items all : List ℕ) (i : ℕ) → items ≡ all → i < length items → Within most depth (words (drop i all)) → Within most depth (words (get_or items i 0 ∷ drop (i + 1) all))
first_byte most depth items all i same lt within =
    let split : drop i items ≡ get_or items i 0 ∷ drop (i + 1) items = drop_more items i 0 lt in
    let rest : drop i all ≡ get_or items i 0 ∷ drop (i + 1) all = ap (drop i) (sym same) ∙ split ∙ ap (λ z. get_or items i 0 ∷ drop (i + 1) z) same in
    subst (λ z. Within most depth (words z)) rest within

opens : (most depth b : ℕ) (bs : List ℕ) → b ≡ 40 → Within most depth (words (b ∷ bs)) → (suc depth ≤ most) × Within most (suc depth) (words bs)
unfolding words runs word_of
opens most depth b bs is within = subst (λ x. Within most depth (words (x ∷ bs))) is within

closes : (most depth b : ℕ) (bs : List ℕ) → b ≡ 41 → Within most depth (words (b ∷ bs)) → Within most (depth - 1) (words bs)
unfolding words runs word_of
closes most depth b bs is within =
    let both : (depth - 1 ≤ most) × Within most (depth - 1) (words bs) = subst (λ x. Within most depth (words (x ∷ bs))) is within in both.1

other : (most depth b : ℕ) (bs : List ℕ) → depth ≤ most → (b == 40) ≡ false → (b == 41) ≡ false → Within most depth (words (b ∷ bs)) → Within most depth (words bs)
unfolding words runs
other most depth b bs low no_open no_close within = by_case (is_blank b) (is_mark b) within where
  by_case : (blank mark : Bool) → Within most depth (flat_map spelled_words (cond blank ([] ∷ runs bs) (cond mark ([] ∷ (b ∷ []) ∷ runs bs) (longer b (runs bs))))) → Within most depth (flat_map spelled_words (runs bs))
  by_case true mark within = within
  by_case false true within = subst (λ d. Within most d (flat_map spelled_words (runs bs))) (plain_word b [] depth no_open no_close) within.1
  by_case false false within = goes_on most depth b bs low no_open no_close (runs bs) refl within

not_so : (b n : ℕ) → (b ≡ n → ⊥) → (b == n) ≡ false
not_so b n h = search (arith)

-- one byte further
pub behind_open : (most depth next : ℕ) (items all : List ℕ) (i : ℕ) → items ≡ all → i < length items → get_or items i 0 ≡ 40 → next ≡ suc depth → (Within most 0 (words all) → Within most depth (words (drop i all)))
    → Within most 0 (words all) → (next ≤ most) × Within most next (words (drop (i + 1) all))
behind_open most depth next items all i same lt is deeper so whole =
    let both : (suc depth ≤ most) × Within most (suc depth) (words (drop (i + 1) all)) = opens most depth (get_or items i 0) (drop (i + 1) all) is (first_byte most depth items all i same lt (so whole)) in
    subst (λ d. (d ≤ most) × Within most d (words (drop (i + 1) all))) (sym deeper) both

pub behind_close : (most depth next : ℕ) (items all : List ℕ) (i : ℕ) → items ≡ all → i < length items → get_or items i 0 ≡ 41 → next ≡ depth - 1 → (Within most 0 (words all) → Within most depth (words (drop i all)))
    → Within most 0 (words all) → Within most next (words (drop (i + 1) all))
behind_close most depth next items all i same lt is less_deep so whole =
    subst (λ d. Within most d (words (drop (i + 1) all))) (sym less_deep) (closes most depth (get_or items i 0) (drop (i + 1) all) is (first_byte most depth items all i same lt (so whole)))

pub behind_other : (most depth : ℕ) (items all : List ℕ) (i : ℕ) → items ≡ all → i < length items → depth ≤ most → (get_or items i 0 ≡ 40 → ⊥) → (get_or items i 0 ≡ 41 → ⊥)
    → (Within most 0 (words all) → Within most depth (words (drop i all))) → Within most 0 (words all) → Within most depth (words (drop (i + 1) all))
behind_other most depth items all i same lt low no_open no_close so whole =
    other most depth (get_or items i 0) (drop (i + 1) all) low (not_so (get_or items i 0) 40 no_open) (not_so (get_or items i 0) 41 no_close) (first_byte most depth items all i same lt (so whole))

-- where one is open that no expression opens, there is none
pub none_read : (levels : ℕ) (ws : List Word) → (Within levels 0 ws → ⊥) → expression (factor levels) ws ≡ None
none_read levels ws deep = of (expression (factor levels) ws) refl where
  of : (o : Option Expr) → expression (factor levels) ws ≡ o → o ≡ None
  of None is = refl
  of (Some e) is = absurd (deep (is_within levels ws e is))
