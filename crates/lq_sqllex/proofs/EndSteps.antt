-- The steps of a walk to the end of a quoted part or a comment, of which some bytes are passed.
use Rattle.std.proofs.Common.{◌≡◌, ◌≤◌, ℕ, suc, ◌+◌, ◌-◌, ◌==◌, Bool, true, false, if◌then◌else◌, List, [], ◌∷◌, length, take, drop, get_or, Option, Some, None, ◌∙◌, sym, refl, ap, arith}
use Rattle.std.proofs.lemmas.List.{take_rest}
use Rattle.lq_base.specs.Sql.{closes, opens, comment_end, after, is_pair, quoted_end}

pub after_more : (n m : ℕ) (o : Option ℕ) → after n (after m o) ≡ after (n + m) o
after_more n m None = refl
after_more n m (Some k) = ap (λ x. Some x) (omega arith)

-- one more step, after which the part is as the code has it
stepped : (end : List ℕ → Option ℕ) (whole here : Option ℕ) (passed count : ℕ) (rest : List ℕ) → whole ≡ after passed here
    → here ≡ after count (end (drop count rest)) → whole ≡ after (passed + count) (end (take (length rest - count) (drop count rest)))
stepped end whole here passed count rest so step =
    so ∙ ap (after passed) step ∙ after_more passed count _ ∙ ap (λ z. after (passed + count) (end z)) (sym (take_rest rest count))

pub quoted_two : (escaping : Bool) (quote : ℕ) (text : List ℕ) → 2 ≤ length text
    → quoted_end escaping quote text
    ≡ (if is_pair escaping quote (get_or text 0 0) (get_or text 1 0) then after 2 (quoted_end escaping quote (drop 2 text))
    else (if get_or text 0 0 == quote then Some 1 else after 1 (quoted_end escaping quote (drop 1 text))))
quoted_two escaping quote [] few = absurd (omega arith)
quoted_two escaping quote (b ∷ []) few = absurd (omega arith)
quoted_two escaping quote (b ∷ c ∷ rest) few = refl

pub quoted_on : (escaping : Bool) (quote passed : ℕ) (whole : Option ℕ) (rest : List ℕ) → whole ≡ after passed (quoted_end escaping quote rest)
    → 2 ≤ length rest → is_pair escaping quote (get_or rest 0 0) (get_or rest 1 0) ≡ false → (get_or rest 0 0 == quote) ≡ false
    → whole ≡ after (passed + 1) (quoted_end escaping quote (take (length rest - 1) (drop 1 rest)))
quoted_on escaping quote passed whole rest so few single other =
    let step : quoted_end escaping quote rest ≡ after 1 (quoted_end escaping quote (drop 1 rest)) = quoted_two escaping quote rest few ∙ rw (single, other) in
    stepped (quoted_end escaping quote) whole _ passed 1 rest so step

pub comment_two : (nesting : Bool) (levels : ℕ) (text : List ℕ) → 2 ≤ length text
    → comment_end nesting (suc levels) text
    ≡ (if closes (get_or text 0 0) (get_or text 1 0) then after 2 (comment_end nesting levels (drop 2 text))
    else (if opens nesting (get_or text 0 0) (get_or text 1 0) then after 2 (comment_end nesting (suc (suc levels)) (drop 2 text))
    else after 1 (comment_end nesting (suc levels) (drop 1 text))))
comment_two nesting levels [] few = absurd (omega arith)
comment_two nesting levels (b ∷ []) few = absurd (omega arith)
comment_two nesting levels (b ∷ c ∷ rest) few = refl

pub comment_closed : (nesting : Bool) (outer passed : ℕ) (whole : Option ℕ) (rest : List ℕ) → whole ≡ after passed (comment_end nesting (suc outer) rest)
    → 2 ≤ length rest → closes (get_or rest 0 0) (get_or rest 1 0) ≡ true
    → whole ≡ after (passed + 2) (comment_end nesting outer (take (length rest - 2) (drop 2 rest)))
comment_closed nesting outer passed whole rest so few closed =
    let step : comment_end nesting (suc outer) rest ≡ after 2 (comment_end nesting outer (drop 2 rest)) = comment_two nesting outer rest few ∙ rw closed in
    stepped (comment_end nesting outer) whole _ passed 2 rest so step

pub comment_opened : (nesting : Bool) (outer passed : ℕ) (whole : Option ℕ) (rest : List ℕ) → whole ≡ after passed (comment_end nesting (suc outer) rest)
    → 2 ≤ length rest → closes (get_or rest 0 0) (get_or rest 1 0) ≡ false → opens nesting (get_or rest 0 0) (get_or rest 1 0) ≡ true
    → whole ≡ after (passed + 2) (comment_end nesting (suc (suc outer)) (take (length rest - 2) (drop 2 rest)))
comment_opened nesting outer passed whole rest so few closed opened =
    let step : comment_end nesting (suc outer) rest ≡ after 2 (comment_end nesting (suc (suc outer)) (drop 2 rest)) = comment_two nesting outer rest few ∙ rw (closed, opened) in
    stepped (comment_end nesting (suc (suc outer))) whole _ passed 2 rest so step

pub comment_on : (nesting : Bool) (outer passed : ℕ) (whole : Option ℕ) (rest : List ℕ) → whole ≡ after passed (comment_end nesting (suc outer) rest)
    → 2 ≤ length rest → closes (get_or rest 0 0) (get_or rest 1 0) ≡ false → opens nesting (get_or rest 0 0) (get_or rest 1 0) ≡ false
    → whole ≡ after (passed + 1) (comment_end nesting (suc outer) (take (length rest - 1) (drop 1 rest)))
comment_on nesting outer passed whole rest so few closed opened =
    let step : comment_end nesting (suc outer) rest ≡ after 1 (comment_end nesting (suc outer) (drop 1 rest)) = comment_two nesting outer rest few ∙ rw (closed, opened) in
    stepped (comment_end nesting (suc outer)) whole _ passed 1 rest so step
