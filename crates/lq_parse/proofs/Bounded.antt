-- How tests are read of which at most 64 levels are made.
use Rattle.std.proofs.Common.{◌≡◌, ◌≤◌, ◌<◌, ◌-◌, ℕ, zero, suc, true, false, nat_le, if◌then◌else◌, List, [], ◌∷◌, Some, None, Result, Ok, Err, ap, subst, ◌∙◌, sym, refl, arith}
use Rattle.std.specs.List.{fold}
use Rattle.lq_model.specs.SqlParser.{Reads, Outcome, Parser, after, and_more, and_then, led_by, many, next, pure, refuse, same_kind, sees}
use Rattle.lq_model.specs.Comparison.{levels}
use Rattle.lq_model.specs.SqlTest.{any_test, comparison, most, primary, product, sum, term}
use Rattle.lq_model.specs.declared.fault.ParseFault.{ParseFault}
use Rattle.lq_model.specs.declared.fault.ParseFault.TheVariants.{NotSql, OutOfMemory}
use Rattle.lq_model.specs.declared.test.Test.{Test}
use Rattle.lq_model.specs.declared.test.Test.TheVariants as test
use Rattle.lq_model.specs.declared.word.Word.{Word}
use Rattle.lq_model.specs.declared.word.WordKind.{WordKind}
use Rattle.lq_model.specs.declared.word.WordKind.TheVariants as word
use Rattle.lq_parse.proofs.Levels.{Deepens, and_deepens, fold_deepens, none_past, not_deepens, or_deepens}
use Rattle.lq_parse.proofs.Many.{Takes, led_by_takes, many_turn, shortens_primary, shortens_product, shortens_term}
use Rattle.lq_parse.specs.Kinds.{Exceeds, ReadsUpTo, joined}

-- what exceeds a bound

exceeds_less : (o : Outcome Test) (n m : ℕ) → n ≤ m → Exceeds m o → Exceeds n o
exceeds_less None n m h e = tt
exceeds_less (Some found) n m h e = omega (arith, h, e)

exceeds_then : (o : Outcome Test) (f : Test → Parser Test) (n m : ℕ) → Exceeds n o → ((t : Test) (j : List Word) → n < levels t → Exceeds m (f t j)) → Exceeds m (and_then o f)
exceeds_then None f n m e g = tt
exceeds_then (Some found) f n m e g = g found.0 found.1 e

exceeds_whatever : (o : Outcome Test) (f : Test → Parser Test) (m : ℕ) → ((t : Test) (j : List Word) → Exceeds m (f t j)) → Exceeds m (and_then o f)
exceeds_whatever None f m g = tt
exceeds_whatever (Some found) f m g = g found.0 found.1

-- what is read exactly
pub read_up_to : (n : ℕ) (o : Outcome Test) (r : Result Test ParseFault) (rest : List Word) → Reads o r rest → ReadsUpTo n o r rest
read_up_to n o (Ok t) rest h = h
read_up_to n o (Err NotSql) rest h = rw (h) tt
read_up_to n o (Err OutOfMemory) rest h = tt

up_to_less : (n m : ℕ) (o : Outcome Test) (r : Result Test ParseFault) (rest : List Word) → n ≤ m → ReadsUpTo m o r rest → ReadsUpTo n o r rest
up_to_less n m o (Ok t) rest le h = h
up_to_less n m o (Err NotSql) rest le h = exceeds_less o n m le h
up_to_less n m o (Err OutOfMemory) rest le h = tt

-- a fault in the first part is one of the whole, which is no less deep
fault_then : (o : Outcome Test) (f : Test → Parser Test) (n m : ℕ) (fault : ParseFault) (rest new : List Word) → ((t : Test) (j : List Word) → n < levels t → Exceeds m (f t j))
    → ReadsUpTo n o (Err fault) rest → ReadsUpTo m (and_then o f) (Err fault) new
fault_then o f n m NotSql rest new g h = exceeds_then o f n m h g
fault_then o f n m OutOfMemory rest new g h = tt

fault_of : (whole o : Outcome Test) (f : Test → Parser Test) (n m : ℕ) (fault : ParseFault) (r : Result Test ParseFault) (rest new : List Word) → whole ≡ and_then o f
    → ((t : Test) (j : List Word) → n < levels t → Exceeds m (f t j)) → ReadsUpTo n o (Err fault) rest → r ≡ Err fault → ReadsUpTo m whole r new
fault_of whole o f n m fault r rest new e g h is =
    subst (λ r. ReadsUpTo m whole r new) (sym is) (subst (λ o. ReadsUpTo m o (Err fault) new) (sym e) (fault_then o f n m fault rest new g h))

-- NOT

term_turn : (p : Parser Test) (i : List Word) → term p i ≡ (if sees word.Not i then and_then (term p (next i)) (λ t. pure (test.Not t)) else p i)
unfolding term sees same_kind
term_turn p [] = refl
term_turn p (w ∷ ws) = refl

pub no_not : (p : Parser Test) (n : ℕ) (i past new : List Word) (r : Result Test ParseFault) → n ≤ 64 → sees word.Not i ≡ false → past ≡ after word.Not i → ReadsUpTo 64 (p past) r new → ReadsUpTo n (term p i) r new
unfolding after
no_not p n i past new r few none at h =
    let same : term p i ≡ p past = rw (at, term_turn p i, none) refl in
    subst (λ o. ReadsUpTo n o r new) (sym same) (up_to_less n 64 (p past) r new few h)

then_not : (p : Parser Test) (i : List Word) → sees word.Not i ≡ true → term p i ≡ and_then (term p (after word.Not i)) (λ t. pure (test.Not t))
unfolding after
then_not p i seen = rw (term_turn p i, seen) refl

pub not_too_deep : (p : Parser Test) (i : List Word) → sees word.Not i ≡ true → Exceeds 0 (term p i)
not_too_deep p i seen =
    rw (then_not p i seen) (exceeds_whatever (term p (after word.Not i)) (λ t. pure (test.Not t)) 0 (λ t j. let is = not_deepens t in omega arith))

pub not_fault : (p : Parser Test) (n : ℕ) (i past rest new : List Word) (fault : ParseFault) (r : Result Test ParseFault) → 0 < n → sees word.Not i ≡ true → past ≡ after word.Not i
    → ReadsUpTo (n - 1) (term p past) (Err fault) rest → r ≡ Err fault → ReadsUpTo n (term p i) r new
not_fault p n i past rest new fault r some seen at h is =
    fault_of (term p i) (term p past) (λ t. pure (test.Not t)) (n - 1) n fault r rest new (then_not p i seen ∙ ap (λ j. and_then (term p j) (λ t. pure (test.Not t))) (sym at))
    (λ t j deep. let made = not_deepens t in omega arith) h is

pub not_read : (p : Parser Test) (i past j : List Word) (t made : Test) → sees word.Not i ≡ true → past ≡ after word.Not i → term p past ≡ Some (t, j) → made ≡ test.Not t → term p i ≡ Some (made, j)
not_read p i past j t made seen at e is = rw (then_not p i seen, sym at, e, is) refl

-- chains of AND and of OR

pub joined_ends : (join : Test → Test → Test) (k : WordKind) (p : Parser Test) (left : Test) (i past : List Word) → Takes (led_by k p) → sees k i ≡ false → past ≡ after k i → joined join k p left i ≡ Some (left, past)
unfolding led_by
joined_ends join k p left i past takes none at = rw (many_turn (led_by k p) i takes, none, at) refl

more_joined : (join : Test → Test → Test) (o : Outcome (List Test)) (left right : Test)
    → and_then (and_then o (λ xs. pure (right ∷ xs))) (λ more. pure (fold join left more)) ≡ and_then o (λ more. pure (fold join (join left right) more))
more_joined join None left right = refl
more_joined join (Some found) left right = refl

one_joined : (join : Test → Test → Test) (more : Parser (List Test)) (o : Outcome Test) (left : Test)
    → and_then (and_then (and_then o (λ x. pure (Some x))) (λ found. and_more found more)) (λ more. pure (fold join left more))
    ≡ and_then o (λ right j. and_then (more j) (λ more. pure (fold join (join left right) more)))
one_joined join more None left = refl
one_joined join more (Some found) left = more_joined join (more found.1) left found.0

pub joined_goes_on : (join : Test → Test → Test) (k : WordKind) (p : Parser Test) (left : Test) (i : List Word) → Takes (led_by k p) → sees k i ≡ true
    → joined join k p left i ≡ and_then (p (after k i)) (λ right. joined join k p (join left right))
unfolding led_by
joined_goes_on join k p left i takes seen =
    rw (many_turn (led_by k p) i takes, seen) (one_joined join (many (led_by k p)) (p (after k i)) left)

joined_exceeds : (join : Test → Test → Test) (k : WordKind) (p : Parser Test) (left : Test) (i : List Word) (n : ℕ) → Deepens join → n < levels left → Exceeds n (joined join k p left i)
joined_exceeds join k p left i n d deep = of (many (led_by k p) i)
  where
    of : (o : Outcome (List Test)) → Exceeds n (and_then o (λ more. pure (fold join left more)))
    of None = tt
    of (Some found) = omega (arith, fold_deepens join left found.0 d, deep)

pub joined_too_deep : (join : Test → Test → Test) (k : WordKind) (p : Parser Test) (left : Test) (i : List Word) → Takes (led_by k p) → Deepens join → sees k i ≡ true → 64 ≤ levels left
    → Exceeds 64 (joined join k p left i)
joined_too_deep join k p left i takes d seen deep =
    rw (joined_goes_on join k p left i takes seen)
    (exceeds_whatever (p (after k i)) (λ right. joined join k p (join left right)) 64 (λ right j. joined_exceeds join k p (join left right) j 64 d (omega (arith, d.left left right, deep))))

pub joined_fault : (join : Test → Test → Test) (k : WordKind) (p : Parser Test) (left : Test) (i past rest new : List Word) (fault : ParseFault) (r : Result Test ParseFault) → Takes (led_by k p) → Deepens join
    → sees k i ≡ true → past ≡ after k i → ReadsUpTo 64 (p past) (Err fault) rest → r ≡ Err fault → ReadsUpTo 64 (joined join k p left i) r new
joined_fault join k p left i past rest new fault r takes d seen at h is =
    fault_of (joined join k p left i) (p past) (λ right. joined join k p (join left right)) 64 64 fault r rest new
    (joined_goes_on join k p left i takes seen ∙ ap (λ j. and_then (p j) (λ right. joined join k p (join left right))) (sym at))
    (λ right j deep. joined_exceeds join k p (join left right) j 64 d (omega (arith, d.right left right, deep))) h is

pub joined_read : (join : Test → Test → Test) (k : WordKind) (p : Parser Test) (left right both : Test) (i past j new : List Word) (r : Result Test ParseFault) → Takes (led_by k p) → sees k i ≡ true
    → past ≡ after k i → p past ≡ Some (right, j) → both ≡ join left right → ReadsUpTo 64 (joined join k p both j) r new → ReadsUpTo 64 (joined join k p left i) r new
joined_read join k p left right both i past j new r takes seen at e is h =
    let whole : joined join k p left i ≡ joined join k p both j = rw (joined_goes_on join k p left i takes seen, sym at, e, is) refl in
    subst (λ o. ReadsUpTo 64 o r new) (sym whole) h

chain_fault : (join : Test → Test → Test) (k : WordKind) (p : Parser Test) (i rest new : List Word) (fault : ParseFault) (r : Result Test ParseFault) → Deepens join
    → ReadsUpTo 64 (p i) (Err fault) rest → r ≡ Err fault → ReadsUpTo 64 (and_then (p i) (joined join k p)) r new
chain_fault join k p i rest new fault r d h is =
    fault_of (and_then (p i) (joined join k p)) (p i) (joined join k p) 64 64 fault r rest new refl (λ first j deep. joined_exceeds join k p first j 64 d deep) h is

pub product_fault : (p : Parser Test) (i rest new : List Word) (fault : ParseFault) (r : Result Test ParseFault) → ReadsUpTo 64 (term p i) (Err fault) rest → r ≡ Err fault → ReadsUpTo 64 (product p i) r new
unfolding product
product_fault p i rest new fault r h is = chain_fault test.And word.And (term p) i rest new fault r and_deepens h is

pub product_read : (p : Parser Test) (first : Test) (i j new : List Word) (r : Result Test ParseFault) → term p i ≡ Some (first, j)
    → ReadsUpTo 64 (joined test.And word.And (term p) first j) r new → ReadsUpTo 64 (product p i) r new
unfolding product
product_read p first i j new r e h =
    let whole : product p i ≡ joined test.And word.And (term p) first j = rw (e) refl in
    subst (λ o. ReadsUpTo 64 o r new) (sym whole) h

pub sum_fault : (p : Parser Test) (i rest new : List Word) (fault : ParseFault) (r : Result Test ParseFault) → ReadsUpTo 64 (product p i) (Err fault) rest → r ≡ Err fault → ReadsUpTo 64 (sum p i) r new
unfolding sum
sum_fault p i rest new fault r h is = chain_fault test.Or word.Or (product p) i rest new fault r or_deepens h is

pub sum_read : (p : Parser Test) (first : Test) (i j new : List Word) (r : Result Test ParseFault) → product p i ≡ Some (first, j)
    → ReadsUpTo 64 (joined test.Or word.Or (product p) first j) r new → ReadsUpTo 64 (sum p i) r new
unfolding sum
sum_read p first i j new r e h =
    let whole : sum p i ≡ joined test.Or word.Or (product p) first j = rw (e) refl in
    subst (λ o. ReadsUpTo 64 o r new) (sym whole) h

pub and_takes : (n : ℕ) → Takes (led_by word.And (term (primary n)))
unfolding sees same_kind
and_takes n = led_by_takes word.And (term (primary n)) refl (shortens_term (primary n) (shortens_primary n))

pub or_takes : (n : ℕ) → Takes (led_by word.Or (product (primary n)))
unfolding sees same_kind
or_takes n = led_by_takes word.Or (product (primary n)) refl (shortens_product (primary n) (shortens_primary n))

-- parentheses

pub not_opened : (n : ℕ) (i past new : List Word) (r : Result Test ParseFault) → sees word.Open i ≡ false → past ≡ after word.Open i → Reads (comparison past) r new → ReadsUpTo 64 (primary n i) r new
unfolding primary after
not_opened zero i past new r none at h =
    let same : comparison past ≡ comparison i = rw (at, none) refl in
    subst (λ o. ReadsUpTo 64 o r new) same (read_up_to 64 (comparison past) r new h)
not_opened (suc n) i past new r none at h =
    let same : comparison past ≡ primary (suc n) i = rw (at, none) refl in
    subst (λ o. ReadsUpTo 64 o r new) same (read_up_to 64 (comparison past) r new h)

-- a whole test, of 64 levels at most

too_many : (o : Outcome Test) → Exceeds 64 o → and_then o (λ t. if nat_le (levels t) most then pure t else refuse) ≡ None
too_many None e = refl
too_many (Some found) e = rw (none_past (levels found.0) 64 e) refl

pub whole_fault : (i rest new : List Word) (fault : ParseFault) (r : Result Test ParseFault) → ReadsUpTo 64 (sum (primary 64) i) (Err fault) rest → r ≡ Err fault → Reads (any_test i) r new
unfolding any_test
whole_fault i rest new NotSql r h is = rw (is) (too_many (sum (primary 64) i) h)
whole_fault i rest new OutOfMemory r h is = rw (is) tt
