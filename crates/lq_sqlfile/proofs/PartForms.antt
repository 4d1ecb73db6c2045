-- What a line says, by what it is made of and as the reader finds it.
use Rattle.std.proofs.Common.{◌≡◌, ◌∙◌, ◌==◌, Bool, true, false, not, cond, is_some, List, [], ◌∷◌, ◌++◌, length, Option, Some, None, IfSome, option_map, option_and_then, ℕ, zero, suc, refl, sym, ap, subst, inl, inr, codes, append_assoc}
use Rattle.std.specs.List.{list_all}
use Rattle.std.proofs.lemmas.Bool.{and_from, and_parts, eqb-true}
use Rattle.lq_base.specs.Kind.{is_blank, is_no_blank}
use Rattle.lq_sqlfile.specs.Words.{after, attribute_words, condition_words, directive_of, has_name, is_word, known, plain_part}
use Rattle.lq_sqlfile.specs.Cuts.{apart, behind_word, cut_at, from, is_ended, until, without_blanks, word}
use Rattle.lq_sqlfile.specs.Lines.{check, conditions, heading, marked, meaning, part_behind, part_by, part_of, some_conditions, attributes, attributes_in, new_pair, pair, quoted, value, value_by}
use Rattle.lq_sqlfile.specs.Made.{AreAttributes, AreBlanks, AreConditions, IsCheck, IsGap, IsHeading, IsMarked, IsPair, IsPart, IsUnmarked, IsValue, Lacks, LacksMark, Says, begins_plain}
use Rattle.lq_sqlfile.specs.declared.part.Directive.{Directive}
use Rattle.lq_sqlfile.specs.declared.part.Directive.TheVariants as directive
use Rattle.lq_sqlfile.specs.declared.part.Part.{Part}
use Rattle.lq_sqlfile.specs.declared.part.Part.TheVariants as part
use Rattle.lq_sqlfile.proofs.CutLemmas.{after_front, after_made, cut_front, cut_made, from_front, none_until, stops, stops_from, until_from, until_front}
use Rattle.lq_sqlfile.proofs.PairLemmas.{turn_end, turn_some}

-- ---- options

pub then_of : {A B : Type 0} (f : A → Option B) (o : Option A) (b : B) → option_and_then f o ≡ Some b → (a : A) × (o ≡ Some a) × (f a ≡ Some b)
then_of f None b is = absurd cc
then_of f (Some a) b is = (a, refl, is)

pub map_of : {A B : Type 0} (f : A → B) (o : Option A) (b : B) → option_map f o ≡ Some b → (a : A) × (o ≡ Some a) × (f a ≡ b)
map_of f None b is = absurd cc
map_of f (Some a) b is = let same : f a ≡ b = cc in (a, refl, same)

pub if_of : {A : Type 0} (t : Bool) (a b : A) → (let o : Option A = cond t (Some a) None in o ≡ Some b) → (t ≡ true) × (a ≡ b)
if_of true a b is = let same : a ≡ b = cc in (refl, same)
if_of false a b is = absurd cc

pub of_made : {A : Type 0} (P : A → Type 0) (o : Option A) (a : A) → IfSome o P → o ≡ Some a → P a
of_made {A = A} P o a h is = let at : IfSome (Some a) P = subst (λ (x : Option A). IfSome x P) is h in at

-- ---- blanks

not_not : (b : Bool) → not (not b) ≡ b
not_not true = refl
not_not false = refl

all_blank : (text : List ℕ) → Lacks is_no_blank text → AreBlanks text
all_blank [] none = refl
all_blank (b ∷ bs) none =
    let both = and_parts (not (is_no_blank b)) (list_all (λ c. not (is_no_blank c)) bs) none in
    and_from (is_blank b) (list_all is_blank bs) (sym (not_not (is_blank b)) ∙ both.0) (all_blank bs both.1)

blanks_lack : (text : List ℕ) → AreBlanks text → Lacks is_no_blank text
blanks_lack [] all = refl
blanks_lack (b ∷ bs) all =
    let both = and_parts (is_blank b) (list_all is_blank bs) all in
    and_from (not (is_no_blank b)) (list_all (λ c. not (is_no_blank c)) bs) (not_not (is_blank b) ∙ both.0) (blanks_lack bs both.1)

plain_stops : (text : List ℕ) → begins_plain text ≡ true → stops is_no_blank text ≡ true
plain_stops [] is = refl
plain_stops (b ∷ bs) is = is

stops_plain : (text : List ℕ) → stops is_no_blank text ≡ true → begins_plain text ≡ true
stops_plain [] is = refl
stops_plain (b ∷ bs) is = is

-- the blanks at a front, and what is left
abbrev pub blanks : List ℕ → List ℕ
blanks text = until is_no_blank text

front_blanks : (text : List ℕ) → (text ≡ blanks text ++ without_blanks text) × AreBlanks (blanks text) × (begins_plain (without_blanks text) ≡ true)
front_blanks text = (until_from is_no_blank text, all_blank (blanks text) (none_until is_no_blank text), stops_plain (without_blanks text) (stops_from is_no_blank text))

pub behind_blanks : (gap text : List ℕ) → AreBlanks gap → begins_plain text ≡ true → without_blanks (gap ++ text) ≡ text
behind_blanks gap text all plain = from_front is_no_blank gap text (blanks_lack gap all) (plain_stops text plain)

-- ---- gaps

gap_blanks : (gap text : List ℕ) → IsGap gap text → AreBlanks gap
gap_blanks [] text is = refl
gap_blanks (c ∷ cs) text is = (and_parts (list_all is_blank (c ∷ cs)) (begins_plain text) is).0

gap_plain : (gap text : List ℕ) → IsGap gap text → begins_plain text ≡ true
gap_plain [] [] is = refl
gap_plain [] (b ∷ bs) is = absurd cc
gap_plain (c ∷ cs) text is = (and_parts (list_all is_blank (c ∷ cs)) (begins_plain text) is).1

gap_ended : (gap text : List ℕ) → IsGap gap text → is_ended (gap ++ text) ≡ true
gap_ended [] [] is = refl
gap_ended [] (b ∷ bs) is = absurd cc
gap_ended (c ∷ cs) text is = (and_parts (is_blank c) (list_all is_blank cs) (gap_blanks (c ∷ cs) text is)).0

ended_stops : (text : List ℕ) → is_ended text ≡ true → stops is_blank text ≡ true
ended_stops [] is = refl
ended_stops (b ∷ bs) is = is

stops_ended : (text : List ℕ) → stops is_blank text ≡ true → is_ended text ≡ true
stops_ended [] is = refl
stops_ended (b ∷ bs) is = is

gap_by : (gap rest text : List ℕ) → text ≡ gap ++ rest → is_ended text ≡ true → AreBlanks gap → begins_plain rest ≡ true → IsGap gap rest
gap_by [] [] text is ended all plain = refl
gap_by [] (b ∷ bs) text is ended all plain = let blank : is_blank b ≡ true = ap is_ended (sym is) ∙ ended in absurd (let clash : true ≡ false = sym plain ∙ ap not blank in cc)
gap_by (c ∷ cs) rest text is ended all plain = and_from (list_all is_blank (c ∷ cs)) (begins_plain rest) all plain

-- a text at an end begins with a gap
ended_gap : (text : List ℕ) → is_ended text ≡ true → IsGap (blanks text) (without_blanks text)
ended_gap text ended = let parts = front_blanks text in gap_by (blanks text) (without_blanks text) text parts.0 ended parts.1 parts.2

-- ---- words

pub word_front : (name gap rest : List ℕ) → Lacks is_blank name → IsGap gap rest → word (name ++ (gap ++ rest)) ≡ name
word_front name gap rest lacks is = until_front is_blank name (gap ++ rest) lacks (ended_stops (gap ++ rest) (gap_ended gap rest is))

pub word_behind : (name gap rest : List ℕ) → Lacks is_blank name → IsGap gap rest → behind_word (name ++ (gap ++ rest)) ≡ rest
word_behind name gap rest lacks is =
    ap without_blanks (from_front is_blank name (gap ++ rest) lacks (ended_stops (gap ++ rest) (gap_ended gap rest is)))
    ∙ behind_blanks gap rest (gap_blanks gap rest is) (gap_plain gap rest is)

abbrev pub gap_behind : List ℕ → List ℕ
gap_behind text = blanks (from is_blank text)

pub word_parts : (text : List ℕ) → (text ≡ word text ++ (gap_behind text ++ behind_word text)) × Lacks is_blank (word text) × IsGap (gap_behind text) (behind_word text)
word_parts text = (
  until_from is_blank text ∙ ap (λ z. word text ++ z) (front_blanks (from is_blank text)).0,
  none_until is_blank text,
  ended_gap (from is_blank text) (stops_ended (from is_blank text) (stops_from is_blank text)),
)

-- ---- values

-- a value and the blanks behind it
abbrev IsValued : List ℕ → List ℕ × List ℕ → Type 0
IsValued text p = (written gap : List ℕ) × (text ≡ written ++ (gap ++ p.1)) × IsValue written p.0 × IsGap gap p.1

apart_is : (gap rest : List ℕ) → IsGap gap rest → apart (gap ++ rest) ≡ Some rest
apart_is gap rest is = rw (gap_ended gap rest is) (ap Some (behind_blanks gap rest (gap_blanks gap rest is) (gap_plain gap rest is)))

quoted_is : (value gap rest : List ℕ) → LacksMark 34 value → IsGap gap rest → quoted (value ++ 34 ∷ (gap ++ rest)) ≡ Some (value, rest)
quoted_is value gap rest lacks is = rw (cut_front 34 value (gap ++ rest) lacks, apart_is gap rest is) refl

unquoted : (v : List ℕ) → is_some (after (codes "\"") v) ≡ false → (more : List ℕ) → is_ended more ≡ true → after (codes "\"") (v ++ more) ≡ None
unfolding after
unquoted [] is [] ended = refl
unquoted [] is (b ∷ bs) ended = by (34 == b) refl
  where
    by : (t : Bool) → (34 == b) ≡ t → (let o : Option (List ℕ) = cond t (Some bs) None in o ≡ None)
    by true same = absurd (let blank : is_blank 34 ≡ true = ap is_blank (eqb-true 34 b same) ∙ ended in cc)
    by false other = refl
unquoted (c ∷ cs) is more ended = by (34 == c) is
  where
    by : (t : Bool) → is_some (let o : Option (List ℕ) = cond t (Some cs) None in o) ≡ false → (let o : Option (List ℕ) = cond t (Some (cs ++ more)) None in o ≡ None)
    by true some = absurd cc
    by false some = refl

value_found : (text : List ℕ) (p : List ℕ × List ℕ) → IsValued text p → value text ≡ Some p
unfolding value
value_found text p (written, gap, is, inl quoted, gapped) = rw (is, quoted.0) by_quotes
  where
    by_quotes : value_by ((codes "\"" ++ (p.0 ++ codes "\"")) ++ (gap ++ p.1)) (after (codes "\"") ((codes "\"" ++ (p.0 ++ codes "\"")) ++ (gap ++ p.1))) ≡ Some p
    by_quotes =
        rw (append_assoc (codes "\"") (p.0 ++ codes "\"") (gap ++ p.1), after_front (codes "\"") ((p.0 ++ codes "\"") ++ (gap ++ p.1)), append_assoc p.0 (codes "\"") (gap ++ p.1))
        (quoted_is p.0 gap p.1 quoted.1 gapped)
value_found text p (written, gap, is, inr plain, gapped) =
    rw (is, plain.0, unquoted p.0 plain.2 (gap ++ p.1) (gap_ended gap p.1 gapped), word_front p.0 gap p.1 plain.1 gapped, word_behind p.0 gap p.1 plain.1 gapped) refl

quoted_made : (inside : List ℕ) (p : List ℕ × List ℕ) → quoted inside ≡ Some p → (gap : List ℕ) × (inside ≡ p.0 ++ 34 ∷ (gap ++ p.1)) × LacksMark 34 p.0 × IsGap gap p.1
quoted_made inside p is =
    let cut = then_of (λ q. option_map {U = List ℕ × List ℕ} (λ rest. (q.0, rest)) (apart q.1)) (cut_at 34 inside) p is in
    let made = of_made _ (cut_at 34 inside) cut.0 (cut_made 34 inside) cut.1 in
    let rest = map_of {B = List ℕ × List ℕ} (λ rest. (cut.0.0, rest)) (apart cut.0.1) p cut.2 in
    let ended = if_of (is_ended cut.0.1) (without_blanks cut.0.1) rest.0 rest.1 in
    let gap = ended_gap cut.0.1 ended.0 in
    subst (λ (q : List ℕ × List ℕ). (gap : List ℕ) × (inside ≡ q.0 ++ 34 ∷ (gap ++ q.1)) × LacksMark 34 q.0 × IsGap gap q.1) rest.2
    (subst (λ (r : List ℕ). (gap : List ℕ) × (inside ≡ cut.0.0 ++ 34 ∷ (gap ++ r)) × LacksMark 34 cut.0.0 × IsGap gap r) ended.1
    (blanks cut.0.1, made.0 ∙ ap (λ z. cut.0.0 ++ 34 ∷ z) (front_blanks cut.0.1).0, made.1, gap))

none_unquoted : (text front rest : List ℕ) → text ≡ front ++ rest → after (codes "\"") text ≡ None → is_some (after (codes "\"") front) ≡ false
unfolding after
none_unquoted text [] rest is none = refl
none_unquoted [] (c ∷ cs) rest is none = absurd cc
none_unquoted (b ∷ bs) (c ∷ cs) rest is none = by (34 == b) refl none
  where
    same : c ≡ b
    same = let e : b ∷ bs ≡ c ∷ (cs ++ rest) = is in cc

    by : (t : Bool) → (34 == b) ≡ t → (let o : Option (List ℕ) = cond t (Some bs) None in o ≡ None) → is_some (let o : Option (List ℕ) = cond (34 == c) (Some cs) None in o) ≡ false
    by true e nothing = absurd cc
    by false e nothing = rw (same, e) refl

value_made_by : (text : List ℕ) (p : List ℕ × List ℕ) (o : Option (List ℕ)) → after (codes "\"") text ≡ o → value_by text o ≡ Some p → IsValued text p
value_made_by text p (Some inside) at is =
    let q = quoted_made inside p is in
    let whole : text ≡ (codes "\"" ++ (p.0 ++ codes "\"")) ++ (q.0 ++ p.1) =
    after_made (codes "\"") text inside at ∙ ap (λ z. codes "\"" ++ z) (q.1 ∙ sym (append_assoc p.0 (codes "\"") (q.0 ++ p.1))) ∙ sym (append_assoc (codes "\"") (p.0 ++ codes "\"") (q.0 ++ p.1)) in
    (codes "\"" ++ (p.0 ++ codes "\""), q.0, whole, inl (refl, q.2), q.3)
value_made_by text p None at is =
    let w = word_parts text in
    let same : (let q : List ℕ × List ℕ = (word text, behind_word text) in q) ≡ p = cc in
    subst (IsValued text) same (word text, gap_behind text, w.0, inr (refl, w.1, none_unquoted text (word text) _ w.0 at), w.2)

value_made : (text : List ℕ) (p : List ℕ × List ℕ) → value text ≡ Some p → IsValued text p
unfolding value
value_made text p is = value_made_by text p (after (codes "\"") text) refl is

-- ---- pairs

abbrev pub IsThePair : List ℕ → List ℕ × List ℕ × List ℕ → Type 0
IsThePair text p = IsPair text p.0 p.1 p.2

pair_of : (text name behind : List ℕ) (v : List ℕ × List ℕ) → text ≡ name ++ 58 ∷ behind → LacksMark 58 name → IsValued behind v → IsPair text name v.0 v.1
pair_of text name behind v is lacks (written, gap, whole, valued, gapped) = (written, gap, is ∙ ap (λ z. name ++ 58 ∷ z) whole, lacks, valued, gapped)

pub pair_made : (text : List ℕ) (p : List ℕ × List ℕ × List ℕ) → pair text ≡ Some p → IsThePair text p
unfolding pair
pair_made text p is =
    let cut = then_of (λ q. option_map {U = List ℕ × List ℕ × List ℕ} (λ v. (q.0, v.0, v.1)) (value q.1)) (cut_at 58 text) p is in
    let made = of_made _ (cut_at 58 text) cut.0 (cut_made 58 text) cut.1 in
    let v = map_of {B = List ℕ × List ℕ × List ℕ} (λ v. (cut.0.0, v.0, v.1)) (value cut.0.1) p cut.2 in
    let valued = value_made cut.0.1 v.0 v.1 in
    subst (IsThePair text) v.2 (pair_of text cut.0.0 cut.0.1 v.0 made.0 made.1 valued)

pub pair_found : (text name v rest : List ℕ) → IsPair text name v rest → pair text ≡ Some (name, v, rest)
unfolding pair
pair_found text name v rest (written, gap, is, lacks, valued, gapped) =
    rw (is, cut_front 58 name (written ++ (gap ++ rest)) lacks, value_found (written ++ (gap ++ rest)) (v, rest) (written, gap, refl, valued, gapped)) refl

-- ---- attributes

new_made : (words : List (List ℕ)) (given : List (List ℕ × List ℕ)) (text : List ℕ) (p : List ℕ × List ℕ × List ℕ) → new_pair words given text ≡ Some p
    → (name : List ℕ) × IsPair text name p.1 p.2 × (known words name ≡ Some p.0) × (has_name p.0 given ≡ false)
unfolding new_pair
new_made words given text p is =
    let q = then_of (λ q. option_and_then {U = List ℕ × List ℕ × List ℕ} (λ w. cond (has_name w given) None (Some (w, q.1, q.2))) (known words q.0)) (pair text) p is in
    let w = then_of {B = List ℕ × List ℕ × List ℕ} (λ w. cond (has_name w given) None (Some (w, q.0.1, q.0.2))) (known words q.0.0) p q.2 in
    let fresh = unless_of (has_name w.0 given) (w.0, q.0.1, q.0.2) p w.2 in
    subst (λ (r : List ℕ × List ℕ × List ℕ). (name : List ℕ) × IsPair text name r.1 r.2 × (known words name ≡ Some r.0) × (has_name r.0 given ≡ false)) fresh.1
    (q.0.0, pair_made text q.0 q.1, w.1, fresh.0)
  where
    unless_of : (t : Bool) (a b : List ℕ × List ℕ × List ℕ) → (let o : Option (List ℕ × List ℕ × List ℕ) = cond t None (Some a) in o ≡ Some b) → (t ≡ false) × (a ≡ b)
    unless_of true a b is = absurd cc
    unless_of false a b is = let same : a ≡ b = cc in (refl, same)

new_found : (words : List (List ℕ)) (given : List (List ℕ × List ℕ)) (text name w v rest : List ℕ) → IsPair text name v rest → known words name ≡ Some w → has_name w given ≡ false
    → new_pair words given text ≡ Some (w, v, rest)
unfolding new_pair
new_found words given text name w v rest pairs known_is fresh = rw (pair_found text name v rest pairs, known_is, fresh) refl

module _ (words : List (List ℕ)) where
  pub made_from : (most : ℕ) (given : List (List ℕ × List ℕ)) (text : List ℕ) (all : List (List ℕ × List ℕ)) → attributes words most given text ≡ Some all → AreAttributes words given text all
  unfolding attributes
  made_from most given [] all is = let same : given ≡ all = cc in AreAttributes.none refl (sym same)
  made_from zero given (b ∷ bs) all is = absurd cc
  made_from (suc most) given (b ∷ bs) all is =
      let p = then_of (λ p. attributes words most (given ++ (p.0, p.1) ∷ []) p.2) (new_pair words given (b ∷ bs)) all is in
      let q = new_made words given (b ∷ bs) p.0 p.1 in
      AreAttributes.more q.0 p.0.0 p.0.1 p.0.2 q.1 q.2 q.3 (made_from most (given ++ (p.0.0, p.0.1) ∷ []) p.0.2 all p.2)

  pub found_from : (given : List (List ℕ × List ℕ)) (text : List ℕ) (all : List (List ℕ × List ℕ)) → AreAttributes words given text all → attributes words (length text) given text ≡ Some all
  found_from given text all (AreAttributes.none empty same) = rw (empty, same) (turn_end words given [] refl)
  found_from given text all (AreAttributes.more name w v rest pairs known_is fresh others) =
      turn_some words given text (w, v, rest) (new_found words given text name w v rest pairs known_is fresh) ∙ found_from (given ++ (w, v) ∷ []) rest all others

pub attributes_found : (words : List (List ℕ)) (text : List ℕ) (all : List (List ℕ × List ℕ)) → AreAttributes words [] text all → attributes_in words text ≡ Some all
attributes_found words text all are = found_from words [] text all are

pub attributes_made : (words : List (List ℕ)) (text : List ℕ) (all : List (List ℕ × List ℕ)) → attributes_in words text ≡ Some all → AreAttributes words [] text all
attributes_made words text all is = made_from words (length text) [] text all is

-- ---- directives

heading_made : (text : List ℕ) (said : Part) → heading text ≡ Some said → IsHeading text said
unfolding heading
heading_made text said is =
    let cut = then_of (λ p. option_map (λ pairs. part.ChangeSet (record { author = p.0; id = word p.1; attributes = pairs })) (attributes_in attribute_words (behind_word p.1))) (cut_at 58 text) said is in
    let made = of_made _ (cut_at 58 text) cut.0 (cut_made 58 text) cut.1 in
    let given = map_of (λ pairs. part.ChangeSet (record { author = cut.0.0; id = word cut.0.1; attributes = pairs })) (attributes_in attribute_words (behind_word cut.0.1)) said cut.2 in
    let w = word_parts cut.0.1 in (
      cut.0.0,
      word cut.0.1,
      gap_behind cut.0.1,
      behind_word cut.0.1,
      given.0,
      made.0 ∙ ap (λ z. cut.0.0 ++ 58 ∷ z) w.0,
      made.1,
      w.1,
      w.2,
      attributes_made attribute_words (behind_word cut.0.1) given.0 given.1,
      sym given.2,
    )

heading_found : (text : List ℕ) (said : Part) → IsHeading text said → heading text ≡ Some said
unfolding heading
heading_found text said (author, id, gap, pairs, given, is, lacks, plain, gapped, are, same) =
    rw (is, cut_front 58 author (id ++ (gap ++ pairs)) lacks, word_front id gap pairs plain gapped, word_behind id gap pairs plain gapped, attributes_found attribute_words pairs given are, same) refl

some_made : (all : List (List ℕ × List ℕ)) (said : Part) → some_conditions all ≡ Some said → (first : List ℕ × List ℕ) × (rest : List (List ℕ × List ℕ)) × (all ≡ first ∷ rest) × (said ≡ part.Conditions (first ∷ rest))
some_made [] said is = absurd cc
some_made (p ∷ ps) said is = let same : part.Conditions (p ∷ ps) ≡ said = cc in (p, ps, refl, sym same)

conditions_made : (text : List ℕ) (said : Part) → conditions text ≡ Some said → AreConditions text said
unfolding conditions
conditions_made text said is =
    let all = then_of some_conditions (attributes_in condition_words text) said is in
    let some = some_made all.0 said all.2 in
    (some.0, some.1, subst (λ (z : List (List ℕ × List ℕ)). AreAttributes condition_words [] text z) some.2 (attributes_made condition_words text all.0 all.1), some.3)

conditions_found : (text : List ℕ) (said : Part) → AreConditions text said → conditions text ≡ Some said
unfolding conditions
conditions_found text said (first, rest, are, same) = ap (option_and_then some_conditions) (attributes_found condition_words text (first ∷ rest) are) ∙ ap Some (sym same)

check_made : (text : List ℕ) (said : Part) → check text ≡ Some said → IsCheck text said
unfolding check
check_made text said is =
    let p = then_of {B = Part} (λ p. cond (is_word p.0 (codes "expectedResult")) (Some (part.Check p.1 p.2)) None) (pair text) said is in
    let named = if_of (is_word p.0.0 (codes "expectedResult")) (part.Check p.0.1 p.0.2) said p.2 in
    (p.0.0, p.0.1, p.0.2, pair_made text p.0 p.1, named.0, sym named.1)

check_found : (text : List ℕ) (said : Part) → IsCheck text said → check text ≡ Some said
unfolding check
check_found text said (name, expected, query, pairs, named, same) = rw (pair_found text name expected query pairs, named, same) refl

says_made : (d : Directive) (text : List ℕ) (said : Part) → meaning d text ≡ Some said → Says d text said
says_made directive.ChangeSet text said is = heading_made text said is
says_made directive.Comment text said is = let same : part.Comment text ≡ said = cc in sym same
says_made directive.Conditions text said is = conditions_made text said is
says_made directive.Check text said is = check_made text said is
says_made directive.Rollback text said is = let same : part.Rollback text ≡ said = cc in sym same
says_made directive.OtherCondition text said is = absurd cc

says_found : (d : Directive) (text : List ℕ) (said : Part) → Says d text said → meaning d text ≡ Some said
says_found directive.ChangeSet text said is = heading_found text said is
says_found directive.Comment text said is = ap Some (sym is)
says_found directive.Conditions text said is = conditions_found text said is
says_found directive.Check text said is = check_found text said is
says_found directive.Rollback text said is = ap Some (sym is)
says_found directive.OtherCondition text said is = absurd is

-- ---- lines

-- a line with `--`, by the text behind that and the blanks that follow
pub marked_made : (line text : List ℕ) → marked line ≡ Some text → IsMarked line (word text) (behind_word text)
unfolding marked
marked_made line text is =
    let front = front_blanks line in
    let rest = map_of without_blanks (after (codes "--") (without_blanks line)) text is in
    let behind = front_blanks rest.0 in
    let w = word_parts text in
    let whole : line ≡ blanks line ++ (codes "--" ++ (blanks rest.0 ++ (word text ++ (gap_behind text ++ behind_word text)))) =
    front.0 ∙ ap (λ z. blanks line ++ z) (after_made (codes "--") (without_blanks line) rest.0 rest.1 ∙ ap (λ z. codes "--" ++ z) (behind.0 ∙ ap (λ z. blanks rest.0 ++ z) (rest.2 ∙ w.0))) in
    (blanks line, blanks rest.0, gap_behind text, whole, front.1, behind.1, subst (λ z. begins_plain z ≡ true) (rest.2 ∙ w.0) behind.2, w.1, w.2)

pub marked_found : (line name text : List ℕ) → IsMarked line name text → (found : List ℕ) × (marked line ≡ Some found) × (word found ≡ name) × (behind_word found ≡ text)
unfolding marked
marked_found line name text (indent, gap, space, is, blank, wide, plain, lacks, gapped) = (
  name ++ (space ++ text),
  rw (is, behind_blanks indent (codes "--" ++ (gap ++ (name ++ (space ++ text)))) blank refl, after_front (codes "--") (gap ++ (name ++ (space ++ text))), behind_blanks gap (name ++ (space ++ text)) wide plain) refl,
  word_front name space text lacks gapped,
  word_behind name space text lacks gapped,
)

none_is : (o : Option (List ℕ)) → o ≡ None → is_some o ≡ false
none_is o is = ap is_some is

is_none : (o : Option (List ℕ)) → is_some o ≡ false → o ≡ None
is_none None is = refl
is_none (Some x) is = absurd cc

no_map : {A B : Type 0} (f : A → B) (o : Option A) → option_map f o ≡ None → o ≡ None
no_map f None is = refl
no_map f (Some a) is = absurd cc

unmarked_made : (line : List ℕ) → marked line ≡ None → IsUnmarked line
unfolding marked
unmarked_made line is =
    let front = front_blanks line in
    (blanks line, without_blanks line, front.0, front.1, front.2, none_is (after (codes "--") (without_blanks line)) (no_map without_blanks (after (codes "--") (without_blanks line)) is))

unmarked_found : (line : List ℕ) → IsUnmarked line → marked line ≡ None
unfolding marked
unmarked_found line (indent, rest, is, blank, plain, lacks) = rw (is, behind_blanks indent rest blank plain, is_none (after (codes "--") rest) lacks) refl

made_by_word : (line text : List ℕ) (said : Part) → marked line ≡ Some text → (o : Option Directive) → directive_of (word text) ≡ o → part_by line text o ≡ Some said → IsPart line said
made_by_word line text said at None which is = let same : plain_part line ≡ said = cc in IsPart.other_word (word text) (behind_word text) (marked_made line text at) which (sym same)
made_by_word line text said at (Some d) which is = IsPart.with_word (word text) (behind_word text) d (marked_made line text at) which (says_made d (behind_word text) said is)

made_by_mark : (line : List ℕ) (said : Part) (o : Option (List ℕ)) → marked line ≡ o → part_behind line o ≡ Some said → IsPart line said
made_by_mark line said None at is = let same : part.Body line ≡ said = cc in IsPart.body (unmarked_made line at) (sym same)
made_by_mark line said (Some text) at is = made_by_word line text said at (directive_of (word text)) refl is

pub part_made : (line : List ℕ) (said : Part) → part_of line ≡ Some said → IsPart line said
unfolding part_of
part_made line said is = made_by_mark line said (marked line) refl is

pub part_found : (line : List ℕ) (said : Part) → IsPart line said → part_of line ≡ Some said
unfolding part_of
part_found line said (IsPart.with_word name text which mark word_is says) =
    let found = marked_found line name text mark in
    ap (part_behind line) found.1 ∙ ap (part_by line found.0) (ap directive_of found.2 ∙ word_is) ∙ ap (meaning which) found.3 ∙ says_found which text said says
part_found line said (IsPart.other_word name text mark word_is same) =
    let found = marked_found line name text mark in
    ap (part_behind line) found.1 ∙ ap (part_by line found.0) (ap directive_of found.2 ∙ word_is) ∙ ap Some (sym same)
part_found line said (IsPart.body unmarked same) = ap (part_behind line) (unmarked_found line unmarked) ∙ ap Some (sym same)
