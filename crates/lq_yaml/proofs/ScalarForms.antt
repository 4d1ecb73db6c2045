-- The scalar at the front of a text is the one that is found.
use Rattle.std.proofs.Common.{◌≡◌, ℕ, suc, ◌+◌, ◌-◌, ◌≤◌, Bool, true, false, cond, not, ◌&&◌, ◌||◌, ◌==◌, List, [], ◌∷◌, ◌++◌, length, take, drop, Option, Some, None, option_map, option_and_then, refl, sym, ap, subst, ◌∙◌, inl, inr, append_assoc, add-one, arith, length-append, get_or, length-take, if◌then◌else◌}
use Rattle.std.proofs.lemmas.Bool.{eqb-true, ne_eqb}
use Rattle.std.proofs.lemmas.List.{take-append-drop}
use Rattle.std.specs.List.{list_all}
use Rattle.std.proofs.Math.Seq.{take-append_seam, drop-append_seam, get_or-append_seam}
use Rattle.lq_yaml.specs.Tree.{is_blank}
use Rattle.lq_yaml.specs.Line.{trimmed, begins_with, Found, Front, with_front, single, quote, double, behind, behind_u, stops, plain_length, begins_otherwise, is_plain, ends_with_colon, quoted_front, plain_text, plain_front, front}
use Rattle.lq_yaml.specs.Meaning.{escaped, coded, is_mark}
use Rattle.lq_yaml.specs.Made.{AreBlanks, Holds, HasLast, doubled, IsPiece, itself, sign, code, ArePieces, IsPlain}
use Rattle.lq_yaml.specs.Laws.{IsStop, IsFront, in_single, in_double, as_plain, ScalarsAreFound}
use Rattle.lq_yaml.proofs.Splits.{some_of, both_of, not_true, differs, trimmed_last, Left, trim}

-- ---- between single quotes

-- what stands behind the quote, with what follows the scalar
abbrev IsInside : List ℕ → Found → Type 0
IsInside cs f = (cs ≡ doubled f.0 ++ 39 ∷ f.1) × (begins_with 39 f.1 ≡ false)

more_inside : (c : ℕ) (cs : List ℕ) (f g : Found) → (c == 39) ≡ false → with_front (c ∷ []) g ≡ f → IsInside cs g → IsInside (c ∷ cs) f
more_inside c cs f g other same h =
    subst (λ (f : Found). IsInside (c ∷ cs) f) same (rw other (ap (λ (l : List ℕ). c ∷ l) h.0), h.1)

quote_inside : (c : ℕ) (cs : List ℕ) (f g : Found) → (c == 39) ≡ true → with_front (39 ∷ []) g ≡ f → IsInside cs g → IsInside (39 ∷ c ∷ cs) f
quote_inside c cs f g is same h =
    let at : c ≡ 39 = eqb-true c 39 is in
    subst (λ (f : Found). IsInside (39 ∷ c ∷ cs) f) same (subst (λ (d : ℕ). 39 ∷ d ∷ cs ≡ 39 ∷ 39 ∷ (doubled g.0 ++ 39 ∷ g.1)) (sym at) (ap (λ (l : List ℕ). 39 ∷ 39 ∷ l) h.0), h.1)

quote_by : (c : ℕ) (cs : List ℕ) (f : Found) (b : Bool) → (c == 39) ≡ b → cond b (option_map (with_front (39 ∷ [])) (single cs)) (Some ([], c ∷ cs)) ≡ Some f
    → ((g : Found) → single cs ≡ Some g → IsInside cs g) → IsInside (39 ∷ c ∷ cs) f
quote_by c cs f true at is h = let x = some_of (with_front (39 ∷ [])) (single cs) f is in quote_inside c cs f x.0 at x.2 (h x.0 x.1)
quote_by c cs f false at is h =
    let g : Found = ([], c ∷ cs) in
    let same : g ≡ f = cc in
    subst (λ (f : Found). IsInside (39 ∷ c ∷ cs) f) same (refl, at)

single_by : (c : ℕ) (cs : List ℕ) (f : Found) (b : Bool) → (c == 39) ≡ b → cond b (quote cs) (option_map (with_front (c ∷ [])) (single cs)) ≡ Some f
    → ((g : Found) → single cs ≡ Some g → IsInside cs g) → ((g : Found) → quote cs ≡ Some g → IsInside (39 ∷ cs) g) → IsInside (c ∷ cs) f
single_by c cs f true at is h q = let e : c ≡ 39 = eqb-true c 39 at in subst (λ (d : ℕ). IsInside (d ∷ cs) f) (sym e) (q f is)
single_by c cs f false at is h q = let x = some_of (with_front (c ∷ [])) (single cs) f is in more_inside c cs f x.0 at x.2 (h x.0 x.1)

mutual
  single_inside : (cs : List ℕ) (f : Found) → single cs ≡ Some f → IsInside cs f
  single_inside [] f is = absurd cc
  single_inside (c ∷ cs) f is = single_by c cs f (c == 39) refl is (λ g e. single_inside cs g e) (λ g e. quote_inside_of cs g e)

  quote_inside_of : (cs : List ℕ) (f : Found) → quote cs ≡ Some f → IsInside (39 ∷ cs) f
  quote_inside_of [] f is =
      let g : Found = ([], []) in
      let same : g ≡ f = cc in
      subst (λ (f : Found). IsInside (39 ∷ []) f) same (refl, refl)
  quote_inside_of (c ∷ cs) f is = quote_by c cs f (c == 39) refl is (λ g e. single_inside cs g e)

quote_end : (rest : List ℕ) → begins_with 39 rest ≡ false → quote rest ≡ Some ([], rest)
quote_end [] is = refl
quote_end (c ∷ cs) is = rw is refl

single_step : (b : Bool) (c : ℕ) (cs rest : List ℕ) → (c == 39) ≡ b → single (doubled cs ++ 39 ∷ rest) ≡ Some (cs, rest)
    → single (cond b (39 ∷ 39 ∷ doubled cs) (c ∷ doubled cs) ++ 39 ∷ rest) ≡ Some (c ∷ cs, rest)
single_step true c cs rest at is =
    let e : c ≡ 39 = eqb-true c 39 at in
    ap (λ (o : Option Found). option_map (with_front (39 ∷ [])) o) is ∙ ap (λ (d : ℕ). Some (d ∷ cs, rest)) (sym e)
single_step false c cs rest at is = rw at (ap (λ (o : Option Found). option_map (with_front (c ∷ [])) o) is)

single_from : (chars rest : List ℕ) → begins_with 39 rest ≡ false → single (doubled chars ++ 39 ∷ rest) ≡ Some (chars, rest)
single_from [] rest other = quote_end rest other
single_from (c ∷ cs) rest other = single_step (c == 39) c cs rest refl (single_from cs rest other)

-- ---- between double quotes

abbrev IsWithin : List ℕ → Found → Type 0
IsWithin cs f = (inside : List ℕ) × (cs ≡ inside ++ 34 ∷ f.1) × ArePieces f.0 inside

one_more : (e : ℕ) (piece cs : List ℕ) (f g : Found) → with_front (e ∷ []) g ≡ f → IsPiece e piece → IsWithin cs g → IsWithin (piece ++ cs) f
one_more e piece cs f g same p h =
    subst (λ (f : Found). IsWithin (piece ++ cs) f) same
    (piece ++ h.0, ap (λ (l : List ℕ). piece ++ l) h.1 ∙ sym (append_assoc piece h.0 (34 ∷ g.1)), (piece, h.0, refl, p, h.2))

code_by : (a b c d : ℕ) (cs : List ℕ) (f : Found) (o : Option ℕ) → coded a b c d ≡ o → option_and_then (λ e. option_map (with_front (e ∷ [])) (double cs)) o ≡ Some f
    → ((g : Found) → double cs ≡ Some g → IsWithin cs g) → IsWithin (92 ∷ 117 ∷ a ∷ b ∷ c ∷ d ∷ cs) f
code_by a b c d cs f None at is h = absurd cc
code_by a b c d cs f (Some e) at is h =
    let x = some_of (with_front (e ∷ [])) (double cs) f is in
    one_more e (92 ∷ 117 ∷ a ∷ b ∷ c ∷ d ∷ []) cs f x.0 x.2 (code a b c d at refl) (h x.0 x.1)

sign_by : (s : ℕ) (cs : List ℕ) (f : Found) (o : Option ℕ) → escaped s ≡ o → option_and_then (λ e. option_map (with_front (e ∷ [])) (double cs)) o ≡ Some f
    → ((g : Found) → double cs ≡ Some g → IsWithin cs g) → IsWithin (92 ∷ s ∷ cs) f
sign_by s cs f None at is h = absurd cc
sign_by s cs f (Some e) at is h =
    let x = some_of (with_front (e ∷ [])) (double cs) f is in
    one_more e (92 ∷ s ∷ []) cs f x.0 x.2 (sign s at refl) (h x.0 x.1)

behind_by : (s : ℕ) (cs : List ℕ) (f : Found) (b : Bool) → (s == 117) ≡ b → cond b (behind_u cs) (option_and_then (λ e. option_map (with_front (e ∷ [])) (double cs)) (escaped s)) ≡ Some f
    → ((g : Found) → double cs ≡ Some g → IsWithin cs g) → ((g : Found) → behind_u cs ≡ Some g → IsWithin (92 ∷ 117 ∷ cs) g) → IsWithin (92 ∷ s ∷ cs) f
behind_by s cs f true at is h u = let e : s ≡ 117 = eqb-true s 117 at in subst (λ (s : ℕ). IsWithin (92 ∷ s ∷ cs) f) (sym e) (u f is)
behind_by s cs f false at is h u = sign_by s cs f (escaped s) refl is h

double_other : (c : ℕ) (cs : List ℕ) (f : Found) (b : Bool) → (c == 34) ≡ false → (c == 92) ≡ b → cond b (behind cs) (option_map (with_front (c ∷ [])) (double cs)) ≡ Some f
    → ((g : Found) → double cs ≡ Some g → IsWithin cs g) → ((g : Found) → behind cs ≡ Some g → IsWithin (92 ∷ cs) g) → IsWithin (c ∷ cs) f
double_other c cs f true other at is h q = let e : c ≡ 92 = eqb-true c 92 at in subst (λ (d : ℕ). IsWithin (d ∷ cs) f) (sym e) (q f is)
double_other c cs f false other at is h q =
    let x = some_of (with_front (c ∷ [])) (double cs) f is in
    one_more c (c ∷ []) cs f x.0 x.2 (itself other at refl) (h x.0 x.1)

double_by : (c : ℕ) (cs : List ℕ) (f : Found) (b : Bool) → (c == 34) ≡ b → cond b (Some ([], cs)) (cond (c == 92) (behind cs) (option_map (with_front (c ∷ [])) (double cs))) ≡ Some f
    → ((g : Found) → double cs ≡ Some g → IsWithin cs g) → ((g : Found) → behind cs ≡ Some g → IsWithin (92 ∷ cs) g) → IsWithin (c ∷ cs) f
double_by c cs f true at is h q =
    let e : c ≡ 34 = eqb-true c 34 at in
    let g : Found = ([], cs) in
    let same : g ≡ f = cc in
    subst (λ (d : ℕ). IsWithin (d ∷ cs) f) (sym e) (subst (λ (f : Found). IsWithin (34 ∷ cs) f) same ([], refl, refl))
double_by c cs f false at is h q = double_other c cs f (c == 92) at refl is h q

mutual
  double_within : (cs : List ℕ) (f : Found) → double cs ≡ Some f → IsWithin cs f
  double_within [] f is = absurd cc
  double_within (c ∷ cs) f is = double_by c cs f (c == 34) refl is (λ g e. double_within cs g e) (λ g e. behind_within cs g e)

  behind_within : (cs : List ℕ) (f : Found) → behind cs ≡ Some f → IsWithin (92 ∷ cs) f
  behind_within [] f is = absurd cc
  behind_within (c ∷ cs) f is = behind_by c cs f (c == 117) refl is (λ g e. double_within cs g e) (λ g e. code_within cs g e)

  code_within : (cs : List ℕ) (f : Found) → behind_u cs ≡ Some f → IsWithin (92 ∷ 117 ∷ cs) f
  code_within [] f is = absurd cc
  code_within (a ∷ []) f is = absurd cc
  code_within (a ∷ b ∷ []) f is = absurd cc
  code_within (a ∷ b ∷ c ∷ []) f is = absurd cc
  code_within (a ∷ b ∷ c ∷ d ∷ cs) f is = code_by a b c d cs f (coded a b c d) refl is (λ g e. double_within cs g e)

not_u : (s c : ℕ) → escaped s ≡ Some c → (s == 117) ≡ false
not_u s c is = ne_eqb s 117 (λ e. let none : escaped s ≡ None = ap escaped e in absurd cc)

double_piece : (c : ℕ) (piece text : List ℕ) (g : Found) → IsPiece c piece → double text ≡ Some g → double (piece ++ text) ≡ Some (with_front (c ∷ []) g)
double_piece c piece text g (itself no34 no92 at) is = rw (at, no34, no92, is) refl
double_piece c piece text g (sign s means at) is = rw (at, not_u s c means, means, is) refl
double_piece c piece text g (code h i j k means at) is = rw (at, means, is) refl

pub double_from : (chars inside rest : List ℕ) → ArePieces chars inside → double (inside ++ 34 ∷ rest) ≡ Some (chars, rest)
double_from [] inside rest h = rw h refl
double_from (c ∷ cs) inside rest h =
    ap (λ (l : List ℕ). double (l ++ 34 ∷ rest)) h.2 ∙ ap double (append_assoc h.0 h.1 (34 ∷ rest))
    ∙ double_piece c h.0 (h.1 ++ 34 ∷ rest) (cs, rest) h.3 (double_from cs h.1 rest h.4)

-- ---- plain, as it is found

-- where a scalar stops, it is no longer than what stands before
stop_at : (before : List ℕ) (c : ℕ) (cs : List ℕ) → stops c cs ≡ true → plain_length (before ++ c ∷ cs) ≤ length before
stop_at [] c cs is = rw is (omega arith)
stop_at (d ∷ before) c cs is = by (stops d (before ++ c ∷ cs)) (plain_length (before ++ c ∷ cs)) (stop_at before c cs is)
  where
    by : (b : Bool) (n : ℕ) → n ≤ length before → cond b 0 (n + 1) ≤ length (d ∷ before)
    by true n le = omega arith
    by false n le = omega arith

past_by : (b : Bool) (c : ℕ) (cs : List ℕ) → stops c cs ≡ b → IsStop (drop (plain_length cs) cs) → IsStop (drop (cond b 0 (plain_length cs + 1)) (c ∷ cs))
past_by true c cs is h = is
past_by false c cs is h = rw add-one h

past : (text : List ℕ) → IsStop (drop (plain_length text) text)
past [] = tt
past (c ∷ cs) = past_by (stops c cs) c cs refl (past cs)

length_by : (b : Bool) (n m : ℕ) → n ≤ m → cond b 0 (n + 1) ≤ suc m
length_by true n m le = omega arith
length_by false n m le = omega arith

within : (text : List ℕ) → plain_length text ≤ length text
within [] = omega arith
within (c ∷ cs) = length_by (stops c cs) (plain_length cs) (length cs) (within cs)

-- ---- plain, as it is written

-- no scalar stops within the text
abbrev Calm : List ℕ → Type 0
Calm [] = Unit {0}
Calm (c ∷ []) = ((c == 58) ≡ false) × ((c == 32) ≡ false)
Calm (c ∷ d ∷ cs) = ((c == 58 && d == 32) ≡ false) × ((c == 32 && d == 35) ≡ false) × Calm (d ∷ cs)

not_pair : (c d j k : ℕ) (cs : List ℕ) (b : Bool) → (c == j && d == k) ≡ b → (Holds (j ∷ k ∷ []) (c ∷ d ∷ cs) → ⊥) → (c == j && d == k) ≡ false
not_pair c d j k cs true is free =
    let x = both_of (c == j) (d == k) is in
    let e : c ≡ j = eqb-true c j x.0 in
    let g : d ≡ k = eqb-true d k x.1 in
    absurd (free ([], cs, ap (λ (i : ℕ). i ∷ d ∷ cs) e ∙ ap (λ (i : ℕ). j ∷ i ∷ cs) g))
not_pair c d j k cs false is free = is

freed : (part : List ℕ) (c : ℕ) (text : List ℕ) → (Holds part (c ∷ text) → ⊥) → Holds part text → ⊥
freed part c text free h = free (c ∷ h.0, h.1, ap (λ (l : List ℕ). c ∷ l) h.2)

calm : (before : List ℕ) (last : ℕ) → (last == 58) ≡ false → (last == 32) ≡ false → (Holds (58 ∷ 32 ∷ []) (before ++ last ∷ []) → ⊥)
    → (Holds (32 ∷ 35 ∷ []) (before ++ last ∷ []) → ⊥) → Calm (before ++ last ∷ [])
calm [] last colon space pair comment = (colon, space)
calm (c ∷ []) last colon space pair comment =
    (not_pair c last 58 32 [] (c == 58 && last == 32) refl pair, not_pair c last 32 35 [] (c == 32 && last == 35) refl comment, (colon, space))
calm (c ∷ d ∷ before) last colon space pair comment = (
  not_pair c d 58 32 (before ++ last ∷ []) (c == 58 && d == 32) refl pair,
  not_pair c d 32 35 (before ++ last ∷ []) (c == 32 && d == 35) refl comment,
  calm (d ∷ before) last colon space (freed (58 ∷ 32 ∷ []) c (d ∷ before ++ last ∷ []) pair) (freed (32 ∷ 35 ∷ []) c (d ∷ before ++ last ∷ []) comment),
)

goes_on : (c : ℕ) (cs : List ℕ) (n : ℕ) → stops c cs ≡ false → plain_length cs ≡ n → plain_length (c ∷ cs) ≡ suc n
goes_on c cs n is len = rw (is, len) (add-one n)

calm_length : (text more : List ℕ) → Calm text → plain_length (text ++ more) ≡ length text + plain_length more
calm_length [] more h = omega arith
calm_length (c ∷ []) more h = rw (h.0, h.1) (omega arith)
calm_length (c ∷ d ∷ cs) more h =
    let n = calm_length (d ∷ cs) more h.2 in
    goes_on c (d ∷ cs ++ more) (length (d ∷ cs) + plain_length more) (rw (h.0, h.1) refl) n ∙ omega arith

stopped : (rest : List ℕ) → IsStop rest → plain_length rest ≡ 0
stopped [] h = refl
stopped (c ∷ cs) h = rw h refl

-- what a scalar stops at is no `#`
no_hash : (rest : List ℕ) → IsStop rest → begins_with 35 rest ≡ false
no_hash [] h = refl
no_hash (c ∷ cs) h = ne_eqb c 35 (λ e. let at : stops 35 cs ≡ true = subst (λ (d : ℕ). stops d cs ≡ true) e h in absurd cc)

and_no : (b : Bool) → (b && false) ≡ false
and_no true = refl
and_no false = refl

blank_stop : (c : ℕ) (gap rest : List ℕ) → is_blank c ≡ true → AreBlanks gap → IsStop rest → stops c (gap ++ rest) ≡ false
blank_stop c [] rest is h stop = rw (differs is_blank c 58 true is refl, no_hash rest stop) (and_no (c == 32))
blank_stop c (d ∷ gap) rest is h stop =
    let dark : is_blank d ≡ true = (both_of (is_blank d) (list_all is_blank gap) h).0 in
    let other : (d == 35) ≡ false = differs is_blank d 35 true dark refl in
    rw (differs is_blank c 58 true is refl, other) (and_no (c == 32))

blank_length : (gap rest : List ℕ) → AreBlanks gap → IsStop rest → plain_length (gap ++ rest) ≡ length gap
blank_length [] rest h stop = stopped rest stop
blank_length (c ∷ gap) rest h stop =
    let k = both_of (is_blank c) (list_all is_blank gap) h in
    goes_on c (gap ++ rest) (length gap) (blank_stop c gap rest k.0 k.1 stop) (blank_length gap rest k.1 stop)

-- ---- a plain scalar

colon_is : (text : List ℕ) (last : ℕ) → HasLast text last → ends_with_colon text ≡ (last == 58)
colon_is text last at =
    ap ends_with_colon at.1
    ∙ ap (λ (n : ℕ). get_or (at.0 ++ last ∷ []) n 0 == 58) (let len = length-append at.0 (last ∷ []) in let so : length (at.0 ++ last ∷ []) - 1 ≡ length at.0 = omega (arith, len) in so)
    ∙ ap (λ (n : ℕ). n == 58) (get_or-append_seam at.0 last [] 0)

holds_none : (x text more : List ℕ) (j k : ℕ) → x ≡ text ++ more → length text ≤ plain_length x → ((cs : List ℕ) → stops j (k ∷ cs) ≡ true) → Holds (j ∷ k ∷ []) text → ⊥
holds_none x text more j k is le stop h =
    let at : x ≡ h.0 ++ j ∷ k ∷ (h.1 ++ more) = is ∙ ap (λ (l : List ℕ). l ++ more) h.2 ∙ append_assoc h.0 (j ∷ k ∷ h.1) more in
    let few : plain_length x ≤ length h.0 = subst (λ (l : List ℕ). plain_length l ≤ length h.0) (sym at) (stop_at h.0 j (k ∷ h.1 ++ more) (stop (h.1 ++ more))) in
    let len : length text ≡ length h.0 + length (j ∷ k ∷ h.1) = ap length h.2 ∙ length-append h.0 (j ∷ k ∷ h.1) in
    absurd (omega (arith, len, few, le))

is_plain_text : (x cs text more : List ℕ) (c last : ℕ) → x ≡ c ∷ cs → is_blank c ≡ false → x ≡ text ++ more → is_plain text ≡ true → ends_with_colon text ≡ false
    → HasLast text last → is_blank last ≡ false → length text ≤ plain_length x → IsPlain text
is_plain_text x cs [] more c last at dark is ok colon ends end le = absurd cc
is_plain_text x cs (d ∷ ds) more c last at dark is ok colon ends end le =
    let same : c ≡ d = cc in
    record {
      first = d;
      begins = (ds, refl);
      no_blank = subst (λ (k : ℕ). is_blank k ≡ false) same dark;
      no_mark = not_true (is_mark d) (both_of (not (is_mark d)) (not (begins_otherwise d ds)) ok).0;
      last = last;
      ends = ends;
      no_last_blank = end;
      no_last_colon = sym (colon_is (d ∷ ds) last ends) ∙ colon;
      no_dash = λ e. let bad : is_plain (45 ∷ []) ≡ true = subst (λ (l : List ℕ). is_plain l ≡ true) e ok in absurd cc;
      no_item = λ h. let bad : is_plain (45 ∷ 32 ∷ h.0) ≡ true = subst (λ (l : List ℕ). is_plain l ≡ true) h.1 ok in absurd cc;
      no_question = λ h. let bad : is_plain (63 ∷ 32 ∷ h.0) ≡ true = subst (λ (l : List ℕ). is_plain l ≡ true) h.1 ok in absurd cc;
      no_pair = holds_none x (d ∷ ds) more 58 32 is le (λ cs. refl);
      no_comment = holds_none x (d ∷ ds) more 32 35 is le (λ cs. refl);
    }

only_if : (b : Bool) (x y : Front) → (if b then Some x else None) ≡ Some y → (b ≡ true) × (x ≡ y)
only_if true x y is = let same : x ≡ y = cc in (refl, same)
only_if false x y is = absurd cc

taken : (n : ℕ) (x text gap : List ℕ) → take n x ≡ text ++ gap → length text ≤ n
taken n x text gap is =
    let len : length (take n x) ≡ length text + length gap = ap length is ∙ length-append text gap in
    let most = length-take n x in
    omega (arith, len, most)

plain_by : (x cs : List ℕ) (c : ℕ) (f : Front) → x ≡ c ∷ cs → is_blank c ≡ false → is_plain (plain_text x) ≡ true → ends_with_colon (plain_text x) ≡ false
    → Left (take (plain_length x) x) (plain_text x) → record { chars = plain_text x; plain = true; rest = drop (plain_length x) x } ≡ f → IsFront x f
plain_by x cs c f at dark ok colon (inl e) same =
    let bad : is_plain [] ≡ true = subst (λ (l : List ℕ). is_plain l ≡ true) e.0 ok in absurd cc
plain_by x cs c f at dark ok colon (inr t) same =
    let whole : x ≡ plain_text x ++ (t.gap ++ drop (plain_length x) x) =
    sym (take-append-drop (plain_length x) x) ∙ ap (λ (l : List ℕ). l ++ drop (plain_length x) x) t.is ∙ append_assoc (plain_text x) t.gap (drop (plain_length x) x) in
    let plain = is_plain_text x cs (plain_text x) (t.gap ++ drop (plain_length x) x) c t.last at dark whole ok colon t.at t.no_blank (taken (plain_length x) x (plain_text x) t.gap t.is) in
    subst (λ (f : Front). IsFront x f) same (as_plain t.gap whole plain t.blanks (past x) refl)

plain_found : (c : ℕ) (cs : List ℕ) (f : Front) → is_blank c ≡ false → plain_front (c ∷ cs) ≡ Some f → IsFront (c ∷ cs) f
plain_found c cs f dark is =
    let x = c ∷ cs in
    let k = only_if (is_plain (plain_text x) && not (ends_with_colon (plain_text x))) _ f is in
    let b = both_of (is_plain (plain_text x)) (not (ends_with_colon (plain_text x))) k.0 in
    plain_by x cs c f refl dark b.0 (not_true (ends_with_colon (plain_text x)) b.1) (trim (take (plain_length x) x)) k.1

plain_made : (x text rest : List ℕ) → plain_text x ≡ text → drop (plain_length x) x ≡ rest → is_plain text ≡ true → ends_with_colon text ≡ false
    → plain_front x ≡ Some (record { chars = text; plain = true; rest = rest })
plain_made x text rest at over ok colon = rw (at, over, ok, colon) refl

not_either : (a b : Bool) → (a ≡ true → ⊥) → (b ≡ true → ⊥) → (a || b) ≡ false
not_either true b ha hb = absurd (ha refl)
not_either false true ha hb = absurd (hb refl)
not_either false false ha hb = refl

otherwise : (text : List ℕ) (first : ℕ) (cs : List ℕ) → text ≡ first ∷ cs → IsPlain text → begins_otherwise first cs ≡ false
otherwise text first [] is p =
    not_either (first == 45 && true) (first == 63 && false)
    (λ h. p.no_dash (is ∙ ap (λ (k : ℕ). k ∷ []) (eqb-true first 45 (both_of (first == 45) true h).0)))
    (λ h. let none = and_no (first == 63) in absurd cc)
otherwise text first (c ∷ cs) is p =
    not_either (first == 45 && c == 32) (first == 63 && c == 32)
    (λ h. let k = both_of (first == 45) (c == 32) h in p.no_item (cs, is ∙ ap (λ (k : ℕ). k ∷ c ∷ cs) (eqb-true first 45 k.0) ∙ ap (λ (k : ℕ). 45 ∷ k ∷ cs) (eqb-true c 32 k.1)))
    (λ h. let k = both_of (first == 63) (c == 32) h in p.no_question (cs, is ∙ ap (λ (k : ℕ). k ∷ c ∷ cs) (eqb-true first 63 k.0) ∙ ap (λ (k : ℕ). 63 ∷ k ∷ cs) (eqb-true c 32 k.1)))

plain_is : (text : List ℕ) → IsPlain text → is_plain text ≡ true
plain_is text p =
    let is : text ≡ p.first ∷ p.begins.0 = p.begins.1 in
    subst (λ (l : List ℕ). is_plain l ≡ true) (sym is) (rw (p.no_mark, otherwise text p.first p.begins.0 is p) refl)

calm_of : (text : List ℕ) → IsPlain text → Calm text
calm_of text p =
    let is = p.ends.1 in
    subst Calm (sym is)
    (calm p.ends.0 p.last p.no_last_colon (differs is_blank p.last 32 false p.no_last_blank refl)
    (subst (λ (l : List ℕ). Holds (58 ∷ 32 ∷ []) l → ⊥) is p.no_pair) (subst (λ (l : List ℕ). Holds (32 ∷ 35 ∷ []) l → ⊥) is p.no_comment))

plain_written : (text gap rest : List ℕ) → IsPlain text → AreBlanks gap → IsStop rest → plain_front (text ++ (gap ++ rest)) ≡ Some (record { chars = text; plain = true; rest = rest })
plain_written text gap rest p h stop =
    let x = text ++ (gap ++ rest) in
    let n : plain_length x ≡ length (text ++ gap) =
    calm_length text (gap ++ rest) (calm_of text p) ∙ ap (λ (k : ℕ). length text + k) (blank_length gap rest h stop) ∙ sym (length-append text gap) in
    let at : take (plain_length x) x ≡ text ++ gap =
    ap (λ (k : ℕ). take k x) n ∙ ap (λ (l : List ℕ). take (length (text ++ gap)) l) (sym (append_assoc text gap rest)) ∙ take-append_seam (text ++ gap) rest in
    let over : drop (plain_length x) x ≡ rest =
    ap (λ (k : ℕ). drop k x) n ∙ ap (λ (l : List ℕ). drop (length (text ++ gap)) l) (sym (append_assoc text gap rest)) ∙ drop-append_seam (text ++ gap) rest in
    plain_made x text rest (ap trimmed at ∙ trimmed_last text gap p.last p.ends p.no_last_blank h) over (plain_is text p) (colon_is text p.last p.ends ∙ p.no_last_colon)

-- ---- any scalar

found_by : (c : ℕ) (cs : List ℕ) (f : Front) (q d : Bool) → (c == 39) ≡ q → (c == 34) ≡ d → is_blank c ≡ false
    → cond q (option_map quoted_front (single cs)) (cond d (option_map quoted_front (double cs)) (plain_front (c ∷ cs))) ≡ Some f → IsFront (c ∷ cs) f
found_by c cs f true d q_is d_is dark is =
    let e : c ≡ 39 = eqb-true c 39 q_is in
    let x = some_of quoted_front (single cs) f is in
    let g = x.0 in
    let h = single_inside cs g x.1 in
    let at : c ∷ cs ≡ (39 ∷ (doubled g.0 ++ 39 ∷ [])) ++ g.1 = ap (λ (k : ℕ). k ∷ cs) e ∙ ap (λ (l : List ℕ). 39 ∷ l) (h.0 ∙ sym (append_assoc (doubled g.0) (39 ∷ []) g.1)) in
    subst (λ (f : Front). IsFront (c ∷ cs) f) x.2 (in_single (39 ∷ (doubled g.0 ++ 39 ∷ [])) at refl h.1 refl)
found_by c cs f false true q_is d_is dark is =
    let e : c ≡ 34 = eqb-true c 34 d_is in
    let x = some_of quoted_front (double cs) f is in
    let g = x.0 in
    let h = double_within cs g x.1 in
    let at : c ∷ cs ≡ (34 ∷ (h.0 ++ 34 ∷ [])) ++ g.1 = ap (λ (k : ℕ). k ∷ cs) e ∙ ap (λ (l : List ℕ). 34 ∷ l) (h.1 ∙ sym (append_assoc h.0 (34 ∷ []) g.1)) in
    subst (λ (f : Front). IsFront (c ∷ cs) f) x.2 (in_double (34 ∷ (h.0 ++ 34 ∷ [])) at (h.0, refl, h.2) refl)
found_by c cs f false false q_is d_is dark is = plain_found c cs f dark is

pub found : (c : ℕ) (cs : List ℕ) (f : Front) → is_blank c ≡ false → front (c ∷ cs) ≡ Some f → IsFront (c ∷ cs) f
found c cs f dark is = found_by c cs f (c == 39) (c == 34) refl refl dark is

as_front : (f : Front) (b : Bool) → f.plain ≡ b → Some (record { chars = f.chars; plain = b; rest = f.rest }) ≡ Some f
as_front f b is = ap (λ (b : Bool). Some (record { chars = f.chars; plain = b; rest = f.rest })) (sym is)

plain_front_is : (c : ℕ) (cs text gap rest : List ℕ) (p : IsPlain text) → c ≡ p.first → c ∷ cs ≡ text ++ (gap ++ rest) → AreBlanks gap → IsStop rest
    → front (c ∷ cs) ≡ Some (record { chars = text; plain = true; rest = rest })
plain_front_is c cs text gap rest p same is h stop =
    let one : (c == 39) ≡ false = subst (λ (k : ℕ). (k == 39) ≡ false) (sym same) (differs is_mark p.first 39 false p.no_mark refl) in
    let two : (c == 34) ≡ false = subst (λ (k : ℕ). (k == 34) ≡ false) (sym same) (differs is_mark p.first 34 false p.no_mark refl) in
    let made = ap plain_front is ∙ plain_written text gap rest p h stop in
    rw (one, two) made

pub written : (x : List ℕ) (f : Front) → IsFront x f → front x ≡ Some f
written x f (in_single scalar is h after plain) =
    let at : x ≡ 39 ∷ (doubled f.chars ++ 39 ∷ f.rest) = is ∙ ap (λ (l : List ℕ). l ++ f.rest) h ∙ ap (λ (l : List ℕ). 39 ∷ l) (append_assoc (doubled f.chars) (39 ∷ []) f.rest) in
    ap front at ∙ ap (λ (o : Option Found). option_map quoted_front o) (single_from f.chars f.rest after) ∙ as_front f false plain
written x f (in_double scalar is h plain) =
    let at : x ≡ 34 ∷ (h.0 ++ 34 ∷ f.rest) = is ∙ ap (λ (l : List ℕ). l ++ f.rest) h.1 ∙ ap (λ (l : List ℕ). 34 ∷ l) (append_assoc h.0 (34 ∷ []) f.rest) in
    ap front at ∙ ap (λ (o : Option Found). option_map quoted_front o) (double_from f.chars h.0 f.rest h.2) ∙ as_front f false plain
written x f (as_plain gap is p h stop plain) =
    let begins : f.chars ++ (gap ++ f.rest) ≡ p.first ∷ (p.begins.0 ++ (gap ++ f.rest)) = ap (λ (l : List ℕ). l ++ (gap ++ f.rest)) p.begins.1 in
    ap front (is ∙ begins) ∙ plain_front_is p.first (p.begins.0 ++ (gap ++ f.rest)) f.chars gap f.rest p refl (sym begins) h stop ∙ as_front f true plain

pub scalars : ScalarsAreFound
scalars c cs f dark = (λ is. found c cs f dark is, λ h. written (c ∷ cs) f h)
