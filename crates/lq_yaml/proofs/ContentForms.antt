-- What begins at a column of a line is what is found there.
use Rattle.std.proofs.Common.{◌≡◌, ℕ, zero, suc, ◌+◌, ◌*◌, Bool, true, false, cond, ◌&&◌, ◌==◌, List, [], ◌∷◌, ◌++◌, length, Option, Some, None, option_map, option_and_then, refl, sym, ap, subst, ◌∙◌, ◌⊎◌, inl, inr, append_assoc, arith, length-append, encode_utf8_all, take, add-one}
use Rattle.std.proofs.lemmas.Bool.{eqb-true, ne_eqb}
use Rattle.std.proofs.lemmas.List.{append-nil}
use Rattle.std.specs.List.{list_all}
use Rattle.lq_tree.specs.declared.node.Node.{Node, Text as TextNode}
use Rattle.lq_yaml.specs.declared.token.Chomping.{Chomping}
use Rattle.lq_yaml.specs.declared.token.Chomping.TheVariants.{Clip, Strip}
use Rattle.lq_yaml.specs.declared.token.Head.TheVariants.{Dash, Key}
use Rattle.lq_yaml.specs.declared.token.Token.{Token}
use Rattle.lq_yaml.specs.declared.token.Token.TheVariants.{Begin, Value, LiteralHeader}
use Rattle.lq_yaml.specs.Tree.{is_blank, unless_last}
use Rattle.lq_yaml.specs.Line.{trimmed, begins_with, is_word_end, without_blanks, is_end, colon, value_if, scalar_token, behind_pair, header, value_by, value_token, value_tokens, behind_key, entry_by, entry_tokens, is_dash, tokens_at, key as key_of, Front, front, scalar_node, plain_front, plain_text, plain_length, is_plain}
use Rattle.lq_yaml.specs.Made.{spaced, IsTail, IsPlainTail, IsValue, empty_list, empty_map, quoted, plain, clipping, stripping, IsEntry, value, key, pair, IsContent, entry, dash, item, AreBlanks, IsQuoted, IsPlain, IsKey}
use Rattle.lq_yaml.specs.Laws.{IsStop, IsFront, in_single, in_double, as_plain, ContentsAreFound}
use Rattle.lq_yaml.specs.Meaning.{plain_node, is_mark}
use Rattle.lq_yaml.proofs.ScalarForms.{found, written}
use Rattle.lq_yaml.proofs.Splits.{some_of, then_of, both_of, both, only_true, differs, all_append, blank_trimmed, trimmed_last}

-- ---- texts that end with no blank

abbrev Ended : List ℕ → Type 0
Ended text = trimmed text ≡ text

ended_by : (c : ℕ) (cs left : List ℕ) → trimmed cs ≡ left → unless_last is_blank c left ≡ c ∷ cs → trimmed cs ≡ cs
ended_by c cs [] is at = by (is_blank c) at
  where
    by : (b : Bool) → cond b [] (c ∷ []) ≡ c ∷ cs → trimmed cs ≡ cs
    by true e = absurd cc
    by false e = let none : [] ≡ cs = cc in is ∙ none
ended_by c cs (d ∷ ds) is at = let same : d ∷ ds ≡ cs = cc in is ∙ same

ended_tail : (c : ℕ) (cs : List ℕ) → Ended (c ∷ cs) → Ended cs
ended_tail c cs is = ended_by c cs (trimmed cs) refl is

ended_behind : (a b : List ℕ) → Ended (a ++ b) → Ended b
ended_behind [] b is = is
ended_behind (c ∷ a) b is = ended_behind a b (ended_tail c (a ++ b) is)

-- ---- blanks in front

pub record Split (text rest : List ℕ) : Type 0 where
  pub gap : List ℕ
  pub is : text ≡ gap ++ rest
  pub blanks : AreBlanks gap

split_by : (c : ℕ) (cs : List ℕ) (b : Bool) → is_blank c ≡ b → Split cs (without_blanks cs) → Split (c ∷ cs) (cond b (without_blanks cs) (c ∷ cs))
split_by c cs true is s = record { gap = c ∷ s.gap; is = ap (λ (l : List ℕ). c ∷ l) s.is; blanks = both _ _ is s.blanks }
split_by c cs false is s = record { gap = []; is = refl; blanks = refl }

pub split : (text : List ℕ) → Split text (without_blanks text)
split [] = record { gap = []; is = refl; blanks = refl }
split (c ∷ cs) = split_by c cs (is_blank c) refl (split cs)

dark_by : (c : ℕ) (cs rest : List ℕ) (d : ℕ) (b : Bool) → is_blank c ≡ b → (without_blanks cs ≡ d ∷ rest → is_blank d ≡ false) → cond b (without_blanks cs) (c ∷ cs) ≡ d ∷ rest → is_blank d ≡ false
dark_by c cs rest d true is h at = h at
dark_by c cs rest d false is h at = let same : c ≡ d = cc in subst (λ (k : ℕ). is_blank k ≡ false) same is

pub dark_first : (text : List ℕ) (d : ℕ) (rest : List ℕ) → without_blanks text ≡ d ∷ rest → is_blank d ≡ false
dark_first [] d rest at = absurd cc
dark_first (c ∷ cs) d rest at = dark_by c cs rest d (is_blank c) refl (dark_first cs d rest) at

pub passed : (gap : List ℕ) (d : ℕ) (rest : List ℕ) → AreBlanks gap → is_blank d ≡ false → without_blanks (gap ++ d ∷ rest) ≡ d ∷ rest
passed [] d rest h dark = rw dark refl
passed (c ∷ gap) d rest h dark = let k = both_of (is_blank c) (list_all is_blank gap) h in rw k.0 (passed gap d rest k.1 dark)

pub all_passed : (gap : List ℕ) → AreBlanks gap → without_blanks gap ≡ []
all_passed [] h = refl
all_passed (c ∷ gap) h = let k = both_of (is_blank c) (list_all is_blank gap) h in rw k.0 (all_passed gap k.1)

pub none_passed : (text : List ℕ) → without_blanks text ≡ [] → AreBlanks text
none_passed text is = let s = split text in subst AreBlanks (sym (s.is ∙ ap (λ (l : List ℕ). s.gap ++ l) is ∙ append-nil s.gap)) s.blanks

pub begun_with : (k : ℕ) (text : List ℕ) → begins_with k text ≡ true → (cs : List ℕ) × (text ≡ k ∷ cs)
begun_with k [] is = absurd cc
begun_with k (c ∷ cs) is = (cs, ap (λ (d : ℕ). d ∷ cs) (eqb-true c k is))

-- ---- what may follow a value

tail_is : (text : List ℕ) → is_end text ≡ true → IsTail text
tail_is [] is = inl refl
tail_is (c ∷ cs) is =
    let k = both_of (is_blank c) (begins_with 35 (without_blanks cs)) is in
    let s = split cs in
    let h = begun_with 35 (without_blanks cs) k.1 in
    inr (c, s.gap, h.0, ap (λ (l : List ℕ). c ∷ l) (s.is ∙ ap (λ (l : List ℕ). s.gap ++ l) h.1), k.0, s.blanks)

tail_end : (text : List ℕ) → IsTail text → is_end text ≡ true
tail_end text (inl e) = rw e refl
tail_end text (inr h) = rw (h.3, h.4, passed h.1 35 h.2 h.5 refl) refl

tail_no_colon : (text : List ℕ) → IsTail text → colon (without_blanks text) ≡ None
tail_no_colon text (inl e) = rw e refl
tail_no_colon text (inr h) = rw (h.3, h.4, passed h.1 35 h.2 h.5 refl) refl

tail_no_quote : (text : List ℕ) → IsTail text → begins_with 39 text ≡ false
tail_no_quote text (inl e) = rw e refl
tail_no_quote text (inr h) = rw h.3 (differs is_blank h.0 39 true h.4 refl)

-- ---- what is no scalar

marked_by : (c : ℕ) (left : List ℕ) (b : Bool) → is_mark c ≡ true → is_plain (cond b [] (c ∷ [])) ≡ false
marked_by c left true is = refl
marked_by c left false is = rw is refl

marked_none : (c : ℕ) (left : List ℕ) → is_mark c ≡ true → is_plain (unless_last is_blank c left) ≡ false
marked_none c [] is = marked_by c [] (is_blank c) is
marked_none c (d ∷ ds) is = rw is refl

not_plain : (x : List ℕ) → is_plain (plain_text x) ≡ false → plain_front x ≡ None
not_plain x is = rw is refl

-- no scalar begins with a mark
mark_none : (c : ℕ) (cs : List ℕ) → is_mark c ≡ true → (c == 39) ≡ false → (c == 34) ≡ false → (c == 58) ≡ false → (c == 32) ≡ false → front (c ∷ cs) ≡ None
mark_none c cs is single double colon space =
    let on : plain_text (c ∷ cs) ≡ unless_last is_blank c (trimmed (take (plain_length cs) cs)) = rw (colon, space, add-one) refl in
    let not_one : is_plain (plain_text (c ∷ cs)) ≡ false = ap is_plain on ∙ marked_none c (trimmed (take (plain_length cs) cs)) is in
    rw (single, double) (not_plain (c ∷ cs) not_one)

pair_none : (j k c : ℕ) (cs : List ℕ) → (c == j) ≡ false → behind_pair j k (c ∷ cs) ≡ None
pair_none j k c [] is = refl
pair_none j k c (d ∷ cs) is = rw is refl

header_none : (c : ℕ) (cs : List ℕ) → (c == 124) ≡ false → header (c ∷ cs) ≡ None
header_none c [] is = rw is refl
header_none c (d ∷ []) is = rw is refl
header_none c (d ∷ e ∷ cs) is = refl

-- ---- a value as it is found

pair_is : (j k : ℕ) (x rest : List ℕ) → behind_pair j k x ≡ Some rest → x ≡ j ∷ k ∷ rest
pair_is j k [] rest is = absurd cc
pair_is j k (c ∷ []) rest is = absurd cc
pair_is j k (c ∷ d ∷ cs) rest is =
    let h = only_true (c == j && d == k) cs rest is in
    let b = both_of (c == j) (d == k) h.0 in
    ap (λ (i : ℕ). i ∷ d ∷ cs) (eqb-true c j b.0) ∙ ap (λ (i : ℕ). j ∷ i ∷ cs) (eqb-true d k b.1) ∙ ap (λ (l : List ℕ). j ∷ k ∷ l) h.1

header_is : (rank : ℕ) (x : List ℕ) (chomping : Chomping) (token : Token) → header x ≡ Some chomping → LiteralHeader rank chomping ≡ token → IsValue rank x token
header_is rank [] chomping token is same = absurd cc
header_is rank (c ∷ []) chomping token is same =
    let h = only_true (c == 124) Clip chomping is in
    clipping (ap (λ (i : ℕ). i ∷ []) (eqb-true c 124 h.0)) (sym same ∙ ap (λ (k : Chomping). LiteralHeader rank k) (sym h.1))
header_is rank (c ∷ d ∷ []) chomping token is same =
    let h = only_true (c == 124 && d == 45) Strip chomping is in
    let b = both_of (c == 124) (d == 45) h.0 in
    stripping (ap (λ (i : ℕ). i ∷ d ∷ []) (eqb-true c 124 b.0) ∙ ap (λ (i : ℕ). 124 ∷ i ∷ []) (eqb-true d 45 b.1)) (sym same ∙ ap (λ (k : Chomping). LiteralHeader rank k) (sym h.1))
header_is rank (c ∷ d ∷ e ∷ cs) chomping token is same = absurd cc

scalar_text : (f : Front) → f.plain ≡ false → scalar_node f ≡ TextNode (encode_utf8_all f.chars)
scalar_text f is = rw is refl

scalar_plain : (f : Front) → f.plain ≡ true → scalar_node f ≡ plain_node (encode_utf8_all f.chars)
scalar_plain f is = rw is refl

-- no blank stands behind a plain scalar at the end
no_gap : (text gap : List ℕ) → IsPlain text → AreBlanks gap → Ended (text ++ gap) → gap ≡ []
no_gap text [] p h is = refl
no_gap text (c ∷ gap) p h is =
    let same : text ≡ text ++ c ∷ gap = sym (trimmed_last text (c ∷ gap) p.last p.ends p.no_last_blank h) ∙ is in
    let len : length text ≡ length text + length (c ∷ gap) = ap length same ∙ length-append text (c ∷ gap) in
    absurd (omega (arith, len))

plain_tail : (text gap rest : List ℕ) → IsPlain text → AreBlanks gap → IsStop rest → is_end rest ≡ true → Ended (text ++ (gap ++ rest)) → IsPlainTail (gap ++ rest)
plain_tail text gap [] p h stop ends is =
    let nil = append-nil gap in
    inl (nil ∙ no_gap text gap p h (subst (λ (l : List ℕ). Ended (text ++ l)) nil is))
plain_tail text gap (c ∷ cs) p h stop ends is =
    let dark : is_blank c ≡ true = (both_of (is_blank c) (begins_with 35 (without_blanks cs)) ends).0 in
    let other : (c == 58) ≡ false = differs is_blank c 58 true dark refl in
    let at : (c == 32 && begins_with 35 cs) ≡ true = rw other at stop in
    let b = both_of (c == 32) (begins_with 35 cs) at in
    let w = begun_with 35 cs b.1 in
    inr (gap, w.0, ap (λ (i : ℕ). gap ++ i ∷ cs) (eqb-true c 32 b.0) ∙ ap (λ (l : List ℕ). gap ++ 32 ∷ l) w.1, h)

scalar_by : (rank : ℕ) (x : List ℕ) (token : Token) (f : Front) → Ended x → IsFront x f → is_end f.rest ≡ true → Value rank (scalar_node f) ≡ token → IsValue rank x token
scalar_by rank x token f whole (in_single scalar is h after plainly) ends same =
    quoted scalar f.rest f.chars is (inl h) (tail_is f.rest ends) (sym same ∙ ap (λ (v : Node). Value rank v) (scalar_text f plainly))
scalar_by rank x token f whole (in_double scalar is h plainly) ends same =
    quoted scalar f.rest f.chars is (inr h) (tail_is f.rest ends) (sym same ∙ ap (λ (v : Node). Value rank v) (scalar_text f plainly))
scalar_by rank x token f whole (as_plain gap is p h stop plainly) ends same =
    plain f.chars (gap ++ f.rest) is p (plain_tail f.chars gap f.rest p h stop ends (subst Ended is whole))
    (sym same ∙ ap (λ (v : Node). Value rank v) (scalar_plain f plainly))

value_found_by : (rank c : ℕ) (cs : List ℕ) (token : Token) (a b : Option (List ℕ)) (h : Option Chomping) → is_blank c ≡ false → Ended (c ∷ cs)
    → behind_pair 91 93 (c ∷ cs) ≡ a → behind_pair 123 125 (c ∷ cs) ≡ b → header (c ∷ cs) ≡ h → value_by rank (c ∷ cs) a b h ≡ Some token → IsValue rank (c ∷ cs) token
value_found_by rank c cs token (Some rest) b h dark whole ea eb eh is =
    let k = only_true (is_end rest) _ token is in
    empty_list rest (pair_is 91 93 (c ∷ cs) rest ea) (tail_is rest k.0) (sym k.1)
value_found_by rank c cs token None (Some rest) h dark whole ea eb eh is =
    let k = only_true (is_end rest) _ token is in
    empty_map rest (pair_is 123 125 (c ∷ cs) rest eb) (tail_is rest k.0) (sym k.1)
value_found_by rank c cs token None None (Some chomping) dark whole ea eb eh is = let same : LiteralHeader rank chomping ≡ token = cc in header_is rank (c ∷ cs) chomping token eh same
value_found_by rank c cs token None None None dark whole ea eb eh is =
    let x = then_of (λ f. value_if rank (scalar_node f) f.rest) (front (c ∷ cs)) token is in
    let k = only_true (is_end x.0.rest) _ token x.2 in
    scalar_by rank (c ∷ cs) token x.0 whole (found c cs x.0 dark x.1) k.0 k.1

value_found : (rank c : ℕ) (cs : List ℕ) (token : Token) → is_blank c ≡ false → Ended (c ∷ cs) → value_token rank (c ∷ cs) ≡ Some token → IsValue rank (c ∷ cs) token
value_found rank c cs token dark whole is = value_found_by rank c cs token (behind_pair 91 93 (c ∷ cs)) (behind_pair 123 125 (c ∷ cs)) (header (c ∷ cs)) dark whole refl refl refl is

-- ---- an entry as it is found

pub record Keyed (x chars rest : List ℕ) : Type 0 where
  pub key : List ℕ
  pub gap : List ℕ
  pub is : x ≡ key ++ (gap ++ 58 ∷ rest)
  pub means : IsKey key chars
  pub blanks : AreBlanks gap
  pub ends : is_word_end rest ≡ true

colon_is : (x rest : List ℕ) → colon x ≡ Some rest → (x ≡ 58 ∷ rest) × (is_word_end rest ≡ true)
colon_is [] rest is = absurd cc
colon_is (c ∷ cs) rest is =
    let h = only_true (c == 58 && is_word_end cs) cs rest is in
    let b = both_of (c == 58) (is_word_end cs) h.0 in
    (ap (λ (i : ℕ). i ∷ cs) (eqb-true c 58 b.0) ∙ ap (λ (l : List ℕ). 58 ∷ l) h.1, subst (λ (l : List ℕ). is_word_end l ≡ true) h.1 b.1)

key_by : (x rest : List ℕ) (f : Front) → IsFront x f → colon (without_blanks f.rest) ≡ Some rest → Keyed x f.chars rest
key_by x rest f (in_single scalar is h after plainly) at =
    let s = split f.rest in
    let k = colon_is (without_blanks f.rest) rest at in
    record { key = scalar; gap = s.gap; is = is ∙ ap (λ (l : List ℕ). scalar ++ l) (s.is ∙ ap (λ (l : List ℕ). s.gap ++ l) k.0); means = inl (inl h); blanks = s.blanks; ends = k.1 }
key_by x rest f (in_double scalar is h plainly) at =
    let s = split f.rest in
    let k = colon_is (without_blanks f.rest) rest at in
    record { key = scalar; gap = s.gap; is = is ∙ ap (λ (l : List ℕ). scalar ++ l) (s.is ∙ ap (λ (l : List ℕ). s.gap ++ l) k.0); means = inl (inr h); blanks = s.blanks; ends = k.1 }
key_by x rest f (as_plain gap is p h stop plainly) at =
    let s = split f.rest in
    let k = colon_is (without_blanks f.rest) rest at in
    record {
      key = f.chars;
      gap = gap ++ s.gap;
      is = is ∙ ap (λ (l : List ℕ). f.chars ++ l) (ap (λ (l : List ℕ). gap ++ l) (s.is ∙ ap (λ (l : List ℕ). s.gap ++ l) k.0) ∙ sym (append_assoc gap s.gap (58 ∷ rest)));
      means = inr (p, refl);
      blanks = all_append gap s.gap h s.blanks;
      ends = k.1;
    }

key_found : (c : ℕ) (cs : List ℕ) (k : List ℕ × List ℕ) → is_blank c ≡ false → key_of (c ∷ cs) ≡ Some k → Keyed (c ∷ cs) k.0 k.1
key_found c cs k dark is =
    let x = then_of (λ f. option_map {U = List ℕ × List ℕ} (λ rest. (f.chars, rest)) (colon (without_blanks f.rest))) (front (c ∷ cs)) k is in
    let y = some_of {B = List ℕ × List ℕ} (λ rest. (x.0.chars, rest)) (colon (without_blanks x.0.rest)) k x.2 in
    subst (λ (k : List ℕ × List ℕ). Keyed (c ∷ cs) k.0 k.1) y.2 (key_by (c ∷ cs) y.0 x.0 (found c cs x.0 dark x.1) y.1)

ended_rest : (x name gap rest : List ℕ) → x ≡ name ++ (gap ++ 58 ∷ rest) → Ended x → Ended rest
ended_rest x name gap rest is whole = ended_tail 58 rest (ended_behind gap (58 ∷ rest) (ended_behind name (gap ++ 58 ∷ rest) (subst Ended is whole)))

-- what stands behind a key
entry_behind : (column : ℕ) (x chars rest left : List ℕ) (tokens ts : List Token) → Ended x → Keyed x chars rest → without_blanks rest ≡ left → behind_key (2 * column + 2) left ≡ Some ts
    → Begin (2 * column + 1) (Key (encode_utf8_all chars)) ∷ ts ≡ tokens → IsEntry column x tokens
entry_behind column x chars rest [] tokens ts whole k at is same =
    let none : [] ≡ rest = sym (blank_trimmed rest (none_passed rest at)) ∙ ended_rest x k.key k.gap rest k.is whole in
    let nothing : [] ≡ ts = cc in
    key k.key k.gap chars (k.is ∙ ap (λ (l : List ℕ). k.key ++ (k.gap ++ 58 ∷ l)) (sym none)) k.means k.blanks
    (sym same ∙ ap (λ (l : List Token). Begin (2 * column + 1) (Key (encode_utf8_all chars)) ∷ l) (sym nothing))
entry_behind column x chars [] (d ∷ ds) tokens ts whole k at is same = absurd cc
entry_behind column x chars (e ∷ es) (d ∷ ds) tokens ts whole k at is same =
    let space : e ≡ 32 = eqb-true e 32 k.ends in
    let on : without_blanks es ≡ d ∷ ds = sym (ap (λ (i : ℕ). without_blanks (i ∷ es)) space) ∙ at in
    let s = split es in
    let some = some_of (λ t. t ∷ []) (value_token (2 * column + 2) (d ∷ ds)) ts is in
    let apart : es ≡ s.gap ++ d ∷ ds = s.is ∙ ap (λ (l : List ℕ). s.gap ++ l) on in
    let last : Ended (d ∷ ds) = ended_behind s.gap (d ∷ ds) (subst Ended apart (ended_tail e es (ended_rest x k.key k.gap (e ∷ es) k.is whole))) in
    let dark = dark_first es d ds on in
    pair k.key k.gap s.gap (d ∷ ds) chars some.0
    (k.is ∙ ap (λ (i : ℕ). k.key ++ (k.gap ++ 58 ∷ i ∷ es)) space ∙ ap (λ (l : List ℕ). k.key ++ (k.gap ++ 58 ∷ 32 ∷ l)) apart) k.means k.blanks s.blanks
    (value_found (2 * column + 2) d ds some.0 dark last some.1)
    (sym same ∙ ap (λ (l : List Token). Begin (2 * column + 1) (Key (encode_utf8_all chars)) ∷ l) (sym some.2))

entry_by_key : (column c : ℕ) (cs : List ℕ) (tokens : List Token) (o : Option (List ℕ × List ℕ)) → is_blank c ≡ false → Ended (c ∷ cs) → key_of (c ∷ cs) ≡ o → entry_by column (c ∷ cs) o ≡ Some tokens
    → IsEntry column (c ∷ cs) tokens
entry_by_key column c cs tokens None dark whole at is =
    let some = some_of (λ t. t ∷ []) (value_token (2 * column + 1) (c ∷ cs)) tokens is in
    value some.0 (value_found (2 * column + 1) c cs some.0 dark whole some.1) (sym some.2)
entry_by_key column c cs tokens (Some k) dark whole at is =
    let some = some_of (λ ts. Begin (2 * column + 1) (Key (encode_utf8_all k.0)) ∷ ts) (behind_key (2 * column + 2) (without_blanks k.1)) tokens is in
    entry_behind column (c ∷ cs) k.0 k.1 (without_blanks k.1) tokens some.0 whole (key_found c cs k dark at) refl some.1 some.2

entry_found : (column c : ℕ) (cs : List ℕ) (tokens : List Token) → is_blank c ≡ false → Ended (c ∷ cs) → entry_tokens column (c ∷ cs) ≡ Some tokens → IsEntry column (c ∷ cs) tokens
entry_found column c cs tokens dark whole is = entry_by_key column c cs tokens (key_of (c ∷ cs)) dark whole refl is

-- ---- what begins otherwise

only_scalar : (rank c : ℕ) (cs : List ℕ) → (c == 91) ≡ false → (c == 123) ≡ false → (c == 124) ≡ false → value_token rank (c ∷ cs) ≡ scalar_token rank (c ∷ cs)
only_scalar rank c cs a b h =
    let x = c ∷ cs in
    ap (λ (o : Option (List ℕ)). value_by rank x o (behind_pair 123 125 x) (header x)) (pair_none 91 93 c cs a)
    ∙ ap (λ (o : Option (List ℕ)). value_by rank x None o (header x)) (pair_none 123 125 c cs b)
    ∙ ap (λ (o : Option Chomping). value_by rank x None None o) (header_none c cs h)

no_key : (x : List ℕ) → front x ≡ None → key_of x ≡ None
no_key x is = ap (λ (o : Option Front). option_and_then (λ f. option_map {U = List ℕ × List ℕ} (λ rest. (f.chars, rest)) (colon (without_blanks f.rest))) o) is

-- a tab begins no entry
tab_none : (column : ℕ) (cs : List ℕ) → entry_tokens column (9 ∷ cs) ≡ None
tab_none column cs =
    let none = mark_none 9 cs refl refl refl refl refl in
    ap (λ (o : Option (List ℕ × List ℕ)). entry_by column (9 ∷ cs) o) (no_key (9 ∷ cs) none)
    ∙ ap (λ (o : Option Token). option_map (λ t. t ∷ []) o) (only_scalar (2 * column + 1) 9 cs refl refl refl)
    ∙ ap (λ (o : Option Front). option_map (λ t. t ∷ []) (option_and_then (λ f. value_if (2 * column + 1) (scalar_node f) f.rest) o)) none

-- ---- how what stands at a column begins

pub record First (text : List ℕ) : Type 0 where
  pub first : ℕ
  pub rest : List ℕ
  pub is : text ≡ first ∷ rest
  pub dark : is_blank first ≡ false
  pub words : (first == 35) ≡ false

first_more : (text more whole : List ℕ) → whole ≡ text ++ more → First text → First whole
first_more text more whole is f = record { first = f.first; rest = f.rest ++ more; is = is ∙ ap (λ (l : List ℕ). l ++ more) f.is; dark = f.dark; words = f.words }

first_quoted : (text chars : List ℕ) → IsQuoted text chars → First text
first_quoted text chars (inl h) = record { first = 39; rest = _; is = h; dark = refl; words = refl }
first_quoted text chars (inr h) = record { first = 34; rest = _; is = h.1; dark = refl; words = refl }

first_plain : (text : List ℕ) → IsPlain text → First text
first_plain text p = record { first = p.first; rest = p.begins.0; is = p.begins.1; dark = p.no_blank; words = differs is_mark p.first 35 false p.no_mark refl }

first_key : (text chars : List ℕ) → IsKey text chars → First text
first_key text chars (inl h) = first_quoted text chars h
first_key text chars (inr h) = first_plain text h.0

first_value : (rank : ℕ) (text : List ℕ) (token : Token) → IsValue rank text token → First text
first_value rank text token (empty_list tail is h at) = record { first = 91; rest = _; is = is; dark = refl; words = refl }
first_value rank text token (empty_map tail is h at) = record { first = 123; rest = _; is = is; dark = refl; words = refl }
first_value rank text token (quoted scalar tail chars is q h at) = first_more scalar tail text is (first_quoted scalar chars q)
first_value rank text token (plain scalar tail is p h at) = first_more scalar tail text is (first_plain scalar p)
first_value rank text token (clipping is at) = record { first = 124; rest = _; is = is; dark = refl; words = refl }
first_value rank text token (stripping is at) = record { first = 124; rest = _; is = is; dark = refl; words = refl }

first_entry : (column : ℕ) (text : List ℕ) (tokens : List Token) → IsEntry column text tokens → First text
first_entry column text tokens (value token v at) = first_value (2 * column + 1) text token v
first_entry column text tokens (key name gap chars is k blanks at) = first_more name (gap ++ 58 ∷ []) text is (first_key name chars k)
first_entry column text tokens (pair name gap wide rest chars token is k blanks wides v at) = first_more name (gap ++ 58 ∷ 32 ∷ (wide ++ rest)) text is (first_key name chars k)

pub first_content : {column : ℕ} {text : List ℕ} {tokens : List Token} → IsContent column text tokens → First text
first_content {column} {text} {tokens} (entry e) = first_entry column text tokens e
first_content (dash is at) = record { first = 45; rest = _; is = is; dark = refl; words = refl }
first_content (item gap rest more is at c) = record { first = 45; rest = _; is = is; dark = refl; words = refl }

-- ---- what is found at a column

-- spaces, and then nothing or what begins behind them
pub record Found (column : ℕ) (text : List ℕ) (tokens : List Token) : Type 0 where
  pub gap : ℕ
  pub rest : List ℕ
  pub is : text ≡ spaced gap ++ rest
  pub then : ((rest ≡ []) × (tokens ≡ [])) ⊎ IsContent (column + gap) rest tokens

plus_zero : (n : ℕ) → n + 0 ≡ n
plus_zero n = omega arith

found_here : (column : ℕ) (text : List ℕ) (tokens : List Token) → IsContent column text tokens → Found column text tokens
found_here column text tokens c = record { gap = 0; rest = text; is = refl; then = inr (subst (λ (k : ℕ). IsContent k text tokens) (sym (plus_zero column)) c) }

next_column : (column gap : ℕ) → column + 1 + gap ≡ column + suc gap
next_column column gap = omega arith

found_space : (column c : ℕ) (cs : List ℕ) (tokens : List Token) → c ≡ 32 → Found (column + 1) cs tokens → Found column (c ∷ cs) tokens
found_space column c cs tokens at f = record {
  gap = suc f.gap;
  rest = f.rest;
  is = ap (λ (i : ℕ). i ∷ cs) at ∙ ap (λ (l : List ℕ). 32 ∷ l) f.is;
  then = elim f.then [ inl e ↦ inl e | inr c ↦ inr (subst (λ (k : ℕ). IsContent k f.rest tokens) (next_column column f.gap) c) ];
}

spaces_blank : (n : ℕ) → AreBlanks (spaced n)
spaces_blank zero = refl
spaces_blank (suc n) = spaces_blank n

item_column : (column gap : ℕ) → column + 1 + suc gap ≡ column + 2 + gap
item_column column gap = omega arith

-- behind a dash
dash_then : (column : ℕ) (cs : List ℕ) (tokens ts : List Token) (gap : ℕ) (rest : List ℕ) → Ended cs → is_word_end cs ≡ true → Begin (2 * column + 2) Dash ∷ ts ≡ tokens
    → cs ≡ spaced gap ++ rest → ((rest ≡ []) × (ts ≡ [])) ⊎ IsContent (column + 1 + gap) rest ts → IsContent column (45 ∷ cs) tokens
dash_then column cs tokens ts gap rest whole ends same is (inl e) =
    let all : cs ≡ spaced gap = is ∙ ap (λ (l : List ℕ). spaced gap ++ l) e.0 ∙ append-nil (spaced gap) in
    let none : cs ≡ [] = sym whole ∙ ap trimmed all ∙ blank_trimmed (spaced gap) (spaces_blank gap) in
    dash (ap (λ (l : List ℕ). 45 ∷ l) none) (sym same ∙ ap (λ (l : List Token). Begin (2 * column + 2) Dash ∷ l) e.1)
dash_then column cs tokens ts zero rest whole ends same is (inr c) =
    let f = first_content c in
    let at : is_word_end (f.first ∷ f.rest) ≡ true = subst (λ (l : List ℕ). is_word_end l ≡ true) (is ∙ f.is) ends in
    let bright : is_blank f.first ≡ true = subst (λ (k : ℕ). is_blank k ≡ true) (sym (eqb-true f.first 32 at)) refl in
    absurd (let bad : true ≡ false = sym bright ∙ f.dark in cc)
dash_then column cs tokens ts (suc gap) rest whole ends same is (inr c) =
    item gap rest ts (ap (λ (l : List ℕ). 45 ∷ l) is) (sym same) (subst (λ (k : ℕ). IsContent k rest ts) (item_column column gap) c)

other_by : (column c : ℕ) (cs : List ℕ) (tokens : List Token) (b : Bool) → (c == 9) ≡ b → (c == 32) ≡ false → Ended (c ∷ cs) → entry_tokens column (c ∷ cs) ≡ Some tokens → IsContent column (c ∷ cs) tokens
other_by column c cs tokens true tab space whole is =
    let none : entry_tokens column (c ∷ cs) ≡ None = ap (λ (k : ℕ). entry_tokens column (k ∷ cs)) (eqb-true c 9 tab) ∙ tab_none column cs in
    absurd (let bad : Some tokens ≡ None = sym is ∙ none in cc)
other_by column c cs tokens false tab space whole is = entry (entry_found column c cs tokens (rw (space, tab) refl) whole is)

content_by : (column c : ℕ) (cs : List ℕ) (tokens : List Token) (s d : Bool) → (c == 32) ≡ s → is_dash c cs ≡ d → Ended (c ∷ cs) → ((ts : List Token) → tokens_at (column + 1) cs ≡ Some ts → Found (column + 1) cs ts)
    → cond s (tokens_at (column + 1) cs) (cond d (option_map (λ ts. Begin (2 * column + 2) Dash ∷ ts) (tokens_at (column + 1) cs)) (entry_tokens column (c ∷ cs))) ≡ Some tokens
    → Found column (c ∷ cs) tokens
content_by column c cs tokens true d space dashed whole h is = found_space column c cs tokens (eqb-true c 32 space) (h tokens is)
content_by column c cs tokens false true space dashed whole h is =
    let some = some_of (λ ts. Begin (2 * column + 2) Dash ∷ ts) (tokens_at (column + 1) cs) tokens is in
    let k = both_of (c == 45) (is_word_end cs) dashed in
    let f = h some.0 some.1 in
    let made = dash_then column cs tokens some.0 f.gap f.rest (ended_tail c cs whole) k.1 some.2 f.is f.then in
    found_here column (c ∷ cs) tokens (subst (λ (i : ℕ). IsContent column (i ∷ cs) tokens) (sym (eqb-true c 45 k.0)) made)
content_by column c cs tokens false false space dashed whole h is = found_here column (c ∷ cs) tokens (other_by column c cs tokens (c == 9) refl space whole is)

content_found : (text : List ℕ) (column : ℕ) (tokens : List Token) → Ended text → tokens_at column text ≡ Some tokens → Found column text tokens
content_found [] column tokens whole is = let none : [] ≡ tokens = cc in record { gap = 0; rest = []; is = refl; then = inl (refl, sym none) }
content_found (c ∷ cs) column tokens whole is =
    content_by column c cs tokens (c == 32) (is_dash c cs) refl refl whole (λ ts e. content_found cs (column + 1) ts (ended_tail c cs whole) e) is

content_at : (column c : ℕ) (cs : List ℕ) (tokens : List Token) (gap : ℕ) (rest : List ℕ) → is_blank c ≡ false → c ∷ cs ≡ spaced gap ++ rest
    → ((rest ≡ []) × (tokens ≡ [])) ⊎ IsContent (column + gap) rest tokens → IsContent column (c ∷ cs) tokens
content_at column c cs tokens zero rest dark is (inl e) = absurd (let bad : c ∷ cs ≡ [] = is ∙ e.0 in cc)
content_at column c cs tokens zero rest dark is (inr h) = subst (λ (l : List ℕ). IsContent column l tokens) (sym is) (subst (λ (k : ℕ). IsContent k rest tokens) (plus_zero column) h)
content_at column c cs tokens (suc gap) rest dark is h =
    let space : c ≡ 32 = cc in
    let bright : is_blank c ≡ true = ap is_blank space in
    absurd (let bad : true ≡ false = sym bright ∙ dark in cc)

pub content_read : (column c : ℕ) (cs : List ℕ) (tokens : List Token) → is_blank c ≡ false → Ended (c ∷ cs) → tokens_at column (c ∷ cs) ≡ Some tokens → IsContent column (c ∷ cs) tokens
content_read column c cs tokens dark whole is = let f = content_found (c ∷ cs) column tokens whole is in content_at column c cs tokens f.gap f.rest dark f.is f.then

two_more : (column gap : ℕ) → column + 1 + 1 + gap ≡ column + 2 + gap
two_more column gap = omega arith

-- ---- what is written is found

value_none : (rank : ℕ) (x : List ℕ) (token : Token) (f : Front) → front x ≡ Some f → colon (without_blanks f.rest) ≡ None → key_of x ≡ None
value_none rank x token f at none =
    ap (λ (o : Option Front). option_and_then (λ f. option_map {U = List ℕ × List ℕ} (λ rest. (f.chars, rest)) (colon (without_blanks f.rest))) o) at
    ∙ ap (λ (o : Option (List ℕ)). option_map {U = List ℕ × List ℕ} (λ rest. (f.chars, rest)) o) none

-- the token of a value, and that no key stands there
abbrev Reads : ℕ → List ℕ → Token → Type 0
Reads rank x token = (value_token rank x ≡ Some token) × (key_of x ≡ None)

reads_scalar : (rank c : ℕ) (cs : List ℕ) (token : Token) (f : Front) → (c == 91) ≡ false → (c == 123) ≡ false → (c == 124) ≡ false → front (c ∷ cs) ≡ Some f → is_end f.rest ≡ true
    → colon (without_blanks f.rest) ≡ None → token ≡ Value rank (scalar_node f) → Reads rank (c ∷ cs) token
reads_scalar rank c cs token f a b h at ends none is = (
  only_scalar rank c cs a b h ∙ ap (λ (o : Option Front). option_and_then (λ f. value_if rank (scalar_node f) f.rest) o) at ∙ rw ends (ap (λ (t : Token). Some t) (sym is)),
  value_none rank (c ∷ cs) token f at none,
)

reads_at : (rank : ℕ) (x y : List ℕ) (token : Token) → x ≡ y → Reads rank y token → Reads rank x token
reads_at rank x y token is h = subst (λ (l : List ℕ). Reads rank l token) (sym is) h

reads_begun : (rank : ℕ) (x : List ℕ) (c : ℕ) (cs : List ℕ) (token : Token) (f : Front) → x ≡ c ∷ cs → (c == 91) ≡ false → (c == 123) ≡ false → (c == 124) ≡ false → front x ≡ Some f
    → is_end f.rest ≡ true → colon (without_blanks f.rest) ≡ None → token ≡ Value rank (scalar_node f) → Reads rank x token
reads_begun rank x c cs token f begins a b h at ends none is = reads_at rank x (c ∷ cs) token begins (reads_scalar rank c cs token f a b h (ap front (sym begins) ∙ at) ends none is)

quoted_front_is : (x scalar tail chars : List ℕ) → x ≡ scalar ++ tail → IsQuoted scalar chars → begins_with 39 tail ≡ false → front x ≡ Some (record { chars = chars; plain = false; rest = tail })
quoted_front_is x scalar tail chars is (inl h) after = written x (record { chars = chars; plain = false; rest = tail }) (in_single scalar is h after refl)
quoted_front_is x scalar tail chars is (inr h) after = written x (record { chars = chars; plain = false; rest = tail }) (in_double scalar is h refl)

reads_quoted : (rank : ℕ) (x scalar tail chars : List ℕ) (token : Token) → x ≡ scalar ++ tail → IsQuoted scalar chars → IsTail tail → token ≡ Value rank (TextNode (encode_utf8_all chars)) → Reads rank x token
reads_quoted rank x scalar tail chars token is (inl h) t at =
    let begins : x ≡ 39 ∷ _ = is ∙ ap (λ (l : List ℕ). l ++ tail) h in
    let f = quoted_front_is x scalar tail chars is (inl h) (tail_no_quote tail t) in
    reads_begun rank x 39 _ token (record { chars = chars; plain = false; rest = tail }) begins refl refl refl f (tail_end tail t) (tail_no_colon tail t) at
reads_quoted rank x scalar tail chars token is (inr h) t at =
    let begins : x ≡ 34 ∷ _ = is ∙ ap (λ (l : List ℕ). l ++ tail) h.1 in
    let f = quoted_front_is x scalar tail chars is (inr h) (tail_no_quote tail t) in
    reads_begun rank x 34 _ token (record { chars = chars; plain = false; rest = tail }) begins refl refl refl f (tail_end tail t) (tail_no_colon tail t) at

reads_plain : (rank : ℕ) (x scalar gap rest : List ℕ) (token : Token) → x ≡ scalar ++ (gap ++ rest) → IsPlain scalar → AreBlanks gap → IsStop rest → is_end rest ≡ true → colon (without_blanks rest) ≡ None
    → token ≡ Value rank (plain_node (encode_utf8_all scalar)) → Reads rank x token
reads_plain rank x scalar gap rest token is p h stop ends none at =
    let begins : x ≡ p.first ∷ (p.begins.0 ++ (gap ++ rest)) = is ∙ ap (λ (l : List ℕ). l ++ (gap ++ rest)) p.begins.1 in
    let f = written x (record { chars = scalar; plain = true; rest = rest }) (as_plain gap is p h stop refl) in
    reads_begun rank x p.first _ token (record { chars = scalar; plain = true; rest = rest }) begins (differs is_mark p.first 91 false p.no_mark refl) (differs is_mark p.first 123 false p.no_mark refl)
    (differs is_mark p.first 124 false p.no_mark refl) f ends none at

reads : (rank : ℕ) (x : List ℕ) (token : Token) → IsValue rank x token → Reads rank x token
reads rank x token (empty_list tail is t at) =
    reads_at rank x _ token is (rw (tail_end tail t) (ap (λ (t : Token). Some t) (sym at)), no_key (91 ∷ 93 ∷ tail) (mark_none 91 (93 ∷ tail) refl refl refl refl refl))
reads rank x token (empty_map tail is t at) =
    reads_at rank x _ token is (rw (tail_end tail t) (ap (λ (t : Token). Some t) (sym at)), no_key (123 ∷ 125 ∷ tail) (mark_none 123 (125 ∷ tail) refl refl refl refl refl))
reads rank x token (quoted scalar tail chars is q t at) = reads_quoted rank x scalar tail chars token is q t at
reads rank x token (plain scalar tail is p (inl e) at) = reads_plain rank x scalar [] [] token (is ∙ ap (λ (l : List ℕ). scalar ++ l) e) p refl tt refl refl at
reads rank x token (plain scalar tail is p (inr h) at) = reads_plain rank x scalar h.0 (32 ∷ 35 ∷ h.1) token (is ∙ ap (λ (l : List ℕ). scalar ++ l) h.2) p h.3 refl refl refl at
reads rank x token (clipping is at) = reads_at rank x _ token is (ap (λ (t : Token). Some t) (sym at), no_key (124 ∷ []) (mark_none 124 [] refl refl refl refl refl))
reads rank x token (stripping is at) = reads_at rank x _ token is (ap (λ (t : Token). Some t) (sym at), no_key (124 ∷ 45 ∷ []) (mark_none 124 (45 ∷ []) refl refl refl refl refl))

gap_no_quote : (gap rest : List ℕ) → AreBlanks gap → begins_with 39 (gap ++ 58 ∷ rest) ≡ false
gap_no_quote [] rest h = refl
gap_no_quote (c ∷ gap) rest h = differs is_blank c 39 true (both_of (is_blank c) (list_all is_blank gap) h).0 refl

key_at : (x chars rest left : List ℕ) (plainly : Bool) → front x ≡ Some (record { chars = chars; plain = plainly; rest = left }) → without_blanks left ≡ 58 ∷ rest → is_word_end rest ≡ true → key_of x ≡ Some (chars, rest)
key_at x chars rest left plainly at over ends =
    ap (λ (o : Option Front). option_and_then (λ f. option_map {U = List ℕ × List ℕ} (λ rest. (f.chars, rest)) (colon (without_blanks f.rest))) o) at
    ∙ ap (λ (l : List ℕ). option_map {U = List ℕ × List ℕ} (λ rest. (chars, rest)) (colon l)) over ∙ rw ends refl

reads_key : (x name gap rest chars : List ℕ) → x ≡ name ++ (gap ++ 58 ∷ rest) → IsKey name chars → AreBlanks gap → is_word_end rest ≡ true → key_of x ≡ Some (chars, rest)
reads_key x name gap rest chars is (inl q) h ends =
    key_at x chars rest (gap ++ 58 ∷ rest) false (quoted_front_is x name (gap ++ 58 ∷ rest) chars is q (gap_no_quote gap rest h)) (passed gap 58 rest h refl) ends
reads_key x name gap rest chars is (inr p) h ends =
    let f = written x (record { chars = name; plain = true; rest = 58 ∷ rest }) (as_plain gap is p.0 h (rw ends refl) refl) in
    key_at x name rest (58 ∷ rest) true f refl ends ∙ ap (λ (l : List ℕ). Some (l, rest)) (sym p.1)

entry_of_value : (column : ℕ) (x : List ℕ) (token : Token) → Reads (2 * column + 1) x token → entry_tokens column x ≡ Some (token ∷ [])
entry_of_value column x token r = ap (λ (o : Option (List ℕ × List ℕ)). entry_by column x o) r.1 ∙ ap (λ (o : Option Token). option_map (λ t. t ∷ []) o) r.0

entry_of_key : (column : ℕ) (x chars rest left : List ℕ) (ts : List Token) → key_of x ≡ Some (chars, rest) → without_blanks rest ≡ left → behind_key (2 * column + 2) left ≡ Some ts
    → entry_tokens column x ≡ Some (Begin (2 * column + 1) (Key (encode_utf8_all chars)) ∷ ts)
entry_of_key column x chars rest left ts at over behind =
    ap (λ (o : Option (List ℕ × List ℕ)). entry_by column x o) at
    ∙ ap (λ (l : List ℕ). option_map (λ ts. Begin (2 * column + 1) (Key (encode_utf8_all chars)) ∷ ts) (behind_key (2 * column + 2) l)) over
    ∙ ap (λ (o : Option (List Token)). option_map (λ ts. Begin (2 * column + 1) (Key (encode_utf8_all chars)) ∷ ts) o) behind

behind_is : (rank : ℕ) (x : List ℕ) (token : Token) → First x → IsValue rank x token → behind_key rank x ≡ Some (token ∷ [])
behind_is rank x token f v =
    ap (behind_key rank) f.is ∙ ap (λ (l : List ℕ). value_tokens rank l) (sym f.is) ∙ ap (λ (o : Option Token). option_map (λ t. t ∷ []) o) (reads rank x token v).0

entry_read : (column : ℕ) (x : List ℕ) (tokens : List Token) → IsEntry column x tokens → entry_tokens column x ≡ Some tokens
entry_read column x tokens (value token v at) = entry_of_value column x token (reads (2 * column + 1) x token v) ∙ ap (λ (l : List Token). Some l) (sym at)
entry_read column x tokens (key name gap chars is k blanks at) =
    entry_of_key column x chars [] [] [] (reads_key x name gap [] chars is k blanks refl) refl refl ∙ ap (λ (l : List Token). Some l) (sym at)
entry_read column x tokens (pair name gap wide rest chars token is k blanks wides v at) =
    let f = first_value (2 * column + 2) rest token v in
    let over : without_blanks (32 ∷ (wide ++ rest)) ≡ rest = ap (λ (l : List ℕ). without_blanks (wide ++ l)) f.is ∙ passed wide f.first f.rest wides f.dark ∙ sym f.is in
    entry_of_key column x chars (32 ∷ (wide ++ rest)) rest (token ∷ []) (reads_key x name gap (32 ∷ (wide ++ rest)) chars is k blanks refl) over (behind_is (2 * column + 2) rest token f v)
    ∙ ap (λ (l : List Token). Some l) (sym at)

-- ---- no entry begins with a dash that ends a word

abbrev NoDash : List ℕ → Type 0
NoDash x = (c : ℕ) (cs : List ℕ) → x ≡ c ∷ cs → is_dash c cs ≡ false

other_first : (x : List ℕ) (k : ℕ) (rest : List ℕ) → x ≡ k ∷ rest → (k == 45) ≡ false → NoDash x
other_first x k rest is other c cs at = let same : k ≡ c = cc in subst (λ (i : ℕ). is_dash i cs ≡ false) same (rw other refl)

plain_dash : (p : List ℕ) (d : ℕ) (ds more : List ℕ) (b : Bool) → IsPlain p → p ≡ d ∷ ds → (d == 45) ≡ b → is_dash d (ds ++ more) ≡ false
plain_dash p d ds more false is_one is b = rw b refl
plain_dash p d [] more true is_one is b = absurd (is_one.no_dash (is ∙ ap (λ (i : ℕ). i ∷ []) (eqb-true d 45 b)))
plain_dash p d (e ∷ ds) more true is_one is b =
    rw b (ne_eqb e 32 (λ same. is_one.no_item (ds, is ∙ ap (λ (i : ℕ). i ∷ e ∷ ds) (eqb-true d 45 b) ∙ ap (λ (i : ℕ). 45 ∷ i ∷ ds) same)))

plain_no_dash : (x p more : List ℕ) → IsPlain p → x ≡ p ++ more → NoDash x
plain_no_dash x p more is_one is c cs at =
    let whole : x ≡ is_one.first ∷ (is_one.begins.0 ++ more) = is ∙ ap (λ (l : List ℕ). l ++ more) is_one.begins.1 in
    let first : is_one.first ≡ c = cc in
    let rest : is_one.begins.0 ++ more ≡ cs = cc in
    subst (λ (i : ℕ). is_dash i cs ≡ false) first (subst (λ (l : List ℕ). is_dash is_one.first l ≡ false) rest (plain_dash p is_one.first is_one.begins.0 more (is_one.first == 45) is_one is_one.begins.1 refl))

quoted_no_dash : (x scalar more chars : List ℕ) → x ≡ scalar ++ more → IsQuoted scalar chars → NoDash x
quoted_no_dash x scalar more chars is (inl h) = other_first x 39 _ (is ∙ ap (λ (l : List ℕ). l ++ more) h) refl
quoted_no_dash x scalar more chars is (inr h) = other_first x 34 _ (is ∙ ap (λ (l : List ℕ). l ++ more) h.1) refl

value_no_dash : (rank : ℕ) (x : List ℕ) (token : Token) → IsValue rank x token → NoDash x
value_no_dash rank x token (empty_list tail is h at) = other_first x 91 _ is refl
value_no_dash rank x token (empty_map tail is h at) = other_first x 123 _ is refl
value_no_dash rank x token (quoted scalar tail chars is q h at) = quoted_no_dash x scalar tail chars is q
value_no_dash rank x token (plain scalar tail is p h at) = plain_no_dash x scalar tail p is
value_no_dash rank x token (clipping is at) = other_first x 124 _ is refl
value_no_dash rank x token (stripping is at) = other_first x 124 _ is refl

key_no_dash : (x name more chars : List ℕ) → x ≡ name ++ more → IsKey name chars → NoDash x
key_no_dash x name more chars is (inl q) = quoted_no_dash x name more chars is q
key_no_dash x name more chars is (inr p) = plain_no_dash x name more p.0 is

entry_no_dash : (column : ℕ) (x : List ℕ) (tokens : List Token) → IsEntry column x tokens → NoDash x
entry_no_dash column x tokens (value token v at) = value_no_dash (2 * column + 1) x token v
entry_no_dash column x tokens (key name gap chars is k blanks at) = key_no_dash x name (gap ++ 58 ∷ []) chars is k
entry_no_dash column x tokens (pair name gap wide rest chars token is k blanks wides v at) = key_no_dash x name (gap ++ 58 ∷ 32 ∷ (wide ++ rest)) chars is k

entry_at : (column c : ℕ) (cs : List ℕ) → is_blank c ≡ false → is_dash c cs ≡ false → tokens_at column (c ∷ cs) ≡ entry_tokens column (c ∷ cs)
entry_at column c cs dark dashed = rw (differs is_blank c 32 false dark refl, dashed) refl

pub spaces_passed : (n column : ℕ) (text : List ℕ) → tokens_at column (spaced n ++ text) ≡ tokens_at (column + n) text
spaces_passed zero column text = ap (λ (k : ℕ). tokens_at k text) (sym (plus_zero column))
spaces_passed (suc n) column text = spaces_passed n (column + 1) text ∙ ap (λ (k : ℕ). tokens_at k text) (next_column column n)

pub content_written : {column : ℕ} {text : List ℕ} {tokens : List Token} → IsContent column text tokens → tokens_at column text ≡ Some tokens
content_written {column} {text} {tokens} (entry e) =
    let f = first_entry column text tokens e in
    ap (tokens_at column) f.is ∙ entry_at column f.first f.rest f.dark (entry_no_dash column text tokens e f.first f.rest f.is) ∙ ap (entry_tokens column) (sym f.is) ∙ entry_read column text tokens e
content_written {column} {text} {tokens} (dash is at) = ap (tokens_at column) is ∙ ap (λ (l : List Token). Some l) (sym at)
content_written {column} {text} {tokens} (item gap rest more is at c) =
    ap (tokens_at column) is
    ∙ ap (λ (o : Option (List Token)). option_map (λ ts. Begin (2 * column + 2) Dash ∷ ts) o)
    (spaces_passed gap (column + 1 + 1) rest ∙ ap (λ (k : ℕ). tokens_at k rest) (two_more column gap) ∙ content_written c)
    ∙ ap (λ (l : List Token). Some l) (sym at)

pub contents : ContentsAreFound
contents column c last cs tokens dark at end =
    let whole : Ended (c ∷ cs) = sym (ap trimmed (append-nil (c ∷ cs))) ∙ trimmed_last (c ∷ cs) [] last at end refl in
    (λ is. content_read column c cs tokens dark whole is, λ h. content_written h)
