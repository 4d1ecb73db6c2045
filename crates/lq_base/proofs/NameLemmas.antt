-- The keys of names.
use Rattle.std.proofs.Common.{◌≡◌, ◌≢◌, ◌<◌, ◌&&◌, ◌||◌, not, ℕ, zero, suc, Bool, true, false, List, [], ◌∷◌, ◌++◌, length, get_or, IsTrue, Option, Some, None, is_some, option_map, Bor, arith, refl, sym, ap, ◌∙◌, inl, inr, append_assoc, nat_le, subst, if◌then◌else◌}
use Rattle.std.specs.Option.{MatchOption}
use Rattle.std.specs.List.{list_any}
use Rattle.std.proofs.lemmas.Bool.Decides.{eqb_tells}
use Rattle.std.specs.FinMap.{nat_cmp-IsAntisymmetric, slice_cmp-IsAntisymmetric}
use Rattle.std.specs.Ordering.{is_eq}
use Rattle.std.specs.declared.cmp.Ordering.{Ordering}
use Rattle.std.specs.declared.cmp.Ordering.TheVariants.{Equal, Greater, Less}
use Rattle.lq_base.specs.Number.{has_control, is_control}
use Rattle.lq_base.specs.Laws.{KeysTellNames, NamesTellKeys}
use Rattle.lq_base.specs.Name.{beside, is_elsewhere, is_key_in, is_name, is_name_key, is_named, longer, name_cmp, parts_of, place_in, public, schema_in, schema_of, text_in, text_of, within}

-- ---- where a key is cut

-- no U+001F
abbrev pub HasNoSeam : List ℕ → Type 0
HasNoSeam bytes = (i : ℕ) → i < length bytes → get_or bytes i 0 ≢ 31

pub parts_of_seam : (front behind : List ℕ) → HasNoSeam front → parts_of (front ++ 31 ∷ behind) ≡ Some (front, behind)
parts_of_seam [] behind none = refl
parts_of_seam (b ∷ front) behind none =
    elim (eqb_tells b 31) [
      | inl same ↦ absurd (none 0 (omega arith) same.1)
      | inr other ↦ rw other.0 (ap (longer b) (parts_of_seam front behind (λ i lt. none (suc i) (omega arith))))
    ]

pub parts_of_none : (key : List ℕ) → HasNoSeam key → parts_of key ≡ None
parts_of_none [] none = refl
parts_of_none (b ∷ bs) none =
    elim (eqb_tells b 31) [
      | inl same ↦ absurd (none 0 (omega arith) same.1)
      | inr other ↦ rw other.0 (ap (longer b) (parts_of_none bs (λ i lt. none (suc i) (omega arith))))
    ]

-- what `split_once` tells of its answer
pub parts_of_is : (key : List ℕ) (r : Option (Bor (List ℕ) × Bor (List ℕ)))
    → MatchOption r ((i : ℕ) → i < length key → get_or key i 0 ≢ 31) (λ x. (key ≡ x.0.now ++ (31 ∷ x.1.now)) × ((i : ℕ) → i < length x.0.now → get_or x.0.now i 0 ≢ 31))
    → option_map (λ x. (x.0.now, x.1.now)) r ≡ parts_of key
parts_of_is key None none = sym (parts_of_none key none)
parts_of_is key (Some x) split = sym (rw split.0 (parts_of_seam x.0.now x.1.now split.1))

-- ---- a text without control characters has none

no_seam : (bytes : List ℕ) → has_control bytes ≡ false → HasNoSeam bytes
no_seam [] none i lt e = absurd (omega arith)
no_seam (b ∷ bs) none zero lt e = absurd (both e none)
  where
    both : b ≡ 31 → (is_control b || list_any is_control bs) ≡ false → ⊥
    both is none = let yes : is_control b ≡ true = rw is refl in cc
no_seam (b ∷ bs) none (suc i) lt e = no_seam bs (second (is_control b) (list_any is_control bs) none) i (omega arith) e
  where
    second : (x y : Bool) → (x || y) ≡ false → y ≡ false
    second true y none = absurd (cc)
    second false y none = none

without_control : (a b : Bool) → (a && not b) ≡ true → b ≡ false
without_control true false so = refl
without_control true true so = absurd (cc)
without_control false b so = absurd (cc)

pub name_no_seam : (bytes : List ℕ) → is_name bytes ≡ true → HasNoSeam bytes
name_no_seam bytes is = no_seam bytes (without_control (nat_le 1 (length bytes) && nat_le (length bytes) 63) (has_control bytes) is)

-- so a name's text is its key in `public`
pub parts_of_name : (bytes : List ℕ) → is_name bytes ≡ true → parts_of bytes ≡ None
parts_of_name bytes is = parts_of_none bytes (name_no_seam bytes is)

pub is_name_key_name : (bytes : List ℕ) → is_name bytes ≡ true → is_name_key bytes ≡ true
is_name_key_name bytes is = rw (parts_of_name bytes is) is

-- ---- a text in a schema

pub parts_of_within : (schema text : List ℕ) → is_name schema ≡ true → is_named schema public ≡ false → parts_of (schema ++ 31 ∷ text) ≡ Some (schema, text)
parts_of_within schema text is other = parts_of_seam schema text (name_no_seam schema is)

pub is_name_key_within : (schema text : List ℕ) → is_name schema ≡ true → is_name text ≡ true → is_named schema public ≡ false → is_name_key (schema ++ 31 ∷ text) ≡ true
is_name_key_within schema text one two other = rw (parts_of_within schema text one other, one, two, other) refl

pub told : {b : Bool} → b ≡ true → IsTrue b
told {b} is = is

-- ---- a key tells both

tied : (r : Ordering) → is_eq r ≡ true → r ≡ Equal
tied Less h = absurd (cc)
tied Equal h = refl
tied Greater h = absurd (cc)

pub same_name : (a b : List ℕ) → is_named a b ≡ true → a ≡ b
same_name a b h = slice_cmp-IsAntisymmetric nat_cmp-IsAntisymmetric a b (tied (name_cmp a b) h)

pub keys_tell_names : KeysTellNames
keys_tell_names schema text one two = at (is_named schema public) refl
  where
    at : (b : Bool) → is_named schema public ≡ b → (is_name_key (within schema text) ≡ true) × (schema_of (within schema text) ≡ schema) × (text_of (within schema text) ≡ text)
    at true is =
        let e : within schema text ≡ text = ap (λ b. if b then text else (schema ++ 31 ∷ text)) is in
        let p : parts_of text ≡ None = parts_of_name text two in
        (subst (λ k. is_name_key k ≡ true) (sym e) (is_name_key_name text two), ap schema_of e ∙ ap schema_in p ∙ sym (same_name schema public is), ap text_of e ∙ ap (text_in text) p)
    at false is =
        let e : within schema text ≡ schema ++ 31 ∷ text = ap (λ b. if b then text else (schema ++ 31 ∷ text)) is in
        let p : parts_of (schema ++ 31 ∷ text) ≡ Some (schema, text) = parts_of_within schema text one is in
        (subst (λ k. is_name_key k ≡ true) (sym e) (is_name_key_within schema text one two is), ap schema_of e ∙ ap schema_in p, ap text_of e ∙ ap (text_in (schema ++ 31 ∷ text)) p)

joined : List ℕ → Option (List ℕ × List ℕ) → List ℕ
joined key None = key
joined key (Some parts) = parts.0 ++ 31 ∷ parts.1

longer_joined : (b : ℕ) (bs : List ℕ) (o : Option (List ℕ × List ℕ)) → joined (b ∷ bs) (longer b o) ≡ b ∷ joined bs o
unfolding joined
longer_joined b bs None = refl
longer_joined b bs (Some parts) = refl

joined_again : (key : List ℕ) → joined key (parts_of key) ≡ key
unfolding joined
joined_again [] = refl
joined_again (b ∷ bs) =
    elim (eqb_tells b 31) [
      | inl same ↦ rw same.0 (ap (λ z. z ∷ bs) (sym same.1))
      | inr other ↦ rw other.0 (longer_joined b bs (parts_of bs) ∙ ap (λ z. b ∷ z) (joined_again bs))
    ]

cut_in : (key : List ℕ) (o : Option (List ℕ × List ℕ)) → is_some o ≡ true → schema_in o ++ 31 ∷ text_in key o ≡ joined key o
unfolding joined
cut_in key None is = absurd (cc)
cut_in key (Some parts) is = refl

-- a key that states its schema is that, U+001F and the text
pub cut_again : (key : List ℕ) → is_elsewhere key ≡ true → schema_of key ++ 31 ∷ text_of key ≡ key
cut_again key is = cut_in key (parts_of key) is ∙ joined_again key

pub left : (a b : Bool) → (a && b) ≡ true → a ≡ true
left true b is = refl
left false b is = absurd (cc)

pub right : (a b : Bool) → (a && b) ≡ true → b ≡ true
right true b is = is
right false b is = absurd (cc)

pub turned : (a : Bool) → not a ≡ true → a ≡ false
turned true is = absurd (cc)
turned false is = refl

key_whole : (key : List ℕ) (o : Option (List ℕ × List ℕ)) → is_key_in key o ≡ true → joined key o ≡ key
    → (is_name (schema_in o) ≡ true) × (is_name (text_in key o) ≡ true) × (within (schema_in o) (text_in key o) ≡ key)
unfolding joined
key_whole key None is e = (refl, is, refl)
key_whole key (Some parts) is e =
    let rest : (not (is_named parts.0 public) && is_name parts.1) ≡ true = right (is_name parts.0) _ is in
    let other : is_named parts.0 public ≡ false = turned _ (left (not (is_named parts.0 public)) (is_name parts.1) rest) in
    (left (is_name parts.0) _ is, right (not (is_named parts.0 public)) (is_name parts.1) rest, rw other e)

pub names_tell_keys : NamesTellKeys
names_tell_keys key is = key_whole key (parts_of key) is (joined_again key)

-- ---- a text beside another name

beside_in : (o : Option (List ℕ × List ℕ)) (key text : List ℕ) → is_key_in key o ≡ true → within (schema_in o) text ≡ place_in o ++ text
beside_in None key text is = refl
beside_in (Some parts) key text is =
    let rest : (not (is_named parts.0 public) && is_name parts.1) ≡ true = right (is_name parts.0) _ is in
    let other : is_named parts.0 public ≡ false = turned _ (left (not (is_named parts.0 public)) (is_name parts.1) rest) in
    rw other (sym (append_assoc parts.0 (31 ∷ []) text))

pub within-beside : (key text : List ℕ) → is_name_key key ≡ true → within (schema_of key) text ≡ beside key text
within-beside key text is = beside_in (parts_of key) key text is

-- a name beside another one is a name
pub beside_named : (key text : List ℕ) → is_name_key key ≡ true → is_name text ≡ true → is_name_key (beside key text) ≡ true
beside_named key text one two = subst (λ k. is_name_key k ≡ true) (within-beside key text one) (keys_tell_names (schema_of key) text (names_tell_keys key one).0 two).0
