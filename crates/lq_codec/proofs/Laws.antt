-- What is put together from codecs is one.
use Rattle.std.proofs.Common.{eq-eqb, ◌≡◌, ◌+◌, ◌==◌, ◌&&◌, ◌++◌, ◌∷◌, ℕ, zero, suc, Bool, true, false, List, [], length, Option, None, Some, refl, sym, ◌∙◌, ap, subst, arith, if◌then◌else◌}
use Rattle.std.proofs.lemmas.List.{append_assoc}
use Rattle.std.proofs.lemmas.Bool.{eqb-true}
use Rattle.std.specs.List.{list_all}
use Rattle.std.specs.Option.{option_map}
use Rattle.lq_codec.specs.Codec.{Codec, IsCodec, after, ahead, at_place, beside, both, counted, each, if_ok, mapped, none_in, no_one, nothing, ok_some, one, only_if, option_place, optional, read_at, read_each, some_in, then_each, then_more, then_read, under, variant, write_each, write_some}

pub some_is : {A : Type 0} (x y : A) → Some x ≡ Some y → x ≡ y
some_is x y is = cc

pub and_left : (a b : Bool) → a && b ≡ true → a ≡ true
and_left true b is = refl
and_left false b is = is

pub and_right : (a b : Bool) → a && b ≡ true → b ≡ true
and_right true b is = is
and_right false b is = absurd (cc is)

pub both_true : (a b : Bool) → a ≡ true → b ≡ true → a && b ≡ true
both_true a b x y = ap (λ (v : Bool). v && b) x ∙ y

pub is_one : IsCodec one
is_one = record { back = λ u rest ok. refl; only = λ bytes rest u is. (refl, ap (λ (p : Unit {0} × List ℕ). p.1) (some_is (tt, bytes) (u, rest) is)) }

pub is_nothing : {A : Type 0} → IsCodec (nothing {A = A})
is_nothing = record { back = λ a rest ok. absurd (cc ok); only = λ bytes rest a is. absurd (cc is) }

module _ {A B : Type 0} (c : Codec A) (d : A → Codec B) (is_c : IsCodec c) (is_d : (a : A) → IsCodec (d a)) where
  module _ (bytes rest : List ℕ) (p : A × B) where
    second : (x : A) (more : List ℕ) → (c.ok x ≡ true) × (bytes ≡ c.write x ++ more) → (o : Option (B × List ℕ)) → (d x).read more ≡ o
        → option_map (beside x) o ≡ Some (p, rest) → (c.ok p.0 && (d p.0).ok p.1 ≡ true) × (bytes ≡ (c.write p.0 ++ (d p.0).write p.1) ++ rest)
    second x more first None read is = absurd (cc is)
    second x more first (Some (y, end)) read is =
        let same : ((x, y), end) ≡ (p, rest) = some_is ((x, y), end) (p, rest) is in
        let behind = (is_d x).only more end y read in
        subst (λ (q : (A × B) × List ℕ). (c.ok q.0.0 && (d q.0.0).ok q.0.1 ≡ true) × (bytes ≡ (c.write q.0.0 ++ (d q.0.0).write q.0.1) ++ q.1)) same
        (both_true (c.ok x) ((d x).ok y) first.0 behind.0, first.1 ∙ ap (λ (l : List ℕ). c.write x ++ l) behind.1 ∙ sym (append_assoc (c.write x) ((d x).write y) end))

    first : (o : Option (A × List ℕ)) → c.read bytes ≡ o → then_read d o ≡ Some (p, rest) → (c.ok p.0 && (d p.0).ok p.1 ≡ true) × (bytes ≡ (c.write p.0 ++ (d p.0).write p.1) ++ rest)
    first None read is = absurd (cc is)
    first (Some (x, more)) read is = second x more (is_c.only bytes more x read) ((d x).read more) refl is

  pub is_after : IsCodec (after c d)
  is_after = record {
    back = λ p rest ok.
        ap (λ (l : List ℕ). then_read d (c.read l)) (append_assoc (c.write p.0) ((d p.0).write p.1) rest)
        ∙ ap (then_read d) (is_c.back p.0 ((d p.0).write p.1 ++ rest) (and_left (c.ok p.0) ((d p.0).ok p.1) ok))
        ∙ ap (λ (o : Option (B × List ℕ)). option_map (beside p.0) o) ((is_d p.0).back p.1 rest (and_right (c.ok p.0) ((d p.0).ok p.1) ok));
    only = λ bytes rest p is. first bytes rest p (c.read bytes) refl is;
  }

pub is_both : {A B : Type 0} (c : Codec A) (d : Codec B) → IsCodec c → IsCodec d → IsCodec (both c d)
is_both c d is_c is_d = is_after c (λ a. d) is_c (λ a. is_d)

module _ {A B : Type 0} (f : B → A) (g : A → Option B) (c : Codec B) (there : (a : A) (b : B) → g a ≡ Some b → f b ≡ a) (here : (b : B) → c.ok b ≡ true → g (f b) ≡ Some b) (is : IsCodec c) where
  mapped_back : (a : A) (rest : List ℕ) (o : Option B) → g a ≡ o → ok_some c o ≡ true → option_map (under f) (c.read (write_some c o ++ rest)) ≡ Some (a, rest)
  mapped_back a rest None of ok = absurd (cc ok)
  mapped_back a rest (Some b) of ok =
      ap (λ (o : Option (B × List ℕ)). option_map (under f) o) (is.back b rest ok)
      ∙ ap (λ (x : A). Some (x, rest)) (there a b of)

  mapped_only : (bytes rest : List ℕ) (a : A) (o : Option (B × List ℕ)) → c.read bytes ≡ o → option_map (under f) o ≡ Some (a, rest)
      → (ok_some c (g a) ≡ true) × (bytes ≡ write_some c (g a) ++ rest)
  mapped_only bytes rest a None read gives = absurd (cc gives)
  mapped_only bytes rest a (Some (b, end)) read gives =
      let same : (f b, end) ≡ (a, rest) = some_is (f b, end) (a, rest) gives in
      let it = is.only bytes end b read in
      subst (λ (q : A × List ℕ). (ok_some c (g q.0) ≡ true) × (bytes ≡ write_some c (g q.0) ++ q.1)) same
      (ap (ok_some c) (here b it.0) ∙ it.0, it.1 ∙ ap (λ (o : Option B). write_some c o ++ end) (sym (here b it.0)))

  pub is_mapped : IsCodec (mapped f g c)
  is_mapped = record { back = λ a rest ok. mapped_back a rest (g a) refl ok; only = λ bytes rest a gives. mapped_only bytes rest a (c.read bytes) refl gives }

module _ {A : Type 0} (p : A → Bool) (c : Codec A) (is : IsCodec c) where
  kept : (b : Bool) (x : A × List ℕ) → b ≡ true → (if b then Some x else None) ≡ Some x
  kept true x is = refl
  kept false x is = absurd (cc is)

  chosen : (b : Bool) (x y : A × List ℕ) → (if b then Some x else None) ≡ Some y → (b ≡ true) × (x ≡ y)
  chosen true x y is = (refl, some_is x y is)
  chosen false x y is = absurd (cc is)

  only_if_only : (bytes rest : List ℕ) (a : A) (o : Option (A × List ℕ)) → c.read bytes ≡ o → if_ok p o ≡ Some (a, rest) → (p a && c.ok a ≡ true) × (bytes ≡ c.write a ++ rest)
  only_if_only bytes rest a None read gives = absurd (cc gives)
  only_if_only bytes rest a (Some (x, end)) read gives =
      let it = chosen (p x) (x, end) (a, rest) gives in
      let was = is.only bytes end x read in
      subst (λ (q : A × List ℕ). (p q.0 && c.ok q.0 ≡ true) × (bytes ≡ c.write q.0 ++ q.1)) it.1 (both_true (p x) (c.ok x) it.0 was.0, was.1)

  pub is_only_if : IsCodec (only_if p c)
  is_only_if = record {
    back = λ a rest ok. ap (if_ok p) (is.back a rest (and_right (p a) (c.ok a) ok)) ∙ kept (p a) (a, rest) (and_left (p a) (c.ok a) ok);
    only = λ bytes rest a gives. only_if_only bytes rest a (c.read bytes) refl gives;
  }

-- each of these is a codec of the values of its place, counted from this one on
abbrev pub AreCases : {A : Type 0} → (A → ℕ) → ℕ → List (Codec A) → Type 0
AreCases place n [] = Unit {0}
AreCases place n (c ∷ cs) = IsCodec c × ((a : _) → c.ok a ≡ true → place a ≡ n) × AreCases place (suc n) cs

case_is : {A : Type 0} (place : A → ℕ) (from : ℕ) (cs : List (Codec A)) → AreCases place from cs → (n : ℕ) → IsCodec (at_place cs n)
case_is place from [] are n = is_nothing
case_is place from (c ∷ cs) are zero = are.0
case_is place from (c ∷ cs) are (suc n) = case_is place (suc from) cs are.2 n

case_of : {A : Type 0} (place : A → ℕ) (from : ℕ) (cs : List (Codec A)) → AreCases place from cs → (n : ℕ) (a : A) → (at_place cs n).ok a ≡ true → place a ≡ from + n
case_of place from [] are n a ok = absurd (cc ok)
case_of place from (c ∷ cs) are zero a ok = omega (arith, are.1 a ok)
case_of place from (c ∷ cs) are (suc n) a ok = omega (arith, case_of place (suc from) cs are.2 n a ok)

module _ {A : Type 0} (place : A → ℕ) (cs : List (Codec A)) (are : AreCases place 0 cs) where
  variant_only : (bytes rest : List ℕ) (a : A) → read_at cs bytes ≡ Some (a, rest) → ((at_place cs (place a)).ok a ≡ true) × (bytes ≡ (place a ∷ (at_place cs (place a)).write a) ++ rest)
  variant_only [] rest a gives = absurd (cc gives)
  variant_only (byte ∷ bytes) rest a gives =
      let it = (case_is place 0 cs are byte).only bytes rest a gives in
      let at : byte ≡ place a = omega (arith, case_of place 0 cs are byte a it.0) in
      subst (λ (n : ℕ). ((at_place cs n).ok a ≡ true) × (byte ∷ bytes ≡ (n ∷ (at_place cs n).write a) ++ rest)) at (it.0, ap (λ (l : List ℕ). byte ∷ l) it.1)

  pub is_variant : IsCodec (variant place cs)
  is_variant = record { back = λ a rest ok. (case_is place 0 cs are (place a)).back a rest ok; only = variant_only }

module _ {A : Type 0} (c : Codec A) (is_c : IsCodec c) where
  each_back : (xs : List A) (rest : List ℕ) → list_all c.ok xs ≡ true → read_each c (length xs) (write_each c xs ++ rest) ≡ Some (xs, rest)
  each_back [] rest ok = refl
  each_back (a ∷ xs) rest ok =
      ap (λ (l : List ℕ). then_more (read_each c (length xs)) (c.read l)) (append_assoc (c.write a) (write_each c xs) rest)
      ∙ ap (then_more (read_each c (length xs))) (is_c.back a (write_each c xs ++ rest) (and_left (c.ok a) (list_all c.ok xs) ok))
      ∙ ap (λ (o : Option (List A × List ℕ)). option_map (ahead a) o) (each_back xs rest (and_right (c.ok a) (list_all c.ok xs) ok))

  abbrev EachRead : ℕ → List ℕ → List ℕ → List A → Type 0
  EachRead n bytes rest xs = (length xs ≡ n) × (list_all c.ok xs ≡ true) × (bytes ≡ write_each c xs ++ rest)

  module _ (n : ℕ) (bytes rest : List ℕ) (xs : List A) where
    one_more : (a : A) (after : List ℕ) → (c.ok a ≡ true) × (bytes ≡ c.write a ++ after) → (o : Option (List A × List ℕ)) → read_each c n after ≡ o
        → ((ys : List A) (end : List ℕ) → read_each c n after ≡ Some (ys, end) → EachRead n after end ys)
        → option_map (ahead a) o ≡ Some (xs, rest) → EachRead (suc n) bytes rest xs
    one_more a after it None read hyp is = absurd (cc is)
    one_more a after it (Some (ys, end)) read hyp is =
        let those = hyp ys end read in
        subst (λ (q : List A × List ℕ). EachRead (suc n) bytes q.1 q.0) (some_is (a ∷ ys, end) (xs, rest) is)
        (ap suc those.0, both_true (c.ok a) (list_all c.ok ys) it.0 those.1, it.1 ∙ ap (λ (l : List ℕ). c.write a ++ l) those.2 ∙ sym (append_assoc (c.write a) (write_each c ys) end))

    by_one : ((after : List ℕ) (ys : List A) (end : List ℕ) → read_each c n after ≡ Some (ys, end) → EachRead n after end ys)
        → (o : Option (A × List ℕ)) → c.read bytes ≡ o → then_more (read_each c n) o ≡ Some (xs, rest) → EachRead (suc n) bytes rest xs
    by_one hyp None read is = absurd (cc is)
    by_one hyp (Some (a, after)) read is = one_more a after (is_c.only bytes after a read) (read_each c n after) refl (hyp after) is

  each_only : (n : ℕ) (bytes rest : List ℕ) (xs : List A) → read_each c n bytes ≡ Some (xs, rest) → EachRead n bytes rest xs
  each_only zero bytes rest xs gives =
      subst (λ (q : List A × List ℕ). EachRead 0 bytes q.1 q.0) (some_is ([], bytes) (xs, rest) gives) (refl, refl, refl)
  each_only (suc n) bytes rest xs gives = by_one n bytes rest xs (λ after ys end. each_only n after end ys) (c.read bytes) refl gives

  each_ok : (n : ℕ) (xs : List A) → (length xs == n && list_all c.ok xs) ≡ true → length xs ≡ n
  each_ok n xs ok = eqb-true (length xs) n (and_left (length xs == n) (list_all c.ok xs) ok)

  pub is_each : (n : ℕ) → IsCodec (each n c)
  is_each n = record {
    back = λ xs rest ok. ap (λ (k : ℕ). read_each c k (write_each c xs ++ rest)) (sym (each_ok n xs ok)) ∙ each_back xs rest (and_right (length xs == n) (list_all c.ok xs) ok);
    only = λ bytes rest xs gives.
        let it = each_only n bytes rest xs gives in
        (both_true (length xs == n) (list_all c.ok xs) (eq-eqb (length xs) n it.0) it.1, it.2);
  }

  counted_only : (count : Codec ℕ) → IsCodec count → (bytes rest : List ℕ) (xs : List A) (o : Option (ℕ × List ℕ)) → count.read bytes ≡ o → then_each c o ≡ Some (xs, rest)
      → (count.ok (length xs) && list_all c.ok xs ≡ true) × (bytes ≡ (count.write (length xs) ++ write_each c xs) ++ rest)
  counted_only count is_count bytes rest xs None read gives = absurd (cc gives)
  counted_only count is_count bytes rest xs (Some (n, after)) read gives =
      let it = is_count.only bytes after n read in
      let those = each_only n after rest xs gives in
      let size : n ≡ length xs = sym those.0 in (
        both_true (count.ok (length xs)) (list_all c.ok xs) (subst (λ (k : ℕ). count.ok k ≡ true) size it.0) those.1,
        it.1 ∙ ap (λ (l : List ℕ). count.write n ++ l) those.2 ∙ sym (append_assoc (count.write n) (write_each c xs) rest) ∙ ap (λ (k : ℕ). (count.write k ++ write_each c xs) ++ rest) size,
      )

  pub is_counted : (count : Codec ℕ) → IsCodec count → IsCodec (counted count c)
  is_counted count is_count = record {
    back = λ xs rest ok.
        ap (λ (l : List ℕ). then_each c (count.read l)) (append_assoc (count.write (length xs)) (write_each c xs) rest)
        ∙ ap (then_each c) (is_count.back (length xs) (write_each c xs ++ rest) (and_left (count.ok (length xs)) (list_all c.ok xs) ok))
        ∙ each_back xs rest (and_right (count.ok (length xs)) (list_all c.ok xs) ok);
    only = λ bytes rest xs gives. counted_only count is_count bytes rest xs (count.read bytes) refl gives;
  }

module _ {A : Type 0} (c : Codec A) (is : IsCodec c) where
  none_there : (o : Option A) (u : Unit {0}) → none_in o ≡ Some u → None ≡ o
  none_there None u is = refl
  none_there (Some a) u is = absurd (cc is)

  is_none : IsCodec (mapped (no_one {A = A}) none_in one)
  is_none = is_mapped (no_one {A = A}) none_in one none_there (λ u ok. refl) is_one

  is_some : IsCodec (mapped Some some_in c)
  is_some = is_mapped Some some_in c (λ o a is. sym is) (λ a ok. refl) is

  none_at : (o : Option A) → ok_some one (none_in o) ≡ true → option_place o ≡ 0
  none_at None ok = refl
  none_at (Some a) ok = absurd (cc ok)

  some_at : (o : Option A) → ok_some c (some_in o) ≡ true → option_place o ≡ 1
  some_at None ok = absurd (cc ok)
  some_at (Some a) ok = refl

  pub is_optional : IsCodec (optional c)
  is_optional = is_variant option_place (mapped (no_one {A = A}) none_in one ∷ mapped Some some_in c ∷ []) (is_none, none_at, (is_some, some_at, tt))

-- what is written of two values that can be read back, each with anything behind it, is of one value, with the same behind it
pub splits_once : {A : Type 0} (c : Codec A) → IsCodec c → (a b : A) (x y : List ℕ) → c.ok a ≡ true → c.ok b ≡ true → c.write a ++ x ≡ c.write b ++ y → (a ≡ b) × (x ≡ y)
splits_once {A} c is a b x y ok_a ok_b same =
    let one : (a, x) ≡ (b, y) = some_is (a, x) (b, y) (sym (is.back a x ok_a) ∙ ap c.read same ∙ is.back b y ok_b) in
    (ap (λ (p : A × List ℕ). p.0) one, ap (λ (p : A × List ℕ). p.1) one)
