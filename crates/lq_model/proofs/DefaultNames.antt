-- A name by default is a name.
use Rattle.std.proofs.Common.{ap, arith, sym, ◌∙◌}
use Rattle.std.proofs.lemmas.List.{append_assoc}
use Rattle.std.specs.List.{flat_map, list_all, list_any}
use Rattle.std.specs.Str.{is_utf8}
use Rattle.std.specs.Prelude.{Bool, List, [], codes, cond, false, length, nat_le, nat_lt, not, refl, suc, take, true, zero, ℕ, ◌&&◌, ◌++◌, ◌==◌, ◌||◌, ◌≤◌, ◌∷◌, ◌≡◌}
use Rattle.lq_base.specs.Number.{has_control, is_control}
use Rattle.lq_base.specs.Name.{is_name, is_name_key, text_of}
use Rattle.lq_base.specs.declared.dialect.Dialect.{Dialect}
use Rattle.lq_base.specs.declared.dialect.Dialect.TheVariants.{Mysql, Postgresql}
use Rattle.lq_base.specs.declared.name.Name.{Name}
use Rattle.lq_model.specs.Sound.{DefaultNamesAreNames, cut, default_name, foreign_name, index_name, is_prefix, key_name, unique_name}
use Rattle.lq_model.proofs.Lists.{and_left, and_right, true_false}
use Rattle.lq_model.proofs.PlainText.{is_plain, plain_utf8}
use Rattle.lq_base.proofs.NameLemmas.{is_name_key_name, names_tell_keys}

-- a text of these bytes is plain and clean

small : (b : ℕ) → (nat_le 95 b && nat_le b 122) ≡ true → (nat_lt b 128 ≡ true) × (is_control b ≡ false)
small b h =
    let low : nat_le 95 b ≡ true = and_left (nat_le 95 b) _ h in
    let high : nat_le b 122 ≡ true = and_right (nat_le 95 b) _ h in
    (grind arith, grind arith)

letters_plain : (bytes : List ℕ) → list_all (λ b. nat_le 95 b && nat_le b 122) bytes ≡ true → is_plain bytes ≡ true
letters_plain [] h = refl
letters_plain (b ∷ bytes) h = rw ((small b (and_left (nat_le 95 b && nat_le b 122) _ h)).0, letters_plain bytes (and_right (nat_le 95 b && nat_le b 122) _ h)) refl

letters_clean : (bytes : List ℕ) → list_all (λ b. nat_le 95 b && nat_le b 122) bytes ≡ true → has_control bytes ≡ false
letters_clean [] h = refl
letters_clean (b ∷ bytes) h = rw ((small b (and_left (nat_le 95 b && nat_le b 122) _ h)).1, letters_clean bytes (and_right (nat_le 95 b && nat_le b 122) _ h)) refl

pub prefix_clean : (prefix : List ℕ) → is_prefix prefix ≡ true → has_control prefix ≡ false
prefix_clean prefix h = letters_clean prefix (and_right (length prefix == 3) _ h)

prefix_plain : (prefix : List ℕ) → is_prefix prefix ≡ true → is_plain prefix ≡ true
prefix_plain prefix h = letters_plain prefix (and_right (length prefix == 3) _ h)

prefix_length : (prefix : List ℕ) → is_prefix prefix ≡ true → length prefix ≡ 3
prefix_length prefix h = let e : (length prefix == 3) ≡ true = and_left (length prefix == 3) _ h in grind arith

-- texts joined, and a name

pub clean_joined : (xs ys : List ℕ) → has_control xs ≡ false → has_control ys ≡ false → has_control (xs ++ ys) ≡ false
clean_joined [] ys g h = h
clean_joined (x ∷ xs) ys g h = by (is_control x) g (λ k. clean_joined xs ys k h) where
  by : (b : Bool) → (b || has_control xs) ≡ false → (has_control xs ≡ false → has_control (xs ++ ys) ≡ false) → (b || has_control (xs ++ ys)) ≡ false
  by true g more = true_false refl g
  by false g more = more g

not_true : (b : Bool) → not b ≡ true → b ≡ false
not_true true h = sym h
not_true false h = refl

pub name_clean : (name : List ℕ) → is_name name ≡ true → has_control name ≡ false
name_clean name h = not_true (has_control name) (and_right (nat_le 1 (length name) && nat_le (length name) 63) _ h)

pub text_named : (name : Name) → is_name_key name ≡ true → is_name (text_of name) ≡ true
text_named name is = (names_tell_keys name is).1

columns_clean : (columns : List Name) → list_all is_name columns ≡ true → has_control (flat_map (λ column. codes "_" ++ text_of column) columns) ≡ false
columns_clean [] h = refl
columns_clean (n ∷ ns) h = clean_joined (codes "_" ++ text_of n) (flat_map (λ column. codes "_" ++ text_of column) ns) (name_clean (text_of n) (text_named n (is_name_key_name n (and_left (is_name n) _ h)))) (columns_clean ns (and_right (is_name n) _ h))

-- the front of a text

any_take : {A : Type 0} (p : A → Bool) (n : ℕ) (xs : List A) → list_any p xs ≡ false → list_any p (take n xs) ≡ false
any_take p zero xs h = refl
any_take p (suc n) [] h = refl
any_take p (suc n) (x ∷ xs) h = by (p x) h (any_take p n xs) where
  by : (b : Bool) → (b || list_any p xs) ≡ false → (list_any p xs ≡ false → list_any p (take n xs) ≡ false) → (b || list_any p (take n xs)) ≡ false
  by true h more = true_false refl h
  by false h more = more h

cut_clean : (most : ℕ) (bytes : List ℕ) → has_control bytes ≡ false → has_control (cut most bytes) ≡ false
unfolding cut
cut_clean zero bytes h = refl
cut_clean (suc most) bytes h = by (is_utf8 (take (suc most) bytes)) (cut_clean most bytes h) where
  by : (b : Bool) → has_control (cut most bytes) ≡ false → has_control (cond b (take (suc most) bytes) (cut most bytes)) ≡ false
  by true k = any_take is_control (suc most) bytes h
  by false k = k

take_length : {A : Type 0} (n : ℕ) (xs : List A) → length (take n xs) ≤ n
take_length zero xs = omega arith
take_length (suc n) [] = omega arith
take_length (suc n) (x ∷ xs) = let h = take_length n xs in omega (arith, h)

cut_length : (most : ℕ) (bytes : List ℕ) → length (cut most bytes) ≤ most
unfolding cut
cut_length zero bytes = omega arith
cut_length (suc most) bytes = by (is_utf8 (take (suc most) bytes)) (cut_length most bytes) where
  by : (b : Bool) → length (cut most bytes) ≤ most → length (cond b (take (suc most) bytes) (cut most bytes)) ≤ suc most
  by true k = take_length (suc most) bytes
  by false k = omega (arith, k)

-- a plain front is not cut off

take_front : (n : ℕ) (front more : List ℕ) → length front ≤ n → length front ≤ length (take n (front ++ more))
take_front n [] more h = omega arith
take_front zero (x ∷ front) more h = absurd (omega (arith, h))
take_front (suc n) (x ∷ front) more h = let k = take_front n front more (omega (arith, h)) in omega (arith, k)

take_whole : (front more : List ℕ) → take (length front) (front ++ more) ≡ front
take_whole [] more = refl
take_whole (x ∷ front) more = ap (λ xs. x ∷ xs) (take_whole front more)

shorter : (n most : ℕ) → n ≤ suc most → (n ≡ suc most → ⊥) → n ≤ most
shorter n most h other = omega (arith, h, other)

cut_keeps : (most : ℕ) (front more : List ℕ) → is_utf8 front ≡ true → length front ≤ most → length front ≤ length (cut most (front ++ more))
unfolding cut
cut_keeps zero front more plain h = h
cut_keeps (suc most) front more plain h = by (is_utf8 (take (suc most) (front ++ more))) refl (cut_keeps most front more plain) where
  by : (b : Bool) → is_utf8 (take (suc most) (front ++ more)) ≡ b → (length front ≤ most → length front ≤ length (cut most (front ++ more))) → length front ≤ length (cond b (take (suc most) (front ++ more)) (cut most (front ++ more)))
  by true is later = take_front (suc most) front more h
  by false is later = later (shorter (length front) most h (λ e. true_false (ap (λ n. is_utf8 (take n (front ++ more))) (sym e) ∙ ap is_utf8 (take_whole front more) ∙ plain) is))

whole_named : (text : List ℕ) → 1 ≤ length text → length text ≤ 63 → has_control text ≡ false → is_name text ≡ true
whole_named text low high clean =
    let a : nat_le 1 (length text) ≡ true = grind arith in
    let b : nat_le (length text) 63 ≡ true = grind arith in
    rw (a, b, clean) refl

named : (prefix rest : List ℕ) → is_prefix prefix ≡ true → has_control (prefix ++ rest) ≡ false → is_name (cut 63 (prefix ++ rest)) ≡ true
named prefix rest h clean =
    let three : length prefix ≡ 3 = prefix_length prefix h in
    let long = cut_keeps 63 prefix rest (plain_utf8 prefix (prefix_plain prefix h)) (omega (arith, three)) in
    whole_named (cut 63 (prefix ++ rest)) (omega (arith, three, long)) (cut_length 63 (prefix ++ rest)) (cut_clean 63 (prefix ++ rest) clean)

abbrev those : List Name → List ℕ
those columns = flat_map (λ column. codes "_" ++ text_of column) columns

pub by_default : (prefix table : List ℕ) (columns : List Name) → is_prefix prefix ≡ true → has_control (prefix ++ text_of table ++ flat_map (λ column. codes "_" ++ text_of column) columns) ≡ false → is_name (default_name prefix table columns) ≡ true
by_default prefix table columns h clean =
    let apart : prefix ++ text_of table ++ those columns ≡ prefix ++ (text_of table ++ those columns) = append_assoc prefix (text_of table) (those columns) in
    ap (λ text. is_name (cut 63 text)) apart ∙ named prefix (text_of table ++ those columns) h (ap has_control (sym apart) ∙ clean)

of_names : (prefix table : List ℕ) (columns : List Name) → is_prefix prefix ≡ true → is_name_key table ≡ true → list_all is_name columns ≡ true → is_name (default_name prefix table columns) ≡ true
of_names prefix table columns h t cs = by_default prefix table columns h (clean_joined (prefix ++ text_of table) (those columns) (clean_joined prefix (text_of table) (prefix_clean prefix h) (name_clean (text_of table) (text_named table t))) (columns_clean columns cs))

key_named : (d : Dialect) (table : Name) → is_name_key table ≡ true → is_name (key_name d table) ≡ true
unfolding key_name
key_named Postgresql table t = of_names (codes "pk_") table [] refl t refl
key_named Mysql table t = refl

unique_named : (table : Name) (columns : List Name) → is_name_key table ≡ true → list_all is_name columns ≡ true → is_name (unique_name table columns) ≡ true
unfolding unique_name
unique_named table columns t cs = of_names (codes "uq_") table columns refl t cs

foreign_named : (table : Name) (columns : List Name) → is_name_key table ≡ true → list_all is_name columns ≡ true → is_name (foreign_name table columns) ≡ true
unfolding foreign_name
foreign_named table columns t cs = of_names (codes "fk_") table columns refl t cs

index_named : (table : Name) (columns : List Name) → is_name_key table ≡ true → list_all is_name columns ≡ true → is_name (index_name table columns) ≡ true
unfolding index_name
index_named table columns t cs = of_names (codes "ix_") table columns refl t cs

pub default_named : DefaultNamesAreNames
default_named d table columns t cs = (key_named d table t, unique_named table columns t cs, foreign_named table columns t cs, index_named table columns t cs)
