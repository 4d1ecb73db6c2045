-- The place of a name, and names beside it.
use Rattle.std.proofs.Common.{◌≡◌, ◌&&◌, not, ℕ, Bool, true, false, List, [], ◌∷◌, ◌++◌, Option, Some, None, is_some, refl, ap, sym, inl, inr, true≢false, ◌∙◌, append_assoc}
use Rattle.std.proofs.lemmas.Bool.Decides.{eqb_tells}
use Rattle.std.proofs.lemmas.Cmp.{tied_itself}
use Rattle.std.specs.Cmp.Lexicographic.{nat_list_cmp_total}
use Rattle.std.specs.Ordering.{is_eq}
use Rattle.lq_base.specs.Name.{beside, is_beside, is_elsewhere, is_key_in, is_name, is_name_key, is_named, is_object, longer, parts_of, place_in, place_of, public, schema_in, schema_of, text_in, text_of}
use Rattle.lq_base.specs.declared.dialect.Dialect.{Dialect}
use Rattle.lq_base.specs.declared.dialect.Dialect.TheVariants.{Mysql, Postgresql}
use Rattle.lq_base.proofs.NameLemmas.{beside_named, cut_again, is_name_key_name, left, name_no_seam, names_tell_keys, parts_of_name, parts_of_seam, parts_of_within, right, same_name, turned, within-beside}

there : (o : Option (List ℕ × List ℕ)) → is_some o ≡ true → place_in o ≡ schema_in o ++ 31 ∷ []
there None is = absurd (cc)
there (Some parts) is = refl

here : (o : Option (List ℕ × List ℕ)) → is_some o ≡ false → place_in o ≡ []
here None is = refl
here (Some parts) is = absurd (cc)

pub place_there : (key : List ℕ) → is_elsewhere key ≡ true → place_of key ≡ schema_of key ++ 31 ∷ []
place_there key is = there (parts_of key) is

pub place_here : (key : List ℕ) → is_elsewhere key ≡ false → place_of key ≡ []
place_here key is = here (parts_of key) is

-- ---- the new name of a renaming

named_itself : (n : List ℕ) → is_named n n ≡ true
named_itself n = ap is_eq (tied_itself nat_list_cmp_total n)

-- a name is its text in its own schema
pub beside_itself : (key : List ℕ) → is_name_key key ≡ true → beside key (text_of key) ≡ key
beside_itself key is = sym (within-beside key (text_of key) is) ∙ (names_tell_keys key is).2

-- so a renaming is read from its text: the new name is its text in the schema of the old one
pub new_again : (old new : List ℕ) → is_name_key new ≡ true → is_beside old new ≡ true → beside old (text_of new) ≡ new
new_again old new is near = ap (λ p. p ++ text_of new) (same_name (place_of old) (place_of new) near) ∙ beside_itself new is

place_beside : (key : List ℕ) (o : Option (List ℕ × List ℕ)) (text : List ℕ) → is_key_in key o ≡ true → is_name text ≡ true → place_of (place_in o ++ text) ≡ place_in o
place_beside key None text is name = ap place_in (parts_of_name text name)
place_beside key (Some parts) text is name =
    let rest : (not (is_named parts.0 public) && is_name parts.1) ≡ true = right (is_name parts.0) _ is in
    let other : is_named parts.0 public ≡ false = turned _ (left (not (is_named parts.0 public)) (is_name parts.1) rest) in
    ap place_of (append_assoc parts.0 (31 ∷ []) text) ∙ ap place_in (parts_of_within parts.0 text (left (is_name parts.0) _ is) other)

-- and a text beside a name is in its schema
pub is_beside_beside : (key text : List ℕ) → is_name_key key ≡ true → is_name text ≡ true → is_beside key (beside key text) ≡ true
is_beside_beside key text is name = ap (is_named (place_of key)) (place_beside key (parts_of key) text is name) ∙ named_itself (place_of key)

pub beside_is_beside : (key text : List ℕ) → is_name_key key ≡ true → is_name text ≡ true → is_beside (beside key text) key ≡ true
beside_is_beside key text is name = ap (λ p. is_named p (place_of key)) (place_beside key (parts_of key) text is name) ∙ named_itself (place_of key)

-- ---- what is inside a table, where it counts

beside_there : (table text : List ℕ) → is_elsewhere table ≡ true → beside table text ≡ schema_of table ++ 31 ∷ text
beside_there table text is = ap (λ p. p ++ text) (place_there table is) ∙ append_assoc (schema_of table) (31 ∷ []) text

longer_some : (b : ℕ) (o : Option (List ℕ × List ℕ)) → is_some (longer b o) ≡ is_some o
longer_some b None = refl
longer_some b (Some parts) = refl

marked_there : (front behind : List ℕ) → is_elsewhere (front ++ 31 ∷ behind) ≡ true
marked_there [] behind = refl
marked_there (b ∷ front) behind =
    elim (eqb_tells b 31) [
      | inl same ↦ rw same.0 refl
      | inr other ↦ rw other.0 (longer_some b (parts_of (front ++ 31 ∷ behind)) ∙ marked_there front behind)
    ]

-- what is inside a table of another schema is not in `public`
pub public_there : (n table text : List ℕ) → is_elsewhere n ≡ false → is_elsewhere table ≡ true → is_named n (beside table text) ≡ false
public_there n table text free is = at (is_named n (beside table text)) refl where
  at : (b : Bool) → is_named n (beside table text) ≡ b → b ≡ false
  at false e = refl
  at true e = absurd (true≢false (sym (ap is_elsewhere (same_name n (beside table text) e ∙ beside_there table text is) ∙ marked_there (schema_of table) text) ∙ free))

parts_there : (n table text : List ℕ) → is_elsewhere table ≡ true → is_name (schema_of table) ≡ true → is_named n (beside table text) ≡ true → parts_of n ≡ Some (schema_of table, text)
parts_there n table text is name same =
    ap parts_of (same_name n (beside table text) same ∙ beside_there table text is) ∙ parts_of_seam (schema_of table) text (name_no_seam (schema_of table) name)

-- the schema and the text of a key are these
abbrev is_cut : List ℕ → List ℕ → List ℕ → Bool
is_cut n schema text = is_elsewhere n && (is_named (schema_of n) schema && is_named (text_of n) text)

cut_there : (n schema text : List ℕ) → parts_of n ≡ Some (schema, text) → is_cut n schema text ≡ true
cut_there n schema text is =
    ap (λ o. is_some o && (is_named (schema_in o) schema && is_named (text_in n o) text)) is
    ∙ ap (λ b. b && is_named text text) (named_itself schema) ∙ named_itself text

placed_back : (n table text : List ℕ) → is_elsewhere table ≡ true → is_cut n (schema_of table) text ≡ true → is_named n (beside table text) ≡ true
placed_back n table text is all =
    let cut : is_elsewhere n ≡ true = left (is_elsewhere n) _ all in
    let both : (is_named (schema_of n) (schema_of table) && is_named (text_of n) text) ≡ true = right (is_elsewhere n) _ all in
    let schema : schema_of n ≡ schema_of table = same_name (schema_of n) (schema_of table) (left (is_named (schema_of n) (schema_of table)) _ both) in
    let own : text_of n ≡ text = same_name (text_of n) text (right (is_named (schema_of n) (schema_of table)) _ both) in
    let same : beside table text ≡ n = beside_there table text is ∙ sym (ap (λ s. s ++ 31 ∷ text) schema) ∙ sym (ap (λ t. schema_of n ++ 31 ∷ t) own) ∙ cut_again n cut in
    ap (is_named n) same ∙ named_itself n

same_truth : (a b : Bool) → (a ≡ true → b ≡ true) → (b ≡ true → a ≡ true) → a ≡ b
same_truth true b there back = sym (there refl)
same_truth false true there back = back refl
same_truth false false there back = refl

pub placed_there : (n table text : List ℕ) → is_elsewhere table ≡ true → is_name (schema_of table) ≡ true → (is_elsewhere n && (is_named (schema_of n) (schema_of table) && is_named (text_of n) text)) ≡ is_named n (beside table text)
placed_there n table text is name = same_truth (is_cut n (schema_of table) text) (is_named n (beside table text)) (placed_back n table text is) (λ same. cut_there n (schema_of table) text (parts_there n table text is name same))

pub placed_here : (n table text : List ℕ) → is_elsewhere table ≡ false → is_named n text ≡ is_named n (beside table text)
placed_here n table text is = ap (λ p. is_named n (p ++ text)) (sym (place_here table is))

-- ---- the names of objects

pub is_whole : (d : Dialect) (n : List ℕ) → is_object d n ≡ true → is_name_key n ≡ true
is_whole Postgresql n is = is
is_whole Mysql n is = is_name_key_name n is

pub not_elsewhere : (n : List ℕ) → is_name n ≡ true → is_elsewhere n ≡ false
not_elsewhere n is = ap (λ o. is_some o) (parts_of_name n is)

-- the text of a name in `public` is its key
pub text_of_name : (n : List ℕ) → is_name n ≡ true → text_of n ≡ n
text_of_name n is = ap (text_in n) (parts_of_name n is)

pub object_of_name : (d : Dialect) (n : List ℕ) → is_name n ≡ true → is_object d n ≡ true
object_of_name Postgresql n is = is_name_key_name n is
object_of_name Mysql n is = is

-- names in `public` are beside each other
pub names_beside : (a b : List ℕ) → is_name a ≡ true → is_name b ≡ true → is_beside a b ≡ true
names_beside a b one two = ap (λ o. is_named (place_in o) (place_of b)) (parts_of_name a one) ∙ ap (λ o. is_named [] (place_in o)) (parts_of_name b two)

object_beside : (d : Dialect) (old new : List ℕ) → is_object d old ≡ true → is_name new ≡ true → is_object d (beside old new) ≡ true
object_beside Postgresql old new h g = beside_named old new h g
object_beside Mysql old new h g = rw (parts_of_name old h) g

-- a text beside an object is one, in the schema of that
pub record IsRenamed (d : Dialect) (old to : List ℕ) : Type 0 where
  pub object : is_object d to ≡ true
  pub there : is_beside old to ≡ true
  pub back : is_beside to old ≡ true

pub renamed : (d : Dialect) (old new : List ℕ) → is_object d old ≡ true → is_name new ≡ true → IsRenamed d old (beside old (text_of new))
renamed d old new h g = rw (parts_of_name new g) (record { object = object_beside d old new h g; there = is_beside_beside old new (is_whole d old h) g; back = beside_is_beside old new (is_whole d old h) g })
