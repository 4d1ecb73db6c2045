-- The words of a name's text, and that it is read from them.
use Rattle.std.proofs.Common.{◌≡◌, ◌≤◌, ℕ, suc, true, false, List, ◌∷◌, length, Option, Some, None, ap, ◌∙◌, refl, arith}
use Rattle.lq_base.specs.Name.{is_key_in, is_name, is_object, parts_of, schema_in, text_in, within}
use Rattle.lq_base.specs.declared.dialect.Dialect.{Dialect}
use Rattle.lq_base.specs.declared.dialect.Dialect.TheVariants.{Postgresql, Mysql}
use Rattle.lq_base.proofs.NameLemmas.{is_name_key_name, names_tell_keys, parts_of_name}
use Rattle.lq_model.specs.SqlParser.{after, same_kind, sees}
use Rattle.lq_model.specs.SqlPart.{name, name_of, object}
use Rattle.lq_model.specs.SqlWord.{bare, with_text}
use Rattle.lq_model.specs.declared.word.Word.{Word}
use Rattle.lq_model.specs.declared.word.WordKind.TheVariants as word

abbrev pub words_in : List ℕ → Option (List ℕ × List ℕ) → List Word → List Word
words_in n None rest = with_text word.Quoted n ∷ rest
words_in n (Some parts) rest = with_text word.Quoted parts.0 ∷ bare word.Dot ∷ with_text word.Quoted parts.1 ∷ rest

-- its text, after its schema where that is not `public`
abbrev pub name_word : List ℕ → List Word → List Word
name_word n rest = words_in n (parts_of n) rest

-- a name in `public` has one word
abbrev pub IsReadName : List ℕ → Type 0
IsReadName n = (parts_of n ≡ None) × (name_of n ≡ Some n)

-- a name of an object, in postgresql of any schema
abbrev pub IsReadObject : Dialect → List ℕ → Type 0
IsReadObject d n = is_object d n ≡ true

pub name_fact : (n : List ℕ) → is_name n ≡ true → IsReadName n
unfolding name_of
name_fact n is = (parts_of_name n is, rw is refl)

pub object_fact : (d : Dialect) (n : List ℕ) → is_name n ≡ true → IsReadObject d n
object_fact Postgresql n is = is_name_key_name n is
object_fact Mysql n is = is

pub name_read : (n : List ℕ) (rest : List Word) → IsReadName n → name (name_word n rest) ≡ Some (n, rest)
unfolding name
name_read n rest h = rw (h.0, h.1) refl

long_in : (n : List ℕ) (o : Option (List ℕ × List ℕ)) (rest : List Word) → suc (length rest) ≤ length (words_in n o rest)
long_in n None rest = omega arith
long_in n (Some parts) rest = omega arith

-- it has a word
pub name_long : (n : List ℕ) (rest : List Word) → suc (length rest) ≤ length (name_word n rest)
name_long n rest = long_in n (parts_of n) rest

-- a text in quotes is read as a name
quoted_read : (n : List ℕ) (rest : List Word) → is_name n ≡ true → name (with_text word.Quoted n ∷ rest) ≡ Some (n, rest)
unfolding name name_of
quoted_read n rest is = rw is refl

alone : (n : List ℕ) (rest : List Word) → is_name n ≡ true → sees word.Dot rest ≡ false → object Postgresql (with_text word.Quoted n ∷ rest) ≡ Some (n, rest)
unfolding object after
alone n rest is none = rw (quoted_read n rest is, none) refl

apart : (schema text : List ℕ) (rest : List Word) → is_name schema ≡ true → is_name text ≡ true → object Postgresql (with_text word.Quoted schema ∷ bare word.Dot ∷ with_text word.Quoted text ∷ rest) ≡ Some (within schema text, rest)
unfolding object sees after same_kind
apart schema text rest one two = rw (quoted_read schema (bare word.Dot ∷ with_text word.Quoted text ∷ rest) one, quoted_read text rest two, one, two) refl

by_parts : (n : List ℕ) (o : Option (List ℕ × List ℕ)) (rest : List Word) → is_key_in n o ≡ true → is_name (schema_in o) ≡ true → is_name (text_in n o) ≡ true → within (schema_in o) (text_in n o) ≡ n → sees word.Dot rest ≡ false
    → object Postgresql (words_in n o rest) ≡ Some (n, rest)
by_parts n None rest is one two whole none = alone n rest is none
by_parts n (Some parts) rest is one two whole none = apart parts.0 parts.1 rest one two ∙ ap (λ m. Some (m, rest)) whole

-- where no dot follows
pub object_again : (d : Dialect) (n : List ℕ) (rest : List Word) → IsReadObject d n → sees word.Dot rest ≡ false → object d (name_word n rest) ≡ Some (n, rest)
unfolding object
object_again Postgresql n rest is none = let told = names_tell_keys n is in by_parts n (parts_of n) rest is told.0 told.1 told.2 none
object_again Mysql n rest is none = rw (parts_of_name n is) (quoted_read n rest is)
