-- How `into_kind` answers, and what of a text by what it spells.
use Rattle.std.specs.Fmt.{decimal, sign_text}
use Rattle.std.specs.List.{list_all, list_any}
use Rattle.std.specs.Prelude.{Bool, Err, IsOk, IsTrue, List, Ok, Result, [], codes, drop, false, if◌then◌else◌, length, slice_index, take, true, ℕ, ℤ, ◌++◌, ◌+◌, ◌==◌, ◌∷◌, ◌≡◌, ◌≤◌, ◌⊎◌}
use Rattle.std.specs.Str.{str_eq_ignore_ascii_case}
use Rattle.std.specs.Str.Parse.{digits_value}
use Rattle.lq_base.specs.Kind.{is_blank, is_kind}
use Rattle.lq_base.specs.Moment.{IsMoment, moment_text}
use Rattle.lq_base.specs.Number.{is_digits, signed}
use Rattle.lq_base.specs.declared.convert.IntoFault.{IntoFault}
use Rattle.lq_base.specs.declared.convert.IntoFault.TheVariants.{OutOfMemory, TooWide, WrongKind}
use Rattle.lq_base.specs.declared.kind.Kind.{Kind}
use Rattle.lq_base.specs.declared.kind.Kind.TheVariants as kind
use Rattle.lq_base.specs.declared.literal.Literal.{Literal}
use Rattle.lq_base.specs.declared.literal.Literal.TheVariants as literal
use Rattle.lq_base.specs.declared.reason.Reason.{Reason}
use Rattle.lq_base.specs.declared.reason.Reason.TheVariants as reason
use Rattle.lq_base.specs.declared.value.Value.{Value}

-- the value, the reason, or want of memory for a value that there is
abbrev pub Goes : Result Value Reason → Result Value IntoFault → Type 0
Goes meant (Ok v) = meant ≡ Ok v
Goes meant (Err WrongKind) = meant ≡ Err reason.WrongKind
Goes meant (Err TooWide) = meant ≡ Err reason.TooWide
Goes meant (Err OutOfMemory) = IsOk meant

abbrev pub is_number_kind : Kind → Bool
is_number_kind kind.Int = true
is_number_kind kind.BigInt = true
is_number_kind (kind.Decimal digits scale) = true
is_number_kind k = false

-- the answer for a text that goes as what it spells: what that becomes, and WrongKind where it spells nothing
pub record GoesAs {A : Type 0} (Spells : A → Type 0) (becomes : A → Result Value Reason) (answer : Result Value IntoFault) : Type 0 where
  pub spelled : (a : A) → Spells a → Goes (becomes a) answer
  pub none : ((a : A) → ¬ (Spells a)) → answer ≡ Err WrongKind

-- Which texts spell a number or a moment, and which name a kind, by what the texts are made of.

-- `-` or nothing, and then 1 to 38 digits, which write the magnitude
pub record IsWhole (text : List ℕ) (n : ℤ) : Type 0 where
  pub negative : Bool
  pub digits : List ℕ
  pub is : text ≡ sign_text negative ++ digits
  pub are_digits : IsTrue (is_digits digits)
  pub few : length digits ≤ 38
  pub value : n ≡ signed negative (digits_value 10 digits)

-- the same with a dot between digits: `scale` digits after it, at most 38 in all
pub record IsPointed (text : List ℕ) (units : ℤ) (scale : ℕ) : Type 0 where
  pub negative : Bool
  pub whole : List ℕ
  pub fraction : List ℕ
  pub is : text ≡ sign_text negative ++ whole ++ 46 ∷ fraction
  pub are_digits : IsTrue (is_digits whole) × IsTrue (is_digits fraction)
  pub few : length whole + length fraction ≤ 38
  pub value : units ≡ signed negative (digits_value 10 (whole ++ fraction))
  pub scale_is : scale ≡ length fraction

-- the text spells the number
abbrev pub SpellsNumber : List ℕ → Literal → Type 0
SpellsNumber text (literal.Int n) = IsWhole text n
SpellsNumber text (literal.Fixed units scale) = IsPointed text units scale
SpellsNumber text other = ⊥

-- a blank in the place of the `T` before a time of day
abbrev pub without_t : List ℕ → List ℕ
without_t text = if slice_index text 10 == 84 then take 10 text ++ 32 ∷ drop 11 text else text

-- the text is a date, or one with a time of day, or with milliseconds too, and together with what it leaves out of
-- ` 00:00:00.000` it is the moment's text of 23 bytes
pub record SpellsMoment (text : List ℕ) (ms : ℤ) : Type 0 where
  pub is_moment : IsMoment ms
  pub parts : (length text ≡ 10) ⊎ ((length text ≡ 19) ⊎ (length text ≡ 23))
  pub is : without_t text ++ drop (length text) (codes "YYYY-MM-DD 00:00:00.000") ≡ moment_text ms

-- one of the words, in any ASCII case
abbrev pub is_word_of : List (List ℕ) → List ℕ → Bool
is_word_of words text = list_any (str_eq_ignore_ascii_case text) words

-- the number in decimal digits, with blanks around it
pub record IsSpaced (text : List ℕ) (n : ℕ) : Type 0 where
  pub before : List ℕ
  pub after : List ℕ
  pub is : text ≡ before ++ decimal n ++ after
  pub blanks : IsTrue (list_all is_blank before) × IsTrue (list_all is_blank after)

-- `word(n)`, the word in any ASCII case, and blanks around the number
pub record IsSized (words : List (List ℕ)) (text : List ℕ) (n : ℕ) : Type 0 where
  pub word : List ℕ
  pub inside : List ℕ
  pub is : text ≡ word ++ 40 ∷ inside ++ 41 ∷ []
  pub is_word : IsTrue (is_word_of words word)
  pub number : IsSpaced inside n

-- `word(n, m)` likewise
pub record IsSizedTwice (words : List (List ℕ)) (text : List ℕ) (n m : ℕ) : Type 0 where
  pub word : List ℕ
  pub first : List ℕ
  pub second : List ℕ
  pub is : text ≡ word ++ 40 ∷ first ++ 44 ∷ second ++ 41 ∷ []
  pub is_word : IsTrue (is_word_of words word)
  pub numbers : IsSpaced first n × IsSpaced second m

-- the text names the kind: the table of the kinds' names
abbrev pub NamesKind : List ℕ → Kind → Type 0
NamesKind text kind.Int = IsTrue (is_word_of (codes "int" ∷ codes "integer" ∷ []) text)
NamesKind text kind.BigInt = IsTrue (is_word_of (codes "bigint" ∷ []) text)
NamesKind text kind.Boolean = IsTrue (is_word_of (codes "boolean" ∷ codes "bool" ∷ []) text)
NamesKind text (kind.Varchar most) = IsTrue (is_kind (kind.Varchar most)) × IsSized (codes "varchar" ∷ []) text most
NamesKind text kind.Text = IsTrue (is_word_of (codes "text" ∷ codes "clob" ∷ []) text)
NamesKind text kind.Moment = IsTrue (is_word_of (codes "timestamp" ∷ codes "datetime" ∷ []) text) ⊎ IsSized (codes "datetime" ∷ []) text 3
NamesKind text (kind.Decimal digits scale) = IsTrue (is_kind (kind.Decimal digits scale)) × IsSizedTwice (codes "decimal" ∷ codes "numeric" ∷ []) text digits scale
