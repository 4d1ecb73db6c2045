-- What holds of the definitions.
use Rattle.std.specs.Prelude.{IsTrue, List, Ok, Some, true, unsigned_abs, ℕ, ℤ, ◌<◌, ◌^◌, ◌≡◌}
use Rattle.lq_base.specs.Kind.{is_kind, kind_of, kind_text}
use Rattle.lq_base.specs.Moment.{IsMoment, moment_of, moment_text}
use Rattle.lq_base.specs.Name.{is_name, is_name_key, schema_of, text_of, within}
use Rattle.lq_base.specs.Number.{fixed_text, number_of, whole_text}
use Rattle.lq_base.specs.Spells.{NamesKind, SpellsMoment, SpellsNumber}
use Rattle.lq_base.specs.Value.{into_kind, is_value_of}
use Rattle.lq_base.specs.declared.dialect.Dialect.{Dialect}
use Rattle.lq_base.specs.declared.kind.Kind.{Kind}
use Rattle.lq_base.specs.declared.literal.Literal.{Literal}
use Rattle.lq_base.specs.declared.literal.Literal.TheVariants.{Fixed, Int}
use Rattle.lq_base.specs.declared.value.Value.{Value}

-- what a literal becomes in a kind is a value of the kind
abbrev pub IntoIsValue : Type 0
IntoIsValue = (literal : Literal) (kind : Kind) (value : Value) → into_kind literal kind ≡ Ok value → is_value_of kind value ≡ true

-- a moment's text spells that moment
abbrev pub MomentReadsBack : Type 0
MomentReadsBack = (ms : ℤ) → IsMoment ms → SpellsMoment (moment_text ms) ms

-- the number that is read from a text is one that the text spells
abbrev pub NumberOfSpells : Type 0
NumberOfSpells = (text : List ℕ) (number : Literal) → number_of text ≡ Some number → SpellsNumber text number

-- a number that a text spells is the one that is read from it
abbrev pub SpellsGivesNumberOf : Type 0
SpellsGivesNumberOf = (text : List ℕ) (number : Literal) → SpellsNumber text number → number_of text ≡ Some number

-- the same of moments
abbrev pub MomentOfSpells : Type 0
MomentOfSpells = (text : List ℕ) (ms : ℤ) → moment_of text ≡ Some ms → SpellsMoment text ms

abbrev pub SpellsGivesMomentOf : Type 0
SpellsGivesMomentOf = (text : List ℕ) (ms : ℤ) → SpellsMoment text ms → moment_of text ≡ Some ms

-- the kind that is read from a text is one that the text names
abbrev pub KindOfNames : Type 0
KindOfNames = (text : List ℕ) (kind : Kind) → kind_of text ≡ Some kind → NamesKind text kind

-- a kind that a text names is the one that is read from it
abbrev pub NamesGiveKindOf : Type 0
NamesGiveKindOf = (text : List ℕ) (kind : Kind) → NamesKind text kind → kind_of text ≡ Some kind

-- how either dialect spells a kind that can be named names that kind
abbrev pub KindReadsBack : Type 0
KindReadsBack = (dialect : Dialect) (kind : Kind) → IsTrue (is_kind kind) → NamesKind (kind_text dialect kind) kind

-- the text of a whole number of at most 38 digits spells it
abbrev pub WholeReadsBack : Type 0
WholeReadsBack = (n : ℤ) → unsigned_abs n < 10 ^ 38 → SpellsNumber (whole_text n) (Int n)

-- so does that of a decimal number of at most 38 digits, where one digit at least is left before its dot
abbrev pub FixedReadsBack : Type 0
FixedReadsBack = (units : ℤ) (scale : ℕ) → unsigned_abs units < 10 ^ 38 → 0 < scale → scale < 38 → SpellsNumber (fixed_text units scale) (Fixed units scale)

-- a key tells the schema and the text of its name
abbrev pub KeysTellNames : Type 0
KeysTellNames = (schema text : List ℕ) → is_name schema ≡ true → is_name text ≡ true
    → (is_name_key (within schema text) ≡ true) × (schema_of (within schema text) ≡ schema) × (text_of (within schema text) ≡ text)

-- and is made of them
abbrev pub NamesTellKeys : Type 0
NamesTellKeys = (key : List ℕ) → is_name_key key ≡ true
    → (is_name (schema_of key) ≡ true) × (is_name (text_of key) ≡ true) × (within (schema_of key) (text_of key) ≡ key)
