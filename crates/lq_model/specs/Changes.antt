-- Canonical text: what a change is in one way of writing alone, so that its checksum tells it.
use Rattle.std.specs.Int.Digits.{digits_of}
use Rattle.std.specs.List.{list_all}
use Rattle.std.specs.Prelude.{Bool, List, None, Ok, Option, Result, Some, [], codes, false, length, map, negsuc, pos, suc, true, zero, ℕ, ℤ, ◌++◌, ◌+◌, ◌∷◌, ◌≡◌}
use Rattle.lq_base.specs.Kind.{kind_text}
use Rattle.lq_base.specs.Number.{fixed_text}
use Rattle.lq_base.specs.declared.dialect.Dialect.{Dialect}
use Rattle.lq_base.specs.declared.dialect.Dialect.TheVariants.{Postgresql}
use Rattle.lq_base.specs.declared.kind.Kind.{Kind}
use Rattle.lq_base.specs.declared.reason.Reason.{Reason}
use Rattle.lq_model.specs.Catalogue.{Catalogue}
use Rattle.lq_model.specs.Sound.{IsSound}
use Rattle.lq_model.specs.Step.{is_statement, run}
use Rattle.lq_model.specs.declared.caller.By.TheVariants.{User}
use Rattle.lq_model.specs.declared.canon.Begun.{Begun}
use Rattle.lq_model.specs.declared.change.Undo.{Undo}
use Rattle.lq_model.specs.declared.change.Undo.TheVariants.{Absent, Generated}
use Rattle.lq_model.specs.declared.statement.Statement.{Statement}

-- a value of a change's key
mutual
  pub data CanonicalValue : Type 0 where
    text : List ℕ → CanonicalValue
    number : ℤ → CanonicalValue
    truth : Bool → CanonicalValue
    list : CanonicalValues → CanonicalValue
    map_of : CanonicalPairs → CanonicalValue

  pub data CanonicalValues : Type 0 where
    no_values : CanonicalValues
    value : CanonicalValue → CanonicalValues → CanonicalValues

  pub data CanonicalPairs : Type 0 where
    no_pairs : CanonicalPairs
    pair : List ℕ → CanonicalValue → CanonicalPairs → CanonicalPairs

-- a kind is a text: its name in PostgreSQL
abbrev pub kind_value : Kind → CanonicalValue
kind_value kind = text (kind_text Postgresql kind)

-- a decimal is a text: its units divided by ten to the power of its scale
abbrev pub decimal_value : ℤ → ℕ → CanonicalValue
decimal_value units scale = text (fixed_text units scale)

-- a change: its type's name and its keys
pub record CanonicalChange : Type 0 where
  pub name : List ℕ
  pub pairs : CanonicalPairs

-- the digits of n in base ten, the highest first
unfoldable pub decimal_digits : ℕ → List ℕ
decimal_digits zero = 0 ∷ []
decimal_digits (suc n) = digits_of 10 (suc n)

-- a number in decimal: `0`, or digits that do not begin with `0`
unfoldable pub numeral : ℕ → List ℕ
numeral n = map (λ digit. 48 + digit) (decimal_digits n)

-- and with its sign
abbrev pub signed_numeral : ℤ → List ℕ
signed_numeral (pos n) = numeral n
signed_numeral (negsuc n) = codes "-" ++ numeral (suc n)

-- the number of the text's bytes, `:`, the text
unfoldable pub atom : List ℕ → List ℕ
atom t = numeral (length t) ++ codes ":" ++ t

abbrev mutual
  pub canonical : CanonicalValue → List ℕ
  canonical (text t) = codes "t" ++ atom t
  canonical (number n) = codes "n" ++ atom (signed_numeral n)
  canonical (truth false) = codes "b0"
  canonical (truth true) = codes "b1"
  canonical (list values) = codes "[" ++ canonical_values values ++ codes "]"
  canonical (map_of pairs) = codes "{" ++ canonical_pairs pairs ++ codes "}"

  pub canonical_values : CanonicalValues → List ℕ
  canonical_values no_values = []
  canonical_values (value v values) = canonical v ++ canonical_values values

  pub canonical_pairs : CanonicalPairs → List ℕ
  canonical_pairs no_pairs = []
  canonical_pairs (pair key v pairs) = atom key ++ canonical v ++ canonical_pairs pairs

-- the atom of the type's name, and the map of its keys
abbrev pub canonical_change : CanonicalChange → List ℕ
canonical_change change = atom change.name ++ canonical (map_of change.pairs)

abbrev pub canonical_each : List CanonicalChange → List ℕ
canonical_each [] = []
canonical_each (change ∷ changes) = canonical_change change ++ canonical_each changes

-- the canonical text of a changeset: the list of its changes
abbrev pub canonical_changes : List CanonicalChange → List ℕ
canonical_changes changes = codes "[" ++ canonical_each changes ++ codes "]"

-- what a writer has written, and the lists and maps that it has begun and not ended, the last one first
pub record Writing : Type 0 where
  pub written : List ℕ
  pub begun : List Begun

-- what was written is a front of what is written now, and what was begun is not ended
pub record GoesOn (before now : Writing) : Type 0 where
  pub more : List ℕ
  pub opened : List Begun
  pub written : now.written ≡ before.written ++ more
  pub begun : now.begun ≡ opened ++ before.begun

-- what was begun last and is not ended
abbrev pub innermost : List Begun → Option Begun
innermost [] = None
innermost (begun ∷ outer) = Some begun

-- what stays begun once that is ended
abbrev pub without_innermost : List Begun → List Begun
without_innermost [] = []
without_innermost (begun ∷ outer) = outer

-- one whole list of changes, with nothing left open
pub record IsFinished (w : Writing) : Type 0 where
  pub changes : List CanonicalChange
  pub whole : w.written ≡ canonical_changes changes
  pub closed : w.begun ≡ []

-- What a change promises: what it says is done by its statements, taken back by their inverse, and told by its canonical text.

-- the statements that take it back, where they are generated
abbrev pub undoing_of : Undo → Option (List Statement)
undoing_of (Generated statements) = Some statements
undoing_of Absent = None

module _ {Key : Type 0} (is_for : Dialect → Key → Bool) (gives : Dialect → Key → List Statement) where
  -- the statements are statements of the dialect
  abbrev pub AreStatements : Type 0
  AreStatements = (d : Dialect) (x : Key) → is_for d x ≡ true → list_all (is_statement d) (gives d x) ≡ true

  -- run as a user's, the statements give the effect, and are refused where it refuses
  abbrev pub HaveEffect : (Dialect → Key → Catalogue → Result Catalogue Reason) → Type 0
  HaveEffect effect = (d : Dialect) (x : Key) (c : Catalogue) → is_for d x ≡ true → IsSound d c → run User d (gives d x) c ≡ effect d x c

-- the statements that are generated to take it back are statements of the dialect
abbrev pub AreReturns : {Key : Type 0} → (Dialect → Key → Bool) → (Dialect → Key → Option (List Statement)) → Type 0
AreReturns {Key} is_for inverse = (d : Dialect) (x : Key) (undoing : List Statement) → is_for d x ≡ true → inverse d x ≡ Some undoing → list_all (is_statement d) undoing ≡ true

-- where the change is fresh and its effect accepted, the statements that are generated take it back
abbrev pub TakeBack : {Key : Type 0} → (Dialect → Key → Bool) → (Dialect → Key → Catalogue → Result Catalogue Reason) → (Dialect → Key → Catalogue → Bool) → (Dialect → Key → Option (List Statement)) → Type 0
TakeBack {Key} is_for effect fresh inverse =
    (d : Dialect) (x : Key) (c e : Catalogue) (undoing : List Statement) → is_for d x ≡ true → IsSound d c
    → fresh d x c ≡ true → effect d x c ≡ Ok e → inverse d x ≡ Some undoing → run User d undoing e ≡ Ok c

-- two different changes that are read for one dialect have different canonical texts
abbrev pub AreTold : {Key : Type 0} → (Dialect → Key → Bool) → (Key → CanonicalChange) → Type 0
AreTold {Key} is_for canonical = (d : Dialect) (x y : Key) → is_for d x ≡ true → is_for d y ≡ true → canonical_change (canonical x) ≡ canonical_change (canonical y) → x ≡ y
