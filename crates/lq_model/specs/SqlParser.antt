-- How what reads SQL text answers: as its definition says, unless memory ran out.
use Rattle.std.specs.Prelude.{Bool, Err, List, None, Ok, Option, Result, Some, [], if◌then◌else◌, length, suc, zero, ℕ, ◌∷◌, ◌≡◌}
use denote.Enum.Bare.{sameb}
use Rattle.lq_model.specs.contracts.word.WordKind.{the_type}
use Rattle.lq_model.specs.declared.fault.ParseFault.{ParseFault}
use Rattle.lq_model.specs.declared.fault.ParseFault.TheVariants.{NotSql, OutOfMemory}
use Rattle.lq_model.specs.declared.word.Word.{Word}
use Rattle.lq_model.specs.declared.word.WordKind.{WordKind}
use Rattle.lq_model.specs.declared.word.WordKind.TheVariants as word

-- what there is, and NotSql exactly where there is nothing
abbrev pub Gives : {A : Type 0} → Option A → Result A ParseFault → Type 0
Gives meant (Ok a) = meant ≡ Some a
Gives meant (Err NotSql) = meant ≡ None
Gives meant (Err OutOfMemory) = Unit {0}

-- the same of a parser, with what it leaves of the words
abbrev pub Reads : {A S : Type 0} → Option (A × S) → Result A ParseFault → S → Type 0
Reads meant (Ok a) rest = meant ≡ Some (a, rest)
Reads meant (Err NotSql) rest = meant ≡ None
Reads meant (Err OutOfMemory) rest = Unit {0}

-- What the rules of the grammar are made of. A parser takes words from the front of some, or refuses them.

-- what was read, and the words after it
abbrev pub Outcome : Type 0 → Type 0
Outcome A = Option (A × List Word)

abbrev pub Parser : Type 0 → Type 0
Parser A = List Word → Outcome A

abbrev pub and_then : {A B : Type 0} → Outcome A → (A → Parser B) → Outcome B
and_then None f = None
and_then (Some found) f = f found.0 found.1

infixl 10 ◌>>=◌
abbrev pub ◌>>=◌ : {A B : Type 0} → Parser A → (A → Parser B) → Parser B
p >>= f = λ i. and_then (p i) f

infixl 10 ◌>>◌
abbrev pub ◌>>◌ : {A B : Type 0} → Parser A → Parser B → Parser B
p >> q = p >>= (λ _. q)

abbrev pub pure : {A : Type 0} → A → Parser A
pure a = λ i. Some (a, i)

abbrev pub refuse : {A : Type 0} → Parser A
refuse = λ i. None

-- what may be there, or a refusal
abbrev pub given : {A : Type 0} → Option A → Parser A
given None = refuse
given (Some a) = pure a

-- the next word

unfoldable pub same_kind : WordKind → WordKind → Bool
same_kind = sameb the_type

abbrev pub kind : List Word → WordKind
kind [] = word.End
kind (w ∷ ws) = w.kind

abbrev pub text : List Word → List ℕ
text [] = []
text (w ∷ ws) = w.text

abbrev pub next : List Word → List Word
next [] = []
next (w ∷ ws) = ws

abbrev pub peek : Parser WordKind
peek = λ i. Some (kind i, i)

abbrev pub skip : Parser (Unit {0})
skip = λ i. Some (tt, next i)

unfoldable pub sees : WordKind → List Word → Bool
sees k i = same_kind (kind i) k

unfoldable pub after : WordKind → List Word → List Word
after k i = if sees k i then next i else i

-- takes a word of this kind, if it comes next
abbrev pub eat : WordKind → Parser Bool
eat k = λ i. Some (sees k i, after k i)

-- takes a word of this kind
unfoldable pub expect : WordKind → Parser (Unit {0})
expect k = λ i. if sees k i then Some (tt, next i) else None

-- the text of the next word, which is taken
abbrev pub taken : Parser (List ℕ)
taken = λ i. Some (text i, next i)

-- what was found, and then those, or none
abbrev pub and_more : {A : Type 0} → Option A → Parser (List A) → Parser (List A)
and_more None more = pure []
and_more (Some x) more = do
  xs ← more
  pure (x ∷ xs)

-- what comes as often as it stands there; it takes words, so that it comes at most so often
unfoldable pub many_of : {A : Type 0} → Parser (Option A) → ℕ → Parser (List A)
many_of item zero = pure []
many_of item (suc more) = item >>= (λ found. and_more found (many_of item more))

unfoldable pub many : {A : Type 0} → Parser (Option A) → Parser (List A)
many item = λ i. many_of item (length i) i

-- a word of this kind and what follows it, or nothing
unfoldable pub led_by : {A : Type 0} → WordKind → Parser A → Parser (Option A)
led_by k item = do
  led ← eat k
  if led then (do x ← item; pure (Some x)) else pure None

-- one or more, with commas between
unfoldable pub separated : {A : Type 0} → Parser A → Parser (List A)
separated item = do
  first ← item
  more ← many (led_by word.Comma item)
  pure (first ∷ more)

-- a list in parentheses
unfoldable pub enclosed : {A : Type 0} → Parser A → Parser (List A)
enclosed item = do
  expect word.Open
  found ← separated item
  expect word.Close
  pure found

-- what was read, at the end of the text, before which a `;` may stand
unfoldable pub ended : {A : Type 0} → A → Parser A
ended it = do
  eat word.Semicolon
  expect word.End
  pure it

-- with nothing after it
abbrev pub to_end : {A : Type 0} → Parser A → Parser A
to_end parser = parser >>= ended
