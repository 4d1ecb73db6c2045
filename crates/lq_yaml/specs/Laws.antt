-- How what the functions on characters find is tied to the definitions.
use Rattle.std.specs.Prelude.{Bool, List, None, Option, Some, Vec, [], cond, false, option_map, suc, true, zero, ℕ, ◌++◌, ◌+◌, ◌<◌, ◌==◌, ◌↔◌, ◌∷◌, ◌≡◌, ◌⊎◌}
use Rattle.std.specs.declared.alloc.Global.{Global}
use denote.Ref.{Bor}
use Rattle.lq_yaml.specs.File.{most_levels}
use Rattle.lq_yaml.specs.Line.{Found, Front, Lexed, begins_with, by_escape, front, stops, tokens_at, tokens_of}
use Rattle.lq_yaml.specs.Made.{AreBlanks, HasLast, IsContent, IsDouble, IsFile, IsPlain, IsSingle}
use Rattle.lq_yaml.specs.Tree.{is_blank}
use Rattle.lq_yaml.specs.Yaml.{State}
use Rattle.lq_yaml.specs.declared.front.Front as code
use Rattle.lq_yaml.specs.declared.line.Line as line
use Rattle.lq_yaml.specs.declared.mode.Mode.TheVariants.{Fresh}
use Rattle.lq_yaml.specs.declared.token.Head.TheVariants.{Dash}
use Rattle.lq_yaml.specs.declared.token.Token.{Token}
use Rattle.lq_yaml.specs.declared.token.Token.TheVariants.{Begin, LiteralHeader, LiteralLine, Value}

abbrev pub Gives : Option (Vec ℕ Global × Bor (List ℕ)) → Option Found → Type 0
Gives None meant = meant ≡ None
Gives (Some x) meant = meant ≡ Some (x.0.items, x.1.now)

abbrev pub Follows : {A : Type 0} → Option (A × Bor (List ℕ)) → Option (A × List ℕ) → Type 0
Follows None meant = meant ≡ None
Follows (Some x) meant = meant ≡ Some (x.0, x.1.now)

-- the next character that is meant and what follows, or the end and what follows
abbrev pub one : List ℕ → Option (Option ℕ × List ℕ)
one [] = None
one (c ∷ cs) = cond (c == 34) (Some (None, cs)) (cond (c == 92) (option_map (λ x. (Some x.0, x.1)) (by_escape cs)) (Some (Some c, cs)))

abbrev pub shown_front : code.Front → Front
shown_front f = record { chars = f.chars.items; plain = f.plain; rest = f.rest.now }

abbrev pub shown_line : line.Line → Lexed
shown_line l = (l.tokens.items, l.mode)

-- What is made as the definitions say is what the reader's functions find, in both directions.

-- where a plain scalar goes on no further
abbrev pub IsStop : List ℕ → Type 0
IsStop [] = Unit {0}
IsStop (c ∷ cs) = stops c cs ≡ true

-- a scalar, and what follows
pub data IsFront (text : List ℕ) (f : Front) : Type 0 where
  in_single : (scalar : List ℕ) → text ≡ scalar ++ f.rest → IsSingle scalar f.chars → begins_with 39 f.rest ≡ false → f.plain ≡ false → IsFront text f
  in_double : (scalar : List ℕ) → text ≡ scalar ++ f.rest → IsDouble scalar f.chars → f.plain ≡ false → IsFront text f
  as_plain : (gap : List ℕ) → text ≡ f.chars ++ (gap ++ f.rest) → IsPlain f.chars → AreBlanks gap → IsStop f.rest → f.plain ≡ true → IsFront text f

-- where a text begins with no blank, the scalar at its front is the one that the reader finds
abbrev pub ScalarsAreFound : Type 0
ScalarsAreFound = (c : ℕ) (cs : List ℕ) (f : Front) → is_blank c ≡ false → (front (c ∷ cs) ≡ Some f) ↔ IsFront (c ∷ cs) f

-- the same for what begins at a column and does not end with a blank
abbrev pub ContentsAreFound : Type 0
ContentsAreFound = (column c last : ℕ) (cs : List ℕ) (tokens : List Token) → is_blank c ≡ false → HasLast (c ∷ cs) last → is_blank last ≡ false
    → (tokens_at column (c ∷ cs) ≡ Some tokens) ↔ IsContent column (c ∷ cs) tokens

-- the tokens of all lines of a file are those that the reader finds
abbrev pub FilesAreFound : Type 0
FilesAreFound = (lines : List (List ℕ)) (tokens : List Token) → (tokens_of Fresh lines ≡ Some tokens) ↔ IsFile lines tokens

-- lines are made of one list of tokens at most
abbrev pub LinesMeanOne : Type 0
LinesMeanOne = (lines : List (List ℕ)) (a b : List Token) → IsFile lines a → IsFile lines b → a ≡ b

-- A line of many dashes without those that no tree of 64 levels has. What the code computes: it need not be believed.

abbrev pub with_room : ℕ → Token → (ℕ → List Token) → List Token
with_room zero t more = more zero
with_room (suc room) t more = t ∷ more room

-- the tokens without the dashes at their front but so many
abbrev pub shallow : ℕ → List Token → List Token
shallow room [] = []
shallow room (Begin q Dash ∷ ts) = with_room room (Begin q Dash) (λ n. shallow n ts)
shallow room (t ∷ ts) = t ∷ ts

-- one dash more than a tree may have levels
abbrev pub enough : ℕ
enough = most_levels + 1

-- each token but the last begins an entry, and each stands deeper than the one before
abbrev pub Rises : ℕ → List Token → Type 0
Rises q [] = Unit {0}
Rises q (Begin r h ∷ ts) = (q < r) × Rises r ts
Rises q (Value r v ∷ ts) = (q < r) × (ts ≡ [])
Rises q (LiteralHeader r chomping ∷ ts) = (q < r) × (ts ≡ [])
Rises q (LiteralLine l ∷ ts) = ⊥

-- the line without dashes, if those that stand in it are too many
pub record IsShallow (l : line.Line) (x : Lexed) : Type 0 where
  pub tokens : l.tokens.items ≡ shallow enough x.0
  pub rises : Rises 0 x.0
  pub mode : shallow enough x.0 ≡ x.0 → l.mode ≡ x.1

abbrev pub Shows : Option line.Line → Option Lexed → Type 0
Shows None meant = meant ≡ None
Shows (Some l) meant = (x : Lexed) × (meant ≡ Some x) × ((shown_line l ≡ x) ⊎ IsShallow l x)

-- both states are deeper than a tree may be
pub record AreDeep (meant : Option State) (new : State) : Type 0 where
  pub state : State
  pub leads : meant ≡ Some state
  pub deep : most_levels < state.deep.levels
  pub new_deep : most_levels < new.deep.levels

-- whether a line was taken, and where that leads, if not too deep
abbrev pub Enters : Bool → Option State → State → Type 0
Enters true meant new = (meant ≡ Some new) ⊎ AreDeep meant new
Enters false meant new = meant ≡ None
