-- Words that are kept as their kinds, and as the texts of those that may have one. What the code computes: it need not be believed.
use Rattle.std.specs.List.{fold}
use Rattle.std.specs.Prelude.{Bool, Err, List, None, Ok, Result, Some, [], cond, false, length, suc, true, ℕ, ◌<◌, ◌||◌, ◌∷◌, ◌≡◌}
use Rattle.std.specs.Str.{IsUtf8}
use Rattle.std.specs.declared.alloc.Global.{Global}
use denote.Ref.{MutBor}
use Rattle.lq_model.specs.Comparison.{levels}
use Rattle.lq_model.specs.SqlParser.{Outcome, Parser, Reads, led_by, many, pure, ◌>>=◌}
use Rattle.lq_model.specs.SqlWord.{may_be_name, with_text}
use Rattle.lq_model.specs.declared.fault.ParseFault.{ParseFault}
use Rattle.lq_model.specs.declared.fault.ParseFault.TheVariants.{NotSql, OutOfMemory}
use Rattle.lq_model.specs.declared.test.Test.{Test}
use Rattle.lq_model.specs.declared.word.Word.{Word}
use Rattle.lq_model.specs.declared.word.WordKind.{WordKind}
use Rattle.lq_model.specs.declared.word.WordKind.TheVariants as word

abbrev pub is_literal : WordKind → Bool
is_literal word.Number = true
is_literal word.Text = true
is_literal _ = false

-- whether a word of this kind may have a text
abbrev pub has_text : WordKind → Bool
has_text kind = may_be_name kind || is_literal kind

-- the text of a word that may have one is the first of the texts
abbrev pub text_if : Bool → List (List ℕ) → List ℕ
text_if true (t ∷ ts) = t
text_if true [] = []
text_if false ts = []

abbrev pub texts_behind : Bool → List (List ℕ) → List (List ℕ)
texts_behind true (t ∷ ts) = ts
texts_behind true [] = []
texts_behind false ts = ts

abbrev pub words_kept : List WordKind → List (List ℕ) → List Word
words_kept [] ts = []
words_kept (k ∷ ks) ts = with_text k (text_if (has_text k) ts) ∷ words_kept ks (texts_behind (has_text k) ts)

abbrev pub texts_of : List WordKind → ℕ
texts_of [] = 0
texts_of (k ∷ ks) = cond (has_text k) (suc (texts_of ks)) (texts_of ks)

-- there are as many texts as words that may have one
abbrev pub AreEven : List WordKind → List (List ℕ) → Type 0
AreEven ks ts = length ts ≡ texts_of ks

-- A function value that reads what a parser reads.

pub record Meets {A : Type 0} (p : Parser A) (post : Global → MutBor (List Word) → Result A ParseFault → MutBor (List Word) → Type 0) : Type 0 where
  pub reads : (alloc : Global) (old new : MutBor (List Word)) (r : Result A ParseFault) → post alloc old r new → Reads (p old.now) r new.now

-- How the parts of a test are read, of which at most 64 levels are made.

-- no test of at most so many levels
abbrev pub Exceeds : ℕ → Outcome Test → Type 0
Exceeds n None = Unit {0}
Exceeds n (Some found) = n < levels found.0

-- what there is, and NotSql only where there is no such test
abbrev pub ReadsUpTo : ℕ → Outcome Test → Result Test ParseFault → List Word → Type 0
ReadsUpTo n meant (Ok t) rest = meant ≡ Some (t, rest)
ReadsUpTo n meant (Err NotSql) rest = Exceeds n meant
ReadsUpTo n meant (Err OutOfMemory) rest = Unit {0}

-- a test with those that follow it, each led by a word of this kind, joined to the left
abbrev pub joined : (Test → Test → Test) → WordKind → Parser Test → Test → Parser Test
joined join k item left = do
  more ← many (led_by k item)
  pure (fold join left more)

-- Words whose texts are UTF-8.

abbrev pub AreTexts : List Word → Type 0
AreTexts [] = Unit {0}
AreTexts (w ∷ ws) = IsUtf8 w.text × AreTexts ws
