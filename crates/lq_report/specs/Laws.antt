-- What holds of the definitions.
use Rattle.std.specs.List.{after_first, list_any}
use Rattle.std.specs.Prelude.{List, None, Some, codes, false, true, ℕ, ◌++◌, ◌≡◌}
use Rattle.lq_report.specs.Mark.{form_text, is_count, mark_of}
use Rattle.lq_report.specs.declared.mark.Form.{Form}
use Rattle.lq_words.specs.Words.{is_bar}

-- WHO before its first bar, the identity, and the statement's number, perhaps behind `undo ` or `back `
abbrev pub written : List ℕ → List ℕ → Form → List ℕ → List ℕ
written who identity form statement = who ++ codes "|" ++ identity ++ codes "|" ++ form_text form ++ statement

-- a mark is read as what was written
abbrev pub MarksAreRead : Type 0
MarksAreRead = (who identity statement : List ℕ) (form : Form) → list_any is_bar who ≡ false → is_count statement ≡ true
    → mark_of (written who identity form statement) ≡ Some (identity, form, statement)

-- what has no bar behind its first one has no mark
abbrev pub NoMarkWithoutBars : Type 0
NoMarkWithoutBars = (by : List ℕ) → list_any is_bar (after_first is_bar by) ≡ false → mark_of by ≡ None
