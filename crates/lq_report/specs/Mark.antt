-- The mark in LOCKEDBY, which tells the statement at which a changeset was that is not one transaction.
use Rattle.std.specs.List.{after_first}
use Rattle.std.specs.Prelude.{Bool, List, None, Option, Some, [], codes, drop, false, if◌then◌else◌, not, option_and_then, slice_index, true, ℕ, ◌&&◌, ◌++◌, ◌==◌, ◌∷◌}
use Rattle.lq_base.specs.Number.{is_digits}
use Rattle.lq_base.specs.Sql.{begins}
use Rattle.lq_base.specs.declared.tracking.Lock.{Lock}
use Rattle.lq_report.specs.declared.mark.Form.{Form}
use Rattle.lq_report.specs.declared.mark.Form.TheVariants.{Back, Run, Undo}
use Rattle.lq_words.specs.Words.{is_bar}

-- what stands before the last `|` of a text, and behind it
unfoldable pub at_last_bar : List ℕ → Option (List ℕ × List ℕ)
at_last_bar [] = None
at_last_bar (b ∷ bs) = elim (at_last_bar bs) [ Some parts ↦ Some (b ∷ parts.0, parts.1) | None ↦ if is_bar b then Some ([], bs) else None ]

-- a whole number from 1 in decimal digits, without leading zeros
abbrev pub is_count : List ℕ → Bool
is_count text = is_digits text && not (slice_index text 0 == 48)

-- what stands before the number
abbrev pub form_text : Form → List ℕ
form_text Run = []
form_text Undo = codes "undo "
form_text Back = codes "back "

-- the end of a mark, `K`, `undo K` or `back K`: whether statement K takes something back, and K
abbrev pub statement_of : List ℕ → Form × List ℕ
statement_of text = if begins (codes "undo ") text then (Undo, drop 5 text) else if begins (codes "back ") text then (Back, drop 5 text) else (Run, text)

-- a mark: the changeset's identity, whether the statement takes something back, and its number
abbrev pub Marked : Type 0
Marked = List ℕ × Form × List ℕ

abbrev pub marked : List ℕ → Form × List ℕ → Option Marked
marked identity statement = if is_count statement.1 then Some (identity, statement.0, statement.1) else None

-- the mark of `WHO|IDENTITY|K`, `WHO|IDENTITY|undo K` or `WHO|IDENTITY|back K`; none of any other text
unfoldable pub mark_of : List ℕ → Option Marked
mark_of by = option_and_then (λ parts. marked parts.0 (statement_of parts.1)) (at_last_bar (after_first is_bar by))

-- the mark of a lock, of which LOCKEDBY may be null
abbrev pub lock_mark : Lock → Option Marked
lock_mark lock = option_and_then mark_of lock.by

abbrev pub form_words : Form → List ℕ
form_words Run = codes ", statement "
form_words Undo = codes ", undo statement "
form_words Back = codes ", back statement "

-- `IDENTITY, statement K`, `IDENTITY, undo statement K` or `IDENTITY, back statement K`
abbrev pub mark_text : Marked → List ℕ
mark_text mark = mark.0 ++ form_words mark.1 ++ mark.2
