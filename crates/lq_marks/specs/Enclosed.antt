-- What no delimiter stands in.
use Rattle.std.specs.Prelude.{Bool, false, true}
use Rattle.lq_base.specs.declared.lexeme.LexemeSort.{LexemeSort}
use Rattle.lq_base.specs.declared.lexeme.LexemeSort.TheVariants.{BlockComment, LineComment, Name, Text}

-- strings, quoted names and comments, in which no delimiter counts
abbrev pub is_enclosed : LexemeSort → Bool
is_enclosed LineComment = true
is_enclosed BlockComment = true
is_enclosed Name = true
is_enclosed Text = true
is_enclosed _ = false
