use Rattle.std.proofs.Common.{◌≡◌, length, None, refl, arith}
use Rattle.std.specs.List.{position_or_len}
use Rattle.std.proofs.lemmas.Str.Pattern.{split_once_first}
use Rattle.lq_report.specs.Mark.{mark_of}
use Rattle.lq_words.specs.Words.{is_bar}
use Rattle.lq_report.proofs.Bars.{no_bar_no_mark}
use Rattle.lq_report.proofs.mark.mark_of.Goals as goal

pub returns-in_err-marked : goal.returns-in_err-marked
returns-in_err-marked c =
    let none : position_or_len is_bar c.args.by.now ≡ length c.args.by.now = split_once_first 124 c.args.by.now None c.in_err-marked.ensures.cases (omega arith) in
    let unmarked : mark_of c.args.by.now ≡ None = no_bar_no_mark c.args.by.now none in
    rw (c.from_residual.ensures, unmarked) refl
