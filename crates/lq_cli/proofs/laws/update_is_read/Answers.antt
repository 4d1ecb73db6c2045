use Rattle.std.proofs.Common.{refl}
use Rattle.clap.proofs.OnLiterals.{clap_on_literals}
use Rattle.lq_cli.specs.Options.{command_of, definitions, given_in, matched, value, contexts_of, file_after, labels_of, properties_of, url_of, cut_at, definition_of}
use Rattle.lq_cli.specs.Line.{job_of, line_after, line_of, line_with}
use Rattle.lq_cli.specs.Table.{verb_of}
use Rattle.lq_expr.specs.Grammar.{cut, factor}
use Rattle.lq_expr.specs.Words.{runs, word_of, words}
use Rattle.lq_cli.proofs.laws.update_is_read.Goals as goal

pub returns : goal.returns
unfolding line_of line_after line_with given_in matched command_of value definitions verb_of url_of file_after contexts_of labels_of properties_of clap_on_literals job_of cut_at definition_of cut factor runs word_of words
returns c = refl
