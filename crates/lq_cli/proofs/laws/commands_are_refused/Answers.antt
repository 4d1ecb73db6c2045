use Rattle.std.proofs.Common.{refl}
use Rattle.clap.proofs.OnLiterals.{clap_on_literals}
use Rattle.lq_cli.specs.Options.{command_of, definitions, given_in, matched, value, contexts_of, file_after, labels_of, number_from, properties_of, tag_of, url_of}
use Rattle.lq_cli.specs.Line.{counting, generating, going, job_of, line_after, line_of, line_with, only_target, soak, tagging}
use Rattle.lq_cli.specs.Table.{verb_of}
use Rattle.lq_expr.specs.Grammar.{cut, factor}
use Rattle.lq_expr.specs.Words.{runs, word_of, words}
use Rattle.lq_cli.proofs.laws.commands_are_refused.Goals as goal

pub returns : goal.returns
unfolding line_of line_after line_with given_in matched command_of value definitions verb_of url_of file_after contexts_of labels_of properties_of clap_on_literals job_of counting generating going only_target soak tagging number_from tag_of cut factor runs word_of words
returns c = refl
