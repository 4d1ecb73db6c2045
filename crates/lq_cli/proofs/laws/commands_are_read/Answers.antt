use Rattle.std.proofs.Common.{refl}
use Rattle.clap.proofs.OnLiterals.{clap_on_literals}
use Rattle.lq_cli.specs.Options.{command_of, definitions, given_in, matched, value, contexts_of, file_after, labels_of, properties_of, url_of, number_from, tag_of}
use Rattle.lq_cli.specs.Line.{drilling, generating, job_of, line_after, line_of, line_with, only_target, soak, tagging, by_count}
use Rattle.lq_cli.specs.Table.{verb_of}
use Rattle.lq_cli.proofs.laws.commands_are_read.Goals as goal

pub returns : goal.returns
unfolding line_of line_after line_with given_in matched command_of value definitions verb_of url_of file_after contexts_of labels_of properties_of clap_on_literals job_of only_target drilling generating soak tagging by_count number_from tag_of
returns c = record { release = refl; tag = refl; target = refl; drill = refl; generate = refl; soak = refl }
