use Rattle.std.proofs.Common.{refl}
use Rattle.clap.proofs.OnLiterals.{clap_on_literals}
use Rattle.lq_cli.specs.Line.{by_count, counting, drilling, generating, going, job_of, line_after, line_of, line_with, only_target, soak, tagging, to_tag}
use Rattle.lq_cli.specs.Options.{command_of, definitions, given_in, matched, value, contexts_of, file_after, labels_of, number_from, properties_of, tag_of, url_of}
use Rattle.lq_cli.specs.Table.{verb_of}
use Rattle.lq_cli.proofs.laws.required_suffice.Goals as goal

pub returns : goal.returns
unfolding line_of line_after line_with given_in matched command_of value definitions verb_of url_of file_after contexts_of labels_of properties_of clap_on_literals job_of counting going only_target drilling generating soak tagging to_tag by_count number_from tag_of
returns c = refl
