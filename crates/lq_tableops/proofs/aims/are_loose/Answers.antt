use Rattle.std.proofs.Common.{ap, not, sym}
use Rattle.std.specs.Option.{option_copied}
use Rattle.lq_model.specs.Catalogue.{same_names, key_list}
use Rattle.lq_shapes.proofs.CreatedLemmas.{targets_are}
use Rattle.lq_tableops.proofs.aims.are_loose.Goals as goal

pub returns : goal.returns
returns c = rw (c.key_is.ensures, c.unique_is.ensures) (ap not (sym (targets_are (same_names c.args.names.now) (key_list (option_copied c.args.key)) c.args.uniques.now)))
