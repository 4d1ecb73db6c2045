use Rattle.laws_codec.proofs.Whole.{is_catalogue_codec}
use Rattle.laws_codec.proofs.laws.fronts_are_read.Goals as goal

pub returns : goal.returns
returns c = is_catalogue_codec
