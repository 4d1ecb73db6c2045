use Rattle.std.proofs.Common.{ap, not, ◌∙◌}
use Rattle.lq_model.specs.Catalogue.{is_in}
use Rattle.lq_model.specs.Truth.{test_names}
use Rattle.lq_sound_table.specs.Pieces.{names_of}
use Rattle.lq_soundly.proofs.TestedLemmas.{not_lacking}
use Rattle.lq_soundly.proofs.tested.test_fits.Goals as goal

pub returns : goal.returns
returns c = ap not c.lacks_column.ensures ∙ not_lacking (λ n. is_in n (names_of c.args.columns.now)) (test_names c.args.test.now)
