use Rattle.std.proofs.Common.{Some, rules, ◌∷◌, ◌≡◌}
use Rattle.lq_one_row.proofs.OnlyLemmas.{first_begins_some}
use Rattle.lq_one_row.proofs.only.first_of.Goals as goal

pub returns-in-Some-split_first : goal.returns-in-Some-split_first
returns-in-Some-split_first c =
    let asked : c.args.test.now ≡ Some c.in-Some.test = search rules in
    let columns : c.args.columns.now ≡ c.in-Some-split_first.first.now ∷ c.in-Some-split_first.field-0-1.now = search rules in
    first_begins_some c.args.test.now c.in-Some.test c.args.columns.now c.in-Some-split_first.first.now c.in-Some-split_first.field-0-1.now c.text_of.result asked columns c.text_of.ensures
