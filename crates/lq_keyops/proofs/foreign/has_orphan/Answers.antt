use Rattle.std.proofs.Common.{not, rules, ◌&&◌, ◌∙◌, ◌≡◌}
use Rattle.std.specs.BTreeSet.{contains}
use Rattle.std.specs.List.{list_any}
use Rattle.lq_model.specs.Catalogue.{is_null, picked}
use Rattle.lq_rows.specs.Stored.{values_cmp, ShowsRows}
use Rattle.lq_keyops.proofs.MetLemmas.{orphans_are}
use Rattle.lq_keyops.proofs.foreign.has_orphan.Goals as goal

pub returns : goal.returns
returns c =
    let target = c.args.target.now.now in
    let it = c.args.held.now.now in
    let f = c.args.key.now in
    let known = c.in_ok-known.known in
    let shows : ShowsRows target.columns f.targets target.rows known = search rules in
    let found : c.in_ok-found.found ≡ list_any (λ r. not (list_any is_null (picked it.columns f.columns r)) && not (contains values_cmp known (picked it.columns f.columns r))) it.rows = search rules in
    found ∙ orphans_are target it f known shows
