use Rattle.std.proofs.Common.{rules, sym, ◌∙◌, ◌≡◌}
use Rattle.std.specs.List.{list_any}
use Rattle.lq_model.specs.Catalogue.{by_name, is_null}
use Rattle.lq_keyops.proofs.MetLemmas.{nulls_are}
use Rattle.lq_keyops.proofs.equal.has_null_in.Goals as goal

pub returns : goal.returns
returns c =
    let it = c.args.held.now.now in
    let ns = c.args.names.now in
    let found : c.null_found.result ≡ list_any (λ row. list_any (λ n. is_null (by_name it.columns row n)) ns) it.rows = search rules in
    found ∙ sym (nulls_are it ns)
