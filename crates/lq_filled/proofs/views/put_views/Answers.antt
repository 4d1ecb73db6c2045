use Rattle.std.proofs.Common.{List, ap, ◌++◌, ◌∙◌}
use Rattle.std.specs.FinMap.Entries.{is_sorted}
use Rattle.lq_base.specs.Name.{name_cmp}
use Rattle.lq_base.specs.declared.name.Name.{Name}
use Rattle.lq_model.specs.Catalogue.{View}
use Rattle.lq_filled.proofs.Behind.{twice_turned}
use Rattle.lq_filled.proofs.views.put_views.Goals as goal
use Rattle.lq_filled.specs.With.{with_views}

pub put_all_views-requires : goal.put_all_views-requires
put_all_views-requires c =
    let there = c.args.parts.now.now in
    ap (λ (es : List (Name × View)). is_sorted name_cmp (there.views ++ es)) (twice_turned c.args.views c.in_ok-last_first.last_first c.in_ok-last_first.ensures) ∙ c.requires

pub returns : goal.returns
returns c =
    let there = c.args.parts.now.now in
    c.in_ok-put_all_views.ensures
    ∙ ap (λ (es : List (Name × View)). with_views (there.views ++ es) there) (twice_turned c.args.views c.in_ok-last_first.last_first c.in_ok-last_first.ensures)
