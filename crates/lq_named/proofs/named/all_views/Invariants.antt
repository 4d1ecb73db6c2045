use Rattle.std.proofs.Common.{◌≡◌, drop}
use Rattle.std.specs.List.{list_all}
use Rattle.lq_base.specs.Name.{is_name_key}
use Rattle.lq_base.specs.declared.name.Name.{Name}
use Rattle.lq_model.specs.Catalogue.{View}
use Rattle.lq_named.proofs.named.all_views.Given as goal

abbrev pub invariant-loop-view : goal.invariant-loop-view
invariant-loop-view l = list_all (λ (v : Name × View). is_name_key v.0) (drop l.view-index l.views) ≡ list_all (λ (v : Name × View). is_name_key v.0) l.views
