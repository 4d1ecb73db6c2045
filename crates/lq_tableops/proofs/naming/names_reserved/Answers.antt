use Rattle.std.proofs.Common.{ap, map, ◌∙◌}
use Rattle.lq_model.specs.NameSpaces.{is_reserved}
use Rattle.lq_model.specs.Catalogue.{constraint_names}
use Rattle.lq_shapes.specs.Created.{made}
use Rattle.lq_tableops.proofs.NamingLemmas as lemma
use Rattle.lq_tableops.proofs.naming.names_reserved.Goals as goal

pub returns : goal.returns
returns c = λ cs.
    let new = c.args.new.now in
    c.one_reserved.ensures ∙ ap (λ ns. is_reserved c.args.by (lemma.named ns)) c.as_slice.ensures
    ∙ ap (is_reserved c.args.by) (lemma.two_more new.name.now (constraint_names (made cs new.key.now new.uniques.now new.foreign.now)) (map (λ f. f.table) new.foreign.now) (lemma.named c.push.new.self) (lemma.named c.push_constraints.new.to) (lemma.named c.push_targets.new.to)
    (lemma.begun c.new-names.result c.push.new.self new.name c.new-names.ensures c.in_ok-push.ensures.ok) (c.in_ok-push_constraints.ensures cs) c.in_ok-push_targets.ensures)
