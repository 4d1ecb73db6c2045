use Rattle.std.proofs.Common.{ap, ◌∙◌, ◌∷◌}
use Rattle.std.specs.List.{list_any}
use Rattle.lq_model.specs.NameSpaces.{shared_names}
use Rattle.lq_model.specs.Catalogue.{is_in, inner_names, placed}
use Rattle.lq_shapes.specs.Created.{made}
use Rattle.lq_tableops.proofs.NamingLemmas as lemma
use Rattle.lq_tableops.proofs.naming.shared_taken.Goals as goal

pub returns-clause-found : goal.returns-clause-found
returns-clause-found c = λ cs.
    let new = c.args.new.now in
    c.in_ok-found.ensures.found
    ∙ ap (λ ns. list_any (λ n. is_in n (shared_names c.args.parts.now.now)) (new.name.now ∷ placed new.name.now (lemma.named ns))) c.as_slice.ensures
    ∙ ap (λ ns. list_any (λ n. is_in n (shared_names c.args.parts.now.now)) (new.name.now ∷ placed new.name.now ns)) (lemma.filled c.new-names.result c.push_inner.new.to (inner_names (made cs new.key.now new.uniques.now new.foreign.now)) c.new-names.ensures (c.in_ok-push_inner.ensures cs))
