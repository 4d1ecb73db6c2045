use Rattle.std.proofs.Common.{ap, ◌∙◌, ◌∷◌}
use Rattle.lq_model.specs.NameSpaces.{takes_lock_key}
use Rattle.lq_model.specs.Catalogue.{inner_names, placed}
use Rattle.lq_shapes.specs.Created.{made}
use Rattle.lq_tableops.proofs.NamingLemmas as lemma
use Rattle.lq_tableops.proofs.naming.names_lock_key.Goals as goal

pub returns : goal.returns
returns c = λ cs.
    let new = c.args.new.now in
    c.takes_lock_key.ensures
    ∙ ap (λ ns. takes_lock_key c.args.by c.args.dialect (new.name.now ∷ placed new.name.now (lemma.named ns))) c.as_slice.ensures
    ∙ ap (λ ns. takes_lock_key c.args.by c.args.dialect (new.name.now ∷ placed new.name.now ns)) (lemma.filled c.new-names.result c.push_inner.new.to (inner_names (made cs new.key.now new.uniques.now new.foreign.now)) c.new-names.ensures (c.in_ok-push_inner.ensures cs))
