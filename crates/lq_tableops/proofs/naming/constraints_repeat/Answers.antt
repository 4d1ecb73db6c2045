use Rattle.std.proofs.Common.{ap, ◌∙◌}
use Rattle.lq_model.specs.Catalogue.{repeats, constraint_names}
use Rattle.lq_shapes.specs.Created.{made}
use Rattle.lq_tableops.proofs.NamingLemmas as lemma
use Rattle.lq_tableops.proofs.naming.constraints_repeat.Goals as goal

pub returns : goal.returns
returns c = λ cs.
    let new = c.args.new.now in
    c.in_ok-found.ensures ∙ ap (λ ns. repeats (lemma.named ns)) c.as_slice.ensures
    ∙ ap repeats (lemma.filled c.new-names.result c.push_constraints.new.to (constraint_names (made cs new.key.now new.uniques.now new.foreign.now)) c.new-names.ensures (c.in_ok-push_constraints.ensures cs))
