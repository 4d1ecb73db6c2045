use Rattle.std.proofs.Common.{refl, ◌∷◌}
use Rattle.lq_shapes.specs.Created.{made}
use Rattle.lq_model.specs.Catalogue.{constraint_names, inner_names, placed}
use Rattle.lq_tableops.proofs.NamingLemmas as lemma
use Rattle.lq_tableops.proofs.naming.clashes_shared.Goals as goal

pub returns-clause-found : goal.returns-clause-found
returns-clause-found c = λ cs.
    let new = c.args.new.now in
    let it = made cs new.key.now new.uniques.now new.foreign.now in
    rw (c.in_ok-taken.ensures.found cs, c.in_ok-twice.ensures cs, c.in_ok-own.ensures cs)
    (lemma.clash_shared new.name.now c.args.parts.now.now cs new.key.now new.uniques.now new.foreign.now (constraint_names it) (placed new.name.now (inner_names it)) (new.name.now ∷ placed new.name.now (inner_names it)) refl refl refl)
