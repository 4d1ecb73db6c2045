use Rattle.std.proofs.Common.{map, refl}
use Rattle.lq_tableops.proofs.NamingLemmas as lemma
use Rattle.lq_tableops.proofs.naming.clashes_apart.Goals as goal

pub returns-clause-found : goal.returns-clause-found
returns-clause-found c = λ cs.
    let new = c.args.new.now in
    rw (c.has_object-is_there.ensures, c.in_ok-twice.ensures, c.in_ok-foreign_twice.ensures, c.in_ok-taken.ensures.found)
    (lemma.clash_apart new.name.now c.args.parts.now.now cs new.key.now new.uniques.now new.foreign.now (map (λ u. u.name) new.uniques.now) (map (λ f. f.name) new.foreign.now) refl refl)
