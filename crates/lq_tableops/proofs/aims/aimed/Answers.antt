use Rattle.std.proofs.Common.{false, rules, refl, true, ◌≡◌}
use Rattle.lq_base.specs.Name.{is_named}
use Rattle.lq_shapes.specs.Created.{made}
use Rattle.lq_tableops.proofs.AimedLemmas as lemma
use Rattle.lq_tableops.proofs.aims.aimed.Goals as goal

pub returns-then-eq : goal.returns-then-eq
returns-then-eq c =
    let new = c.args.new.now in
    let own : is_named new.name.now c.args.key.now.table ≡ true = search rules in
    lemma.within new.name.now (made c.args.own.now new.key.now new.uniques.now new.foreign.now) c.args.parts.now.now c.args.key.now c.aim_within.result own c.aim_within.ensures

pub returns : goal.returns
returns c =
    let new = c.args.new.now in
    let it = made c.args.own.now new.key.now new.uniques.now new.foreign.now in
    let other : is_named new.name.now c.args.key.now.table ≡ false = search rules in
    lemma.beside new.name.now it c.args.parts.now.now c.args.key.now c.in_ok-aim.aim other (c.in_ok-aim.ensures it refl)
