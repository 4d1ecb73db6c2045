use Rattle.std.proofs.Common.{List, ap, subst, sym, ◌∙◌}
use Rattle.std.specs.List.Sorted.{IsStrictlySortedBy}
use Rattle.lq_base.specs.Name.{name_cmp}
use Rattle.lq_base.specs.declared.name.Name.{Name}
use Rattle.lq_engine.proofs.NameLemmas.{names_rise}
use Rattle.lq_engine.proofs.engine.Engine.names.Goals as goal
use Rattle.lq_engine.specs.State.{names_of}
use Rattle.lq_model.specs.Catalogue.{Catalogue}

pub returns-clause-names : goal.returns-clause-names
returns-clause-names c = c.in_ok-names.ensures ∙ ap (λ (k : Catalogue). names_of c.args.sort k) c.parts.ensures.now

pub returns-clause-rise : goal.returns-clause-rise
returns-clause-rise c =
    let e = c.args.self.now in
    let are = c.in_ok-names.ensures ∙ ap (λ (k : Catalogue). names_of c.args.sort k) c.parts.ensures.now in
    subst (λ (ns : List Name). IsStrictlySortedBy name_cmp ns) (sym are) (names_rise c.args.sort e.dialect e.now c.sound.ensures)
