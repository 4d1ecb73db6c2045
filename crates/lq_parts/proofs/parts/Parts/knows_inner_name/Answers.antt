use Rattle.std.proofs.Common.{subst}
use Rattle.std.specs.Prelude.{IfSome, ◌≡◌}
use Rattle.lq_chain.specs.History.{History}
use Rattle.lq_model.specs.Catalogue.{Catalogue, is_in}
use Rattle.lq_model.specs.NameSpaces.{names_inside}
use Rattle.lq_parts.specs.Taken.{names_in}
use Rattle.lq_parts.proofs.parts.Parts.knows_inner_name.Goals as goal

pub returns : goal.returns
returns c = subst (λ (h : History Catalogue). IfSome c.knows_inner.result (λ found. found ≡ is_in c.args.name.now (names_in names_inside h.now.tables))) c.self.view_is (c.knows_inner.ensures c.self.inside.tables.now c.self.invariant)
