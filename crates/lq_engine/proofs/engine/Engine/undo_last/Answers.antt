use Rattle.std.proofs.Common.{ap, reverse, rules, subst, sym, ◌++◌, ◌∙◌, ◌≡◌, ◌∷◌, []}
use Rattle.lq_engine.specs.State.{IsGood, stands_for, back}
use Rattle.lq_engine.proofs.Marks as lemma
use Rattle.lq_engine.proofs.engine.Engine.undo_last.Goals as goal

pub undo_to-requires : goal.undo_to-requires
undo_to-requires c =
    let popped : c.self.inside.starts.items ≡ c.pop.new.self.items ++ c.in-Some.mark ∷ [] = search rules in
    let marks : reverse c.self.inside.starts.items ≡ c.in-Some.mark ∷ reverse c.pop.new.self.items = ap reverse popped ∙ lemma.newest c.in-Some.mark c.pop.new.self.items in
    lemma.first_mark c.self.inside.dialect c.self.inside.parts c.in-Some.mark (reverse c.pop.new.self.items) (subst (IsGood c.self.inside.dialect c.self.inside.parts) marks c.self.invariant)

pub invariant_of-self : goal.invariant_of-self
invariant_of-self c =
    let popped : c.self.inside.starts.items ≡ c.pop.new.self.items ++ c.in-Some.mark ∷ [] = search rules in
    let marks : reverse c.self.inside.starts.items ≡ c.in-Some.mark ∷ reverse c.pop.new.self.items = ap reverse popped ∙ lemma.newest c.in-Some.mark c.pop.new.self.items in
    rw (c.undo_to.ensures) (lemma.went_back c.self.inside.dialect c.self.inside.parts c.in-Some.mark (reverse c.pop.new.self.items) (subst (IsGood c.self.inside.dialect c.self.inside.parts) marks c.self.invariant))

pub returns-in-Some : goal.returns-in-Some
returns-in-Some c =
    let popped : c.self.inside.starts.items ≡ c.pop.new.self.items ++ c.in-Some.mark ∷ [] = search rules in
    let marks : reverse c.self.inside.starts.items ≡ c.in-Some.mark ∷ reverse c.pop.new.self.items = ap reverse popped ∙ lemma.newest c.in-Some.mark c.pop.new.self.items in
    rw (c.undo_to.ensures) (lemma.went_back_view c.self.inside.dialect c.self.inside.parts c.in-Some.mark (reverse c.pop.new.self.items) (subst (IsGood c.self.inside.dialect c.self.inside.parts) marks c.self.invariant)
    ∙ ap back (ap (stands_for c.self.inside.dialect c.self.inside.parts) (sym marks) ∙ c.self.view_is))
