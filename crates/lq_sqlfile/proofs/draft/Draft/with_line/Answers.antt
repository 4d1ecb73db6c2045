use Rattle.std.proofs.Common.{rules, ◌≡◌, [], ◌∷◌, ◌++◌, false, ap, ◌∙◌, append_assoc}
use Rattle.std.proofs.lemmas.Slice.Eq.{bytes_eq-Decides}
use Rattle.std.specs.List.{list_all}
use Rattle.lq_base.specs.Kind.{is_blank}
use Rattle.lq_sqlfile.specs.File.{with_line}
use Rattle.lq_sqlfile.proofs.draft.Draft.with_line.Goals as goal

pub returns-then-eq : goal.returns-then-eq
unfolding with_line
returns-then-eq c =
    let feed : c.args.self.gap ≡ 10 ∷ [] = (bytes_eq-Decides c.args.self.gap (10 ∷ [])).0 (search rules) in
    let plain : list_all is_blank c.args.line.now ≡ false = search rules in
    let body : c.push_str-3.new.self ≡ c.args.self.body ++ (c.args.self.gap ++ c.args.line.now) =
    c.in_ok-push_str-4.ensures.ok ∙ ap (λ b. b ++ c.args.line.now) (c.in_ok-push_str-3.ensures.ok ∙ ap (λ g. c.args.self.body ++ g) c.as_str.ensures) ∙ append_assoc c.args.self.body c.args.self.gap c.args.line.now in
    rw plain (λ i. record c.args.self { body = body i; gap = feed i })
