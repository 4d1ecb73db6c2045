use Rattle.std.proofs.Common.{rules, ◌≡◌, ◌<◌, length, sym, ap, ◌∙◌, List}
use Rattle.lq_model.specs.SqlParser as spec
use Rattle.lq_model.specs.declared.word.Word.{Word}
use Rattle.lq_model.specs.declared.word.WordKind.TheVariants.{End}
use Rattle.lq_parse.specs.Kinds.{words_kept}
use Rattle.lq_parse.proofs.Kept.{no_second}
use Rattle.lq_parse.proofs.cursor.Words.sees_second.Goals as goal

pub returns-in_default : goal.returns-in_default
returns-in_default c =
    let is : c.args.self.now ≡ words_kept c.self.inside.kinds.now c.self.inside.texts.now = search rules in
    let end : c.same_kind.result ≡ spec.same_kind End c.args.kind = search rules in
    let few : length c.self.inside.kinds.now < 2 = search rules in
    end ∙ sym (ap (λ (ws : List Word). spec.sees c.args.kind (spec.next ws)) is ∙ no_second c.args.kind c.self.inside.kinds.now c.self.inside.texts.now few)
