use Rattle.std.proofs.Common.{rules, ◌≡◌, length, sym, ap, ◌∙◌}
use Rattle.lq_parse.specs.Kinds.{words_kept}
use Rattle.lq_parse.proofs.Kept.{length_kept}
use Rattle.lq_parse.proofs.cursor.Words.left.Goals as goal

pub returns : goal.returns
returns c =
    let is : c.args.self.now ≡ words_kept c.self.inside.kinds.now c.self.inside.texts.now = search rules in
    sym (ap length is ∙ length_kept c.self.inside.kinds.now c.self.inside.texts.now)
