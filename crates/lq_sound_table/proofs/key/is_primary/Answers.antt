use Rattle.std.proofs.Common.{codes, rules, ◌∙◌, ◌≡◌}
use Rattle.std.specs.Str.{bytes_eq}
use Rattle.lq_sound_table.proofs.PieceLemmas.{primary_is}
use Rattle.lq_sound_table.proofs.key.is_primary.Goals as goal

pub returns : goal.returns
returns c =
    let same : c.eq.result ≡ bytes_eq c.args.name.now (codes "PRIMARY") = search rules in
    same ∙ primary_is c.args.name.now
