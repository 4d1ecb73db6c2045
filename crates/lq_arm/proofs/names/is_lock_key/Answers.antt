use Rattle.std.proofs.Common.{codes, rules, ◌∙◌, ◌≡◌}
use Rattle.std.specs.Str.{bytes_eq}
use Rattle.lq_arm.proofs.NameLemmas.{lock_key_is}
use Rattle.lq_arm.proofs.names.is_lock_key.Goals as goal

pub returns : goal.returns
returns c =
    let same : c.eq.result ≡ bytes_eq c.args.name.now (codes "pk_DATABASECHANGELOGLOCK") = search rules in
    same ∙ lock_key_is c.args.name.now
