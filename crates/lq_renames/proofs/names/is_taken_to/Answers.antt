use Rattle.std.proofs.Common.{ap, sym, ◌||◌, ◌∙◌}
use Rattle.lq_model.specs.NameSpaces.{is_taken}
use Rattle.lq_renames.proofs.Renamed.{grouped, lock_key_two, two}
use Rattle.lq_renames.proofs.names.is_taken_to.Goals as goal

pub returns : goal.returns
returns c =
    two c.is_taken.ensures c.takes_lock_key.ensures ∙ grouped (is_taken c.args.dialect c.args.to.now c.args.parts.now.now) _ _
    ∙ ap (λ b. is_taken c.args.dialect c.args.to.now c.args.parts.now.now || b) (sym (lock_key_two c.args.by c.args.dialect c.args.name.now c.args.to.now))
