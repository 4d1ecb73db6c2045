use Rattle.std.proofs.Common.{◌≡◌, ◌∙◌, subst, true}
use Rattle.lq_base.specs.Name.{is_name_key, text_of}
use Rattle.lq_base.proofs.NameLemmas.{within-beside}
use Rattle.lq_base.proofs.name.Name.beside.Goals as goal

pub returns-in-Ok : goal.returns-in-Ok
returns-in-Ok c =
    let known : is_name_key c.args.other.now ≡ true = subst (λ key. is_name_key key ≡ true) c.other.view_is c.other.invariant in
    c.in-Ok.ensures.value ∙ rw (c.schema.ensures.value, c.text.ensures.value) (within-beside c.args.other.now (text_of c.args.self.now) known)
