use Rattle.std.proofs.Common.{◌≡◌, subst, true}
use Rattle.lq_base.specs.Name.{is_name_key}
use Rattle.lq_base.proofs.NameLemmas.{names_tell_keys}
use Rattle.lq_base.proofs.name.Name.text.Goals as goal

pub returns-in-Some-clause-name : goal.returns-in-Some-clause-name
returns-in-Some-clause-name c = (names_tell_keys c.args.self.now (subst (λ key. is_name_key key ≡ true) c.self.view_is c.self.invariant)).1

pub returns-in-None-clause-name : goal.returns-in-None-clause-name
returns-in-None-clause-name c = (names_tell_keys c.args.self.now (subst (λ key. is_name_key key ≡ true) c.self.view_is c.self.invariant)).1
