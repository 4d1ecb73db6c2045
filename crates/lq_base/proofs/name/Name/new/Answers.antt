use Rattle.lq_base.proofs.NameLemmas.{is_name_key_name, told}
use Rattle.lq_base.proofs.name.Name.new.Goals as goal

pub invariant_of-result : goal.invariant_of-result
invariant_of-result c = told (rw c.in_ok-key.ensures.ok (is_name_key_name c.args.text.now (search c.if-not-is_name.ensures)))
