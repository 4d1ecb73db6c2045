use Rattle.std.proofs.Common.{subst, sym, true, ◌++◌, ◌≡◌}
use Rattle.std.specs.Result.{OnOk}
use Rattle.lq_base.specs.declared.value.Value.{Value}
use Rattle.lq_codec.specs.Values.{value_codec}
use Rattle.lq_coded.proofs.values.ValueCoded.write.Goals as goal

pub returns-in-Text-clause-bytes : goal.returns-in-Text-clause-bytes
unfolding value_codec
returns-in-Text-clause-bytes c =
    subst (λ (x : Value). OnOk c.append_at-in-Text.result (c.append_at-in-Text.new.to.items ≡ c.args.to.now.items ++ value_codec.write x)) (sym c.in-Text.is) c.append_at-in-Text.ensures.bytes

pub returns-in-Text-clause-fits : goal.returns-in-Text-clause-fits
unfolding value_codec
returns-in-Text-clause-fits c =
    subst (λ (x : Value). OnOk c.append_at-in-Text.result (value_codec.ok x ≡ true)) (sym c.in-Text.is) c.append_at-in-Text.ensures.fits
