use Rattle.std.proofs.Common.{subst, sym, true, ◌++◌, ◌≡◌}
use Rattle.std.specs.Result.{OnOk}
use Rattle.lq_base.specs.declared.literal.Literal.{Literal}
use Rattle.lq_codec.specs.Values.{literal_codec}
use Rattle.lq_coded.proofs.values.LiteralCoded.write.Goals as goal

pub returns-in-Fixed-clause-bytes : goal.returns-in-Fixed-clause-bytes
unfolding literal_codec
returns-in-Fixed-clause-bytes c =
    subst (λ (x : Literal). OnOk c.append_two_at.result (c.append_two_at.new.to.items ≡ c.args.to.now.items ++ literal_codec.write x)) (sym c.in-Fixed.is) c.append_two_at.ensures.bytes

pub returns-in-Fixed-clause-fits : goal.returns-in-Fixed-clause-fits
unfolding literal_codec
returns-in-Fixed-clause-fits c =
    subst (λ (x : Literal). OnOk c.append_two_at.result (literal_codec.ok x ≡ true)) (sym c.in-Fixed.is) c.append_two_at.ensures.fits
