use Rattle.std.proofs.Common.{subst, sym, true, ◌++◌, ◌≡◌}
use Rattle.std.specs.Result.{OnOk}
use Rattle.lq_base.specs.declared.kind.Kind.{Kind}
use Rattle.lq_codec.specs.Values.{kind_codec}
use Rattle.lq_coded.proofs.kinds.KindCoded.write.Goals as goal

pub returns-in-Boolean-clause-bytes : goal.returns-in-Boolean-clause-bytes
unfolding kind_codec
returns-in-Boolean-clause-bytes c =
    subst (λ (k : Kind). OnOk c.append_place-in-Boolean.result (c.append_place-in-Boolean.new.to.items ≡ c.args.to.now.items ++ kind_codec.write k)) (sym c.in-Boolean.is) c.append_place-in-Boolean.ensures.bytes

pub returns-in-Boolean-clause-fits : goal.returns-in-Boolean-clause-fits
unfolding kind_codec
returns-in-Boolean-clause-fits c =
    subst (λ (k : Kind). OnOk c.append_place-in-Boolean.result (kind_codec.ok k ≡ true)) (sym c.in-Boolean.is) c.append_place-in-Boolean.ensures.fits
