use Rattle.std.proofs.Common.{OnOk, subst, sym, true, ◌++◌, ◌≡◌}
use Rattle.lq_model.specs.declared.query.Wanted.{Wanted}
use Rattle.lq_codec.specs.Queries.{wanted_codec}
use Rattle.lq_coded.proofs.queries.WantedCoded.write.Goals as goal

pub returns-in-Columns-clause-bytes : goal.returns-in-Columns-clause-bytes
unfolding wanted_codec
returns-in-Columns-clause-bytes c =
    subst (λ (w : Wanted). OnOk c.append_names_at.result (c.append_names_at.new.to.items ≡ c.args.to.now.items ++ wanted_codec.write w)) (sym c.in-Columns.is) c.append_names_at.ensures.bytes

pub returns-in-Columns-clause-fits : goal.returns-in-Columns-clause-fits
unfolding wanted_codec
returns-in-Columns-clause-fits c =
    subst (λ (w : Wanted). OnOk c.append_names_at.result (wanted_codec.ok w ≡ true)) (sym c.in-Columns.is) c.append_names_at.ensures.fits
