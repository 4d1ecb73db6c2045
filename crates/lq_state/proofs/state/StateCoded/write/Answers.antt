use Rattle.std.proofs.Common.{subst, true, ◌++◌, ◌≡◌}
use Rattle.lq_codec.specs.Tables.{catalogue_codec}
use Rattle.lq_codec.specs.State.{OnTrue}
use Rattle.lq_model.specs.Catalogue.{Catalogue}
use Rattle.lq_state.proofs.ShapedLemmas.{state_fits, state_written}
use Rattle.lq_state.proofs.state.StateCoded.write.Goals as goal
use Rattle.lq_state.specs.Shaped.{is_shaped_whole}

pub returns-clause-bytes : goal.returns-clause-bytes
returns-clause-bytes c =
    let whole : Catalogue = record { tables = c.self.inside.tables; views = c.self.inside.views; sequences = c.self.inside.sequences } in
    subst (λ (k : Catalogue). c.write-3.new.to.items ≡ c.args.to.now.items ++ catalogue_codec.write k) c.self.view_is
    (state_written whole c.args.to.now.items c.write.new.to.items c.write-2.new.to.items c.write-3.new.to.items
    c.in_ok-write.ensures.bytes c.in_ok-write-2.ensures.bytes c.in_ok-write-3.ensures.bytes)

pub returns-clause-fits : goal.returns-clause-fits
returns-clause-fits c =
    let whole : Catalogue = record { tables = c.self.inside.tables; views = c.self.inside.views; sequences = c.self.inside.sequences } in
    subst (λ (k : Catalogue). OnTrue (is_shaped_whole k) (catalogue_codec.ok k ≡ true)) c.self.view_is
    (state_fits whole c.in_ok-write.ensures.fits c.in_ok-write-2.ensures.fits c.in_ok-write-3.ensures.fits)
