use Rattle.std.proofs.Common.{ap, subst, true, ◌∙◌, ◌≡◌}
use Rattle.lq_codec.specs.Tables.{bytes_of, can_be_written}
use Rattle.lq_codec.specs.State.{OnTrue}
use Rattle.lq_model.specs.Catalogue.{Catalogue}
use Rattle.lq_snap.proofs.SoundShape.{reads_back}
use Rattle.lq_snap.proofs.writing.write.Goals as goal
use Rattle.lq_state.specs.Shaped.{is_shaped_whole}

pub returns-clause-bytes : goal.returns-clause-bytes
returns-clause-bytes c = c.in_ok-bytes.ensures.bytes ∙ ap bytes_of c.parts.ensures.now

pub returns-clause-reads : goal.returns-clause-reads
returns-clause-reads c =
    let fits = subst (λ (k : Catalogue). OnTrue (is_shaped_whole k) (can_be_written k ≡ true)) c.parts.ensures.now c.in_ok-bytes.ensures.fits in
    reads_back c.args.engine.now.dialect c.args.engine.now.now c.in_ok-bytes.bytes.items c.sound.ensures fits (c.in_ok-bytes.ensures.bytes ∙ ap bytes_of c.parts.ensures.now)
