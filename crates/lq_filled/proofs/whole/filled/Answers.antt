use Rattle.std.proofs.Common.{ap, [], ◌++◌, ◌∙◌, ◌≡◌}
use Rattle.std.specs.FinMap.Entries.{is_sorted}
use Rattle.lq_base.specs.Name.{name_cmp}
use Rattle.lq_chain.specs.History.{History}
use Rattle.lq_model.specs.Catalogue.{Catalogue, no_objects}
use Rattle.lq_filled.proofs.WholeLemmas.{in_order}
use Rattle.lq_filled.proofs.whole.filled.Goals as goal
use Rattle.lq_filled.specs.With.{with_sequences, with_tables, with_views}

pub put_tables-requires : goal.put_tables-requires
put_tables-requires c =
    let it = c.state.inside in
    let rise = in_order it.tables it.views it.sequences c.args.state c.state.view_is c.requires in
    ap (λ (h : History Catalogue). is_sorted name_cmp (h.now.tables ++ it.tables)) c.new-parts.ensures ∙ rise.0

pub put_views-requires : goal.put_views-requires
put_views-requires c =
    let it = c.state.inside in
    let rise = in_order it.tables it.views it.sequences c.args.state c.state.view_is c.requires in
    let first : c.put_tables.new.parts.now ≡ with_tables it.tables no_objects
    = c.in_ok-put_tables.ensures ∙ ap (λ (h : History Catalogue). with_tables (h.now.tables ++ it.tables) h.now) c.new-parts.ensures in
    ap (λ (k : Catalogue). is_sorted name_cmp (k.views ++ it.views)) first ∙ rise.1

pub put_sequences-requires : goal.put_sequences-requires
put_sequences-requires c =
    let it = c.state.inside in
    let rise = in_order it.tables it.views it.sequences c.args.state c.state.view_is c.requires in
    let first : c.put_tables.new.parts.now ≡ with_tables it.tables no_objects
    = c.in_ok-put_tables.ensures ∙ ap (λ (h : History Catalogue). with_tables (h.now.tables ++ it.tables) h.now) c.new-parts.ensures in
    let second : c.put_views.new.parts.now ≡ with_views it.views (with_tables it.tables no_objects)
    = c.in_ok-put_views.ensures ∙ ap (λ (k : Catalogue). with_views (k.views ++ it.views) k) first in
    ap (λ (k : Catalogue). is_sorted name_cmp (k.sequences ++ it.sequences)) second ∙ rise.2

pub returns : goal.returns
returns c =
    let it = c.state.inside in
    let first : c.put_tables.new.parts.now ≡ with_tables it.tables no_objects
    = c.in_ok-put_tables.ensures ∙ ap (λ (h : History Catalogue). with_tables (h.now.tables ++ it.tables) h.now) c.new-parts.ensures in
    let second : c.put_views.new.parts.now ≡ with_views it.views (with_tables it.tables no_objects)
    = c.in_ok-put_views.ensures ∙ ap (λ (k : Catalogue). with_views (k.views ++ it.views) k) first in
    c.in_ok-put_sequences.ensures
    ∙ ap (λ (k : Catalogue). with_sequences (k.sequences ++ it.sequences) k) second
    ∙ c.state.view_is
