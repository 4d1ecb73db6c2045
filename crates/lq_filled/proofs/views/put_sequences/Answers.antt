use Rattle.std.proofs.Common.{List, ap, ◌++◌, ◌∙◌}
use Rattle.std.specs.FinMap.Entries.{is_sorted}
use Rattle.lq_base.specs.Name.{name_cmp}
use Rattle.lq_base.specs.declared.name.Name.{Name}
use Rattle.lq_model.specs.Catalogue.{Sequence}
use Rattle.lq_filled.proofs.Behind.{twice_turned}
use Rattle.lq_filled.proofs.views.put_sequences.Goals as goal
use Rattle.lq_filled.specs.With.{with_sequences}

pub put_all_sequences-requires : goal.put_all_sequences-requires
put_all_sequences-requires c =
    let there = c.args.parts.now.now in
    ap (λ (es : List (Name × Sequence)). is_sorted name_cmp (there.sequences ++ es)) (twice_turned c.args.sequences c.in_ok-last_first.last_first c.in_ok-last_first.ensures) ∙ c.requires

pub returns : goal.returns
returns c =
    let there = c.args.parts.now.now in
    c.in_ok-put_all_sequences.ensures
    ∙ ap (λ (es : List (Name × Sequence)). with_sequences (there.sequences ++ es) there) (twice_turned c.args.sequences c.in_ok-last_first.last_first c.in_ok-last_first.ensures)
