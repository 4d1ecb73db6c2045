use Rattle.std.proofs.Common.{refl, unwrap_or}
use Rattle.std.specs.Map.{lookup}
use Rattle.lq_base.specs.Name.{is_named}
use Rattle.lq_model.specs.Catalogue.{no_table}
use Rattle.lq_parts.proofs.TakenLemmas.{rows_known}
use Rattle.lq_parts.proofs.parts.Parts.replace.Goals as goal
use Rattle.lq_rows.specs.Stored.{with_row_at}

pub invariant_of-self-2 : goal.invariant_of-self-2
invariant_of-self-2 c =
    let before = c.self.inside.tables in
    rows_known before c.replace.new.self c.args.name.now (with_row_at c.args.at c.args.row (unwrap_or (lookup (is_named c.args.name.now) before.now) no_table)) c.self.inside.names c.in_ok-replace.ensures.ok refl refl c.self.invariant
