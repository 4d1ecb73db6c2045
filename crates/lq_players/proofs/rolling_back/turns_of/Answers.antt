use Rattle.std.specs.Prelude.{reverse}
use Rattle.lq_players.proofs.BackPlanned.{any_options, has_turns, idle_turns, no_rows, still_some}
use Rattle.lq_expr.specs.declared.options.Options.{Options}
use Rattle.lq_seen.specs.View.{views}
use Rattle.lq_players.proofs.rolling_back.turns_of.Goals as goal

pub returns-then-is_empty-clause-turns : goal.returns-then-is_empty-clause-turns
returns-then-is_empty-clause-turns c = λ options.
    idle_turns c.args.dialect (views options c.args.changelog.now.sets) c.args.rows.now (no_rows c.args.rows.now c.is_empty.result c.is_empty.ensures c.if-is_empty.true)

pub returns-in-Ok-clause-new : goal.returns-in-Ok-clause-new
returns-in-Ok-clause-new c =
    let options : Options = any_options c.args.dialect in record {
      some = has_turns c.args.dialect (views options c.args.changelog.now.sets) (reverse c.args.rows.now) (reverse c.in-Ok.source.turns) (c.in-Ok.ensures.turns options)
          (still_some c.args.rows.now c.is_empty.result c.is_empty.ensures c.if-is_empty.false);
      read = c.in-Ok.ensures.reads;
      knows = c.in-Ok.ensures.knows;
    }
