use Rattle.std.proofs.Common.{rules, subst, sym}
use Rattle.std.specs.Prelude.{List, Option, Some, reverse, ◌≡◌}
use Rattle.lq_back.specs.Reversal.{AreWays}
use Rattle.lq_kept.specs.declared.way.TakenBack.{TakenBack}
use Rattle.lq_back.specs.declared.row_turns.RowTurns.{RowTurns}
use Rattle.lq_players.proofs.BackPlanned.{lack_only, missing_is_refusal, missing_passes, ok_at, passes_back, turns_there, way_passes}
use Rattle.lq_players.proofs.RowsRead.{err_so}
use Rattle.lq_players.specs.RollingBack.{turns_in, IsRefusal}
use Rattle.lq_expr.specs.declared.options.Options.{Options}
use Rattle.lq_seen.specs.View.{any_meaning, view_log, views}
use Rattle.lq_turns.specs.Script.{undo_turns}
use Rattle.lq_players.proofs.rolling_back.RollingBack.plan_back.Goals as goal

-- no row has the tag

pub returns-in_err-undone-clause-passes : goal.returns-in_err-undone-clause-passes
returns-in_err-undone-clause-passes c =
    let it = c.args.self.now in
    missing_passes c.args.dialect (view_log it.options it.changelog) it.target c.args.rows.now c.from_residual.result c.in_err-undone.field-0.0 (search rules) c.in_err-undone.ensures.missing.0 c.in_err-undone.ensures.missing.1

pub returns-in_err-undone-clause-refusal : goal.returns-in_err-undone-clause-refusal
returns-in_err-undone-clause-refusal c =
    err_so c.from_residual.result c.in_err-undone.field-0.0 IsRefusal (search rules) (missing_is_refusal c.in_err-undone.field-0.0 c.in_err-undone.ensures.missing.0)

-- nothing takes one of the rows back

pub returns-in_err-ways-clause-passes : goal.returns-in_err-ways-clause-passes
returns-in_err-ways-clause-passes c =
    let it = c.args.self.now in
    way_passes c.args.dialect (view_log it.options it.changelog) it.target c.args.rows.now (reverse c.in_ok-undone.undone.now) c.in_ok-undone.ensures.undone it.options.dialect c.requires.read.options
    c.from_residual-in_err-ways.result c.in_err-ways.field-0.0 (search rules) (c.in_err-ways.ensures.passes it.options)

pub returns-in_err-ways-clause-refusal : goal.returns-in_err-ways-clause-refusal
returns-in_err-ways-clause-refusal c = err_so c.from_residual-in_err-ways.result c.in_err-ways.field-0.0 IsRefusal (search rules) c.in_err-ways.ensures.refusal

-- each row has its way

pub turns_of-requires-clause-read : goal.turns_of-requires-clause-read
turns_of-requires-clause-read c = c.requires.read.changelog

pub turns_of-requires-clause-ways : goal.turns_of-requires-clause-ways
turns_of-requires-clause-ways c = subst (λ (ways : List TakenBack). AreWays c.args.self.now.changelog.sets c.in_ok-undone.undone.now ways) (sym c.as_slice.ensures) c.in_ok-ways.ensures.ways

pub returns-clause-passes : goal.returns-clause-passes
returns-clause-passes c =
    let it = c.args.self.now in
    passes_back c.args.dialect (view_log it.options it.changelog) it.target c.args.rows.now (reverse c.in_ok-undone.undone.now) c.in_ok-undone.ensures.undone it.options.dialect c.requires.read.options
    c.turns_of.result (c.in_ok-ways.ensures.passes it.options) c.turns_of.ensures.lack

pub returns-clause-turns : goal.returns-clause-turns
returns-clause-turns c =
    let it = c.args.self.now in
    let meant = λ (options : Options) (turns : Option RowTurns). undo_turns c.args.dialect any_meaning (views options it.changelog.sets) (reverse c.in_ok-undone.undone.now) ≡ Some (turns_in turns) in
    turns_there it c.args.dialect c.args.rows.now (reverse c.in_ok-undone.undone.now) c.in_ok-undone.ensures.undone c.turns_of.result (ok_at c.turns_of.result meant it.options c.turns_of.ensures.turns)

pub returns-clause-refusal : goal.returns-clause-refusal
returns-clause-refusal c = lack_only c.turns_of.result c.turns_of.ensures.lack
