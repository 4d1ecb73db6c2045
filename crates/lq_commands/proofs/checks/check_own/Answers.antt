use Rattle.std.proofs.Common.{ap, refl, subst, sym, ◌∙◌}
use Rattle.lq_kinds.specs.declared.change_set.Changelog.{Changelog}
use Rattle.lq_seen.specs.View.{view_log}
use Rattle.lq_turns.specs.Deed.{contents_of}
use Rattle.lq_turns.specs.Schedule.{StandsFor}
use Rattle.lq_turns.specs.Settle.{own_choice}
use Rattle.lq_commands.proofs.Seen.{seen_stands}
use Rattle.lq_commands.proofs.Warned.{own_warns}
use Rattle.lq_commands.specs.Refusals.{Passes, if_halts}
use Rattle.lq_commands.proofs.checks.check_own.Goals as goal

pub returns-in_ok-choice-in-Ok-clause-passes : goal.returns-in_ok-choice-in-Ok-clause-passes
returns-in_ok-choice-in-Ok-clause-passes g c = λ database has.
    let d = c.args.given.now.options.dialect in
    subst (λ choice. Passes (if_halts choice) c.own_answer.result)
    (c.in_ok-choice-in-Ok.ensures c.args.given.now.options database refl (record { stands = subst (λ e. StandsFor d e database) (sym c.in-Ok.ensures.seen) (seen_stands d 1 (g.S.Store.state c.args.store.now) database has); rows_are = c.requires.rows database has })
    ∙ ap (λ (x : Changelog). own_choice (view_log c.args.given.now.options x) (contents_of database)) c.get.ensures)
    c.own_answer.ensures.passes

pub returns-in_ok-choice-in-Ok-clause-own : goal.returns-in_ok-choice-in-Ok-clause-own
returns-in_ok-choice-in-Ok-clause-own g c =
    let d = c.args.given.now.options.dialect in
    own_warns c.args.given.now d (g.S.Store.state c.args.store.now) c.own_answer.result c.in_ok-choice-in-Ok.choice c.own_answer.ensures.own
    (λ database has. c.in_ok-choice-in-Ok.ensures c.args.given.now.options database refl (record { stands = subst (λ e. StandsFor d e database) (sym c.in-Ok.ensures.seen) (seen_stands d 1 (g.S.Store.state c.args.store.now) database has); rows_are = c.requires.rows database has })
    ∙ ap (λ (x : Changelog). own_choice (view_log c.args.given.now.options x) (contents_of database)) c.get.ensures)
