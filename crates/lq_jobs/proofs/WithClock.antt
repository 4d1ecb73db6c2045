-- What was given, read with the clock, is what was asked for.
use Rattle.std.proofs.Common.{ap, subst, sym, ◌∙◌}
use Rattle.std.specs.List.{All}
use Rattle.std.specs.Prelude.{◌≡◌}
use Rattle.lq_base.specs.declared.dialect.Dialect.{Dialect}
use Rattle.lq_changelog.specs.Gathers.{HasShortTexts}
use Rattle.lq_commands.specs.Works.{IsReady}
use Rattle.lq_commands.specs.declared.given.Asked.{Asked}
use Rattle.lq_commands.specs.declared.given.Given.{Given}
use Rattle.lq_expr.specs.declared.options.Options.{Options}
use Rattle.lq_kinds.specs.ReadFor.{AreFor}
use Rattle.lq_kinds.specs.declared.change_set.Changelog.{Changelog}
use Rattle.lq_store.specs.Journal.{State}
use Rattle.lq_turns.specs.declared.stamp.Stamp.{Stamp}
use Rattle.lq_jobs.specs.Bytes.{given_at}

pub given_is : (given : Given) (asked : Asked) (stamp : Stamp) → given.changelog ≡ asked.changelog → given.options ≡ asked.options → given.stamp ≡ stamp → given ≡ given_at asked stamp
given_is given asked stamp log options stamped =
    ap (λ l. given_at (record { changelog = l; options = given.options }) given.stamp) log
    ∙ ap (λ o. given_at (record { changelog = asked.changelog; options = o }) given.stamp) options
    ∙ ap (given_at asked) stamped

-- what holds of what was asked for
module _ (given : Given) (asked : Asked) (log : given.changelog ≡ asked.changelog) (options : given.options ≡ asked.options) where
  pub given_dialect : given.options.dialect ≡ asked.options.dialect
  given_dialect = ap (λ (o : Options). o.dialect) options

  pub given_sql : (d : Dialect) → d ≡ asked.options.dialect → d ≡ given.options.dialect
  given_sql d is = is ∙ sym given_dialect

  pub given_ready : (x : State) → IsReady asked.options.dialect x → IsReady given.options.dialect x
  given_ready x ready = subst (λ d. IsReady d x) (sym given_dialect) ready

  pub given_read : AreFor asked.options.dialect asked.changelog → AreFor given.options.dialect given.changelog
  given_read read = subst (λ d. AreFor d given.changelog) (sym given_dialect) (subst (λ (l : Changelog). AreFor asked.options.dialect l) (sym log) read)

  pub given_short : All HasShortTexts asked.changelog.sets → All HasShortTexts given.changelog.sets
  given_short short = subst (λ (l : Changelog). All HasShortTexts l.sets) (sym log) short
