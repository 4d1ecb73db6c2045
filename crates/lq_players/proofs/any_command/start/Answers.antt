use Rattle.std.proofs.Common.{subst, sym}
use Rattle.lq_players.proofs.LoadedTexts.{view_has}
use Rattle.lq_players.specs.AnyCommand.{Starts}
use Rattle.lq_players.specs.AtOnce.{HasShortTag}
use Rattle.lq_players.specs.Tasks.{task_for}
use Rattle.lq_players.proofs.any_command.start.Goals as goal

pub update-requires-clause-texts : goal.update-requires-clause-texts
update-requires-clause-texts c = view_has c.args.options c.args.changelog c.requires.short

pub sync-requires-clause-texts : goal.sync-requires-clause-texts
sync-requires-clause-texts c = view_has c.args.options c.args.changelog c.requires.short

pub at_once-requires-in-Tag-clause-tag : goal.at_once-requires-in-Tag-clause-tag
at_once-requires-in-Tag-clause-tag c = subst HasShortTag c.in-Tag.is c.requires.tag

pub returns-in-Validate : goal.returns-in-Validate
returns-in-Validate c = subst (λ command. Starts c.args.prints c.args.dialect (task_for command c.args.options c.args.changelog c.args.stamp) c.at_once.result) (sym c.in-Validate.is) (c.at_once.ensures c.args.prints)

pub returns-in-Status : goal.returns-in-Status
returns-in-Status c = subst (λ command. Starts c.args.prints c.args.dialect (task_for command c.args.options c.args.changelog c.args.stamp) c.at_once-in-Status.result) (sym c.in-Status.is) (c.at_once-in-Status.ensures c.args.prints)

pub returns-in-Tag : goal.returns-in-Tag
returns-in-Tag c = subst (λ command. Starts c.args.prints c.args.dialect (task_for command c.args.options c.args.changelog c.args.stamp) c.at_once-in-Tag.result) (sym c.in-Tag.is) (c.at_once-in-Tag.ensures c.args.prints)

pub returns-in-Release : goal.returns-in-Release
returns-in-Release c = subst (λ command. Starts c.args.prints c.args.dialect (task_for command c.args.options c.args.changelog c.args.stamp) c.at_once-in-Release.result) (sym c.in-Release.is) (c.at_once-in-Release.ensures c.args.prints)

pub returns-in-Update : goal.returns-in-Update
returns-in-Update c = subst (λ command. Starts c.args.prints c.args.dialect (task_for command c.args.options c.args.changelog c.args.stamp) c.update.result) (sym c.in-Update.is) c.update.ensures

pub returns-in-Rollback : goal.returns-in-Rollback
returns-in-Rollback c = subst (λ command. Starts c.args.prints c.args.dialect (task_for command c.args.options c.args.changelog c.args.stamp) c.rollback.result) (sym c.in-Rollback.is) c.rollback.ensures

pub returns-in-Sync : goal.returns-in-Sync
returns-in-Sync c = subst (λ command. Starts c.args.prints c.args.dialect (task_for command c.args.options c.args.changelog c.args.stamp) c.sync.result) (sym c.in-Sync.is) (c.sync.ensures c.args.prints)
