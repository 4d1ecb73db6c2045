use Rattle.std.proofs.Common.{sym, ◌∙◌}
use Rattle.lq_commands.proofs.Commanded.{answers_done, no_disk, true_not}
use Rattle.lq_commands.proofs.Endings.{untouched_crashes}
use Rattle.lq_commands.proofs.Inserted.{idle_sync_tells, idle_sync_works}
use Rattle.lq_commands.specs.Scripts.{sync_script}
use Rattle.lq_commands.proofs.sync.insert.Goals as goal

pub returns-then-is_empty-clause-answers : goal.returns-then-is_empty-clause-answers
returns-then-is_empty-clause-answers g c = answers_done c.no_rows.result c.no_rows.ensures.fault c.no_rows.ensures.done

pub returns-then-is_empty-clause-tells : goal.returns-then-is_empty-clause-tells
returns-then-is_empty-clause-tells g c =
    idle_sync_tells c.args.given c.args.before.now c.args.made c.requires.rows (g.S.Store.state c.args.store.now) c.no_rows.result c.requires.before (c.is_empty.ensures.0 c.if-is_empty.true) c.no_rows.ensures.done c.no_rows.ensures.out c.no_rows.ensures.quiet

pub returns-then-is_empty-clause-works : goal.returns-then-is_empty-clause-works
returns-then-is_empty-clause-works g c = λ database has.
    idle_sync_works c.args.given c.args.before.now c.args.made c.requires.rows database (c.requires.before database has) (c.is_empty.ensures.0 c.if-is_empty.true) (g.S.Store.state c.args.store.now) c.no_rows.result c.no_rows.ensures.done has

pub returns-then-is_empty-clause-any_moment : goal.returns-then-is_empty-clause-any_moment
returns-then-is_empty-clause-any_moment g c = λ database has. untouched_crashes c.args.given.options.dialect (sync_script c.args.given database) database (g.S.Store.state c.args.store.now) (g.S.Store.crashes c.args.store.now)

pub returns-then-is_empty-clause-disk : goal.returns-then-is_empty-clause-disk
returns-then-is_empty-clause-disk g c = λ disk. absurd (no_disk c.no_rows.result c.no_rows.ensures.fault disk)

pub insert_some-requires-clause-some : goal.insert_some-requires-clause-some
insert_some-requires-clause-some g c = λ none. true_not (sym (c.is_empty.ensures.1 none) ∙ c.if-is_empty.false)
