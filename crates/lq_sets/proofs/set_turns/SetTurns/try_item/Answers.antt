use Rattle.std.proofs.Common.{List, rules, subst, Some, ◌≡◌}
use Rattle.std.specs.List.{slice_get}
use Rattle.lq_base.specs.declared.run.Printed.{Printed}
use Rattle.lq_kinds.specs.ReadFor.{is_block_for, is_read_for}
use Rattle.lq_model.proofs.Lists.{and_left}
use Rattle.lq_sets.proofs.Coming.{came_to}
use Rattle.lq_seen.proofs.Read.{all_at}
use Rattle.lq_seen.proofs.Told.{texts_kept, told_printed}
use Rattle.lq_sets.proofs.set_turns.SetTurns.try_item.Goals as goal
use Rattle.lq_sets.specs.SetTurns.{KeepsTexts}

pub act-tried-requires-clause-read : goal.act-tried-requires-clause-read
act-tried-requires-clause-read g c =
    let at : slice_get c.args.self.now.changelog.sets c.args.item.index ≡ Some c.in-Some.set.now = search rules in
    and_left _ (is_block_for c.args.dialect c.in-Some.set.now.rollback) (all_at (is_read_for c.args.dialect) c.args.self.now.changelog.sets c.args.item.index c.in-Some.set.now c.requires.reads.read at)

pub returns-clause-came : goal.returns-clause-came
returns-clause-came g c =
    let at : slice_get c.args.self.now.changelog.sets c.args.item.index ≡ Some c.in-Some.set.now = search rules in
    rw (c.place_behind-next.ensures, c.last_after-self.ensures)
    (came_to c.args.dialect c.args.stamp.now (g.K.Look.catalogue c.args.look.now) c.args.self.now c.args.item c.in-Some.set.now c.requires.reads.read at c.in-Ok.choice (λ database stands. c.in-Ok.ensures.choice c.args.self.now.options database c.requires.reads.dialect stands)
    c.act-tried.new.turn (record (c.choose.new.outcome) { printed = c.act-tried.new.texts }) (told_printed c.in-Some.set.now.identity c.in-Ok.choice c.args.self.now.outcome c.choose.new.outcome c.act-tried.new.texts c.in-Ok.ensures.told)
    c.act-tried.result c.act-tried.ensures.came c.act-tried.ensures.kept
    (subst (λ (before : List Printed). KeepsTexts c.args.self.now.prints c.args.dialect c.in-Some.set.now c.in-Ok.choice c.act-tried.result before c.act-tried.new.texts)
    (texts_kept c.in-Some.set.now.identity c.in-Ok.choice c.args.self.now.outcome c.choose.new.outcome c.in-Ok.ensures.told) c.act-tried.ensures.texts))

pub returns-clause-reads : goal.returns-clause-reads
returns-clause-reads g c = record { dialect = c.requires.reads.dialect; read = c.requires.reads.read; within = c.requires.reads.within; room = c.requires.reads.room }
