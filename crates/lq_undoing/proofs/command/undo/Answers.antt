use Rattle.lq_undoing.proofs.Ending.{disk_by, no_disk, undid_done, undid_ended}
use Rattle.lq_undoing.proofs.command.undo.Goals as goal

pub undo_unrecorded-requires-clause-ready : goal.undo_unrecorded-requires-clause-ready
undo_unrecorded-requires-clause-ready g c = record { database = c.requires.ready.database; has = c.requires.ready.has }

pub returns-in-Ok-clause-did : goal.returns-in-Ok-clause-did
returns-in-Ok-clause-did g c =
    undid_done g.S.Store.state g.S.Store.crashes c.args.options.now c.args.changelog.now c.args.last.now c.args.store.now c.undo_unrecorded.new.store c.in-Ok.done c.undone.result c.undone.ensures.tells
    c.undone.ensures.no_memory c.in-Ok.ensures.answers c.in-Ok.ensures.refused c.in-Ok.ensures.made c.in-Ok.ensures.tells

pub returns-in-Ok-clause-disk : goal.returns-in-Ok-clause-disk
returns-in-Ok-clause-disk g c = λ disk. absurd (no_disk c.undone.result c.undone.ensures.no_memory disk)

pub returns-in-Err-clause-did : goal.returns-in-Err-clause-did
returns-in-Err-clause-did g c =
    undid_ended g.S.Store.state g.S.Store.crashes c.args.options.now c.args.changelog.now c.args.last.now c.args.store.now c.undo_unrecorded.new.store c.in-Err.fault c.ended.result c.ended.ensures.status
    c.ended.ensures.ends c.ended.ensures.out c.ended.ensures.quiet c.ended.ensures.fails c.in-Err.ensures.answers c.in-Err.ensures.refused c.in-Err.ensures.made c.in-Err.ensures.tells

pub returns-in-Err-clause-disk : goal.returns-in-Err-clause-disk
returns-in-Err-clause-disk g c = λ disk. c.in-Err.ensures.rose (disk_by c.in-Err.fault c.ended.result c.ended.ensures.status disk)
