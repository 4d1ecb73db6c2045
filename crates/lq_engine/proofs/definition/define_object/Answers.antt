use mir.Syntax.{w128}
use mir.Val.{SFits}
use Rattle.std.proofs.Common.{rules}
use Rattle.std.proofs.lemmas.Int.{to_z-of_z}
use Rattle.lq_rows.proofs.Continued.{carries}
use Rattle.lq_engine.proofs.definition.define_object.Goals as goal

pub returns-in-CreateIndex : goal.returns-in-CreateIndex
returns-in-CreateIndex c = rw (c.in-CreateIndex.is) (carries _ c.args.parts.now c.create_index.new.parts c.create_index.result c.create_index.ensures)

pub returns-in-DropIndex : goal.returns-in-DropIndex
returns-in-DropIndex c = rw (c.in-DropIndex.is) (carries _ c.args.parts.now c.drop_index.new.parts c.drop_index.result c.drop_index.ensures)

pub returns-in-CreateView : goal.returns-in-CreateView
returns-in-CreateView c = rw (c.in-CreateView.is) (carries _ c.args.parts.now c.create_view.new.parts c.create_view.result c.create_view.ensures)

pub returns-in-DropView : goal.returns-in-DropView
returns-in-DropView c = rw (c.in-DropView.is) (carries _ c.args.parts.now c.drop_view.new.parts c.drop_view.result c.drop_view.ensures)

pub returns-in-RenameView : goal.returns-in-RenameView
returns-in-RenameView c = rw (c.in-RenameView.is) (carries _ c.args.parts.now c.rename_view.new.parts c.rename_view.result c.rename_view.ensures)

pub returns-in-CreateSequence : goal.returns-in-CreateSequence
returns-in-CreateSequence c =
    let first : SFits w128 c.in-CreateSequence.start = search rules in
    let each : SFits w128 c.in-CreateSequence.step = search rules in
    let answers = simp to_z-of_z at c.create_sequence.ensures in
    rw (c.in-CreateSequence.is) (carries _ c.args.parts.now c.create_sequence.new.parts c.create_sequence.result answers)

pub returns-in-DropSequence : goal.returns-in-DropSequence
returns-in-DropSequence c = rw (c.in-DropSequence.is) (carries _ c.args.parts.now c.drop_sequence.new.parts c.drop_sequence.result c.drop_sequence.ensures)

pub returns-in-RenameSequence : goal.returns-in-RenameSequence
returns-in-RenameSequence c = rw (c.in-RenameSequence.is) (carries _ c.args.parts.now c.rename_sequence.new.parts c.rename_sequence.result c.rename_sequence.ensures)
