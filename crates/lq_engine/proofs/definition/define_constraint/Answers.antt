use Rattle.lq_rows.proofs.Continued.{carries}
use Rattle.lq_engine.proofs.definition.define_constraint.Goals as goal

pub returns-in-AddPrimaryKey : goal.returns-in-AddPrimaryKey
returns-in-AddPrimaryKey c = rw (c.in-AddPrimaryKey.is) (carries _ c.args.parts.now c.add_primary_key.new.parts c.add_primary_key.result c.add_primary_key.ensures)

pub returns-in-AddUnique : goal.returns-in-AddUnique
returns-in-AddUnique c = rw (c.in-AddUnique.is) (carries _ c.args.parts.now c.add_unique.new.parts c.add_unique.result c.add_unique.ensures)

pub returns-in-AddForeignKey : goal.returns-in-AddForeignKey
returns-in-AddForeignKey c = rw (c.in-AddForeignKey.is) (carries _ c.args.parts.now c.add_foreign_key.new.parts c.add_foreign_key.result c.add_foreign_key.ensures)

pub returns-in-DropConstraint : goal.returns-in-DropConstraint
returns-in-DropConstraint c = rw (c.in-DropConstraint.is) (carries _ c.args.parts.now c.drop_constraint.new.parts c.drop_constraint.result c.drop_constraint.ensures)

pub returns-in-DropPrimaryKey : goal.returns-in-DropPrimaryKey
returns-in-DropPrimaryKey c = rw (c.in-DropPrimaryKey.is) (carries _ c.args.parts.now c.drop_primary_key.new.parts c.drop_primary_key.result c.drop_primary_key.ensures)

pub returns-in-DropUnique : goal.returns-in-DropUnique
returns-in-DropUnique c = rw (c.in-DropUnique.is) (carries _ c.args.parts.now c.drop_unique.new.parts c.drop_unique.result c.drop_unique.ensures)

pub returns-in-DropForeignKey : goal.returns-in-DropForeignKey
returns-in-DropForeignKey c = rw (c.in-DropForeignKey.is) (carries _ c.args.parts.now c.drop_foreign_key.new.parts c.drop_foreign_key.result c.drop_foreign_key.ensures)
