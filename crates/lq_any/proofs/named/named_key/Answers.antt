use Rattle.lq_any.proofs.named.named_key.Goals as goal

pub returns-in-addPrimaryKey-clause-right : goal.returns-in-addPrimaryKey-clause-right
returns-in-addPrimaryKey-clause-right g c = c.add_primary_key.ensures.right

pub returns-in-dropPrimaryKey-clause-right : goal.returns-in-dropPrimaryKey-clause-right
returns-in-dropPrimaryKey-clause-right g c = c.drop_primary_key.ensures.right

pub returns-in-addForeignKeyConstraint-clause-right : goal.returns-in-addForeignKeyConstraint-clause-right
returns-in-addForeignKeyConstraint-clause-right g c = c.add_foreign_key.ensures.right

pub returns-in-dropForeignKeyConstraint-clause-right : goal.returns-in-dropForeignKeyConstraint-clause-right
returns-in-dropForeignKeyConstraint-clause-right g c = c.drop_foreign_key.ensures.right

pub returns-in-addUniqueConstraint-clause-right : goal.returns-in-addUniqueConstraint-clause-right
returns-in-addUniqueConstraint-clause-right g c = c.add_unique.ensures.right

pub returns-in-dropUniqueConstraint-clause-right : goal.returns-in-dropUniqueConstraint-clause-right
returns-in-dropUniqueConstraint-clause-right g c = c.drop_unique.ensures.right

pub returns-in-createIndex-clause-right : goal.returns-in-createIndex-clause-right
returns-in-createIndex-clause-right g c = c.create_index.ensures.right

pub returns-in-dropIndex-clause-right : goal.returns-in-dropIndex-clause-right
returns-in-dropIndex-clause-right g c = c.drop_index.ensures.right

pub returns-in_default-clause-right : goal.returns-in_default-clause-right
returns-in_default-clause-right g c = c.named_other.ensures.right
