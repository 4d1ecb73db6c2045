use Rattle.lq_any.proofs.named.named_other.Goals as goal

pub returns-in-createView-clause-right : goal.returns-in-createView-clause-right
returns-in-createView-clause-right g c = c.create_view.ensures.right

pub returns-in-dropView-clause-right : goal.returns-in-dropView-clause-right
returns-in-dropView-clause-right g c = c.drop_view.ensures.right

pub returns-in-renameView-clause-right : goal.returns-in-renameView-clause-right
returns-in-renameView-clause-right g c = c.rename_view.ensures.right

pub returns-in-createSequence-clause-right : goal.returns-in-createSequence-clause-right
returns-in-createSequence-clause-right g c = c.create_sequence.ensures.right

pub returns-in-dropSequence-clause-right : goal.returns-in-dropSequence-clause-right
returns-in-dropSequence-clause-right g c = c.drop_sequence.ensures.right

pub returns-in-renameSequence-clause-right : goal.returns-in-renameSequence-clause-right
returns-in-renameSequence-clause-right g c = c.rename_sequence.ensures.right

pub returns-in-insert-clause-right : goal.returns-in-insert-clause-right
returns-in-insert-clause-right g c = c.insert.ensures.right

pub returns-in-update-clause-right : goal.returns-in-update-clause-right
returns-in-update-clause-right g c = c.update.ensures.right

pub returns-in-delete-clause-right : goal.returns-in-delete-clause-right
returns-in-delete-clause-right g c = c.delete.ensures.right

pub returns-in-sql-clause-right : goal.returns-in-sql-clause-right
returns-in-sql-clause-right g c = c.sql_text.ensures.right

pub returns-in-tagDatabase-clause-right : goal.returns-in-tagDatabase-clause-right
returns-in-tagDatabase-clause-right g c = c.tag_database.ensures.right

pub returns-in-empty-clause-right : goal.returns-in-empty-clause-right
returns-in-empty-clause-right g c = c.empty.ensures.right
