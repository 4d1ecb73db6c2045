use Rattle.lq_any.proofs.named.named.Goals as goal

pub returns-in-createTable-clause-right : goal.returns-in-createTable-clause-right
returns-in-createTable-clause-right g c = c.create_table.ensures.right

pub returns-in-dropTable-clause-right : goal.returns-in-dropTable-clause-right
returns-in-dropTable-clause-right g c = c.drop_table.ensures.right

pub returns-in-renameTable-clause-right : goal.returns-in-renameTable-clause-right
returns-in-renameTable-clause-right g c = c.rename_table.ensures.right

pub returns-in-addColumn-clause-right : goal.returns-in-addColumn-clause-right
returns-in-addColumn-clause-right g c = c.add_column.ensures.right

pub returns-in-dropColumn-clause-right : goal.returns-in-dropColumn-clause-right
returns-in-dropColumn-clause-right g c = c.drop_column.ensures.right

pub returns-in-renameColumn-clause-right : goal.returns-in-renameColumn-clause-right
returns-in-renameColumn-clause-right g c = c.rename_column.ensures.right

pub returns-in-addNotNullConstraint-clause-right : goal.returns-in-addNotNullConstraint-clause-right
returns-in-addNotNullConstraint-clause-right g c = c.add_not_null.ensures.right

pub returns-in-dropNotNullConstraint-clause-right : goal.returns-in-dropNotNullConstraint-clause-right
returns-in-dropNotNullConstraint-clause-right g c = c.drop_not_null.ensures.right

pub returns-in-addDefaultValue-clause-right : goal.returns-in-addDefaultValue-clause-right
returns-in-addDefaultValue-clause-right g c = c.add_default_value.ensures.right

pub returns-in-dropDefaultValue-clause-right : goal.returns-in-dropDefaultValue-clause-right
returns-in-dropDefaultValue-clause-right g c = c.drop_default_value.ensures.right

pub returns-in_default-clause-right : goal.returns-in_default-clause-right
returns-in_default-clause-right g c = c.named_key.ensures.right
