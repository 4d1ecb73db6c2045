use Rattle.lq_tree.proofs.Floats.{whole_read, float_read}
use Rattle.lq_tree.proofs.Order.{tree_of_value}
use Rattle.lq_tree.proofs.reading.read_json.Goals as goal

pub returns-clause-order : goal.returns-clause-order
returns-clause-order c = tree_of_value c.args.bytes.now _ c.node_of.result c.in_ok-value.ensures.ok c.node_of.ensures.ok

pub returns-clause-whole : goal.returns-clause-whole
returns-clause-whole c = whole_read c.args.bytes.now _ c.node_of.result c.in_ok-value.ensures.ok c.node_of.ensures.ok

pub returns-clause-float : goal.returns-clause-float
returns-clause-float c = float_read c.args.bytes.now _ c.node_of.result c.in_ok-value.ensures.ok c.node_of.ensures.err
