use Rattle.lq_tree.proofs.ItemsRead.{some_read}
use Rattle.lq_tree.proofs.items.required_items.Goals as goal

pub returns-in-Some-as_list-clause-fits : goal.returns-in-Some-as_list-clause-fits
returns-in-Some-as_list-clause-fits g c = some_read c.args.key.now (g.R.Reader.of c.args.reader.now) (g.R.Reader.fits c.args.reader.now) c.in-Some-as_list.nodes.now c.each_item.result c.if-not-is_empty.ensures c.each_item.ensures.read c.each_item.ensures.fits
