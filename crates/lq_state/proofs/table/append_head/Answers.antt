use Rattle.lq_codec.specs.Tables.{column_codec, foreign_codec, index_codec, key_codec, unique_codec}
use Rattle.lq_coded.proofs.Each.{list_free, option_free}
use Rattle.lq_state.proofs.ShapedLemmas.{head_fits, head_written}
use Rattle.lq_state.proofs.table.append_head.Goals as goal

pub returns-clause-bytes : goal.returns-clause-bytes
returns-clause-bytes c =
    head_written c.args.columns.now c.args.key.now c.args.uniques.now c.args.foreign.now c.args.indexes.now c.args.next
    c.args.to.now.items c.append_list.new.to.items c.write.new.to.items c.append_list-2.new.to.items c.append_list-3.new.to.items c.append_list-4.new.to.items c.write-2.new.to.items
    c.in_ok-append_list.ensures.bytes c.in_ok-write.ensures.bytes c.in_ok-append_list-2.ensures.bytes c.in_ok-append_list-3.ensures.bytes c.in_ok-append_list-4.ensures.bytes c.in_ok-write-2.ensures.bytes

pub returns-clause-fits : goal.returns-clause-fits
returns-clause-fits c =
    head_fits c.args.columns.now c.args.key.now c.args.uniques.now c.args.foreign.now c.args.indexes.now c.args.next
    (list_free column_codec c.args.columns.now c.in_ok-append_list.ensures.fits)
    (option_free key_codec c.args.key.now c.in_ok-write.ensures.fits)
    (list_free unique_codec c.args.uniques.now c.in_ok-append_list-2.ensures.fits)
    (list_free foreign_codec c.args.foreign.now c.in_ok-append_list-3.ensures.fits)
    (list_free index_codec c.args.indexes.now c.in_ok-append_list-4.ensures.fits)
    c.in_ok-write-2.ensures.fits
