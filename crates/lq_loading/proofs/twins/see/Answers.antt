use Rattle.std.proofs.Common.{◌≡◌, ◌&&◌, refl}
use Rattle.lq_base.specs.declared.memory.NoMemory.{NoMemory}
use Rattle.lq_loading.proofs.TwinRows.{identity_in, its_identity, order_in, sees}
use Rattle.lq_loading.specs.Raise.{IdentityKey}
use Rattle.lq_loading.proofs.twins.see.Goals as goal
use Rattle.lq_loading.proofs.twins.see.Goals.{then-is_new, else-is_new}

pub returns : goal.returns
returns c = λ rows seen.
    let key : IdentityKey = (c.as_str.result, c.as_str-2.result, c.as_str-3.result) in
    let is = its_identity key c.args.row.now c.as_str.ensures c.as_str-2.ensures c.as_str-3.ensures in
    let both : c.if-is_new.result ≡ (c.in-Ok.is_new && c.in-Ok-insert.is_next) = elim c.if-is_new.branch [ then-is_new w ↦ rw (w.if-is_new.true, w.result-is) refl | else-is_new w ↦ rw (w.result-is, w.if-is_new.false) refl ] in
    rw both
    (sees NoMemory c.args.row.now rows key c.args.seen.now (record { identities = c.insert.new.self; orders = c.insert-2.new.self }) c.in-Ok.is_new c.in-Ok-insert.is_next is seen c.in-Ok.ensures.added c.in-Ok-insert.ensures.added
    (record {
      identities = identity_in c.args.row.now rows key c.args.seen.now.identities c.insert.new.self is c.in-Ok.ensures.updates seen.identities;
      orders = order_in c.args.row.now rows c.args.seen.now.orders c.insert-2.new.self c.in-Ok-insert.ensures.updates seen.orders;
    }))
