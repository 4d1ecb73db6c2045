use Rattle.std.proofs.Common.{[], false, rules, subst, sym, true, ◌∷◌, ◌≡◌}
use Rattle.lq_model.specs.NameSpaces.{is_reserved}
use Rattle.lq_rows.specs.Stored.{Answers}
use Rattle.lq_rowops.proofs.InsertDecides.{insert_decides, insert_reserved}
use Rattle.lq_rowops.proofs.inserting.insert_into.Goals as goal

pub returns-then-is_reserved : goal.returns-then-is_reserved
returns-then-is_reserved c =
    let is : is_reserved c.args.by (c.args.table.now ∷ []) ≡ true = search rules in
    (insert_reserved c.args.by c.args.dialect c.args.table.now c.args.columns.now c.args.values.now c.args.parts.now.now is, search rules)

pub returns : goal.returns
returns c =
    let may : is_reserved c.args.by (c.args.table.now ∷ []) ≡ false = search rules in
    subst (λ m. Answers m c.args.parts.now c.put_row.new.parts c.put_row.result) (sym (insert_decides c.args.by c.args.dialect c.args.table.now c.args.columns.now c.args.values.now c.args.parts.now.now c.requires may)) c.put_row.ensures
