use Rattle.std.proofs.Common.{List, false, map, refl, rules, subst, sym, ◌||◌, ◌∙◌, ◌∷◌, ◌≡◌}
use Rattle.std.specs.BTreeSet.{contains}
use Rattle.std.specs.List.{list_any}
use Rattle.lq_base.specs.declared.value.Value.{Value}
use Rattle.lq_model.specs.Catalogue.{has_equals, picked, same_values}
use Rattle.lq_rows.specs.Stored.{values_cmp, is_among}
use Rattle.lq_rows.proofs.WholeLemmas.{none_among, twins_step}
use Rattle.lq_rows.proofs.whole.are_twins.Goals as goal

pub loop-row-init : goal.loop-row-init
loop-row-init c =
    let is : c.into_iter-row-iterator.result ≡ c.args.rows.now.now = search rules in
    let empty : (v : List Value) → contains values_cmp c.new-set.result v ≡ false = search rules in
    rw (is, none_among c.new-set.result (map (picked c.args.columns.now c.args.names.now) c.args.rows.now.now) empty) refl

pub loop-row-preserved : goal.loop-row-preserved
loop-row-preserved c =
    let f = picked c.args.columns.now c.args.names.now in
    let rest : c.loop-row.row-iterator ≡ c.in-Some.row.now ∷ c.next.new.self = search rules in
    let before = subst (λ rows. (list_any (is_among c.loop-row.set) (map f rows) || has_equals (map f rows)) ≡ has_equals (map f c.args.rows.now.now)) rest c.loop-row.invariant in
    let none : is_among c.loop-row.set (f c.in-Some.row.now) ≡ false = search rules in
    let more : (v : List Value) → contains values_cmp c.note.new.set v ≡ (same_values v (f c.in-Some.row.now) || contains values_cmp c.loop-row.set v) = search rules in
    sym (twins_step c.loop-row.set c.note.new.set (f c.in-Some.row.now) (map f c.next.new.self) more none) ∙ before
