use Rattle.std.proofs.Common.{map, rules, subst, sym, ◌||◌, ◌∙◌, ◌∷◌, ◌≡◌}
use Rattle.std.specs.BTreeSet.{contains}
use Rattle.std.specs.List.{list_any}
use Rattle.lq_model.specs.Catalogue.{has_equals, picked}
use Rattle.lq_rows.specs.Stored.{values_cmp}
use Rattle.lq_keyops.proofs.MetLemmas as lemma
use Rattle.lq_keyops.proofs.equal.has_equals_in.Goals as goal

pub loop-row-init : goal.loop-row-init
loop-row-init c =
    let p = picked c.args.columns.now c.args.names.now in
    let same : c.into_iter-row-iterator.result ≡ c.args.rows.now.now = search rules in
    record {
      fit = lemma.none_null c.new-met.result c.new-met.ensures.empty;
      ahead = rw (same) (lemma.equals_first c.new-met.result (map p c.args.rows.now.now) c.new-met.ensures.empty);
    }

pub returns-then-branch : goal.returns-then-branch
returns-then-branch c =
    let p = picked c.args.columns.now c.args.names.now in
    let old = c.loop-row.met in
    let v = p c.as_slice.result.now in
    let rest = map p c.next.new.self in
    let next : c.loop-row.row-iterator ≡ c.as_slice.result.now ∷ c.next.new.self = search rules in
    let ahead = subst (λ rows. has_equals (map p c.args.rows.now.now) ≡ (list_any (contains values_cmp old) (map p rows) || has_equals (map p rows))) next c.loop-row.invariant.ahead in
    sym (lemma.equals_found _ v old rest ahead (sym (c.in_ok-was_met.ensures.was c.loop-row.invariant.fit) ∙ c.if-branch.true))

pub loop-row-preserved : goal.loop-row-preserved
loop-row-preserved c =
    let p = picked c.args.columns.now c.args.names.now in
    let old = c.loop-row.met in
    let new = c.was_met.new.met in
    let v = p c.as_slice.result.now in
    let rest = map p c.next.new.self in
    let next : c.loop-row.row-iterator ≡ c.as_slice.result.now ∷ c.next.new.self = search rules in
    let ahead = subst (λ rows. has_equals (map p c.args.rows.now.now) ≡ (list_any (contains values_cmp old) (map p rows) || has_equals (map p rows))) next c.loop-row.invariant.ahead in
    record {
      fit = lemma.still_none old new v c.loop-row.invariant.fit c.in_ok-was_met.ensures.after;
      ahead = lemma.equals_more _ v old new rest ahead (sym (c.in_ok-was_met.ensures.was c.loop-row.invariant.fit) ∙ c.if-branch.false) c.in_ok-was_met.ensures.after;
    }
