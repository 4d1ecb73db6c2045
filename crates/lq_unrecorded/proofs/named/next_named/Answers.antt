use Rattle.std.proofs.Common.{rules, sym, ◌∙◌}
use Rattle.std.specs.List.{list_all}
use Rattle.std.specs.Prelude.{true, ◌∷◌, ◌≡◌}
use Rattle.lq_kinds.specs.ReadFor.{is_read_for}
use Rattle.lq_model.proofs.Lists.{and_right}
use Rattle.lq_unrecorded.proofs.Naming.{is_first, not_first}
use Rattle.lq_unrecorded.proofs.named.next_named.Goals as goal

pub returns-then-branch-clause-found : goal.returns-then-branch-clause-found
returns-then-branch-clause-found c = λ o.
    let is : c.loop-set.rest.now ≡ c.in-Some.set.now ∷ c.in-Some.behind.now = search rules in
    c.loop-set.invariant.found o ∙ is_first o c.args.name.now c.args.rows.now c.loop-set.rest.now c.in-Some.behind.now c.in-Some.set.now is (sym (c.in_ok-is_named_so.ensures o) ∙ c.if-branch.true)

pub loop-set-preserved : goal.loop-set-preserved
loop-set-preserved c =
    let is : c.loop-set.rest.now ≡ c.in-Some.set.now ∷ c.in-Some.behind.now = search rules in
    record {
      found = λ o. c.loop-set.invariant.found o ∙ not_first o c.args.name.now c.args.rows.now c.loop-set.rest.now c.in-Some.behind.now c.in-Some.set.now is (sym (c.in_ok-is_named_so.ensures o) ∙ c.if-branch.false);
      read = λ d all.
          let read : list_all (is_read_for d) (c.in-Some.set.now ∷ c.in-Some.behind.now) ≡ true = search rules in
          and_right (is_read_for d c.in-Some.set.now) _ read;
    }
