use Rattle.std.proofs.Common.{[], ap, refl, subst, sym, take, ◌+◌, ◌++◌, ◌∙◌, ◌∷◌, ◌≡◌}
use Rattle.std.proofs.lemmas.List.{take_more}
use Rattle.lq_parts.specs.Steps.{tables_of}
use Rattle.lq_deletes.specs.Places.{Gains, keys_linked}
use Rattle.lq_deletes.proofs.PlaceLemmas.{keys_none, keys_one}
use Rattle.lq_deletes.proofs.edges.link_keys.Goals as goal

pub loop-key-init : goal.loop-key-init
loop-key-init c = (keys_none (tables_of c.args.entries.now) c.args.first c.args.held.now.now c.args.edges.now.items, refl)

pub loop-key-preserved : goal.loop-key-preserved
loop-key-preserved c =
    let all = tables_of c.args.entries.now in
    let it = c.args.held.now.now in
    let i = c.loop-key.key-index in
    let keys = c.args.keys.now in
    let key = c.key-item.result in
    let old = c.args.edges.now.items in
    let more : take (i + 1) keys ≡ take i keys ++ key ∷ [] = take_more keys i key c.loop-key-test.true ∙ ap (λ x. take i keys ++ x ∷ []) (sym c.key-item.is) in (
      subst (λ ks. Gains (keys_linked all c.args.first it ks) old c.link_key.new.edges.items) (sym more) (keys_one all c.args.first it (take i keys) key old c.loop-key.edges.items c.link_key.new.edges.items c.loop-key.invariant.0 c.in_ok-link_key.ensures.ok),
      c.link_key.ensures.len ∙ c.loop-key.invariant.1,
    )
