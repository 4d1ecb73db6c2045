use Rattle.std.proofs.Common.{[], ap, arith, length, refl, subst, sym, take, vec_len, ◌+◌, ◌++◌, ◌∙◌, ◌∷◌, ◌≡◌, ◌≤◌}
use Rattle.std.proofs.lemmas.List.{map-append, take_more}
use Rattle.lq_parts.specs.Steps.{tables_of}
use Rattle.lq_deletes.specs.Places.{Gains, tables_linked, row_total}
use Rattle.lq_deletes.proofs.PlaceLemmas.{tables_none, tables_one, total_more, total_within}
use Rattle.lq_deletes.proofs.edges.edges_of.Goals as goal

pub loop-entry-init : goal.loop-entry-init
loop-entry-init c = (tables_none (tables_of c.args.entries.now) c.in_ok-edges.edges.items c.in_ok-edges.ensures.none, refl, c.in_ok-edges.ensures.len)

pub link_keys-requires-clause-numbers : goal.link_keys-requires-clause-numbers
link_keys-requires-clause-numbers c =
    let es = c.args.entries.now in
    let i = c.loop-entry.entry-index in
    let e = c.entry-item.result in
    let within : row_total (tables_of (take i es)) + length e.1.now.rows ≤ row_total (tables_of es) = total_within es i e c.loop-entry-test.true c.entry-item.is in
    let first : c.loop-entry.first ≡ row_total (tables_of (take i es)) = c.loop-entry.invariant.1 in
    let end : vec_len c.loop-entry.edges ≡ c.args.count = c.loop-entry.invariant.2 in
    let total : row_total (tables_of es) ≡ c.args.count = c.requires in
    omega (arith, within, first, end, total)

pub overflow_add-first : goal.overflow_add-first
overflow_add-first c =
    let es = c.args.entries.now in
    let i = c.loop-entry.entry-index in
    let e = c.entry-item.result in
    let within : row_total (tables_of (take i es)) + length e.1.now.rows ≤ row_total (tables_of es) = total_within es i e c.loop-entry-test.true c.entry-item.is in
    let first : c.loop-entry.first ≡ row_total (tables_of (take i es)) = c.loop-entry.invariant.1 in
    let total : row_total (tables_of es) ≡ c.args.count = c.requires in
    let len : c.len-first.result ≡ length e.1.now.rows = c.len-first.ensures in
    omega (arith, within, first, total, len, c.ranges.count)

pub loop-entry-preserved : goal.loop-entry-preserved
loop-entry-preserved c =
    let es = c.args.entries.now in
    let all = tables_of es in
    let i = c.loop-entry.entry-index in
    let e = c.entry-item.result in
    let new = c.link_keys.new.edges.items in
    let more : take (i + 1) es ≡ take i es ++ e ∷ [] = take_more es i e c.loop-entry-test.true ∙ ap (λ x. take i es ++ x ∷ []) (sym c.entry-item.is) in
    let done : tables_of (take (i + 1) es) ≡ tables_of (take i es) ++ (e.0, e.1.now) ∷ [] = ap tables_of more ∙ map-append (λ x. (x.0, x.1.now)) (take i es) (e ∷ []) in
    let len : c.len-first.result ≡ length e.1.now.rows = c.len-first.ensures in
    let first : c.loop-entry.first ≡ row_total (tables_of (take i es)) = c.loop-entry.invariant.1 in
    let keys = rw c.foreign_keys.ensures at c.in_ok-link_keys.ensures.ok in (
      subst (λ ts. Gains (tables_linked all 0 ts) [] new) (sym done) (tables_one all (tables_of (take i es)) (e.0, e.1.now) c.loop-entry.first c.loop-entry.edges.items new first c.loop-entry.invariant.0 keys),
      ap (λ n. n + c.len-first.result) first ∙ ap (λ n. row_total (tables_of (take i es)) + n) len ∙ sym (ap row_total done ∙ total_more (tables_of (take i es)) (e.0, e.1.now)),
      c.link_keys.ensures.len ∙ c.loop-entry.invariant.2,
    )
