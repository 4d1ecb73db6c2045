use Rattle.std.proofs.Common.{None, Some, ap, cond, false, length, rules, subst, sym, true, ◌∙◌, ◌<◌, ◌≡◌, slice_index_or}
use Rattle.lq_base.specs.Name.{is_named}
use Rattle.lq_parts.proofs.EntryLemmas.{found_at, found_end}
use Rattle.lq_parts.proofs.entries.find.Goals as goal

pub returns-then-at-entries : goal.returns-then-at-entries
returns-then-at-entries g c =
    let last : c.place-at.result ≡ length c.args.entries.now = search rules in
    sym (found_end c.args.name.now c.args.entries.now (sym c.place-at.ensures.value ∙ last))

pub returns-then-eq : goal.returns-then-eq
returns-then-eq g c =
    let n = c.args.name.now in
    let es = c.args.entries.now in
    let x = c.index-entries-at.result in
    let less : c.place-at.result < length es = search rules in
    let named : is_named n x.0 ≡ true = search rules in
    sym (found_at n es x c.requires (subst (λ at. at < length es) c.place-at.ensures.value less) (subst (λ at. x ≡ slice_index_or es at x) c.place-at.ensures.value c.index-entries-at.is) ∙ ap (λ b. cond b (Some x.1) None) named)

pub returns-else-eq : goal.returns-else-eq
returns-else-eq g c =
    let n = c.args.name.now in
    let es = c.args.entries.now in
    let x = c.index-entries-at.result in
    let less : c.place-at.result < length es = search rules in
    let named : is_named n x.0 ≡ false = search rules in
    sym (found_at n es x c.requires (subst (λ at. at < length es) c.place-at.ensures.value less) (subst (λ at. x ≡ slice_index_or es at x) c.place-at.ensures.value c.index-entries-at.is) ∙ ap (λ b. cond b (Some x.1) None) named)
