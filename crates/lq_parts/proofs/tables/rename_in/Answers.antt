use Rattle.std.proofs.Common.{length, rules, subst, sym, ◌<◌, ◌≡◌, ◌≤◌}
use Rattle.std.specs.List.{insert, remove}
use Rattle.lq_parts.specs.Taken.{place_of, position_of}
use Rattle.lq_parts.specs.Steps.{Entries, moved}
use Rattle.lq_parts.proofs.EntryLemmas.{ordered_less}
use Rattle.lq_parts.proofs.StepLemmas as lemma
use Rattle.lq_parts.proofs.tables.rename_in.Goals as goal

pub place-at-requires : goal.place-at-requires
place-at-requires c =
    let es : Entries = c.args.entries.now.items in
    let at : c.standing-from.result ≡ position_of c.args.name.now es = search rules in
    rw (c.deref-2.ensures.value, c.remove-name.ensures.items, at) (ordered_less c.args.name.now es c.requires.ordered)

pub returns-clause-back : goal.returns-clause-back
returns-clause-back c =
    let es : Entries = c.args.entries.now.items in
    let e = c.remove-name.result in
    let items : c.put_again.new.entries.items ≡ insert (remove es c.standing-from.result) c.place-at.result (c.args.to, e.1) = rw (← c.remove-name.ensures.items) c.put_again.ensures.items in
    let less : c.standing-from.result < length es = search rules in
    let le : c.place-at.result ≤ length (remove es c.standing-from.result) = rw (← c.remove-name.ensures.items, ← c.deref-2.ensures.value) c.place-at.ensures.fits in
    subst (λ (new : Entries). moved c.place-at.result c.standing-from.result e.0 new ≡ es) (sym items) (lemma.rename_back es c.standing-from.result c.place-at.result e c.args.to less c.remove-name.ensures.value le)

pub returns-clause-tables : goal.returns-clause-tables
returns-clause-tables c =
    let es : Entries = c.args.entries.now.items in
    let e = c.remove-name.result in
    let items : c.put_again.new.entries.items ≡ insert (remove es c.standing-from.result) c.place-at.result (c.args.to, e.1) = rw (← c.remove-name.ensures.items) c.put_again.ensures.items in
    let place : c.place-at.result ≡ place_of c.args.to (remove es c.standing-from.result) = rw (← c.remove-name.ensures.items, ← c.deref-2.ensures.value) c.place-at.ensures.value in
    let at : c.standing-from.result ≡ position_of c.args.name.now es = search rules in
    rw (items, place, at) (lemma.rename_tables c.args.name.now c.args.to es e c.requires.ordered c.requires.there c.requires.absent (rw (← at) c.remove-name.ensures.value))

pub returns-clause-ordered : goal.returns-clause-ordered
returns-clause-ordered c =
    let es : Entries = c.args.entries.now.items in
    let e = c.remove-name.result in
    let items : c.put_again.new.entries.items ≡ insert (remove es c.standing-from.result) c.place-at.result (c.args.to, e.1) = rw (← c.remove-name.ensures.items) c.put_again.ensures.items in
    let place : c.place-at.result ≡ place_of c.args.to (remove es c.standing-from.result) = rw (← c.remove-name.ensures.items, ← c.deref-2.ensures.value) c.place-at.ensures.value in
    let at : c.standing-from.result ≡ position_of c.args.name.now es = search rules in
    rw (items, place, at) (lemma.rename_ordered c.args.name.now c.args.to es e.1 c.requires.ordered c.requires.absent)
