use Rattle.std.proofs.Common.{◌≡◌, ◌+◌, List, ℕ, Bor, drop, Some, subst, sym, ◌∙◌, ap}
use Rattle.std.proofs.lemmas.List.{take_rest}
use Rattle.lq_frames.specs.declared.entry.Entry.{Entry}
use Rattle.lq_frames.specs.Body.{as_body}
use Rattle.lq_journal.specs.Reading.{IsNext}
use Rattle.lq_frames.proofs.Texts.{some_is}
use Rattle.lq_journal.proofs.Entries.{is_next}
use Rattle.lq_journal.proofs.reading.next_entry.Goals as goal

pub returns-in-Ok-Some-clause-entry : goal.returns-in-Ok-Some-clause-entry
returns-in-Ok-Some-clause-entry c x same =
    let bytes = c.args.bytes.now in
    let entry = c.in-Some-front_entry.entry.now in
    let read : Some c.in-Ok-Some.body ≡ as_body (drop 4 entry) = sym c.in-Ok-Some.field-0-is ∙ c.in-Ok-Some.ensures ∙ ap as_body (take_rest entry 4) in
    let whole = is_next c.args.at bytes c.in-Some.behind.now entry c.in-Some-front_entry.after.now c.in-Ok-Some.body c.in-Some.ensures
    c.in-Some-front_entry.ensures.0 c.in-Some-front_entry.ensures.1 c.in-Some-front_entry.ensures.2 read in
    subst (λ (parts : Entry × Bor (List ℕ)). IsNext c.args.at bytes parts.0 parts.1.now) (some_is (record { at = c.args.at + 1; body = c.in-Ok-Some.body }, c.in-Some-front_entry.after) x same) whole
