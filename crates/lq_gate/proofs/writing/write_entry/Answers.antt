use Rattle.std.proofs.Common.{◌+◌, ◌-◌, ◌≤◌, ℕ, List, [], ◌∷◌, true, ap, arith, length, refl, subst, IfSome}
use Rattle.lq_frames.specs.Body.{Stands}
use Rattle.lq_outside.specs.Crash.{written}
use Rattle.lq_frames.proofs.Appended.{closed_entry}
use Rattle.lq_gate.proofs.Gated.{in_turn, ready_after, journal_after}
use Rattle.lq_gate.proofs.Crash.{first_moment, second_moment, first_torn, second_torn, on_err}
use Rattle.lq_gate.proofs.writing.write_entry.Goals as goal

pub returns-in_err-write_synced-clause-failed : goal.returns-in_err-write_synced-clause-failed
returns-in_err-write_synced-clause-failed g c =
    let ending = c.args.ending in
    let bytes = c.bytes-written.result.now in
    let fits : ending.used + length bytes ≤ ending.limit = omega (arith, c.requires.fits, ap length c.bytes-written.ensures.value) in
    on_err _ (first_torn ending.dialect ending.limit _ _ ending.used (g.B.Encoded.says c.args.entry.now) bytes c.requires.stands fits c.write_synced.ensures.torn)

pub returns-in_err-write_synced-clause-any_moment : goal.returns-in_err-write_synced-clause-any_moment
returns-in_err-write_synced-clause-any_moment g c settled =
    let ending = c.args.ending in
    let bytes = c.bytes-written.result.now in
    let fits : ending.used + length bytes ≤ ending.limit = omega (arith, c.requires.fits, ap length c.bytes-written.ensures.value) in
    first_moment ending.dialect ending.limit _ _ _ ending.used (g.B.Encoded.says c.args.entry.now) bytes c.requires.stands fits settled c.write_synced.ensures.any_moment

pub returns-in_err-write_synced-2-clause-failed : goal.returns-in_err-write_synced-2-clause-failed
returns-in_err-write_synced-2-clause-failed g c =
    let ending = c.args.ending in
    let bytes = c.bytes-written.result.now in
    let fits : ending.used + length bytes ≤ ending.limit = omega (arith, c.requires.fits, ap length c.bytes-written.ensures.value) in
    let most = c.requires.limit in
    let closed = closed_entry (g.B.Encoded.says c.args.entry.now) bytes c.bytes-written.ensures.value c.bytes-written.ensures.right (omega (arith, fits, most)) in
    on_err _ (second_torn ending.dialect ending.limit _ _ _ ending.used (ending.used - 1) (g.B.Encoded.says c.args.entry.now) bytes c.requires.stands closed refl fits
    c.in_ok-write_synced.ensures.written c.write_synced-2.ensures.torn)

pub returns-in_err-write_synced-2-clause-any_moment : goal.returns-in_err-write_synced-2-clause-any_moment
returns-in_err-write_synced-2-clause-any_moment g c settled =
    let ending = c.args.ending in
    let bytes = c.bytes-written.result.now in
    let fits : ending.used + length bytes ≤ ending.limit = omega (arith, c.requires.fits, ap length c.bytes-written.ensures.value) in
    let most = c.requires.limit in
    let closed = closed_entry (g.B.Encoded.says c.args.entry.now) bytes c.bytes-written.ensures.value c.bytes-written.ensures.right (omega (arith, fits, most)) in
    second_moment ending.dialect ending.limit _ _ _ _ _ ending.used (ending.used - 1) (g.B.Encoded.says c.args.entry.now) bytes c.requires.stands closed refl fits settled
    c.write_synced.ensures.any_moment c.in_ok-write_synced.ensures.written c.in_ok-write_synced.ensures.durable c.write_synced-2.ensures.any_moment

pub returns-clause-any_moment : goal.returns-clause-any_moment
returns-clause-any_moment g c settled =
    let ending = c.args.ending in
    let bytes = c.bytes-written.result.now in
    let fits : ending.used + length bytes ≤ ending.limit = omega (arith, c.requires.fits, ap length c.bytes-written.ensures.value) in
    let most = c.requires.limit in
    let closed = closed_entry (g.B.Encoded.says c.args.entry.now) bytes c.bytes-written.ensures.value c.bytes-written.ensures.right (omega (arith, fits, most)) in
    second_moment ending.dialect ending.limit _ _ _ _ _ ending.used (ending.used - 1) (g.B.Encoded.says c.args.entry.now) bytes c.requires.stands closed refl fits settled
    c.write_synced.ensures.any_moment c.in_ok-write_synced.ensures.written c.in_ok-write_synced.ensures.durable c.write_synced-2.ensures.any_moment

pub returns-clause-added : goal.returns-clause-added
returns-clause-added g c =
    let ending = c.args.ending in
    let bytes = c.bytes-written.result.now in
    let fits : ending.used + length bytes ≤ ending.limit = omega (arith, c.requires.fits, ap length c.bytes-written.ensures.value) in
    let most = c.requires.limit in
    let closed = closed_entry (g.B.Encoded.says c.args.entry.now) bytes c.bytes-written.ensures.value c.bytes-written.ensures.right (omega (arith, fits, most)) in
    let is = in_turn (written ending.used bytes) (written (ending.used - 1) (1 ∷ [])) _ _ _ c.in_ok-write_synced.ensures.written c.in_ok-write_synced-2.ensures.written in
    journal_after ending.dialect ending.limit _ _ ending.used (ending.used - 1) (g.B.Encoded.says c.args.entry.now) bytes c.requires.stands closed refl fits is

pub returns-clause-stands : goal.returns-clause-stands
returns-clause-stands g c =
    let ending = c.args.ending in
    let bytes = c.bytes-written.result.now in
    let fits : ending.used + length bytes ≤ ending.limit = omega (arith, c.requires.fits, ap length c.bytes-written.ensures.value) in
    let most = c.requires.limit in
    let closed = closed_entry (g.B.Encoded.says c.args.entry.now) bytes c.bytes-written.ensures.value c.bytes-written.ensures.right (omega (arith, fits, most)) in
    let is = in_turn (written ending.used bytes) (written (ending.used - 1) (1 ∷ [])) _ _ _ c.in_ok-write_synced.ensures.written c.in_ok-write_synced-2.ensures.written in
    subst (λ (l : List ℕ). IfSome (g.D.Disk.told c.write_synced-2.new.disk) (Stands true ending.dialect ending.limit (ending.used + length l))) c.bytes-written.ensures.value
    (ready_after ending.dialect ending.limit _ _ ending.used (ending.used - 1) (g.B.Encoded.says c.args.entry.now) bytes c.requires.stands closed refl fits is)
