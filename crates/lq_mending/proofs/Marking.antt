-- The calls of undo-unrecorded, by the mark.
use Rattle.std.proofs.Common.{ap, subst, sym, ◌∙◌}
use Rattle.std.proofs.Math.Seq.{take-append_seam}
use Rattle.std.specs.Prelude.{None, Some, [], length, option_and_then, suc, take, ◌<◌, ◌^◌, ◌≡◌}
use Rattle.laws_repair.proofs.Repaired.{repair_leaves}
use Rattle.laws_repair.specs.Repair.{is_mark_text, Mark, by_of, IsWhole, marked_text, repair_calls, standing}
use Rattle.lq_base.specs.Kind.{plain_number}
use Rattle.lq_base.specs.Name.{identity_text}
use Rattle.lq_base.specs.declared.tracking.Lock.{Lock}
use Rattle.lq_turns.specs.Session.{left_by}
use Rattle.lq_turns.specs.Within.{marks_last}
use Rattle.lq_unrecorded.proofs.MarkParts.{parts}
use Rattle.lq_unrecorded.specs.Part.{is_back, number_in}
use Rattle.lq_mending.specs.Laws.{CallsRepair, UndoLeaves}
use Rattle.lq_mending.specs.Undoes.{calls_of, made_in, set_marked, standing_in, undo_script}

pub calls_repair : CallsRepair
calls_repair o g last database mark x locked found =
    let d = o.dialect in
    let lock = database.lock in
    let it = parts lock mark locked in
    let set = is_mark_text d (by_of lock) last in
    let number = number_in (plain_number it.digits) in
    ap (λ m. calls_of o database (option_and_then (λ k. standing_in d last lock k (set_marked o g database.rows k)) m)) it.part
    ∙ (ap (λ s. calls_of o database (standing_in d last lock (mark.name, it.form, it.digits) s)) found
    ∙ (ap (λ who. repair_calls d who x.identity (take (standing (is_back it.form) set number) (made_in o x)) database) it.who
    ∙ (ap (λ b. repair_calls d mark.who x.identity (take (standing b set number) (made_in o x)) database) it.back
    ∙ ap (λ k. repair_calls d mark.who x.identity (take (standing mark.is_back set k) (made_in o x)) database) it.number)))

pub undo_leaves : UndoLeaves
undo_leaves o g last at who x c deed now partly plain small named told =
    let d = o.dialect in
    let k = length partly.place.0 in
    let at_k : partly.k ≡ suc k = partly.place.4 in
    let by : now.lock.by ≡ Some (marked_text partly.is_back who x.identity partly.k) = ap (λ (l : Lock). l.by) partly.lock in
    let mark : Mark now.lock = record {
      who = who;
      name = identity_text x.identity;
      is_back = partly.is_back;
      k = k;
      small = subst (λ n. n < 2 ^ 64) at_k small;
      is = by ∙ ap (λ n. Some (marked_text partly.is_back who x.identity n)) at_k;
      plain = plain;
    } in
    let by_is : by_of now.lock ≡ marked_text partly.is_back who x.identity partly.k = ap (λ b. elim b [ Some text ↦ text | None ↦ [] ]) by in
    let count : standing partly.is_back (is_mark_text d (by_of now.lock) last) (suc k) ≡ length partly.first =
    ap (λ b. standing partly.is_back b (suc k)) (told ∙ ap (λ text. marks_last text deed) by_is)
    ∙ (ap (standing partly.is_back (marks_last (marked_text partly.is_back who x.identity partly.k) deed)) (sym at_k) ∙ sym partly.number) in
    let first : take (length partly.first) (made_in o x) ≡ partly.first = ap (take (length partly.first)) partly.are ∙ take-append_seam partly.first partly.rest in
    let same : undo_script o g last now ≡ repair_calls d who x.identity partly.first now =
    calls_repair o g last now mark x (ap (λ (l : Lock). l.locked) partly.lock) named
    ∙ (ap (λ n. repair_calls d who x.identity (take n (made_in o x)) now) count ∙ ap (λ ss. repair_calls d who x.identity ss now) first) in
    (same, subst (λ calls. IsWhole c (left_by d calls now)) (sym same) (repair_leaves d at who x.identity (made_in o x) c deed now partly).0)
