-- What a status lists, one changeset after another.
use Rattle.std.proofs.Common.{add-one, ap, drop, get_or, length, map, refl, sym, ◌+◌, ◌++◌, ◌<◌, ◌≡◌, ◌∙◌, suc, None, Some, []}
use Rattle.std.proofs.Math.Seq.{drop-cons}
use Rattle.std.proofs.lemmas.List.{append_assoc}
use Rattle.std.specs.List.{cons_option}
use Rattle.std.specs.Prelude.{List, Option, ℕ}
use Rattle.lq_base.specs.declared.identity.Identity.{Identity}
use Rattle.lq_base.specs.declared.tracking.Tracked.{Tracked}
use Rattle.lq_turns.specs.Printed.{if_pending, pending}
use Rattle.lq_turns.specs.Settle.{what}
use Rattle.lq_turns.specs.declared.choice.What.{What}
use Rattle.lq_plan.specs.Told.{headed}
use Rattle.lq_plan.specs.declared.head.Head.{Head}

cons_is : {A : Type 0} (o : Option A) (xs : List A) → cons_option o xs ≡ cons_option o [] ++ xs
cons_is None xs = refl
cons_is (Some x) xs = refl

pub pending_more : (heads : List Head) (i : ℕ) (d head : Head) (rows : List Tracked) (found new all : List Identity) {now : Option What} → i < length heads → head ≡ get_or heads i d
    → found ++ pending (map headed (drop i heads)) rows ≡ all → now ≡ what (headed head) rows → new ≡ found ++ cons_option (if_pending head.identity.now now) [] → new ++ pending (map headed (drop (i + 1) heads)) rows ≡ all
pending_more heads i d head rows found new all {now} within is so by grown =
    let rest = pending (map headed (drop (suc i) heads)) rows in
    let its = if_pending head.identity.now (what (headed head) rows) in
    let split : found ++ cons_option its rest ≡ all = rw (drop-cons heads i d, ← is) at so in
    rw (add-one, grown, by) (append_assoc found (cons_option its []) rest ∙ (ap (λ ys. found ++ ys) (sym (cons_is its rest)) ∙ split))
