-- The lines of preconditions, of a place that is lent and of one that is held.
use Rattle.std.proofs.Common.{◌≡◌, Option, Some, None, Result, Ok, Err, OnOk, refl, option_copied, Bor}
use Rattle.lq_base.specs.declared.identity.Identity.{Identity}
use Rattle.lq_base.specs.declared.run.Why.{Why}
use Rattle.lq_report.specs.Output.{halted_line, warning_line}
use Rattle.lq_tell.specs.Lines.{halted_at, warned_at}

pub on_ok : {X E A B : Type 0} (r : Result X E) → OnOk r A → (A → B) → OnOk r B
on_ok (Ok x) a f = f a
on_ok (Err e) a f = tt

pub halted_same : (place : Option (Bor Identity)) (why : Why) → halted_line place why ≡ halted_at (option_copied place) why
unfolding halted_line halted_at
halted_same (Some identity) why = refl
halted_same None why = refl

pub warned_same : (place : Option (Bor Identity)) (why : Why) → warning_line place why ≡ warned_at (option_copied place) why
unfolding warning_line warned_at
warned_same (Some identity) why = refl
warned_same None why = refl
