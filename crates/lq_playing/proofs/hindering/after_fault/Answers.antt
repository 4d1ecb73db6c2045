use Rattle.std.proofs.Common.{inl}
use Rattle.std.specs.Prelude.{Err, Ok, Some, false, ◌≡◌}
use Rattle.lq_model.specs.declared.fault.StoreFault.{StoreFault}
use Rattle.lq_playing.proofs.Told.{kept_ok, met_err, no_disk_after, not_none, not_some, own_err, own_ok, unlocked_err}
use Rattle.lq_playing.specs.Answers.{fault_of, tells_locked}
use Rattle.lq_turns.specs.declared.answer.Answer.{Answer}
use Rattle.lq_playing.proofs.hindering.after_fault.Goals as goal

pub returns-in-None-clause-locked : goal.returns-in-None-clause-locked
returns-in-None-clause-locked c = λ some. not_some c.args.fault c.in-None.is some

pub returns-in-Ok-clause-same : goal.returns-in-Ok-clause-same
returns-in-Ok-clause-same c = λ none. not_none c.args.fault c.in-Some.fault c.in-Some.is none

pub returns-in-Ok-clause-disk : goal.returns-in-Ok-clause-disk
returns-in-Ok-clause-disk c = λ clean is. no_disk_after c.args.fault c.in-Some.fault c.locked_or.result c.in-Some.is clean c.locked_or.ensures.fault is

pub returns-in-Err-clause-same : goal.returns-in-Err-clause-same
returns-in-Err-clause-same c = λ none. not_none c.args.fault c.in-Some.fault c.in-Some.is none

pub returns-in-None-clause-kept : goal.returns-in-None-clause-kept
returns-in-None-clause-kept c = own_ok c.args.answer

pub returns-in-None-clause-fails : goal.returns-in-None-clause-fails
returns-in-None-clause-fails c = own_err c.args.answer (λ why. (met : StoreFault) × (c.args.fault ≡ Some met) × (fault_of met ≡ why))

pub returns-in-None-clause-unlocked : goal.returns-in-None-clause-unlocked
returns-in-None-clause-unlocked c = own_err c.args.answer (λ why. (a : Answer) × (c.args.answer ≡ Ok a) × (tells_locked a ≡ false))

pub returns-in-Ok-clause-kept : goal.returns-in-Ok-clause-kept
returns-in-Ok-clause-kept c = kept_ok c.locked_or.result c.args.answer c.in-Ok.answer c.in-Ok.is c.locked_or.ensures.kept

pub returns-in-Ok-clause-fails : goal.returns-in-Ok-clause-fails
returns-in-Ok-clause-fails c = met_err c.locked_or.result c.args.fault c.in-Some.fault (λ why. c.args.answer ≡ Err why) c.in-Some.is c.locked_or.ensures.fault

pub returns-in-Ok-clause-unlocked : goal.returns-in-Ok-clause-unlocked
returns-in-Ok-clause-unlocked c = unlocked_err c.locked_or.result c.args.answer c.in-Ok.answer c.in-Ok.is c.locked_or.ensures.unlocked

pub returns-in-Err-clause-fails : goal.returns-in-Err-clause-fails
returns-in-Err-clause-fails c = inl c.in-Err.is

pub returns-in-Err-clause-unlocked : goal.returns-in-Err-clause-unlocked
returns-in-Err-clause-unlocked c = inl c.in-Err.is
