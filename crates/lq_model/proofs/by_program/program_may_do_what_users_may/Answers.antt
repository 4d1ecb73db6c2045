use Rattle.lq_model.proofs.ProgramMay.{by_program}
use Rattle.lq_model.proofs.by_program.program_may_do_what_users_may.Goals as goal

pub returns : goal.returns
returns c = by_program
