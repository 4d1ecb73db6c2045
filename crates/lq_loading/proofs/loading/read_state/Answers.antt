use Rattle.lq_loading.proofs.Raises.{read_at}
use Rattle.lq_loading.proofs.loading.read_state.Goals as goal

pub returns-in-Ok : goal.returns-in-Ok
returns-in-Ok g c = (
  c.in-Ok.ensures.bytes,
  read_at c.args.dialect c.args.bytes.now (g.E.Executor.held c.in-Ok.engine) c.states_are_sound.ensures c.in-Ok.ensures.engine c.in-Ok.ensures.bytes,
)
