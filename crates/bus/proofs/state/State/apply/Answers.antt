-- `bus::state::State::apply` meets its contract: it writes the arrays of the state that has them.
-- Assumes nothing.
use Rattle.bus.proofs.state.State.apply.Goals as goal

pub returns : goal.returns
returns c = c.write_arrays.ensures c.args.self.now
