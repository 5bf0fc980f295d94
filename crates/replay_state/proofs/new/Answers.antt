-- `replay_state::new` meets its contract: nothing is held and nothing is counted.
use Rattle.replay_state.proofs.new.Goals as goal

pub returns : goal.returns
returns c = rw (c.new.ensures, c.new-2.ensures)
