-- `replay_turn::cut_step` meets its contract: the line says so, and the counts have it.
use Rattle.replay_state.specs.State.{state_of}
use Rattle.replay_turn.proofs.Steps.{cut_left}
use Rattle.replay_turn.proofs.cut_step.Goals as goal

pub returns : goal.returns
returns c ws =
    let a = c.args in
    cut_left (state_of a.replay.now ws) a.line.now c.put_cut-written.ensures c.count.ensures
