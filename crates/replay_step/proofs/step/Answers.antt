-- `replay_step::step` meets its contract: what stands at the front of the rest decides, and a chunk lies within it.
use mathlib.Core.Path.{◌∙◌}
use native.Mathlib.Omega.{arith}
use Rattle.replay_file.proofs.Starts.{starts_within}
use Rattle.replay_state.specs.State.{state_of}
use Rattle.replay_turn.proofs.Steps.{nothing-stepped, cut-stepped, chunk-stepped}
use Rattle.replay_step.proofs.step.Goals as goal

pub slice_bounds-chunk_step-end : goal.slice_bounds-chunk_step-end
slice_bounds-chunk_step-end c = omega (arith, (starts_within c.args.rest.now (rw c.in-Some-Chunk.field-0-is at c.in-Some-Chunk.ensures)).0)

pub returns-in-None : goal.returns-in-None
returns-in-None c =
    let a = c.args in
    nothing-stepped (state_of a.replay.now a.table.now) a.rest.now a.line.now c.in-None.ensures

pub returns-in-Some-Cut : goal.returns-in-Some-Cut
returns-in-Some-Cut c =
    let a = c.args in
    let s = state_of a.replay.now a.table.now in
    c.cut_step.ensures a.table.now ∙ cut-stepped s a.rest.now a.line.now (rw c.in-Some-Cut.field-0-is at c.in-Some-Cut.ensures)

pub returns-in-Some-Chunk : goal.returns-in-Some-Chunk
returns-in-Some-Chunk c =
    let a = c.args in
    let s = state_of a.replay.now a.table.now in
    c.chunk_step.ensures ∙ chunk-stepped s a.rest.now a.line.now (rw c.in-Some-Chunk.field-0-is at c.in-Some-Chunk.ensures)
