-- Applying a FORWARD TSN chunk: RFC 3758 section 3.6, as document 02 has it. What is skipped is said by the calls of the two queues; the ordered skips and
-- what the TSN queue drops are said in the crates that do them, and handed on.
-- Assumes nothing.
use Rattle.std.specs.Prelude.{ℕ, Bool, true, false, cond, List}
use Rattle.wire_model.specs.Refusal.{none, says}
use Rattle.serial_model.specs.Serial.{at_or_before}
use Rattle.reassembly_state.specs.State as stream
use Rattle.reassembly_state.specs.State.{State, forward_unordered}
pub use Rattle.forward_tsn_skips.specs.Skips.{Pairs}
unfoldable pub use Rattle.forward_tsn_skips.specs.Skips.{pair_skipped, pairs_skipped}
unfoldable pub use Rattle.forward_tsn_drops.specs.Drops.{applied_to_tsns}

-- ".. then one unordered skip"; "A new point at or before the cumulative TSN given changes nothing."
unfoldable pub applied_to_stream : State → ℕ → ℕ → List ℕ → List ℕ → stream.After Bool
applied_to_stream s cumulative point streams ssns =
    stream.soundly false s (cond (at_or_before 32 point cumulative) (stream.after (says none true) s) (forward_unordered (pairs_skipped s streams ssns) point))
