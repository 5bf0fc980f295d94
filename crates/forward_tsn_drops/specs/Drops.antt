-- What the TSN queue drops for a FORWARD TSN chunk, as document 02 has it. What is dropped is said by the queue's own call.
-- Assumes nothing.
use Rattle.std.specs.Prelude.{ℕ, Bool, true, false, cond}
use Rattle.wire_model.specs.Refusal.{none, says}
use Rattle.serial_model.specs.Serial.{at_or_before}
use Rattle.payload_model.specs.Queue as tsns
use Rattle.payload_model.specs.Queue.{Queue, popped_up_to}

-- "the TSN queue drops up to the new point"
unfoldable pub applied_to_tsns : Queue → ℕ → ℕ → tsns.After Bool
applied_to_tsns q cumulative point = tsns.soundly false q (cond (at_or_before 32 point cumulative) (tsns.after (says none true) q) (popped_up_to q point))
