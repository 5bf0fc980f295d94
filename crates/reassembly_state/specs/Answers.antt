-- The number and the values of each answer of the queue.
-- Assumes nothing.
use Rattle.std.specs.Prelude.{Bool, true, false, Option, Some, None, Result}
use Rattle.wire_model.specs.Refusal.{Told}
use Rattle.refusal.specs.declared.Refusal.{Refusal}
use Rattle.refusal.specs.Told.{answer_told}
use Rattle.reassembly_state.specs.Model.{Message, no_message}
use Rattle.chunks.specs.declared.Chunks.{Chunks}

-- a message in hand, by its numbers
unfoldable pub message_held : Chunks → Message
message_held c =
    record { comes = true; ssn = c.ssn; ppi = c.ppi; size = c.size; position = c.position; given = c.given }

-- of a message that may not be there
abbrev pub message_found : Option Chunks → Message
message_found (Some c) = message_held c
message_found None = no_message

-- a message, or that there is none
abbrev pub took_told : Result (Option Chunks) Refusal → Told Message
took_told = answer_told no_message message_found

-- true where it was done
abbrev pub done_told : Result (Unit {0}) Refusal → Told Bool
done_told = answer_told false (λ _. true)
