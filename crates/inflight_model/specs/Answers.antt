-- What the answer tells that may give a record.
-- Assumes nothing.
use Rattle.std.specs.Prelude.{Result, Option, Some, None}
use Rattle.wire_model.specs.Refusal.{Told}
use Rattle.refusal.specs.Told.{answer_told}
use Rattle.refusal.specs.declared.Refusal.{Refusal}
use Rattle.payload_model.specs.Answers.{queued_found}
use Rattle.inflight_model.specs.Queue.{Given, nothing_sent}
use Rattle.inflight_model.specs.declared.Sent.{Sent}

unfoldable pub sent_given : Sent → Given
sent_given s =
    record { chunk = queued_found s.queued; acked = s.acked; abandoned = s.abandoned; retransmit = s.retransmit; message = s.message_id }

-- a record, if there is one
abbrev pub given_if : Option Sent → Given
given_if (Some s) = sent_given s
given_if None = nothing_sent

abbrev pub taken_told : Result (Option Sent) Refusal → Told Given
taken_told = answer_told nothing_sent given_if
