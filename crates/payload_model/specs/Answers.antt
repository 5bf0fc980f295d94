-- The number and the values of each answer.
-- Assumes nothing.
use Rattle.std.specs.Prelude.{ℕ, Bool, true, false, Option, Some, None, Result}
use Rattle.wire_model.specs.Refusal.{Told}
use Rattle.refusal.specs.declared.Refusal.{Refusal}
use Rattle.refusal.specs.Told.{answer_told}
use Rattle.data_fields.specs.Fields.{data_held}
use Rattle.payload_model.specs.Queue.{Found, nothing, Last, Handed, zeros}
use Rattle.payload_model.specs.declared.Queued.{Queued}
use Rattle.payload_model.specs.declared.Duplicates.{Duplicates}

-- what is said of a chunk that was found
unfoldable pub queued_found : Queued → Found
queued_found q = record { found = true; values = data_held q.chunk; size = q.size }

-- of a chunk that may not be there
abbrev pub chunk_found : Option Queued → Found
chunk_found (Some q) = queued_found q
chunk_found None = nothing

-- of a TSN that may not be there
abbrev pub last_found : Option ℕ → Last
last_found (Some t) = record { found = true; tsn = t }
last_found None = record { found = false; tsn = 0 }

-- a chunk, or that there is none
abbrev pub taken_told : Result (Option Queued) Refusal → Told Found
taken_told = answer_told nothing chunk_found

-- a TSN, or that there is none
abbrev pub last_told : Result (Option ℕ) Refusal → Told Last
last_told = answer_told (record { found = false; tsn = 0 }) last_found

-- true where it was done
abbrev pub done_told : Result (Unit {0}) Refusal → Told Bool
done_told = answer_told false (λ _. true)

-- the count beside the array of all places; refused, all places 0
abbrev pub handed_told : Result Duplicates Refusal → Told Handed
handed_told = answer_told (record { count = 0; tsns = zeros }) (λ (d : Duplicates). record { count = d.count; tsns = d.tsns })
