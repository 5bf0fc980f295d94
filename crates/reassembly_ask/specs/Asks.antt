-- What the questions of an ordered push answer.
-- Assumes nothing.
use Rattle.std.specs.Prelude.{Bool, true, false, ℕ, Result, Ok, Err}
use Rattle.refusal.specs.declared.Refusal.{Refusal}
use Rattle.refusal.specs.Told.{number}
use Rattle.wire_model.specs.Refusal.{none, refuse, says}
use Rattle.data_fields.specs.declared.ChunkPayloadData.{ChunkPayloadData}
use Rattle.reassembly_state.specs.State.{State}
use Rattle.reassembly_state.specs.Rows.{Declines, Keeps}
use Rattle.reassembly_ask.specs.declared.SetRows.{SetRows}

-- refused, or told false, it is not kept; else it is, and its set is where it says
abbrev pub Asks : State → Bool → ChunkPayloadData → ℕ → Result Bool Refusal → SetRows → Type 0
Asks s room p more (Ok true) r = Keeps s room p more r.at r.run
Asks s room p more (Ok false) r = Declines s room p more (says none false)
Asks s room p more (Err e) r = Declines s room p more (says (refuse (number e)) false)
