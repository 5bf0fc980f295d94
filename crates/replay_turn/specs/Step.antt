-- A replay, record by record: document 02, M-113.
-- Assumes nothing.
use Rattle.std.specs.Prelude.{ℕ, ◌+◌, ◌%◌, ◌^◌, Bool, true, false, List, [], length, take, drop}
use Rattle.wire_model.specs.BigEndian.{over}
use Rattle.wire_model.specs.Refusal.{Refusal, none, refuse, Told}
use Rattle.counters.specs.Counted.{counted_as}
use Rattle.counters.specs.declared.Kind.{Kind}
use Rattle.counters.specs.declared.Kind.TheVariants as kinds
use Rattle.payload_model.specs.Queue.{After}
use Rattle.replay_file.specs.File as file
use Rattle.replay_file.specs.File.{Start, start}
use Rattle.replay_push.specs.Decoded.{recorded}
use Rattle.replay_lines.specs.Lines.{line, said_answer, said_cut}
use Rattle.replay_state.specs.State.{State, state_of}
use Rattle.replay_state.specs.declared.Replay.{Replay}
use Rattle.replay_turn.specs.declared.Turn.{Turn}

-- "Count stored, turned away, refused and cut records": what an answer counts as
abbrev pub kind_as : Refusal → Bool → Kind
kind_as none true = kinds.Stored
kind_as none false = kinds.TurnedAway
kind_as (refuse k) stored = kinds.Refused

abbrev pub kind_of : Told Bool → Kind
kind_of t = kind_as t.refusal t.values

-- ── one step ──

-- whether there may be more, how many bytes were taken, the text, and the state behind it
pub record Step : Type 0 where
  pub more : Bool
  pub taken : ℕ
  pub text : List ℕ
  pub state : State

-- no byte is left: nothing is written
abbrev pub ended : State → Step
ended s = record { more = false; taken = 0; text = []; state = s }

-- "a record cut short .. writes its number, ` cut` and ends"
abbrev pub cut_short : State → Step
cut_short s =
    record {
      more = false;
      taken = 0;
      text = line s.number said_cut;
      state = record { number = s.number; queue = s.queue; counters = counted_as kinds.Cut s.counters };
    }

-- a chunk's answer is written and counted; its number has 64 bits
abbrev pub answered : ℕ → State → After Bool → Step
answered taken s a =
    record {
      more = true;
      taken = taken;
      text = line s.number (said_answer a.told);
      state = record { number = (s.number + 1) % 2 ^ 64; queue = a.queue; counters = counted_as (kind_of a.told) s.counters };
    }

-- "that many bytes of one chunk"
unfoldable pub chunk_step : ℕ → State → List ℕ → Step
chunk_step taken s chunk = answered taken s (recorded s.queue chunk)

abbrev pub step_at : Start → State → List ℕ → Step
step_at file.none s bytes = ended s
step_at file.short s bytes = cut_short s
step_at (file.chunk n) s bytes = chunk_step (2 + n) s (take n (drop 2 bytes))

-- the step on the rest of a file
unfoldable pub stepped : State → List ℕ → Step
stepped s bytes = step_at (start bytes) s bytes

-- ── what a call leaves: its answer, the state, and the text at the front of the lent line ──

pub record Left : Type 0 where
  pub more : Bool
  pub taken : ℕ
  pub written : ℕ
  pub line : List ℕ
  pub state : State

abbrev pub left : Step → List ℕ → Left
left s out = record { more = s.more; taken = s.taken; written = length s.text; line = over out s.text; state = s.state }

abbrev pub left_of : Turn → Replay → List ℕ → List ℕ → Left
left_of t r ws out = record { more = t.more; taken = t.taken; written = t.written; line = out; state = state_of r ws }
