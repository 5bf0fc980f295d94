-- What a step leaves, from what the calls below it leave.
-- Assumes nothing.
use Rattle.std.proofs.Common.{◌≡◌, ℕ, ◌+◌, ◌-◌, ◌%◌, ◌^◌, Bool, true, false, List, take, drop, arith}
use Rattle.wire_model.specs.BigEndian.{over}
use Rattle.wire_model.specs.Refusal.{Told}
use Rattle.counters.specs.Counted.{counted_as}
use Rattle.counters.specs.declared.Counters.{Counters}
use Rattle.counters.specs.declared.Kind.{Kind}
use Rattle.counters.specs.declared.Kind.TheVariants as kinds
use Rattle.payload_model.specs.Queue.{Queue, after}
use Rattle.replay_file.specs.File.{none, short, chunk, start}
use Rattle.replay_push.specs.Decoded.{recorded}
use Rattle.replay_lines.specs.Lines.{line, said_answer, said_cut}
use Rattle.replay_lines.specs.Behind.{Put}
use Rattle.replay_state.specs.State.{State}
use Rattle.replay_turn.specs.Step.{kind_of, cut_short, chunk_step, stepped, Left, left}

-- a chunk's answer, written and counted
pub chunk-left : (taken : ℕ) (s : State) (raw out : List ℕ) (told : Told Bool) (q : Queue) {out' : List ℕ} {written number : ℕ} {kind : Kind} {counters : Counters}
    → after told q ≡ recorded s.queue raw → Put out (line s.number (said_answer told)) out' written → kind ≡ kind_of told → counters ≡ counted_as kind s.counters → number ≡ (s.number + 1) % 2 ^ 64
    → ◌≡◌ {A = Left} (record { more = true; taken = taken; written = written; line = out'; state = record { number = number; queue = q; counters = counters } }) (left (chunk_step taken s raw) out)
unfolding chunk_step
chunk-left taken s raw out told q e put k c n = rw (n, c, k, put.is, put.size, ← e)

-- a record that is cut short, written and counted
pub cut_left : (s : State) (out : List ℕ) {out' : List ℕ} {written : ℕ} {counters : Counters}
    → Put out (line s.number said_cut) out' written → counters ≡ counted_as kinds.Cut s.counters
    → ◌≡◌ {A = Left} (record { more = false; taken = 0; written = written; line = out'; state = record { number = s.number; queue = s.queue; counters = counters } }) (left (cut_short s) out)
cut_left s out put c = rw (c, put.is, put.size)

-- ── by what stands at the front of the bytes ──

module _ (s : State) (bytes out : List ℕ) where
  pub nothing-stepped : none ≡ start bytes → ◌≡◌ {A = Left} (record { more = false; taken = 0; written = 0; line = out; state = s }) (left (stepped s bytes) out)
  unfolding stepped over
  nothing-stepped e = rw (← e)

  pub cut-stepped : short ≡ start bytes → left (cut_short s) out ≡ left (stepped s bytes) out
  unfolding stepped
  cut-stepped e = rw (← e)

  pub chunk-stepped : {n : ℕ} → chunk n ≡ start bytes → left (chunk_step (2 + n) s (take (2 + n - 2) (drop 2 bytes))) out ≡ left (stepped s bytes) out
  unfolding stepped
  chunk-stepped {n} e = let same : 2 + n - 2 ≡ n = omega arith in rw (← e, same)
