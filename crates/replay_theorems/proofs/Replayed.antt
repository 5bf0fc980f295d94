-- A program that goes step by step writes the whole output, record for record, also through a window.
-- Assumes nothing.
use mathlib.Core.Path.{◌≡◌, refl, sym, ap, ◌∙◌}
use mathlib.Core.Bool.{cond}
use mathlib.Core.List.{List, ◌++◌, map, append_assoc, append-nil}
use Prim.Native.Nat.{ℕ, zero, suc, ◌+◌, ◌%◌, ◌^◌, ◌<◌, ◌≤◌}
use native.Mathlib.Nat.{mod-eq_of_lt}
use native.Mathlib.Omega.{arith}
use lib.ListN.{length, take, drop, length-drop}
use lib.Seq.{take-append-le, drop-append-le}
use Rattle.wire.proofs.Exists.{Bytes}
use Rattle.counters.specs.Counted.{counted_as, counted_all}
use Rattle.counters.specs.declared.Counters.{Counters}
use Rattle.counters.specs.declared.Kind.TheVariants as kinds
use Rattle.counters.proofs.Runs.{run-counted}
use Rattle.payload_model.specs.Run.{starts}
use Rattle.replay_file.specs.File as file
use Rattle.replay_file.specs.File.{Start, start, parted_at, records_of, records_most, number, versioned}
use Rattle.replay_file.proofs.Starts.{starts_shown}
use Rattle.replay_lines.specs.Lines.{line, said_cut, total_line, bad_version}
use Rattle.replay_state.specs.State.{State, state_of, fresh}
use Rattle.replay_turn.specs.Step.{step_at, stepped, chunk_step}
use Rattle.replay_theorems.specs.Output.{Outcome, counted_of, outcomes, lines, output}
use Rattle.replay_theorems.specs.Program.{onward, run, programs, Shown, all, front}

-- the rest of the lines from a number on, and the totals over what was counted before
abbrev rest : ℕ → Counters → List Outcome → List ℕ
rest number c os = lines number os ++ total_line (counted_all c (map counted_of os))

-- a step by what stands at the front, and what is left by the steps behind it
onward-rest : (f : Start) (m : ℕ) (s : State) (bytes : List ℕ) → s.number + 1 < 2 ^ 64
    → ((t : State) (more : List ℕ) → t.number ≡ s.number + 1 → run m t more ≡ rest t.number t.counters (outcomes t.queue (records_of m more)))
    → onward (step_at f s bytes) bytes (run m) ≡ rest s.number s.counters (outcomes s.queue (parted_at f bytes (records_of m)))
unfolding chunk_step
onward-rest file.none m s bytes h more = refl
onward-rest file.short m s bytes h more = ap (λ (l : List ℕ). l ++ total_line (counted_as kinds.Cut s.counters)) (sym (append-nil (line s.number said_cut)))
onward-rest (file.chunk n) m s bytes h more =
    let t = chunk_step (2 + n) s (take n (drop 2 bytes)) in
    let left = drop (2 + n) bytes in
    let os = outcomes t.state.queue (records_of m left) in
    let next : (s.number + 1) % 2 ^ 64 ≡ s.number + 1 = mod-eq_of_lt h in
    ap (λ (l : List ℕ). t.text ++ l) (more t.state left next ∙ ap (λ (k : ℕ). rest k t.state.counters os) next)
    ∙ sym (append_assoc t.text (lines (s.number + 1) os) (total_line (counted_all t.state.counters (map counted_of os))))

run-rest : (m : ℕ) (s : State) (bytes : List ℕ) → s.number + m < 2 ^ 64 → run m s bytes ≡ rest s.number s.counters (outcomes s.queue (records_of m bytes))
unfolding stepped
run-rest zero s bytes h = refl
run-rest (suc m) s bytes h = onward-rest (start bytes) m s bytes (omega arith) (λ t more e. run-rest m t more (omega arith))

-- ── the whole output ──

-- what such a program writes is the output: at most so many records, as long as their numbers have 64 bits
pub replay_writes : (most : ℕ) (words file : List ℕ) → most < 2 ^ 64 → programs most words file ≡ output most words file
unfolding programs output
replay_writes most words file h =
    let os = outcomes (starts words) (records_of most (drop 1 file)) in
    ap (λ (l : List ℕ). cond (versioned file) l bad_version)
    (run-rest most (state_of fresh words) (drop 1 file) (omega arith) ∙ ap (λ (c : Counters). lines 0 os ++ total_line c) (run-counted (map counted_of os)))

-- with document 02's 2^33
pub replay_writes_all : (words file : List ℕ) → programs records_most words file ≡ output records_most words file
replay_writes_all words file = replay_writes records_most words file (omega arith)

-- ── through a window ──

-- a step that is shown a window does what it does on all that is left
pub window_steps : (s : State) (bytes : List ℕ) {window : List ℕ} → Bytes window → Shown bytes window → stepped s window ≡ stepped s bytes
unfolding stepped
window_steps s bytes by all = refl
window_steps s bytes {window} by (front more e long) = rw e (shown (starts_shown window more by long))
  where
    shown : (start (window ++ more) ≡ file.chunk (number 2 window)) × (start window ≡ file.chunk (number 2 window)) × (2 + number 2 window ≤ length window) → stepped s window ≡ stepped s (window ++ more)
    shown (a, b, h) =
        let n = number 2 window in
        let same : take n (drop 2 (window ++ more)) ≡ take n (drop 2 window) =
        ap (take n) (drop-append-le 2 window more (omega arith)) ∙ take-append-le n (drop 2 window) more (rw length-drop (omega arith)) in
        rw (a, b) (ap (chunk_step (2 + n) s) (sym same))
