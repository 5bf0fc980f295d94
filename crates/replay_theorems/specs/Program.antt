-- What a program writes that calls `is_known`, then `step` on what is left of the file, again and again, and `total` at last: by the definitions that the promises cite.
-- Assumes nothing.
use Rattle.std.specs.Prelude.{◌≡◌, ℕ, zero, suc, ◌≤◌, cond, List, ◌++◌, length, drop}
use Rattle.replay_file.specs.File.{versioned}
use Rattle.replay_lines.specs.Lines.{total_line, bad_version}
use Rattle.replay_state.specs.State.{State, state_of, fresh}
use Rattle.replay_turn.specs.Step.{Step, stepped}

-- a step's text, and behind it the rest, where there may be more; the totals, where there is none
abbrev pub onward : Step → List ℕ → (State → List ℕ → List ℕ) → List ℕ
onward t bytes rest = t.text ++ cond t.more (rest t.state (drop t.taken bytes)) (total_line t.state.counters)

-- so many steps at most, each behind the bytes that the one before it took
abbrev pub run : ℕ → State → List ℕ → List ℕ
run zero s bytes = total_line s.counters
run (suc most) s bytes = onward (stepped s bytes) bytes (run most)

unfoldable pub programs : ℕ → List ℕ → List ℕ → List ℕ
programs most words file = cond (versioned file) (run most (state_of fresh words) (drop 1 file)) bad_version

-- ── a window over the file ──

-- what a step is shown of the rest: all of it, or its first 65,537 bytes and more
pub data Shown (rest : List ℕ) : List ℕ → Type 0 where
  all : Shown rest rest
  front : {window : List ℕ} (more : List ℕ) → rest ≡ window ++ more → 65537 ≤ length window → Shown rest window
