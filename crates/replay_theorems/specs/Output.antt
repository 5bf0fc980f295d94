-- The whole output of a file of captured chunks: document 02, M-113.
-- Assumes nothing.
use Rattle.std.specs.Prelude.{ℕ, ◌+◌, Bool, cond, List, [], ◌∷◌, ◌++◌, map, drop}
use Rattle.wire_model.specs.Refusal.{Told}
use Rattle.counters.specs.Counted.{totals}
use Rattle.counters.specs.declared.Kind.{Kind}
use Rattle.counters.specs.declared.Kind.TheVariants as kinds
use Rattle.payload_model.specs.Queue.{Queue}
use Rattle.payload_model.specs.Run.{starts}
use Rattle.replay_file.specs.File.{versioned, Part, whole, cut, records_of}
use Rattle.replay_push.specs.Decoded.{recorded}
use Rattle.replay_lines.specs.Lines.{line, said_answer, said_cut, total_line, bad_version}
use Rattle.replay_turn.specs.Step.{kind_of}

-- what became of a record: its answer, or that it is cut short
pub data Outcome : Type 0 where
  answered : Told Bool → Outcome
  short : Outcome

abbrev pub said_of : Outcome → List ℕ
said_of (answered t) = said_answer t
said_of short = said_cut

abbrev pub counted_of : Outcome → Kind
counted_of (answered t) = kind_of t
counted_of short = kinds.Cut

-- each record goes to the queue that the one before it left
abbrev pub outcomes : Queue → List Part → List Outcome
outcomes q [] = []
outcomes q (whole chunk ∷ ps) = answered (recorded q chunk).told ∷ outcomes (recorded q chunk).queue ps
outcomes q (cut ∷ ps) = short ∷ outcomes q ps

-- "Write one line per record: its number from 0, a space, then .."
abbrev pub lines : ℕ → List Outcome → List ℕ
lines number [] = []
lines number (o ∷ os) = line number (said_of o) ++ lines (number + 1) os

-- the lines of what became of the records, and "After the last line write `total` and the four numbers"
abbrev pub written : List Outcome → List ℕ
written os = lines 0 os ++ total_line (totals (map counted_of os))

-- at most so many records of a file, pushed "to a fresh TSN queue", whatever its table holds; "except after `bad version`"
unfoldable pub output : ℕ → List ℕ → List ℕ → List ℕ
output most words file = cond (versioned file) (written (outcomes (starts words) (records_of most (drop 1 file)))) bad_version
