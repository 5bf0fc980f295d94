-- No second outcome of a call of the counters or of a replay fits its promise: the answer, the counters where they lie, the words of the table and the bytes of the line are fixed.
-- Assumes nothing.
use mathlib.Core.Path.{◌≡◌, refl, sym, ap, ◌∙◌}
use mathlib.Core.Bool.{Bool}
use mathlib.Core.List.{List}
use Prim.Native.Nat.{ℕ}
use Rattle.std.specs.Prelude.{Option, Some, None}
use Rattle.counters.specs.Counted as counted
use Rattle.counters.specs.Counted.{counted_as}
use Rattle.counters.specs.declared.Counters.{Counters}
use Rattle.counters.specs.declared.Kind.{Kind}
use Rattle.payload_queue.specs.declared.PayloadQueue.{PayloadQueue}
use Rattle.replay_file.specs.File as file
use Rattle.replay_file.specs.File.{versioned, Start, start, record_told, records_most}
use Rattle.replay_file.specs.declared.Record.{Record}
use Rattle.replay_file.specs.declared.Record.TheVariants as records
use Rattle.replay_lines.specs.Behind.{Put}
use Rattle.replay_lines.specs.Lines.{total_line, bad_version}
use Rattle.replay_state.specs.State.{state_of, fresh}
use Rattle.replay_state.specs.declared.Replay.{Replay}
use Rattle.replay_turn.specs.Step.{stepped, Left, left, left_of}
use Rattle.replay_turn.specs.declared.Turn.{Turn}
use Rattle.one_answer.proofs.Only.{Only, named-one, only, both}
use Rattle.one_answer.proofs.States.{TsnWords, tsn_struct_one, tsn-words-one}

-- ── the counters, by value and where they lie ──

pub counters_new_one : Only (λ (r : Counters). r ≡ counted.fresh)
counters_new_one = named-one

module _ (counters : Counters) (kind : Kind) where
  pub counters_counted_one : Only (λ (r : Counters). r ≡ counted_as kind counters)
  counters_counted_one = named-one

  pub counters_count_one : Only (λ (exit : Counters). exit ≡ counted_as kind counters)
  counters_count_one = named-one

-- ── the file ──

pub replay_is_known_one : (file : List ℕ) → Only (λ (r : Bool). r ≡ versioned file)
replay_is_known_one file = named-one

abbrev record_of : Start → Option Record
record_of file.none = None
record_of file.short = Some records.Cut
record_of (file.chunk n) = Some (records.Chunk n)

record_back : (r : Option Record) → record_of (record_told r) ≡ r
record_back None = refl
record_back (Some records.Cut) = refl
record_back (Some (records.Chunk n)) = refl

pub replay_record_at_one : (rest : List ℕ) → Only (λ (r : Option Record). record_told r ≡ start rest)
replay_record_at_one rest = only record_told record_of record_back

pub replay_most_records_one : Only (λ (r : ℕ). r ≡ records_most)
replay_most_records_one = named-one

-- ── the steps ──

pub replay_new_one : Only (λ (r : Replay). r ≡ fresh)
replay_new_one = named-one

-- what a step gives, the replay and the table's words at exit, and the line
pub record Stepped : Type 0 where
  pub gives : Turn
  pub replay : Replay
  pub table : List ℕ
  pub line : List ℕ

-- a turn of these parts, and the replay behind it
abbrev turn_of : Left → Turn
turn_of l = record { more = l.more; taken = l.taken; written = l.written }

abbrev replay_of : Left → PayloadQueue → Replay
replay_of l q = record { number = l.state.number; queue = q; counters = l.state.counters }

pub replay_step_one : (replay : Replay) (rest table line : List ℕ)
    → Only (λ (o : Stepped). TsnWords o.table × (left_of o.gives o.replay o.table o.line ≡ left (stepped (state_of replay table) rest) line))
replay_step_one replay rest table line r s p q =
    let e : left_of r.gives r.replay r.table r.line ≡ left_of s.gives s.replay s.table s.line = p.1 ∙ sym q.1 in
    let l = ap (λ (x : Left). x.state.queue) e in
    let queue = tsn_struct_one r.replay.queue s.replay.queue r.table s.table l in
    let words = tsn-words-one r.replay.queue s.replay.queue r.table s.table l p.0 q.0 in
    both (λ (x : Left × PayloadQueue) (ws : List ℕ). record { gives = turn_of x.0; replay = replay_of x.0 x.1; table = ws; line = x.0.line })
    (both (λ (x : Left) (k : PayloadQueue). (x, k)) e queue) words

-- what is put at the front of a line: how many bytes, and the line
pub record Lined : Type 0 where
  pub gives : ℕ
  pub line : List ℕ

lined : {out bytes : List ℕ} → Only (λ (o : Lined). Put out bytes o.line o.gives)
lined r s p q = both (λ (n : ℕ) (l : List ℕ). record { gives = n; line = l }) (p.size ∙ sym q.size) (p.is ∙ sym q.is)

pub replay_total_one : (replay : Replay) (line : List ℕ) → Only (λ (o : Lined). Put line (total_line replay.counters) o.line o.gives)
replay_total_one replay line = lined

pub replay_bad_version_one : (line : List ℕ) → Only (λ (o : Lined). Put line bad_version o.line o.gives)
replay_bad_version_one line = lined
