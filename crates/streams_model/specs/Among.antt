-- The counts of one stream with the others' in them: what the calls' inner functions ask of each other. No promise of a public call names these.
-- Assumes nothing.
use Rattle.std.specs.Prelude.{◌≡◌, Bool, true, false, ℕ, suc, ◌+◌, ◌-◌, ◌≤◌, ◌<◌, List, ◌++◌, length, take, drop, get_or}
use Rattle.fragments.specs.Frag.{Frag}
use Rattle.fragments.specs.Words.{size}
use Rattle.fragments.specs.Pool.{lay_rows, lay_bytes}
use Rattle.reassembly_state.specs.Limits.{frags_most, bytes_most}
use Rattle.reassembly_state.specs.Model.{Queue, queue, held}
use Rattle.reassembly_state.specs.Rows.{set_at, set_run}
use Rattle.reassembly_state.specs.State.{count}
use Rattle.reassembly_state.specs.State as one
use Rattle.reassembly_state.specs.declared.Counts.{Counts}
use Rattle.streams_model.specs.Shape.{no_counts}
use Rattle.streams_model.specs.State.{State, rows_held, bytes_said, fragments, own}

-- the counts of stream j, and how many fragments and bytes stand before it and behind it
abbrev pub mine : State → ℕ → Counts
mine s j = get_or s.queues j no_counts

abbrev pub rows_before : State → ℕ → ℕ
rows_before s j = rows_held (take j s.queues)

abbrev pub rows_behind : State → ℕ → ℕ
rows_behind s j = rows_held (drop (suc j) s.queues)

abbrev pub bytes_before : State → ℕ → ℕ
bytes_before s j = bytes_said (take j s.queues)

abbrev pub bytes_behind : State → ℕ → ℕ
bytes_behind s j = bytes_said (drop (suc j) s.queues)

-- the fragments before it, and those behind it
abbrev pub before : State → ℕ → List Frag
before s j = take (rows_before s j) (fragments s)

abbrev pub behind : State → ℕ → List Frag
behind s j = drop (rows_before s j + count (mine s j)) (fragments s)

-- b fragments of bb bytes stand before it, as finished ones, and r of rb bytes behind it, as ordered ones
abbrev pub among_counts : Counts → ℕ → ℕ → ℕ → ℕ → Counts
among_counts q b bb r rb =
    record {
      si = q.si;
      next_ssn = q.next_ssn;
      max_message_size = q.max_message_size;
      finished = b + q.finished;
      unordered = q.unordered;
      ordered = q.ordered + r;
      n_bytes = bb + (q.n_bytes + rb);
    }

-- and its own again
abbrev pub alone_counts : Counts → ℕ → ℕ → ℕ → ℕ → Counts
alone_counts q b bb r rb =
    record {
      si = q.si;
      next_ssn = q.next_ssn;
      max_message_size = q.max_message_size;
      finished = q.finished - b;
      unordered = q.unordered;
      ordered = q.ordered - r;
      n_bytes = q.n_bytes - (bb + rb);
    }

-- so many fragments of so many bytes stand before stream j, and so many behind it
pub record Others (qs : List Counts) (j b bb r rb : ℕ) : Type 0 where
  pub rows_before_is : b ≡ rows_held (take j qs)
  pub bytes-before : bb ≡ bytes_said (take j qs)
  pub rows_behind_is : r ≡ rows_held (drop (suc j) qs)
  pub bytes-behind : rb ≡ bytes_said (drop (suc j) qs)

-- the counts of stream j with all the others' in them
abbrev pub among_all : List Counts → ℕ → Counts
among_all qs j = among_counts (get_or qs j no_counts) (rows_held (take j qs)) (bytes_said (take j qs)) (rows_held (drop (suc j) qs)) (bytes_said (drop (suc j) qs))

-- and with those of the streams before it alone
abbrev pub among_none : List Counts → ℕ → Counts
among_none qs j = among_counts (get_or qs j no_counts) (rows_held (take j qs)) (bytes_said (take j qs)) 0 0

-- the queue of one stream that has the others in its lists: those before it, and of those behind it the first x, of xb bytes
abbrev pub among : State → ℕ → ℕ → ℕ → one.State
among s j x xb = record { queue = among_counts (mine s j) (rows_before s j) (bytes_before s j) x xb; rows = s.rows; pool = s.pool }

-- the queue whose finished fragments have P before them, and whose ordered ones have R behind them
abbrev pub amongst : List Frag → List Frag → Queue → Queue
amongst P R m = queue m.si m.next m.max (P ++ m.finished) m.unordered (m.ordered ++ R)

-- the same with others before it alone
abbrev pub up_to : List Frag → Queue → Queue
up_to P m = queue m.si m.next m.max (P ++ m.finished) m.unordered m.ordered

-- one more fragment of so many bytes fits, where there is said to be room
abbrev pub roomy_if : Bool → State → ℕ → Type 0
roomy_if room s more = room ≡ true → (rows_held s.queues < frags_most) × (bytes_said s.queues + more ≤ bytes_most)

-- r is l with one fragment more, of n bytes
pub record OneMore (n : ℕ) (l r : List Frag) : Type 0 where
  pub few : length r ≡ suc (length l)
  pub bytes : size r ≡ n + size l

-- room is made for the fragment f of stream j: in t those behind the stream stand further up, the stream's own are as they were, and what is then laid
-- up to one more is what has to be laid with those behind
pub record Ready (s : State) (j : ℕ) (f : Frag) (t : one.State) : Type 0 where
  pub sound : one.unsound t ≡ false
  pub view : one.view t ≡ up_to (before s j) (own s j)
  pub set-at : (ssn : ℕ) → set_at t ssn ≡ set_at (among s j 0 0) ssn
  pub set-run : (ssn : ℕ) → set_run t ssn ≡ set_run (among s j 0 0) ssn
  pub rows : (m : Queue) → OneMore (length f.bytes) (held (own s j)) (held m)
      → lay_rows (before s j ++ held m) t.rows ≡ lay_rows (before s j ++ (held m ++ behind s j)) s.rows
  pub bytes : (m : Queue) → OneMore (length f.bytes) (held (own s j)) (held m)
      → lay_bytes (before s j ++ held m) t.pool ≡ lay_bytes (before s j ++ (held m ++ behind s j)) s.pool
