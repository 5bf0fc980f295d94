-- The message that is next to be taken: where it stands among the rows, and what is left without it.
-- Assumes nothing.
use mathlib.Core.Path.{◌≡◌, refl, sym, ap, ◌∙◌}
use mathlib.Core.Bool.{Bool, true, false, not, ◌&&◌, cond}
use mathlib.Core.List.{List, [], ◌∷◌, map}
use Prim.Native.Nat.{ℕ, zero, suc, ◌+◌, ◌-◌, ◌%◌, ◌≤◌, ◌<◌, min}
use native.Mathlib.Decide.{dec_le}
use native.Mathlib.Omega.{arith}
use borrow.Author.Tests.{lt-ltb, le-ltb, eq-eqb, ne_eqb}
use lib.Dec.{ltb, eqb}
use lib.ListN.{length, take, drop, length-take, length-drop}
use lib.Seq.{take-take, take_all, length-take-le}
use Rattle.wire_model.specs.BigEndian.{over}
use Rattle.wire_model.specs.Refusal.{none, refuse, says}
use Rattle.serial_model.specs.Serial.{next, before}
use Rattle.moves_model.specs.Lists.{slice, gone}
use Rattle.table.specs.Rows.{ahead_of}
use Rattle.table.specs.declared.Row.{Row}
use Rattle.table.proofs.Scans.{ahead_within}
use Rattle.fragments.specs.Frag.{Frag, ends, ssn_of, has_ssn, long_length, frag_of, bare, of_row}
use Rattle.fragments.specs.Words.{size, joined, while}
use Rattle.fragment_sets.specs.Sets.{other_ssn, complete}
use Rattle.loose_fragments.specs.Loose.{span}
use Rattle.fragments.specs.Pool.{cut, lay_rows, lay_bytes}
use Rattle.loose_fragments.specs.declared.Span.{Span}
use Rattle.fragments.proofs.Pool.{B, cut-cons, cut-take, size-gone}
use Rattle.fragments.proofs.Seen.{while-length}
use Rattle.fragment_sets.proofs.Seen.{within_cut, complete-cut}
use Rattle.reassembly_state.specs.Limits.{frags_most}
use Rattle.reassembly_state.specs.Model.{Queue, queue, held, endless, ready_set, moved_on, Turn, first_ssn, ordered_turn, finished_turn, turn, through_end, readable, Message, no_message, message_of, taken}
use Rattle.reassembly_state.specs.State.{State, count, fragments, view, counts, lay, reads, lay_taken}
use Rattle.reassembly_state.specs.Rows.{first_ordered, ordered_rows, InTurn, message_by, without_message}
use Rattle.reassembly_state.specs.declared.Counts.{Counts}
use Rattle.reassembly_state.proofs.Parts.{drop-take, gone-first, gone-last}
use Rattle.reassembly_turn.proofs.Messages.{first, run-cons, run-size}
use Rattle.reassembly_state.proofs.Laws.{Sound, held-view, fragments-length, finished-length, unordered-length, ordered-length, finished-cut, ordered-cut, size-held, lay-own}

pub ahead-front : (p : Row → Bool) (n : ℕ) (rows : List Row) → ahead_of p (take n rows) ≤ n
ahead-front p n rows = let l : length (take n rows) ≤ n = rw length-take (omega arith) in omega (arith, ahead_within p (take n rows))

-- ── the first ordered set ──

ready_nil : (e : ℕ) → ready_set e [] ≡ []
unfolding ready_set
ready_nil e = refl

-- the first fragment has its own SSN
ready_cons : (e : ℕ) (x : Frag) (xs : List Frag) → (let m = while (has_ssn (ssn_of x)) (x ∷ xs) in ready_set e (x ∷ xs) ≡ cond (not (before 16 e (ssn_of x)) && complete m) m [])
unfolding ready_set while
ready_cons e x xs = rw (eq-eqb (ssn_of x) (ssn_of x) refl)

-- of the fragments of rows: how many rows the set has, and whether it is whole, the passes over rows find
ready_cut : (e : ℕ) (r : Row) (l rs : List Row) (pool : List ℕ) → l ≡ r ∷ rs
    → (let ssn = r.id % 65536 in let k = ahead_of (of_row (other_ssn ssn)) l in
    ready_set e (cut l pool) ≡ cond (not (before 16 e ssn) && complete (map bare (take k l))) (take k (cut l pool)) [])
ready_cut e r l rs pool is =
    let ssn = r.id % 65536 in
    let k = ahead_of (of_row (other_ssn ssn)) l in
    let n = long_length r.head in
    let opened : cut l pool ≡ frag_of r (take n pool) ∷ cut rs (drop n pool) = ap (λ (x : List Row). cut x pool) is ∙ cut-cons r rs pool in
    let m : while (has_ssn ssn) (cut l pool) ≡ take k (cut l pool) = within_cut ssn l pool in
    let whole : complete (take k (cut l pool)) ≡ complete (map bare (take k l)) = ap complete (cut-take k l pool) ∙ complete-cut (take k l) pool in
    ap (ready_set e) opened ∙ ready_cons e (frag_of r (take n pool)) (cut rs (drop n pool))
    ∙ ap (λ (x : List Frag). cond (not (before 16 e ssn) && complete (while (has_ssn ssn) x)) (while (has_ssn ssn) x) []) (sym opened)
    ∙ rw (m, whole)

module _ {A : Type 0} where
  none_left : (l : List A) → length l ≡ 0 → l ≡ []
  none_left [] e = refl
  none_left (x ∷ l) e = absurd (omega arith)

  -- a front of a front, however long
  take_min : (a b : ℕ) (l : List A) → take a (take b l) ≡ take (min a b) l
  take_min a b l = go (dec_le a b)
    where
      go : Dec (a ≤ b) → take a (take b l) ≡ take (min a b) l
      go (yes h) = let e : min a b ≡ a = omega arith in rw e (take-take a b l h)
      go (no h) = let e : min a b ≡ b = omega arith in rw e (take_all a (take b l) (rw length-take (omega arith)))

  -- what stands behind a front that may be longer than the list
  drop-front : (k : ℕ) (l : List A) → drop k l ≡ drop (length (take k l)) l
  drop-front zero l = refl
  drop-front (suc k) [] = refl
  drop-front (suc k) (x ∷ l) = drop-front k l

  slice-run : (a b : ℕ) (l : List A) → a ≤ b → slice a b l ≡ take (b - a) (drop a l)
  unfolding slice
  slice-run a b l h = let e : a + (b - a) ≡ b = omega arith in ap (λ (n : ℕ). drop a (take n l)) (sym e) ∙ drop-take a (b - a) l

-- ── where the message stands ──

module _ (s : State) (few : count s.queue ≤ frags_most) (full : length s.rows ≡ frags_most) where
  abbrev q : Counts
  q = s.queue

  pub ready_none : q.ordered ≡ 0 → ready_set q.next_ssn (view s).ordered ≡ []
  ready_none e = ap (ready_set q.next_ssn) (none_left (view s).ordered (ordered-length s few full ∙ e)) ∙ ready_nil q.next_ssn

  -- the first ordered set: its first row, how many it has, whether it is after the expected one, and whether it is whole
  pub ready_is : (r : Row) (n : ℕ) (later whole : Bool) → 0 < q.ordered → r ≡ first s.rows (first_ordered s) → n ≡ ahead_of (of_row (other_ssn (r.id % 65536))) (ordered_rows s)
      → before 16 q.next_ssn (r.id % 65536) ≡ later → complete (map bare (take n (drop (first_ordered s) s.rows))) ≡ whole
      → ready_set q.next_ssn (view s).ordered ≡ cond (not later && whole) (take n (view s).ordered) []
  ready_is r n later whole h is-r is-n is_later is_whole =
      let rs = take (q.ordered - 1) (drop (suc (first_ordered s)) s.rows) in
      let is : ordered_rows s ≡ r ∷ rs = run-cons s.rows (first_ordered s) q.ordered h (omega arith) ∙ ap (λ (x : Row). x ∷ rs) (sym is-r) in
      let few-rows : n ≤ q.ordered = omega (arith, ahead-front (of_row (other_ssn (r.id % 65536))) q.ordered (drop (first_ordered s) s.rows)) in
      let front : take n (ordered_rows s) ≡ take n (drop (first_ordered s) s.rows) = take-take n q.ordered (drop (first_ordered s) s.rows) few-rows in
      rw (← is_whole, ← front, is-n, ← is_later, ordered-cut s few full) (ready_cut q.next_ssn r (ordered_rows s) rs (drop (B (take (first_ordered s) s.rows)) s.pool) is)

  turn-finished : 0 < q.finished → turn (view s) ≡ finished_turn (view s) (through_end (view s).finished)
  unfolding turn
  turn-finished h = rw (finished-length s few full, lt-ltb 0 q.finished h)

  turn-ordered : q.finished ≡ 0 → turn (view s) ≡ ordered_turn (view s) (ready_set q.next_ssn (view s).ordered)
  unfolding turn view
  turn-ordered e = rw (finished-length s few full, e)

  -- through the first E, or all
  through : through_end (view s).finished ≡ suc (ahead_of (of_row ends) (take q.finished s.rows))
  through = ap through_end (finished-cut s few full) ∙ ap suc (while-length endless (of_row ends) (λ r bs. refl) (take q.finished s.rows) s.pool)

  finished-frags : (finished_turn (view s) (through_end (view s).finished)).frags ≡ take (min (suc (ahead_of (of_row ends) (take q.finished s.rows))) q.finished) (fragments s)
  unfolding finished_turn view
  finished-frags = rw through (take_min (suc (ahead_of (of_row ends) (take q.finished s.rows))) q.finished (fragments s))

  pub finished-turn : (to : ℕ) → 0 < q.finished → to ≡ min (suc (ahead_of (of_row ends) (take q.finished s.rows))) q.finished → InTurn s (span 0 to)
  unfolding slice
  finished-turn to h e =
      let some = lt-ltb 0 q.finished h in
      let is : (turn (view s)).frags ≡ take to (fragments s) = ap (λ (x : Turn). x.frags) (turn-finished h) ∙ finished-frags ∙ ap (λ (n : ℕ). take n (fragments s)) (sym e) in
      record { upward = omega arith; from = rw some; within = rw some (omega arith); is = is }

  ordered-frags : (m : List Frag) → (ordered_turn (view s) m).frags ≡ m
  unfolding ordered_turn
  ordered-frags m = refl

  ordered-view : (view s).ordered ≡ drop (first_ordered s) (fragments s)
  unfolding view
  ordered-view = refl

  pub ordered-turn : (n : ℕ) → q.finished ≡ 0 → n ≤ q.ordered → ready_set q.next_ssn (view s).ordered ≡ take n (view s).ordered → InTurn s (span q.unordered (q.unordered + n))
  ordered-turn n e h r =
      let none = le-ltb 0 q.finished (omega arith) in
      let from : first_ordered s ≡ q.unordered = omega arith in
      let run : q.unordered + n - q.unordered ≡ n = omega arith in
      let there : take n (view s).ordered ≡ slice q.unordered (q.unordered + n) (fragments s) =
      rw (slice-run q.unordered (q.unordered + n) (fragments s) (omega arith), run, ordered-view, from) in
      let is : (turn (view s)).frags ≡ slice q.unordered (q.unordered + n) (fragments s) =
      ap (λ (x : Turn). x.frags) (turn-ordered e) ∙ ordered-frags (ready_set q.next_ssn (view s).ordered) ∙ r ∙ there in
      record { upward = omega arith; from = rw none (omega arith); within = rw none (omega arith); is = is }

-- ── what is left without it ──

moved_on_lem : (e : ℕ) (m : List Frag) → 0 < length m → moved_on e m ≡ cond (eqb (first_ssn m) e) (next 16 e) e
unfolding moved_on first_ssn
moved_on_lem e [] h = absurd (omega arith)
moved_on_lem e (x ∷ m) h = refl

counts_are : (m : Queue) (f u o n : ℕ) → length m.finished ≡ f → length m.unordered ≡ u → length m.ordered ≡ o → size (held m) ≡ n
    → counts m ≡ record { si = m.si; next_ssn = m.next; max_message_size = m.max; finished = f; unordered = u; ordered = o; n_bytes = n }
unfolding counts
counts_are m f u o n a b c d = rw (a, b, c, d)

-- the queue without a message of n fragments
finished-rest : (v : Queue) (m n : ℕ) → length (finished_turn v m).frags ≡ n → (finished_turn v m).queue ≡ queue v.si v.next v.max (drop n v.finished) v.unordered v.ordered
unfolding finished_turn
finished-rest v m n e = rw (drop-front m v.finished, e)

ordered-rest : (v : Queue) (m : List Frag) (n : ℕ) → length m ≡ n → (ordered_turn v m).queue ≡ queue v.si (moved_on v.next m) v.max v.finished v.unordered (drop n v.ordered)
unfolding ordered_turn
ordered-rest v m n e = rw e

module _ (s : State) (k : Sound s) (full : length s.rows ≡ frags_most) (t : Span) (i : InTurn s t) where
  abbrev c : Counts
  c = s.queue

  -- how many fragments, and how many bytes
  abbrev many : ℕ
  many = t.to - t.from

  abbrev bytes : ℕ
  bytes = B (take many (drop t.from s.rows))

  abbrev message : List Frag
  message = (turn (view s)).frags

  pub turn_within : t.to ≤ count c
  turn_within = go (ltb 0 c.finished) i.from i.within
    where
      go : (b : Bool) → t.from ≡ cond b 0 (c.finished + c.unordered) → t.to ≤ t.from + cond b c.finished c.ordered → t.to ≤ count c
      go true e h = omega arith
      go false e h = omega arith

  pub run_within : t.from + many ≤ count c
  run_within = omega (arith, i.upward, turn_within)

  there : message ≡ take many (drop t.from (fragments s))
  there = i.is ∙ slice-run t.from t.to (fragments s) i.upward

  message-length : length message ≡ many
  message-length = ap length there ∙ length-take-le many (drop t.from (fragments s)) (rw length-drop (omega (arith, run_within, fragments-length s k.few full)))

  message-size : size message ≡ bytes
  message-size = ap size there ∙ run-size s.rows s.pool (count c) t.from many run_within k.within

  left-size : size (gone t.from many (fragments s)) ≡ c.n_bytes - bytes
  left-size = omega (arith, size-gone (fragments s) t.from many, size-held s k, ap size there, message-size)

  -- only an ordered one has its SSN
  abbrev number : ℕ
  number = cond (eqb c.finished 0) (first_ssn message) 0

  -- the queue without it: its counts, what it holds, and the SSN of the message
  record Left : Type 0 where
    counts-is : counts (turn (view s)).queue ≡ without_message c many bytes number
    held-is : held (turn (view s)).queue ≡ gone t.from many (fragments s)
    ssn-is : (turn (view s)).ssn ≡ number

  left-finished : 0 < c.finished → Left
  unfolding without_message view finished_turn
  left-finished h =
      let v = view s in
      let some = lt-ltb 0 c.finished h in
      let from : t.from ≡ 0 = rw some at i.from in
      let to : t.to ≤ t.from + c.finished = rw some at i.within in
      let is = turn-finished s k.few full h in
      let rest = ap (λ (x : Turn). x.queue) is ∙ finished-rest v (through_end v.finished) many (ap (λ (x : Turn). length x.frags) (sym is) ∙ message-length) in
      let f = finished-length s k.few full in
      let holds : held (turn v).queue ≡ gone t.from many (fragments s) =
      ap held rest ∙ gone-first v.finished v.unordered v.ordered many (omega arith) ∙ rw (held-view s, from) in
      let n = ap size (sym (ap held rest) ∙ holds) ∙ left-size in
      let left = queue v.si v.next v.max (drop many v.finished) v.unordered v.ordered in
      let counted = counts_are left (c.finished - many) c.unordered c.ordered (c.n_bytes - bytes) (rw (length-drop, f)) (unordered-length s k.few full) (ordered-length s k.few full) n in
      record { counts-is = ap counts rest ∙ counted ∙ rw some; held-is = holds; ssn-is = rw (is, ne_eqb c.finished 0 (λ z. omega arith)) }

  left-ordered : c.finished ≡ 0 → 0 < many → Left
  unfolding without_message view ordered_turn
  left-ordered e h =
      let v = view s in
      let m = ready_set c.next_ssn v.ordered in
      let none = le-ltb 0 c.finished (omega arith) in
      let from : t.from ≡ c.finished + c.unordered = rw none at i.from in
      let is = turn-ordered s k.few full e in
      let same : m ≡ message = ap (λ (x : Turn). x.frags) (sym is) in
      let on : moved_on c.next_ssn m ≡ cond (eqb (first_ssn message) c.next_ssn) (next 16 c.next_ssn) c.next_ssn =
      ap (moved_on c.next_ssn) same ∙ moved_on_lem c.next_ssn message (rw message-length h) in
      let numbered : number ≡ first_ssn message = rw (eq-eqb c.finished 0 e) in
      let rest = ap (λ (x : Turn). x.queue) is ∙ ordered-rest v m many (ap length same ∙ message-length) in
      let f = finished-length s k.few full in
      let u = unordered-length s k.few full in
      let o = ordered-length s k.few full in
      let at : length v.finished + length v.unordered ≡ t.from = omega arith in
      let holds : held (turn v).queue ≡ gone t.from many (fragments s) =
      ap held rest ∙ gone-last v.finished v.unordered v.ordered many ∙ rw (held-view s, at) in
      let n = ap size (sym (ap held rest) ∙ holds) ∙ left-size in
      let left = queue v.si (moved_on v.next m) v.max v.finished v.unordered (drop many v.ordered) in
      let counted = counts_are left c.finished c.unordered (c.ordered - many) (c.n_bytes - bytes) f u (rw (length-drop, o)) n in
      record { counts-is = ap counts rest ∙ counted ∙ rw (none, on, numbered); held-is = holds; ssn-is = ap (λ (x : Turn). x.ssn) is ∙ ap first_ssn same ∙ sym numbered }

  left : 0 < many → Left
  left h = go (dec_le 1 c.finished)
    where
      go : Dec (1 ≤ c.finished) → Left
      go (yes f) = left-finished f
      go (no f) = left-ordered (omega arith) h

  -- ── what a take gives ──

  pub readable-is : readable (view s) ≡ ltb t.from t.to
  unfolding readable
  readable-is = rw message-length (go (dec_le (suc t.from) t.to))
    where
      go : Dec (suc t.from ≤ t.to) → ltb 0 many ≡ ltb t.from t.to
      go (yes h) = lt-ltb 0 many (omega arith) ∙ sym (lt-ltb t.from t.to h)
      go (no h) = le-ltb 0 many (omega arith) ∙ sym (le-ltb t.from t.to (omega arith))

  comes : 0 < many → readable (view s) ≡ true
  comes h = readable-is ∙ lt-ltb t.from t.to (omega arith)

  module _ (buffer : List ℕ) where
    pub takes-nothing : many ≡ 0 → lay_taken s (taken (view s) buffer) ≡ reads (says none no_message) s buffer
    unfolding taken
    takes-nothing e = rw (readable-is ∙ le-ltb t.from t.to (omega arith), lay-own s k full)

    pub takes_none : 0 < many → length buffer < bytes → lay_taken s (taken (view s) buffer) ≡ reads (says (refuse 10) no_message) s buffer
    unfolding taken
    takes_none h l = rw (comes h, message-size, lt-ltb (length buffer) bytes l, lay-own s k full)

    -- the calls' answers: the message in hand, and what is left of each
    pub takes_whole : 0 < many → {n : ℕ} → n ≡ bytes → n ≤ length buffer
        → {m : Message} → m ≡ message_by (eqb c.finished 0) (take many (drop t.from (fragments s)))
        → {q : Counts} → q ≡ without_message c many n m.ssn
        → {rows : List Row} → rows ≡ lay_rows (gone t.from many (fragments s)) s.rows
        → {pool : List ℕ} → pool ≡ lay_bytes (gone t.from many (fragments s)) s.pool
        → {out : List ℕ} → out ≡ over buffer (joined (take many (drop t.from (fragments s))))
        → reads (says none m) (record { queue = q; rows = rows; pool = pool }) out ≡ lay_taken s (taken (view s) buffer)
    unfolding taken lay message_of message_by
    takes_whole h is-n l is_m is-q is-rows is-pool is-out =
        let x = left h in
        rw (is-q, is_m, is-rows, is-pool, is-out, is-n, ← there, comes h, message-size, le-ltb (length buffer) bytes (omega arith), x.counts-is, x.held-is, x.ssn-is)
