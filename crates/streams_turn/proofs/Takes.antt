-- The message in turn of a stream among all that is held: where it stands, and what taking it from there leaves of the streams.
-- Assumes nothing.
use mathlib.Core.Path.{◌≡◌, refl, sym, ap, ◌∙◌}
use mathlib.Core.Bool.{Bool, true, false, cond, true≢false}
use mathlib.Core.List.{List, ◌++◌, append_assoc}
use Prim.Native.Nat.{ℕ, suc, ◌+◌, ◌≤◌, ◌<◌, min}
use native.Mathlib.Omega.{arith}
use native.Mathlib.Decide.{dec_le}
use borrow.Author.Tests.{lt-ltb, le-ltb}
use lib.Dec.{ltb, eqb}
use lib.ListN.{length, take, drop, set, length-drop, length-take}
use lib.Seq.{length-take-le, take-take, take-append-add, take-append-le, drop-append-add, drop-append-le}
use Rattle.wire_model.specs.BigEndian.{over}
use Rattle.wire_model.specs.Refusal.{none, refuse, Told, says}
use Rattle.moves_model.specs.Lists.{gone}
use Rattle.table.specs.Rows.{ahead_of}
use Rattle.table.specs.declared.Row.{Row}
use Rattle.fragments.specs.Frag.{Frag, ends, of_row}
use Rattle.fragments.specs.Words.{size, joined}
use Rattle.fragments.specs.Pool.{lay_rows, lay_bytes}
use Rattle.fragments.proofs.Pool.{size-split}
use Rattle.reassembly_state.specs.Limits.{frags_most}
use Rattle.reassembly_state.specs.Model.{Queue, held, ready_set, Turn, finished_turn, ordered_turn, through_end, turn, readable, Message, no_message, message_of, taken}
use Rattle.reassembly_state.specs.State.{count, counts}
use Rattle.reassembly_state.specs.State as one
use Rattle.reassembly_state.specs.Rows.{oldest, message_by, Out, out, taken_out, without_message}
use Rattle.reassembly_state.specs.declared.Counts.{Counts}
use Rattle.reassembly_turn.proofs.Messages.{oldest-is}
use Rattle.streams_model.specs.State.{State, rows_held, fragments, queue_of, own, with_own, reads, lay_taken}
use Rattle.streams_model.specs.Among.{among_none, up_to, mine, rows_before, before, behind}
use Rattle.streams_model.proofs.Laws.{Sound}
use Rattle.streams_model.proofs.Among.{rows_split, whole, before-length, own-length, own-bytes, own-counts, own_is, among_none-view, put_back}
use Rattle.streams_model.proofs.Front.{own-again}
use Rattle.streams_model.proofs.Left.{stands}
use Rattle.streams_turn.specs.Turned.{first_of, Turned}
use Rattle.streams_turn.proofs.Turns as turns
use Rattle.streams_turn.proofs.Turns.{Stands, ready_front}

-- something taken out of a list that stands between two others
gone_between : {A : Type 0} (P O R : List A) (i k : ℕ) → i + k ≤ length O → gone (length P + i) k (P ++ (O ++ R)) ≡ P ++ (gone i k O ++ R)
unfolding gone
gone_between P O R i k h =
    let n : length P + i + k ≡ length P + (i + k) = omega arith in
    rw (take-append-add P (O ++ R) i, n, drop-append-add P (O ++ R) (i + k), take-append-le i O R (omega arith), drop-append-le (i + k) O R h)
    (rw (append_assoc, append_assoc))

take_between : {A : Type 0} (P O R : List A) (i k : ℕ) → i + k ≤ length O → take k (drop (length P + i) (P ++ (O ++ R))) ≡ take k (drop i O)
take_between P O R i k h = rw (drop-append-add P (O ++ R) i, drop-append-le i O R (omega arith), take-append-le k (drop i O) R (rw length-drop (omega arith)))

ssn-of : (t : Turn) → (message_of t).ssn ≡ t.ssn
unfolding message_of
ssn-of t = refl

module _ (s : State) (k : Sound s) (full : length s.rows ≡ frags_most) (j : ℕ) (h : j < length s.queues) where
  abbrev m : Queue
  m = own s j

  abbrev F : List Frag
  F = fragments s

  abbrev frags : List Frag
  frags = (turn m).frags

  at : Stands m (first_of m) (eqb (length m.finished) 0) (turn m)
  at = turns.stands m

  -- ── where it stands ──

  finished-count : length m.finished ≡ (mine s j).finished
  unfolding counts
  finished-count = ap (λ (c : Counts). c.finished) (own-counts s k full j h)

  unordered-count : length m.unordered ≡ (mine s j).unordered
  unfolding counts
  unordered-count = ap (λ (c : Counts). c.unordered) (own-counts s k full j h)

  ordered-count : length m.ordered ≡ (mine s j).ordered
  unfolding counts
  ordered-count = ap (λ (c : Counts). c.ordered) (own-counts s k full j h)

  next-is : m.next ≡ (mine s j).next_ssn
  unfolding counts
  next-is = ap (λ (c : Counts). c.next_ssn) (own-counts s k full j h)

  finished-there : m.finished ≡ take (mine s j).finished (drop (rows_before s j) F)
  unfolding queue_of
  finished-there = ap (λ (q : Queue). q.finished) (own_is s k full j h) ∙ take-take (mine s j).finished (count (mine s j)) (drop (rows_before s j) F) (omega arith)

  turn-long : 0 < length m.finished → length frags ≡ oldest m.finished
  unfolding finished_turn
  turn-long f = ap (λ (t : Turn). length t.frags) (turns.turn-finished m f)

  turn_ready : length m.finished ≡ 0 → frags ≡ ready_set m.next m.ordered
  unfolding ordered_turn
  turn_ready e = ap (λ (t : Turn). t.frags) (turns.turn-ordered m e)

  pub finished-turned : {n : ℕ} → 0 < (mine s j).finished → n ≡ min (suc (ahead_of (of_row ends) (take (mine s j).finished (drop (rows_before s j) s.rows)))) (mine s j).finished
      → {from : ℕ} → from ≡ rows_before s j → Turned s j from (from + n)
  finished-turned {n} f e {from} g =
      let fits : rows_before s j + (mine s j).finished ≤ rows_held s.queues = omega (arith, rows_split s k full j h) in
      let is = oldest-is s.rows s.pool (rows_held s.queues) (rows_before s j) (mine s j).finished fits (omega (arith, k.few)) in
      let long : length frags ≡ n = turn-long (omega (arith, finished-count)) ∙ ap oldest finished-there ∙ sym (e ∙ is) in
      let first : first_of m ≡ 0 = rw (lt-ltb 0 (length m.finished) (omega (arith, finished-count))) in
      record { from_is = omega (arith, g, first); upward = omega arith; run_is = omega (arith, long) }

  -- by what the code says
  pub finished_found : {c : Counts} → c ≡ mine s j → {n from : ℕ} → 0 < c.finished → from ≡ rows_before s j
      → n ≡ min (suc (ahead_of (of_row ends) (take c.finished (drop from s.rows)))) c.finished → Turned s j from (from + n)
  finished_found {c} e {n} {from} f g is =
      finished-turned (rw e at f) (is ∙ by_counts e g) g
    where
      by_counts : c ≡ mine s j → from ≡ rows_before s j
          → min (suc (ahead_of (of_row ends) (take c.finished (drop from s.rows)))) c.finished
          ≡ min (suc (ahead_of (of_row ends) (take (mine s j).finished (drop (rows_before s j) s.rows)))) (mine s j).finished
      by_counts x y = rw (x, y)

  pub ordered-turned : {q : Counts} → q ≡ among_none s.queues j → {n : ℕ} → (mine s j).finished ≡ 0 → n ≤ q.ordered
      → ready_set q.next_ssn (one.view (stands q s.rows s.pool)).ordered ≡ take n (one.view (stands q s.rows s.pool)).ordered
      → {from : ℕ} → from ≡ rows_before s j + (mine s j).unordered → Turned s j from (from + n)
  ordered-turned {q} q-is {n} e f r {from} g =
      let v : one.view (stands q s.rows s.pool) ≡ up_to (before s j) m = ap (λ (c : Counts). one.view (stands c s.rows s.pool)) q-is ∙ among_none-view s k full j h in
      let next : q.next_ssn ≡ m.next = ap (λ (c : Counts). c.next_ssn) q-is ∙ sym next-is in
      let few : q.ordered ≡ (mine s j).ordered + 0 = ap (λ (c : Counts). c.ordered) q-is in
      let ready : ready_set m.next m.ordered ≡ take n m.ordered = rw (v, next) at r in
      let long : length frags ≡ n =
      ap length (turn_ready (finished-count ∙ e) ∙ ready) ∙ length-take-le n m.ordered (omega (arith, ordered-count, f, few)) in
      let first : first_of m ≡ length m.finished + length m.unordered = rw (le-ltb 0 (length m.finished) (omega (arith, finished-count, e))) in
      record { from_is = omega (arith, g, first, finished-count, unordered-count, e); upward = omega arith; run_is = omega (arith, long) }

  -- ── taken out ──

  frags-there : take (length frags) (drop (rows_before s j + first_of m) F) ≡ frags
  frags-there =
      ap (λ (l : List Frag). take (length frags) (drop (rows_before s j + first_of m) l)) (whole s k full j h)
      ∙ ap (λ (i : ℕ). take (length frags) (drop (i + first_of m) (before s j ++ (held m ++ behind s j)))) (sym (before-length s k full j h))
      ∙ take_between (before s j) (held m) (behind s j) (first_of m) (length frags) at.within
      ∙ sym at.there

  rest-is : gone (rows_before s j + first_of m) (length frags) F ≡ before s j ++ (held (turn m).queue ++ behind s j)
  rest-is =
      ap (gone (rows_before s j + first_of m) (length frags)) (whole s k full j h)
      ∙ ap (λ (i : ℕ). gone (i + first_of m) (length frags) (before s j ++ (held m ++ behind s j))) (sym (before-length s k full j h))
      ∙ gone_between (before s j) (held m) (behind s j) (first_of m) (length frags) at.within
      ∙ ap (λ (l : List Frag). before s j ++ (l ++ behind s j)) (sym at.rest)

  pub run_within : rows_before s j + first_of m + length frags ≤ rows_held s.queues
  run_within = omega (arith, at.within, own-length s k full j h, rows_split s k full j h)

  bytes_within : size frags ≤ (mine s j).n_bytes
  bytes_within =
      let e = ap size at.there in
      omega (arith, e, size-split (first_of m) (held m), size-split (length frags) (drop (first_of m) (held m)), own-bytes s k full j h)

  count_within : length frags ≤ cond (ltb 0 (mine s j).finished) (mine s j).finished (mine s j).ordered
  count_within = go (dec_le 1 (mine s j).finished)
    where
      go : Dec (1 ≤ (mine s j).finished) → length frags ≤ cond (ltb 0 (mine s j).finished) (mine s j).finished (mine s j).ordered
      go (yes f) =
          let e = turn-long (omega (arith, finished-count)) in
          rw (lt-ltb 0 (mine s j).finished f) (omega (arith, e, length-take (through_end m.finished) m.finished, finished-count))
      go (no f) =
          let none : (mine s j).finished ≡ 0 = omega arith in
          let e = ap length (turn_ready (finished-count ∙ none)) in
          let few = ap length (ready_front m.next m.ordered) in
          rw (le-ltb 0 (mine s j).finished (omega arith)) (omega (arith, e, few, length-take (length (ready_set m.next m.ordered)) m.ordered, ordered-count))

  module _ (buffer : List ℕ) where
    -- nothing is readable
    pub takes-nothing : length frags ≡ 0 → reads (says none no_message) s buffer ≡ lay_taken s j (taken m buffer)
    unfolding taken readable
    takes-nothing e = rw (le-ltb 0 (length frags) (omega arith)) (ap (λ (t : State). reads (says none no_message) t buffer) (sym (own-again s k full j h)))

    takes_short : 0 < length frags → ltb (length buffer) (size frags) ≡ true → reads (says (refuse 10) no_message) s buffer ≡ lay_taken s j (taken m buffer)
    unfolding taken readable
    takes_short z e = rw (lt-ltb 0 (length frags) z, e) (ap (λ (t : State). reads (says (refuse 10) no_message) t buffer) (sym (own-again s k full j h)))

    takes_whole : 0 < length frags → ltb (length buffer) (size frags) ≡ false → reads (says none (message_of (turn m))) (with_own s j (turn m).queue) (over buffer (joined frags)) ≡ lay_taken s j (taken m buffer)
    unfolding taken readable
    takes_whole z e = rw (lt-ltb 0 (length frags) z, e)

    -- ── by what the code says ──

    module _ (some : 0 < length frags) {from n : ℕ} (from_is : from ≡ rows_before s j + first_of m) (n-is : n ≡ length frags) {ordered : Bool} (ordered-is : ordered ≡ eqb (mine s j).finished 0)
        {a : Told Message} {k' sz : ℕ} {rows : List Row} {pool buffer' : List ℕ}
        (o : out a k' sz rows pool buffer' ≡ taken_out ordered from n F s.rows s.pool buffer) where
      abbrev long : Bool
      long = ltb (length buffer) (size frags)

      message-is : message_by (eqb (mine s j).finished 0) frags ≡ message_of (turn m)
      unfolding message_by message_of
      message-is = rw (at.ssn-is, finished-count)

      abbrev short_out : Out
      short_out = out (says (refuse 10) no_message) 0 0 s.rows s.pool buffer

      abbrev whole_out : Out
      whole_out =
          let left = before s j ++ (held (turn m).queue ++ behind s j) in
          out (says none (message_of (turn m))) (length frags) (size frags) (lay_rows left s.rows) (lay_bytes left s.pool) (over buffer (joined frags))

      by : taken_out ordered from n F s.rows s.pool buffer ≡ cond long short_out whole_out
      unfolding taken_out
      by = rw (from_is, n-is, ordered-is, frags-there, rest-is, message-is)

      is_short : long ≡ true → out a k' sz rows pool buffer' ≡ short_out
      is_short e = o ∙ by ∙ rw e

      is_whole : long ≡ false → out a k' sz rows pool buffer' ≡ whole_out
      is_whole e = o ∙ by ∙ rw e

      told_short : long ≡ true → a ≡ says (refuse 10) no_message
      told_short e = ap (λ (x : Out). x.told) (is_short e)

      told-whole : long ≡ false → a ≡ says none (message_of (turn m))
      told-whole e = ap (λ (x : Out). x.told) (is_whole e)

      whole_comes : (message_of (turn m)).comes ≡ true
      unfolding message_of
      whole_comes = refl

      -- no message comes: refused, and all is as it was
      pub comes_not : a.values.comes ≡ false → reads a (record { queues = s.queues; rows = rows; pool = pool }) buffer' ≡ lay_taken s j (taken m buffer)
      comes_not e = go long refl
        where
          go : (b : Bool) → long ≡ b → reads a (record { queues = s.queues; rows = rows; pool = pool }) buffer' ≡ lay_taken s j (taken m buffer)
          go true x =
              let is = is_short x in
              ap (λ (y : Out). reads y.told (record { queues = s.queues; rows = y.rows; pool = y.pool }) y.buffer) is ∙ takes_short some x
          go false x = absurd (true≢false (sym whole_comes ∙ ap (λ (t : Told Message). t.values.comes) (sym (told-whole x)) ∙ e))

      came : a.values.comes ≡ true → long ≡ false
      came e = go long refl
        where
          go : (b : Bool) → long ≡ b → long ≡ false
          go true x = absurd (true≢false (sym e ∙ ap (λ (t : Told Message). t.values.comes) (told_short x)))
          go false x = x

      pub message_fits : a.values.comes ≡ true → (sz ≤ (mine s j).n_bytes) × (k' ≤ cond (ltb 0 (mine s j).finished) (mine s j).finished (mine s j).ordered)
      message_fits e =
          let w = is_whole (came e) in
          (rw (ap (λ (x : Out). x.size) w) bytes_within, rw (ap (λ (x : Out). x.k) w) count_within)

      -- a message comes, and the queue is the one without it
      pub comes_is : a.values.comes ≡ true → {c : Counts} → c ≡ without_message (mine s j) k' sz a.values.ssn
          → {qs : List Counts} → qs ≡ set s.queues j c → reads a (record { queues = qs; rows = rows; pool = pool }) buffer' ≡ lay_taken s j (taken m buffer)
      comes_is e {c} f g =
          let w = is_whole (came e) in
          let told = ap (λ (x : Out). x.told) w in
          let ssn : a.values.ssn ≡ (turn m).ssn = ap (λ (t : Told Message). t.values.ssn) told ∙ whole-ssn in
          let counted : c ≡ counts (turn m).queue =
          f ∙ without_as (ap (λ (x : Out). x.k) w) (ap (λ (x : Out). x.size) w) ssn ∙ ap (λ (q : Counts). without_message q (length frags) (size frags) (turn m).ssn) (sym (own-counts s k full j h)) ∙ sym (at.counts_are some) in
          let state = put_back s k full j h (turn m).queue counted (ap (λ (x : Out). x.rows) w) (ap (λ (x : Out). x.pool) w) in
          together told (ap (λ (qs : List Counts). record { queues = qs; rows = rows; pool = pool }) g ∙ state) (ap (λ (x : Out). x.buffer) w) ∙ takes_whole some (came e)
        where
          whole-ssn : (message_of (turn m)).ssn ≡ (turn m).ssn
          whole-ssn = ssn-of (turn m)

          without_as : {x y z u v w : ℕ} → x ≡ y → z ≡ u → v ≡ w → without_message (mine s j) x z v ≡ without_message (mine s j) y u w
          without_as a b c = rw (a, b, c)

          together : {t u : Told Message} {x y : State} {p q : List ℕ} → t ≡ u → x ≡ y → p ≡ q → reads t x p ≡ reads u y q
          together a b c = rw (a, b, c)
