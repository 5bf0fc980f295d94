-- What a sound queue has, and how what it holds stands in rows and pool: the laws that the calls' proofs cite.
-- Assumes nothing.
use mathlib.Core.Path.{◌≡◌, refl, sym, ap, ◌∙◌}
use mathlib.Core.Bool.{Bool, true, false, ◌||◌, ◌&&◌, true≢false}
use mathlib.Core.List.{List}
use Prim.Native.Nat.{ℕ, ◌+◌, ◌-◌, ◌≤◌}
use native.Mathlib.Omega.{arith}
use borrow.Author.Tests.{ltb-true, ltb-false, leb-true, leb-false, lt-ltb, le-ltb, le-leb, lt-leb, eqb-true, not-false}
use lib.Dec.{ltb, leb}
use lib.ListN.{length, take, drop, length-drop}
use lib.Seq.{length-take-le, take-take, take_all}
use Rattle.table.specs.declared.Row.{Row}
use Rattle.fragments.specs.Frag.{Frag}
use Rattle.fragments.specs.Words.{size}
use Rattle.fragments.specs.Pool.{cut, lay_rows, lay_bytes}
use Rattle.fragments.proofs.Pool.{B, cut-length, cut-take, cut-drop, cut-size, lay-view, total-take, total_up}
use Rattle.reassembly_state.specs.Limits.{frags_most, bytes_most}
use Rattle.reassembly_state.specs.Model.{Queue, held, room_for}
use Rattle.reassembly_state.specs.State.{State, count, sum, unsound, fragments, view, counts, lay}
use Rattle.reassembly_state.specs.Rows.{first_ordered, ordered_rows, loose_rows}
use Rattle.reassembly_state.proofs.Parts.{three, drop-take}
use Rattle.reassembly_state.specs.declared.Counts.{Counts}

-- ── a sound queue ──

pub record Sound (s : State) : Type 0 where
  pub few : count s.queue ≤ frags_most
  pub long : bytes_most ≤ length s.pool
  pub within : sum s ≤ length s.pool
  pub sums : sum s ≡ s.queue.n_bytes

either : (a b : Bool) → a || b ≡ false → (a ≡ false) × (b ≡ false)
either true b e = absurd (true≢false e)
either false b e = (refl, e)

pub sound : (s : State) → unsound s ≡ false → Sound s
unfolding unsound
sound s e =
    let a = either (ltb frags_most (count s.queue)) _ e in
    let b = either (ltb (length s.pool) bytes_most) _ a.1 in
    let c = either (ltb (length s.pool) (sum s)) _ b.1 in
    record { few = ltb-false _ _ a.0; long = ltb-false _ _ b.0; within = ltb-false _ _ c.0; sums = eqb-true _ _ (not-false _ c.1) }

-- ── sums that might not fit, compared by what is left ──

pub above_left : (most x y : ℕ) → x ≤ most → ltb (most - x) y ≡ ltb most (x + y)
above_left most x y h = go (ltb most (x + y)) refl
  where
    go : (t : Bool) → ltb most (x + y) ≡ t → ltb (most - x) y ≡ t
    go true e = let l = ltb-true most (x + y) e in lt-ltb (most - x) y (omega arith)
    go false e = let l = ltb-false most (x + y) e in le-ltb (most - x) y (omega arith)

pub within_left : (most x y : ℕ) → x ≤ most → leb y (most - x) ≡ leb (x + y) most
within_left most x y h = go (leb (x + y) most) refl
  where
    go : (t : Bool) → leb (x + y) most ≡ t → leb y (most - x) ≡ t
    go true e = let l = leb-true (x + y) most e in le-leb y (most - x) (omega arith)
    go false e = let l = leb-false (x + y) most e in lt-leb y (most - x) (omega arith)

-- ── the three lists ──

pub held-view : (s : State) → held (view s) ≡ fragments s
unfolding view
held-view s = three s.queue.finished s.queue.unordered (fragments s)

-- a segment of what is held stands in a segment of the rows
pub segment-cut : (rows : List Row) (pool : List ℕ) (n from k : ℕ) → from + k ≤ n → take k (drop from (cut (take n rows) pool)) ≡ cut (take k (drop from rows)) (drop (B (take from rows)) pool)
segment-cut rows pool n from k h =
    let e : from + (n - from) ≡ n = omega arith in
    let back : drop from (take n rows) ≡ take (n - from) (drop from rows) = ap (λ (m : ℕ). drop from (take m rows)) (sym e) ∙ drop-take from (n - from) rows in
    rw (cut-drop from (take n rows) pool, cut-take, back, take-take from n rows (omega arith), take-take k (n - from) (drop from rows) (omega arith))

module _ (s : State) (few : count s.queue ≤ frags_most) (full : length s.rows ≡ frags_most) where
  abbrev q : Counts
  q = s.queue

  pub fragments-length : length (fragments s) ≡ count q
  fragments-length = cut-length (take (count q) s.rows) s.pool ∙ length-take-le (count q) s.rows (omega arith)

  first-length : length (take q.finished (fragments s)) ≡ q.finished
  first-length = let e = fragments-length in length-take-le q.finished (fragments s) (omega arith)

  middle_length : length (take q.unordered (drop q.finished (fragments s))) ≡ q.unordered
  middle_length = let e = fragments-length in length-take-le q.unordered (drop q.finished (fragments s)) (rw length-drop (omega arith))

  last-length : length (drop (q.finished + q.unordered) (fragments s)) ≡ q.ordered
  last-length = let e = fragments-length in rw length-drop (omega arith)

  pub finished-length : length (view s).finished ≡ q.finished
  unfolding view
  finished-length = first-length

  pub unordered-length : length (view s).unordered ≡ q.unordered
  unfolding view
  unordered-length = middle_length

  pub ordered-length : length (view s).ordered ≡ q.ordered
  unfolding view
  ordered-length = last-length

  -- the three lists, each by its rows

  pub finished-cut : (view s).finished ≡ cut (take q.finished s.rows) s.pool
  unfolding view
  finished-cut = rw (cut-take, take-take q.finished (count q) s.rows (omega arith))

  pub unordered-cut : (view s).unordered ≡ cut (loose_rows q s.rows) (drop (B (take q.finished s.rows)) s.pool)
  unfolding view
  unordered-cut = segment-cut s.rows s.pool (count q) q.finished q.unordered (omega arith)

  pub ordered-cut : (view s).ordered ≡ cut (ordered_rows s) (drop (B (take (first_ordered s) s.rows)) s.pool)
  unfolding view
  ordered-cut =
      sym (take_all q.ordered (drop (first_ordered s) (fragments s)) (omega (arith, last-length)))
      ∙ segment-cut s.rows s.pool (count q) (first_ordered s) q.ordered (omega arith)

module _ (s : State) (k : Sound s) where
  pub size-held : size (fragments s) ≡ s.queue.n_bytes
  size-held = cut-size (take (count s.queue) s.rows) s.pool k.within ∙ k.sums

  -- the bytes of a segment are there
  pub segment_fits : (from n : ℕ) → from + n ≤ count s.queue → B (take n (drop from s.rows)) ≤ length (drop (B (take from s.rows)) s.pool)
  segment_fits from n h =
      let up = total_up from (from + n) s.rows (omega arith) in
      let most = total-take (from + n) (count s.queue) s.rows h in
      let e : from + n - from ≡ n = omega arith in
      rw length-drop (omega (arith, rw e at up, k.within))

  -- the bytes of a segment are the sum of its lengths
  pub segment-size : (from n : ℕ) → from + n ≤ count s.queue → size (take n (drop from (fragments s))) ≡ B (take n (drop from s.rows))
  segment-size from n h =
      rw (segment-cut s.rows s.pool (count s.queue) from n h)
      (cut-size (take n (drop from s.rows)) (drop (B (take from s.rows)) s.pool) (segment_fits from n h))

module _ (s : State) (k : Sound s) (full : length s.rows ≡ frags_most) where
  -- nothing changed is the same again
  pub counts-own : counts (view s) ≡ s.queue
  unfolding counts view
  counts-own =
      rw (
        three s.queue.finished s.queue.unordered (fragments s),
        first-length s k.few full,
        middle_length s k.few full,
        last-length s k.few full,
        size-held s k,
      )

  pub lay-own : lay (view s) s ≡ s
  unfolding lay
  lay-own =
      let v = lay-view (count s.queue) s.rows s.pool k.within in
      rw (counts-own, held-view s, v.0, v.1)

  pub room-is : (f : Frag) → room_for (view s) f ≡ (leb (count s.queue + 1) frags_most && leb (s.queue.n_bytes + length f.bytes) bytes_most)
  unfolding room_for
  room-is f = rw (held-view s, fragments-length s k.few full, size-held s k)

-- ── a change, laid ──

pub view_si : (s : State) → (view s).si ≡ s.queue.si
unfolding view
view_si s = refl

pub view-next : (s : State) → (view s).next ≡ s.queue.next_ssn
unfolding view
view-next s = refl

pub view-max : (s : State) → (view s).max ≡ s.queue.max_message_size
unfolding view
view-max s = refl

pub counts_by : (m : Queue) (r : Counts) → m.si ≡ r.si → m.next ≡ r.next_ssn → m.max ≡ r.max_message_size
    → length m.finished ≡ r.finished → length m.unordered ≡ r.unordered → length m.ordered ≡ r.ordered → size (held m) ≡ r.n_bytes → counts m ≡ r
unfolding counts
counts_by m r a b c d e f g = rw (a, b, c, d, e, f, g)

pub laid_by : (m : Queue) (s : State) (r : Counts) (fs : List Frag) {rows : List Row} {pool : List ℕ} → counts m ≡ r → held m ≡ fs → rows ≡ lay_rows fs s.rows → pool ≡ lay_bytes fs s.pool
    → ◌≡◌ {A = State} (record { queue = r; rows = rows; pool = pool }) (lay m s)
unfolding lay
laid_by m s r fs a b c d = rw (a, b, c, d)
