-- One stream among the others: all that is held is what stands before it, its own and what stands behind it; a queue that has the others in its own
-- first and last lists is a sound queue of one stream, so that the calls of one stream serve here.
-- Assumes nothing.
use mathlib.Core.Path.{◌≡◌, refl, sym, ap, ◌∙◌}
use mathlib.Core.Bool.{false}
use mathlib.Core.List.{List, [], ◌∷◌, ◌++◌, map, append_assoc, append-nil}
use Prim.Native.Nat.{ℕ, suc, ◌+◌, ◌-◌, ◌≤◌, ◌<◌}
use native.Mathlib.Omega.{arith}
use borrow.Author.Tests.{le-ltb, eq-eqb}
use lib.ListN.{length, take, drop, get_or, set, length-drop, length-append, take-append-drop, get_or-map}
use lib.Seq.{length-take-le, take-take, drop-drop, take_all, take-append-add, drop-append-add, take-append-le, drop-append-le, take-suc, set_split}
use Rattle.table.specs.declared.Row.{Row}
use Rattle.fragments.specs.Frag.{Frag}
use Rattle.fragments.specs.Words.{size, concat}
use Rattle.fragments.specs.Pool.{cut, lay_rows, lay_bytes}
use Rattle.fragments.proofs.Pool.{B, cut-take, cut-place, total-take, size-append}
use Rattle.reassembly_state.specs.Limits.{frags_most, bytes_most}
use Rattle.reassembly_state.specs.Model.{Queue, queue, held}
use Rattle.reassembly_state.specs.State.{count, counts}
use Rattle.reassembly_state.specs.State as one
use Rattle.reassembly_state.specs.declared.Counts.{Counts}
use Rattle.streams_model.specs.Among as at
use Rattle.streams_model.specs.Among.{among_counts, alone_counts, amongst, up_to}
use Rattle.streams_model.specs.Shape.{no_counts}
use Rattle.streams_model.specs.State.{State, rows_held, bytes_of, bytes_said, fragments, queue_of, view, held_by, lay, no_queue, own, with_own}
use Rattle.streams_model.proofs.Totals.{map-set}
use Rattle.streams_model.proofs.Laws.{Sound, summed-append, summed-split, sums-total, sums-front, held-split, split-length, take_split, drop-split, get-split, fragments-length, counts-own, held-queue}

-- ── lists of queues ──

held_by-append : (xs ys : List Queue) → held_by (xs ++ ys) ≡ held_by xs ++ held_by ys
unfolding concat
held_by-append [] ys = refl
held_by-append (x ∷ xs) ys = rw (held_by-append xs ys) (sym (append_assoc (held x) (held_by xs) (held_by ys)))

none_counts : counts no_queue ≡ no_counts
unfolding counts size
none_counts = refl

-- ── a queue with others before and behind it ──

pub none_behind : (P : List Frag) (m : Queue) → amongst P [] m ≡ up_to P m
none_behind P m = rw append-nil

pub held_up_to : (P : List Frag) (m : Queue) → held (up_to P m) ≡ P ++ held m
held_up_to P m = append_assoc P m.finished (m.unordered ++ m.ordered)

pub held-amongst : (P R : List Frag) (m : Queue) → held (amongst P R m) ≡ P ++ (held m ++ R)
held-amongst P R m = rw (append_assoc, append_assoc, append_assoc)

size-amongst : (P R : List Frag) (m : Queue) → size (held (amongst P R m)) ≡ size P + (size (held m) + size R)
size-amongst P R m = ap size (held-amongst P R m) ∙ simp size-append (omega arith)

pub counts-amongst : (P R : List Frag) (m : Queue) → counts (amongst P R m) ≡ among_counts (counts m) (length P) (size P) (length R) (size R)
unfolding counts
counts-amongst P R m = rw (length-append, length-append, size-amongst P R m)

-- and back
pub alone_among : (q : Counts) (b bb r rb : ℕ) → alone_counts (among_counts q b bb r rb) b bb r rb ≡ q
alone_among q b bb r rb =
    let f : b + q.finished - b ≡ q.finished = omega arith in
    let o : q.ordered + r - r ≡ q.ordered = omega arith in
    let n : bb + (q.n_bytes + rb) - (bb + rb) ≡ q.n_bytes = omega arith in
    rw (f, o, n)

-- ── three lists, one behind the other ──

module _ {A : Type 0} (P O R : List A) where
  pub take-three : {p o : ℕ} (x : ℕ) → length P ≡ p → length O ≡ o → take (p + (o + x)) (P ++ (O ++ R)) ≡ P ++ (O ++ take x R)
  take-three x e f = rw (← e, ← f, take-append-add P (O ++ R) (length O + x), take-append-add O R x)

  module _ {p : ℕ} (e : length P ≡ p) (a u : ℕ) (h : a + u ≤ length O) where
    seen_first : take (p + a) (P ++ (O ++ R)) ≡ P ++ take a O
    seen_first = rw (← e, take-append-add P (O ++ R) a, take-append-le a O R (omega arith))

    seen_middle : take u (drop (p + a) (P ++ (O ++ R))) ≡ take u (drop a O)
    seen_middle =
        rw (← e, drop-append-add P (O ++ R) a, drop-append-le a O R (omega arith), take-append-le u (drop a O) R (rw length-drop (omega arith)))

    seen_last : drop (p + a + u) (P ++ (O ++ R)) ≡ drop (a + u) O ++ R
    seen_last =
        let n : p + a + u ≡ length P + (a + u) = omega (arith, e) in
        rw (n, drop-append-add P (O ++ R) (a + u), drop-append-le (a + u) O R h)

seen_among : (q : Counts) (G P O R : List Frag) (p : ℕ) → length P ≡ p → length O ≡ count q → G ≡ P ++ (O ++ R)
    → queue q.si q.next_ssn q.max_message_size (take (p + q.finished) G) (take q.unordered (drop (p + q.finished) G)) (drop (p + q.finished + q.unordered) G)
    ≡ amongst P R (queue_of q O)
unfolding queue_of
seen_among q G P O R p e f g =
    let h : q.finished + q.unordered ≤ length O = omega (arith, f) in
    rw (g, seen_first P O R e q.finished q.unordered h, seen_middle P O R e q.finished q.unordered h, seen_last P O R e q.finished q.unordered h)

-- a queue of one stream that has what soundness asks is sound
pub one_sound : (s : one.State) → count s.queue ≤ frags_most → bytes_most ≤ length s.pool → one.sum s ≤ length s.pool → one.sum s ≡ s.queue.n_bytes → one.unsound s ≡ false
unfolding one.unsound
one_sound s few long within sums =
    rw (
      le-ltb frags_most (count s.queue) few,
      le-ltb (length s.pool) bytes_most long,
      le-ltb (length s.pool) (one.sum s) within,
      eq-eqb (one.sum s) s.queue.n_bytes sums,
    )

-- ── the state ──

module _ (s : State) (k : Sound s) (full : length s.rows ≡ frags_most) (j : ℕ) (h : j < length s.queues) where
  abbrev F : List Frag
  F = fragments s

  abbrev mine : Counts
  mine = at.mine s j

  abbrev rows_before : ℕ
  rows_before = at.rows_before s j

  abbrev rows_behind : ℕ
  rows_behind = at.rows_behind s j

  abbrev bytes_before : ℕ
  bytes_before = at.bytes_before s j

  abbrev bytes_behind : ℕ
  bytes_behind = at.bytes_behind s j

  abbrev before : List Frag
  before = at.before s j

  abbrev behind : List Frag
  behind = at.behind s j

  pub rows_split : rows_held s.queues ≡ rows_before + (count mine + rows_behind)
  rows_split = summed-split count j s.queues h

  pub bytes-split : bytes_said s.queues ≡ bytes_before + (mine.n_bytes + bytes_behind)
  bytes-split = summed-split bytes_of j s.queues h

  pub own_is : own s j ≡ queue_of mine (take (count mine) (drop rows_before F))
  unfolding view
  own_is = get-split j s.queues F h

  pub own_held : held (own s j) ≡ take (count mine) (drop rows_before F)
  own_held = ap held own_is ∙ held-queue mine (take (count mine) (drop rows_before F))

  pub whole : F ≡ before ++ (held (own s j) ++ behind)
  whole =
      sym (
      rw (own_held, ← (drop-drop (count mine) rows_before F), take-append-drop (count mine) (drop rows_before F), take-append-drop rows_before F)
      )

  -- how many each has

  pub before-length : length before ≡ rows_before
  before-length = length-take-le rows_before F (omega (arith, fragments-length s k full, rows_split))

  pub own-length : length (held (own s j)) ≡ count mine
  own-length = ap length own_held ∙ length-take-le (count mine) (drop rows_before F) (rw length-drop (omega (arith, fragments-length s k full, rows_split)))

  pub behind-length : length behind ≡ rows_behind
  behind-length = rw length-drop (omega (arith, fragments-length s k full, rows_split))

  pub own-counts : counts (own s j) ≡ mine
  own-counts =
      sym (get_or-map counts (view s) j no_queue)
      ∙ ap (get_or (map counts (view s)) j) none_counts
      ∙ ap (λ (l : List Counts). get_or l j no_counts) (counts-own s k full)

  pub own-bytes : size (held (own s j)) ≡ mine.n_bytes
  unfolding counts
  own-bytes = ap (λ (c : Counts). c.n_bytes) own-counts

  front-size : (n : ℕ) → n ≤ rows_held s.queues → size (take n F) ≡ B (take n s.rows)
  front-size n l = cut-place (take (rows_held s.queues) s.rows) s.pool k.within n ∙ ap B (take-take n (rows_held s.queues) s.rows l)

  pub before-size : size before ≡ bytes_before
  before-size = front-size rows_before (omega (arith, rows_split)) ∙ sums-total (take j s.queues) s.rows (sums-front j s.queues s.rows k.sums)

  pub behind-size : size behind ≡ bytes_behind
  behind-size =
      let all : size F ≡ bytes_said s.queues =
      ap size (sym (take_all (rows_held s.queues) F (omega (arith, fragments-length s k full)))) ∙ front-size (rows_held s.queues) (omega arith) ∙ sums-total s.queues s.rows k.sums in
      let parts : size F ≡ size before + (size (held (own s j)) + size behind) = ap size whole ∙ simp size-append (omega arith) in
      omega (arith, all, parts, bytes-split, before-size, own-bytes)

  -- ── another queue in its place ──

  taken-front : held_by (take j (view s)) ≡ before
  unfolding view
  taken-front = ap held_by (take_split j s.queues F) ∙ held-split (take j s.queues) F

  left_back : held_by (drop (suc j) (view s)) ≡ behind
  unfolding view
  left_back =
      let one_more = ap rows_held (take-suc s.queues j no_counts h) ∙ summed-append count (take j s.queues) (mine ∷ []) in
      let up : rows_held (take (suc j) s.queues) ≡ rows_before + count mine = omega (arith, one_more) in
      ap held_by (drop-split (suc j) s.queues F) ∙ held-split (drop (suc j) s.queues) _ ∙ rw up (take_all rows_behind behind (omega (arith, behind-length)))

  fits_view : j < length (view s)
  unfolding view
  fits_view = rw (split-length s.queues F) h

  held_by-set : (m : Queue) → held_by (set (view s) j m) ≡ before ++ (held m ++ behind)
  unfolding concat
  held_by-set m =
      ap held_by (set_split (view s) j m fits_view)
      ∙ held_by-append (take j (view s)) (m ∷ drop (suc j) (view s))
      ∙ rw (taken-front, left_back)

  pub laid-own : (m : Queue) → with_own s j m
      ≡ record {
        queues = set s.queues j (counts m);
        rows = lay_rows (before ++ (held m ++ behind)) s.rows;
        pool = lay_bytes (before ++ (held m ++ behind)) s.pool;
      }
  unfolding lay
  laid-own m = rw (map-set counts (view s) j m, counts-own s k full, held_by-set m)

  -- ── the queue that has the others in its lists ──

  abbrev among : ℕ → ℕ → one.State
  among = at.among s j

  module _ (x xb : ℕ) (l : x ≤ rows_behind) (e : size (take x behind) ≡ xb) where
    abbrev some : ℕ
    some = count (among x xb).queue

    pub some_is : some ≡ rows_before + (count mine + x)
    some_is = omega arith

    pub some-held : some ≤ rows_held s.queues
    some-held = omega (arith, rows_split)

    pub among-front : one.fragments (among x xb) ≡ take some F
    among-front =
        sym (
        cut-take some (take (rows_held s.queues) s.rows) s.pool
        ∙ ap (λ (r : List Row). cut r s.pool) (take-take some (rows_held s.queues) s.rows some-held)
        )

    pub among-whole : one.fragments (among x xb) ≡ before ++ (held (own s j) ++ take x behind)
    among-whole =
        among-front ∙ ap (λ (n : ℕ). take n F) some_is ∙ ap (take (rows_before + (count mine + x))) whole
        ∙ take-three before (held (own s j)) behind x before-length own-length

    pub among-sum : one.sum (among x xb) ≡ bytes_before + (mine.n_bytes + xb)
    among-sum =
        let parts : size (take some F) ≡ size before + (size (held (own s j)) + size (take x behind)) = ap size (sym among-front ∙ among-whole) ∙ simp size-append (omega arith) in
        sym (front-size some some-held) ∙ parts ∙ rw (before-size, own-bytes, e)

    pub among_sound : one.unsound (among x xb) ≡ false
    among_sound =
        one_sound (among x xb) (omega (arith, some-held, k.few)) k.long
        (omega (arith, total-take some (rows_held s.queues) s.rows some-held, k.within))
        among-sum

    pub among-view : one.view (among x xb) ≡ amongst before (take x behind) (own s j)
    unfolding one.view
    among-view =
        let part = take (count mine) (drop rows_before F) in
        seen_among mine (one.fragments (among x xb)) before part (take x behind) rows_before before-length (ap length (sym own_held) ∙ own-length)
        (among-whole ∙ ap (λ (l : List Frag). before ++ (l ++ take x behind)) own_held)
        ∙ ap (amongst before (take x behind)) (sym own_is)

  -- with all that stand behind it

  all-behind : take rows_behind behind ≡ behind
  all-behind = take_all rows_behind behind (omega (arith, behind-length))

  pub among-all_sound : one.unsound (among rows_behind bytes_behind) ≡ false
  among-all_sound = among_sound rows_behind bytes_behind (omega arith) (ap size all-behind ∙ behind-size)

  pub among-all-view : one.view (among rows_behind bytes_behind) ≡ amongst before behind (own s j)
  among-all-view =
      among-view rows_behind bytes_behind (omega arith) (ap size all-behind ∙ behind-size) ∙ ap (λ (l : List Frag). amongst before l (own s j)) all-behind

  -- with none of them

  pub among_none_sound : one.unsound (among 0 0) ≡ false
  unfolding size
  among_none_sound = among_sound 0 0 (omega arith) refl

  pub among_none-view : one.view (among 0 0) ≡ up_to before (own s j)
  unfolding size
  among_none-view = among-view 0 0 (omega arith) refl ∙ none_behind before (own s j)

  -- ── what is put back ──

  -- the state that a change of the whole leaves, where the stream's queue is now m
  pub put_back : (m : Queue) {c : Counts} {rows : List Row} {pool : List ℕ}
      → c ≡ counts m → rows ≡ lay_rows (before ++ (held m ++ behind)) s.rows → pool ≡ lay_bytes (before ++ (held m ++ behind)) s.pool
      → record { queues = set s.queues j c; rows = rows; pool = pool } ≡ with_own s j m
  put_back m e f g = rw (e, f, g) (sym (laid-own m))

  -- what a call leaves of the queue that has all the others in its lists
  module _ (m : Queue) {left : Counts} {rows : List Row} {pool : List ℕ}
      (e : ◌≡◌ {A = one.State} (record { queue = left; rows = rows; pool = pool }) (one.lay (amongst before behind m) (among rows_behind bytes_behind))) where
    pub left-counts : left ≡ among_counts (counts m) rows_before bytes_before rows_behind bytes_behind
    unfolding one.lay
    left-counts = ap (λ (t : one.State). t.queue) e ∙ counts-amongst before behind m ∙ rw (before-length, before-size, behind-length, behind-size)

    pub among-left : {c : Counts} → c ≡ alone_counts left rows_before bytes_before rows_behind bytes_behind → record { queues = set s.queues j c; rows = rows; pool = pool } ≡ with_own s j m
    unfolding one.lay
    among-left f =
        put_back m (f ∙ ap (λ (q : Counts). alone_counts q rows_before bytes_before rows_behind bytes_behind) left-counts ∙ alone_among (counts m) rows_before bytes_before rows_behind bytes_behind)
        (ap (λ (t : one.State). t.rows) e ∙ ap (λ (l : List Frag). lay_rows l s.rows) (held-amongst before behind m))
        (ap (λ (t : one.State). t.pool) e ∙ ap (λ (l : List Frag). lay_bytes l s.pool) (held-amongst before behind m))
