-- Sets dropped, those that `goes` names, apart from the code: what stays of the rows passed so far stands at the front, and what a set of each kind makes of it.
-- Assumes nothing.
use mathlib.Core.Path.{◌≡◌, refl, sym, ap, ◌∙◌}
use mathlib.Core.Bool.{Bool, true, false, not, cond, and-true}
use mathlib.Core.List.{List, [], ◌∷◌, ◌++◌, append_assoc, append-nil, map, map-append}
use Prim.Native.Nat.{ℕ, ◌+◌, ◌-◌, ◌≤◌, ◌<◌}
use native.Mathlib.Omega.{arith}
use borrow.Author.Tests.{not-true, not-false}
use lib.ListN.{length, get_or, take, drop, length-append, length-drop, length-map, drop_of_length-le}
use lib.Seq.{drop-drop, take-add, take-take, take_all, get_or-drop, length-take-le}
use Rattle.wire_model.specs.BigEndian.{over}
use Rattle.wire_model.specs.Facts.{over-length}
use Rattle.moves_model.specs.Lists.{gone}
use Rattle.table.specs.Rows.{blank}
use Rattle.table.specs.declared.Row.{Row}
use Rattle.table.proofs.Scans.{ahead_within}
use Rattle.fragments.specs.Frag.{Frag, ssn_of, has_ssn, row_of, frag_of, bare, of_row, long_length}
use Rattle.fragments.specs.Words.{size, joined, while, past, concat}
use Rattle.fragment_sets.specs.Sets.{other_ssn, complete, sets, set_up_to, kept_sets, skipped}
use Rattle.fragments.specs.Pool.{cut, lay_rows, lay_bytes}
use Rattle.fragments.proofs.Pool.{B, total_within, total-take, cut-cons, cut-take, cut-joined, cut-rows, cut-size, joined-append, joined_length, size-append, lay-view}
use Rattle.fragment_sets.proofs.Sets.{sets-cons}
use Rattle.fragment_sets.proofs.Seen.{within_cut, behind-cut}
use Rattle.fragment_sets.proofs.Complete.{segment-long, segment-rest}
use Rattle.reassembly_state.specs.Limits.{frags_most}
use Rattle.reassembly_state.specs.Model.{with_ordered}
use Rattle.reassembly_state.specs.State.{State, count, fragments, view, counts, lay}
use Rattle.reassembly_state.specs.Rows.{first_ordered}
use Rattle.reassembly_state.proofs.Laws.{Sound, segment-cut, fragments-length, finished-length, unordered-length}
use Rattle.reassembly_state.proofs.Parts.{behind-front, moved_down}
use Rattle.set_reach.specs.Reach.{missing_up_to, reached}
use Rattle.set_reach.specs.Kept.{without, stays, dropped}
use Rattle.set_reach.proofs.Blind.{Blind, blind_cut, up_to_blind, complete_blind, reached_blind}
use Rattle.set_reach.proofs.Passing.{set_rows, some-rows, own-while, own-past}

-- ── what stays of the first set, and of the others ──

abbrev Test : Type 0
Test = List Frag → Bool

stays-nil : (goes : Test) → stays goes [] ≡ []
unfolding stays concat without sets
stays-nil goes = refl

stays-cons : (goes : Test) (x : Frag) (xs : List Frag)
    → stays goes (x ∷ xs)
    ≡ cond (goes (x ∷ while (has_ssn (ssn_of x)) xs))
    (stays goes (past (has_ssn (ssn_of x)) xs))
    ((x ∷ while (has_ssn (ssn_of x)) xs) ++ stays goes (past (has_ssn (ssn_of x)) xs))
unfolding stays concat without
stays-cons goes x xs = rw (sets-cons x xs) (go (goes (x ∷ while (has_ssn (ssn_of x)) xs)) (x ∷ while (has_ssn (ssn_of x)) xs) (without goes (sets (past (has_ssn (ssn_of x)) xs))))
  where
    go : (b : Bool) (first : List Frag) (others : List (List Frag)) → concat (cond b others (first ∷ others)) ≡ cond b (concat others) (first ++ concat others)
    go true first others = refl
    go false first others = refl

-- what a skip drops
pub dropped_blind : (s : ℕ) (bounded : Bool) (t : ℕ) → Blind (dropped s bounded t)
dropped_blind s bounded t l = rw (up_to_blind s l, complete_blind l, reached_blind t l)

-- of an incomplete set, what the point reaches is a TSN that it lacks
module _ (s : ℕ) (bounded : Bool) (t : ℕ) (l : List Frag) (u : set_up_to s l ≡ true) (c : complete l ≡ false) where
  pub dropped-missing : bounded ≡ true → {b : Bool} → b ≡ missing_up_to t l → b ≡ dropped s bounded t l
  unfolding reached
  dropped-missing k e = e ∙ sym (rw (u, c, k))

  pub dropped_free : bounded ≡ false → true ≡ dropped s bounded t l
  dropped_free k = sym (rw (u, c, k))

-- with no point it is an ordered skip
pub skipped-stays : (s t : ℕ) (l : List Frag) → skipped s l ≡ stays (dropped s false t) l
unfolding skipped kept_sets stays without
skipped-stays s t l = ap concat (same (sets l))
  where
    same : (ls : List (List Frag)) → kept_sets s ls ≡ without (dropped s false t) ls
    same [] = refl
    same (l ∷ ls) = rw (same ls, and-true)

stays-set : (goes : Test) (x : Frag) (xs : List Frag) (k : ℕ)
    → while (has_ssn (ssn_of x)) (x ∷ xs) ≡ take k (x ∷ xs) → past (has_ssn (ssn_of x)) (x ∷ xs) ≡ drop k (x ∷ xs)
    → stays goes (x ∷ xs) ≡ cond (goes (take k (x ∷ xs))) (stays goes (drop k (x ∷ xs))) (take k (x ∷ xs) ++ stays goes (drop k (x ∷ xs)))
stays-set goes x xs k e f =
    let rest = stays goes (drop k (x ∷ xs)) in
    stays-cons goes x xs ∙ rw (own-past x xs ∙ f) (ap (λ (m : List Frag). cond (goes m) rest (m ++ rest)) (own-while x xs ∙ e))

module _ (goes : Test) (blind : Blind goes) (r : Row) (rs : List Row) (pool : List ℕ) where
  abbrev all : List Frag
  all = cut (r ∷ rs) pool

  abbrev k : ℕ
  k = set_rows r (r ∷ rs)

  stays-rows : stays goes all ≡ cond (goes (map bare (take k (r ∷ rs)))) (stays goes (drop k all)) (take k all ++ stays goes (drop k all))
  stays-rows =
      let x = frag_of r (take (long_length r.head) pool) in
      let xs = cut rs (drop (long_length r.head) pool) in
      let c = cut-cons r rs pool in
      let e : take k all ≡ cut (take k (r ∷ rs)) pool = cut-take k (r ∷ rs) pool in
      rw (← (blind_cut blind (take k (r ∷ rs)) pool), ← e, c)
      (stays-set goes x xs k (rw c at (within_cut (ssn_of x) (r ∷ rs) pool)) (rw c at (behind-cut (ssn_of x) (r ∷ rs) pool)))

-- ── the pass over the ordered sets of a state ──

-- the rows up to `at` are passed; those that stay, and the ones of the other lists, stand at the front, with their bytes
pub record Skip (goes : List Frag → Bool) (s : State) (rows : List Row) (pool : List ℕ) (at off kept bytes : ℕ) : Type 0 where
  pub blind : Blind goes
  pub sound : Sound s
  pub full : length s.rows ≡ frags_most
  pub within : at ≤ count s.queue
  pub place : off ≡ B (take at s.rows)
  pub stay : List Frag
  pub many : length stay ≡ kept
  pub sized : size stay ≡ bytes
  pub others : first_ordered s ≤ kept
  pub few : kept ≤ at
  pub small : bytes ≤ off
  pub front : rows ≡ lay_rows stay s.rows
  pub bytes-front : pool ≡ lay_bytes stay s.pool
  pub is : stay ++ stays goes (drop at (fragments s)) ≡ take (first_ordered s) (fragments s) ++ stays goes (drop (first_ordered s) (fragments s))

pub skip_none : (goes : List Frag → Bool) → Blind goes → (s : State) → Sound s → length s.rows ≡ frags_most → {at off : ℕ} → at ≡ first_ordered s → off ≡ B (take at s.rows)
    → Skip goes s s.rows s.pool at off at off
skip_none goes blind s k full {at} {off} e p =
    let up = total-take at (count s.queue) s.rows (omega arith) in
    let v = lay-view at s.rows s.pool (omega (arith, k.within)) in
    let mine : take at (fragments s) ≡ cut (take at s.rows) s.pool = rw (cut-take, take-take at (count s.queue) s.rows (omega arith)) in
    record {
      blind = blind;
      sound = k;
      full = full;
      within = omega arith;
      place = p;
      stay = take at (fragments s);
      many = length-take-le at (fragments s) (omega (arith, fragments-length s k.few full));
      sized = rw mine (cut-size (take at s.rows) s.pool (omega (arith, k.within)) ∙ sym p);
      others = omega arith;
      few = omega arith;
      small = omega arith;
      front = rw mine (sym v.0);
      bytes-front = rw mine (sym v.1);
      is = rw e;
    }

module _ {goes : List Frag → Bool} {s : State} {rows : List Row} {pool : List ℕ} {at off kept bytes : ℕ} (i : Skip goes s rows pool at off kept bytes) where
  abbrev n : ℕ
  n = count s.queue

  -- behind what was passed all is as it was
  front_long : length (map row_of i.stay) ≡ kept
  front_long = length-map i.stay row_of ∙ i.many

  behind : drop at rows ≡ drop at s.rows
  behind = rw i.front (behind-front s.rows (map row_of i.stay) at (omega (arith, front_long, i.few)))

  bytes-long : length (joined i.stay) ≡ bytes
  bytes-long = joined_length i.stay ∙ i.sized

  -- as long as it was
  pub skip_pool : length pool ≡ length s.pool
  skip_pool =
      let up = total-take at n s.rows i.within in
      ap length i.bytes-front ∙ over-length s.pool (joined i.stay) (omega (arith, bytes-long, i.small, i.place, i.sound.within))

  all-passed : n ≤ at → i.stay ≡ take (first_ordered s) (fragments s) ++ stays goes (drop (first_ordered s) (fragments s))
  all-passed h =
      let none : drop at (fragments s) ≡ [] = drop_of_length-le (fragments s) {i = at} (omega (arith, fragments-length s i.sound.few i.full)) in
      sym (append-nil i.stay) ∙ rw (none, stays-nil) at i.is

  module _ (h : at < n) {k : ℕ} (e : k ≡ set_rows (get_or rows at blank) (take (first_ordered s + s.queue.ordered - at) (drop at rows))) where
    -- the rows that are left, and the bytes of the fragments that are
    abbrev left : List Row
    left = take (n - at) (drop at s.rows)

    abbrev behind-bytes : List ℕ
    behind-bytes = drop (B (take at s.rows)) s.pool

    abbrev here : Row
    here = get_or s.rows at blank

    here-is : get_or rows at blank ≡ here
    here-is =
        let z : at + 0 ≡ at = omega arith in
        rw z at (sym (get_or-drop at rows 0 blank) ∙ ap (λ (l : List Row). get_or l 0 blank) behind ∙ get_or-drop at s.rows 0 blank)

    long : at + (n - at) ≤ length s.rows
    long = omega (arith, i.full, i.sound.few)

    left_is : left ≡ here ∷ drop 1 left
    left_is = let z : at + 0 ≡ at = omega arith in rw z at (segment-rest s.rows at (n - at) long 0 (omega arith))

    k-is : k ≡ set_rows here left
    k-is = let q : first_ordered s + s.queue.ordered - at ≡ n - at = omega arith in e ∙ rw (here-is, q, behind)

    -- the first set has a row, and no more rows than are left
    some : 0 < k
    some = omega (arith, k-is, ap (set_rows here) left_is, some-rows here (drop 1 left))

    fit : at + k ≤ n
    fit = omega (arith, k-is, ahead_within (of_row (other_ssn (ssn_of (bare here)))) left, segment-long s.rows at (n - at) long)

    pub skip_set : (0 < k) × (at + k ≤ n)
    skip_set = (some, fit)

    -- it stands in these rows, and the rest of the fragments in the others
    segment : take k (drop at (fragments s)) ≡ cut (take k (drop at s.rows)) behind-bytes
    segment = segment-cut s.rows s.pool n at k fit

    rest-is : drop at (fragments s) ≡ cut left behind-bytes
    rest-is =
        sym (take_all (n - at) (drop at (fragments s)) (rw length-drop (omega (arith, fragments-length s i.sound.few i.full))))
        ∙ segment-cut s.rows s.pool n at (n - at) (omega arith)

    abbrev test : Bool
    test = goes (map bare (take k (drop at rows)))

    test-is : test ≡ goes (map bare (take k left))
    test-is = rw (behind, take-take k (n - at) (drop at s.rows) (omega (arith, fit)))

    split : stays goes (drop at (fragments s)) ≡ cond test (stays goes (drop (at + k) (fragments s))) (take k (drop at (fragments s)) ++ stays goes (drop (at + k) (fragments s)))
    split = rw (test-is, ← (drop-drop k at (fragments s)), rest-is, k-is) (rw (← left_is) at (stays-rows goes i.blind here (drop 1 left) behind-bytes))

    module _ {len : ℕ} (w : len ≡ B (take k (drop at rows))) where
      len_is : len ≡ B (take k (drop at s.rows))
      len_is = w ∙ rw behind

      next : off + len ≡ B (take (at + k) s.rows)
      next = omega (arith, len_is, i.place, total_within at k s.rows)

      pub skip_bytes : off + len ≤ length s.pool
      skip_bytes = omega (arith, next, total-take (at + k) n s.rows fit, i.sound.within)

      pub skip_goes : {b : Bool} → b ≡ goes (map bare (take k (drop at rows))) → not b ≡ false → Skip goes s rows pool (at + k) (off + len) kept bytes
      skip_goes {b} t g =
          record {
            blind = i.blind;
            sound = i.sound;
            full = i.full;
            within = fit;
            place = next;
            stay = i.stay;
            many = i.many;
            sized = i.sized;
            others = i.others;
            few = omega (arith, i.few);
            small = omega (arith, i.small);
            front = i.front;
            bytes-front = i.bytes-front;
            is = rw (split, sym t ∙ not-false b g) at i.is;
          }

      -- the bytes of the set are there
      set_fits : B (take k (drop at s.rows)) ≤ length behind-bytes
      set_fits = rw length-drop (omega (arith, skip_bytes, len_is, i.place))

      set-bytes : joined (take k (drop at (fragments s))) ≡ take len (drop off s.pool)
      set-bytes = rw (segment, cut-joined, ← len_is, i.place)

      pub skip_stays : {b : Bool} → b ≡ goes (map bare (take k (drop at rows))) → not b ≡ true → {rows' : List Row} {pool' : List ℕ}
          → rows' ≡ over rows (gone kept (at - kept) (take (at + k) rows)) → pool' ≡ over pool (gone bytes (off - bytes) (take (off + len) pool))
          → Skip goes s rows' pool' (at + k) (off + len) (kept + k) (bytes + len)
      skip_stays {b} t g {rows'} {pool'} r p =
          let set = take k (drop at (fragments s)) in
          let set-rows : map row_of set ≡ take k (drop at s.rows) = rw segment (cut-rows (take k (drop at s.rows)) behind-bytes set_fits) in
          record {
            blind = i.blind;
            sound = i.sound;
            full = i.full;
            within = fit;
            place = next;
            stay = i.stay ++ set;
            many = rw (length-append, i.many, length-take-le k (drop at (fragments s)) (rw length-drop (omega (arith, fit, fragments-length s i.sound.few i.full))));
            sized = rw (size-append, i.sized, segment, cut-size (take k (drop at s.rows)) behind-bytes set_fits, ← len_is);
            others = omega (arith, i.others);
            few = omega (arith, i.few);
            small = omega (arith, i.small);
            front = r ∙ rw (i.front, map-append, set-rows) (moved_down s.rows (map row_of i.stay) kept at k front_long i.few (omega (arith, long, fit)));
            bytes-front = p ∙ rw (i.bytes-front, joined-append, set-bytes) (moved_down s.pool (joined i.stay) bytes off len bytes-long i.small skip_bytes);
            is = append_assoc i.stay set (stays goes (drop (at + k) (fragments s))) ∙ rw (split, sym t ∙ not-true b g) at i.is;
          }

  -- all is passed: what the code makes of the counts is what is promised
  pub skip_all : n ≤ at
      → record {
        queue = record {
          si = s.queue.si;
          next_ssn = s.queue.next_ssn;
          max_message_size = s.queue.max_message_size;
          finished = s.queue.finished;
          unordered = s.queue.unordered;
          ordered = kept - first_ordered s;
          n_bytes = bytes;
        };
        rows = rows;
        pool = pool;
      }
      ≡ lay (with_ordered (view s) (stays goes (view s).ordered)) s
  unfolding lay counts view
  skip_all h =
      let all = fragments s in
      let first = take s.queue.finished all in
      let middle = take s.queue.unordered (drop s.queue.finished all) in
      let last-ones = stays goes (drop (first_ordered s) all) in
      let stay-is : i.stay ≡ take (first_ordered s) all ++ last-ones = all-passed h in
      let is : first ++ (middle ++ last-ones) ≡ i.stay = sym (stay-is ∙ rw (take-add s.queue.finished s.queue.unordered all) (append_assoc first middle last-ones)) in
      let front-ones = length-take-le (first_ordered s) all (omega (arith, fragments-length s i.sound.few i.full)) in
      let long : length last-ones ≡ kept - first_ordered s = omega (arith, i.many, ap length stay-is, length-append (take (first_ordered s) all) last-ones) in
      rw (is, finished-length s i.sound.few i.full, unordered-length s i.sound.few i.full, long, i.sized, i.front, i.bytes-front)
