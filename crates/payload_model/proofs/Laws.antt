-- What a sound queue has, and what the calls make of it: the laws that the calls' proofs cite.
-- Assumes nothing.
use mathlib.Core.Path.{◌≡◌, refl, sym, ap, ◌∙◌}
use mathlib.Core.Bool.{Bool, true, false, ◌||◌, cond, or-false, true≢false}
use mathlib.Core.List.{List, [], ◌∷◌, ◌++◌, append-nil}
use Prim.Native.Nat.{ℕ, zero, suc, ◌+◌, ◌-◌, ◌*◌, ◌<◌, ◌≤◌}
use native.Mathlib.Decide.{dec_le}
use native.Mathlib.Nat.{mod-lt}
use native.Mathlib.Numerals.{add-one}
use native.Mathlib.Omega.{arith}
use lib.Dec.{ltb}
use lib.ListN.{length, get_or, take, drop, set, length-append, length-take, length-drop, get_or-replicate, get_or-eq_default}
use lib.Seq.{length-take-le, take_all, set-get_or, take-suc, get_or-drop, get_or-append-add, take_at}
use borrow.Author.Tests.{ltb-false, eqb-true, not-false}
use Rattle.wire_model.specs.BigEndian.{over}
use Rattle.wire_model.specs.Facts.{over-snoc}
use Rattle.data_fields.specs.declared.ChunkPayloadData.{ChunkPayloadData}
use Rattle.moves_model.specs.Lists.{gone}
use Rattle.table.specs.Rows.{blank, total, some, kept, short_length}
use Rattle.table.specs.declared.Row.{Row}
use Rattle.payload_model.specs.Limits.{tsns_most, log_most}
use Rattle.payload_model.specs.Queue.{Queue, held, unsound, row_of, left, zeros}

-- ── a sound queue ──

total_small : (rs : List Row) → total short_length rs ≤ 65536 * length rs
unfolding total
total_small [] = omega arith
total_small (r ∷ rs) = let m = mod-lt r.head {m = 65536} (omega arith) in omega (arith, total_small rs)

pub record Sound (q : Queue) : Type 0 where
  pub few : q.count ≤ tsns_most
  pub logs : q.dups ≤ log_most
  pub sum : total short_length (held q) ≡ q.bytes
  pub small : q.bytes ≤ 65536 * tsns_most

pub either : (a b : Bool) → a || b ≡ false → (a ≡ false) × (b ≡ false)
either true b e = absurd (true≢false e)
either false b e = (refl, e)

pub sound : (q : Queue) → unsound q ≡ false → Sound q
unfolding unsound
sound q e =
    let a = either (ltb tsns_most q.count) _ e in
    let b = either (ltb log_most q.dups) _ a.1 in
    let few : q.count ≤ tsns_most = ltb-false _ _ a.0 in
    let sum : total short_length (held q) ≡ q.bytes = eqb-true _ _ (not-false _ b.1) in
    let l : length (held q) ≤ q.count = simp length-take (omega arith) in
    record { few = few; logs = ltb-false _ _ b.0; sum = sum; small = omega (arith, total_small (held q)) }

-- ── passes ──

module _ (p : Row → Bool) where
  pub kept_within : (rs : List Row) → length (kept p rs) ≤ length rs
  unfolding kept
  kept_within [] = omega arith
  kept_within (r ∷ rs) = go (p r) (kept_within rs)
    where
      go : (b : Bool) → length (kept p rs) ≤ length rs → length (cond b (r ∷ kept p rs) (kept p rs)) ≤ suc (length rs)
      go true h = omega arith
      go false h = omega arith

  pub kept-snoc : (rs : List Row) (r : Row) → kept p (rs ++ (r ∷ [])) ≡ kept p rs ++ cond (p r) (r ∷ []) []
  unfolding kept
  kept-snoc [] r = refl
  kept-snoc (x ∷ rs) r = go (p x) (kept-snoc rs r)
    where
      go : (b : Bool) → kept p (rs ++ (r ∷ [])) ≡ kept p rs ++ cond (p r) (r ∷ []) [] → cond b (x ∷ kept p (rs ++ (r ∷ []))) (kept p (rs ++ (r ∷ []))) ≡ cond b (x ∷ kept p rs) (kept p rs) ++ cond (p r) (r ∷ []) []
      go true e = ap (λ (l : List Row). x ∷ l) e
      go false e = e

-- what stands behind the front of a list is as it was
pub over-rest : {A : Type 0} (z : A) (xs vs : List A) (i : ℕ) → length vs ≤ i → length vs ≤ length xs → get_or (over xs vs) i z ≡ get_or xs i z
unfolding over
over-rest z xs vs i h k =
    let e : length vs + (i - length vs) ≡ i = omega arith in
    ap (λ (j : ℕ). get_or (vs ++ drop (length vs) xs) j z) (sym e) ∙ get_or-append-add vs (drop (length vs) xs) (i - length vs) z
    ∙ get_or-drop (length vs) xs (i - length vs) z ∙ ap (λ (j : ℕ). get_or xs j z) e

pub front-back : {A : Type 0} (xs vs : List A) → take (length vs) (over xs vs) ≡ vs
unfolding over
front-back xs vs = take_at vs (drop (length vs) xs) (length vs) refl

-- ── the rows that stay, moved to the front one by one ──

pub record Kept (p : Row → Bool) (rows₀ : List Row) (n : ℕ) (rows : List Row) (left i : ℕ) : Type 0 where
  pub fit : n ≤ length rows₀
  pub within : i ≤ n
  pub few : left ≤ i
  pub count : left ≡ length (kept p (take i rows₀))
  pub is : rows ≡ over rows₀ (kept p (take i rows₀))

pub keep_none : (p : Row → Bool) (rows₀ : List Row) (n : ℕ) → n ≤ length rows₀ → Kept p rows₀ n rows₀ 0 0
unfolding kept over
keep_none p rows₀ n h = record { fit = h; within = omega arith; few = omega arith; count = refl; is = refl }

module _ {p : Row → Bool} {rows₀ rows : List Row} {n left i : ℕ} (k : Kept p rows₀ n rows left i) (h : i < n) where
  more : take (i + 1) rows₀ ≡ take i rows₀ ++ (get_or rows₀ i blank ∷ [])
  more = let l : i < length rows₀ = omega (arith, k.fit) in rw (add-one, take-suc rows₀ i blank l)

  -- the row that is read is still as it was
  pub keep_read : get_or rows i blank ≡ get_or rows₀ i blank
  keep_read = rw k.is (over-rest blank rows₀ (kept p (take i rows₀)) i (omega (arith, k.count, k.few)) (omega (arith, k.count, k.few, k.fit)))

  pub keep_stays : (r : Row) → r ≡ get_or rows i blank → p r ≡ true → Kept p rows₀ n (set rows left r) (left + 1) (i + 1)
  keep_stays r e q =
      let old : get_or rows₀ i blank ≡ r = sym keep_read ∙ sym e in
      let next : kept p (take (i + 1) rows₀) ≡ kept p (take i rows₀) ++ (r ∷ []) = rw (more, kept-snoc, old, q) in
      record {
        fit = k.fit;
        within = omega arith;
        few = omega (arith, k.few);
        count = rw (next, length-append) (omega (arith, k.count));
        is = rw (next, k.is) (over-snoc blank rows₀ (kept p (take i rows₀)) r left (sym k.count) (omega (arith, k.few, k.fit)));
      }

  pub keep_goes : (r : Row) → r ≡ get_or rows i blank → p r ≡ false → Kept p rows₀ n rows left (i + 1)
  keep_goes r e q =
      let old : get_or rows₀ i blank ≡ r = sym keep_read ∙ sym e in
      let next : kept p (take (i + 1) rows₀) ≡ kept p (take i rows₀) = rw (more, kept-snoc, old, q, append-nil) in
      record { fit = k.fit; within = omega arith; few = omega (arith, k.few); count = rw next k.count; is = rw next k.is }

-- ── the log, handed out place by place ──

pub hand_turn : (log : List ℕ) (i : ℕ) → i < log_most → set (over zeros (take i log)) i (get_or log i 0) ≡ over zeros (take (i + 1) log)
hand_turn log i h = go (dec_le (suc i) (length log))
  where
    go : Dec (suc i ≤ length log) → set (over zeros (take i log)) i (get_or log i 0) ≡ over zeros (take (i + 1) log)
    go (yes k) = rw (add-one, take-suc log i 0 k) (over-snoc 0 zeros (take i log) (get_or log i 0) i (length-take-le i log (omega arith)) (omega arith))
    go (no k) =
        let short : length log ≤ i = omega arith in
        let blank-there : get_or (over zeros log) i 0 ≡ 0 = over-rest 0 zeros log i short (omega arith) ∙ get_or-replicate {A = ℕ} log_most i 0 0 h in
        let same : get_or log i 0 ≡ get_or (over zeros log) i 0 = get_or-eq_default {A = ℕ} log 0 short ∙ sym blank-there in
        rw (take_all i log short, take_all (i + 1) log (omega arith), same) (set-get_or (over zeros log) i 0)

-- ── the first record ──

pub first-row : (rows : List Row) (n : ℕ) → 0 < n → n ≤ length rows → take n rows ≡ get_or rows 0 blank ∷ drop 1 (take n rows)
first-row rows zero h k = absurd (omega arith)
first-row [] (suc n) h k = absurd (omega arith)
first-row (r ∷ rows) (suc n) h k = refl

some_one : (p : Row → Bool) (r : Row) → some p (r ∷ []) ≡ p r
unfolding some
some_one p r = or-false (p r)

pub none_first : (p : Row → Bool) (rows : List Row) (n : ℕ) → n ≡ 0 → some p (take 1 (take n rows)) ≡ false
unfolding some
none_first p rows n e = rw e

total-cons : (r : Row) (rs : List Row) → total short_length (r ∷ rs) ≡ short_length r.head + total short_length rs
unfolding total
total-cons r rs = refl

module _ (q : Queue) (s : Sound q) (long : length q.rows ≡ tsns_most) (some-held : 0 < q.count) where
  abbrev r : Row
  r = get_or q.rows 0 blank

  split : held q ≡ r ∷ drop 1 (held q)
  split = first-row q.rows q.count some-held (omega (arith, s.few))

  pub is-first : (p : Row → Bool) → some p (take 1 (held q)) ≡ p r
  is-first p = ap (λ (l : List Row). some p (take 1 l)) split ∙ some_one p r

  pub first-held : get_or (held q) 0 blank ≡ r
  first-held = ap (λ (l : List Row). get_or l 0 blank) split

  sum : short_length r.head + total short_length (drop 1 (held q)) ≡ q.bytes
  sum = sym (total-cons r (drop 1 (held q))) ∙ ap (total short_length) (sym split) ∙ s.sum

  pub first_small : short_length r.head ≤ q.bytes
  first_small = omega (arith, sum)

  -- the queue without it
  pub first-gone : {rows' : List Row} → rows' ≡ over q.rows (gone 0 1 (held q))
      → record { count = q.count - 1; bytes = q.bytes - short_length r.head; dups = q.dups; log = q.log; rows = rows' } ≡ left q (drop 1 (held q))
  unfolding gone
  first-gone {rows'} e =
      let n : length (drop 1 (held q)) ≡ q.count - 1 = length-drop 1 (held q) ∙ rw (length-take-le q.count q.rows (omega (arith, s.few))) in
      let b : total short_length (drop 1 (held q)) ≡ q.bytes - short_length r.head = omega (arith, sum) in
      rw (e, n, b)

-- ── a record that is put in ──

-- its data length is read back
pub row-size : (p : ChunkPayloadData) (size : ℕ) → size < 65536 → short_length (row_of p size).head ≡ size
unfolding row_of
row-size p size h = omega arith
