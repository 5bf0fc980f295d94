-- Loops over the held records: one that gives each row another head, and one that moves the numbers beside the rows that stay.
-- Assumes nothing.
use mathlib.Core.Path.{◌≡◌, refl, sym, ap, ◌∙◌}
use mathlib.Core.Bool.{Bool, true, false, cond}
use mathlib.Core.List.{List, [], ◌∷◌, ◌++◌, append-nil}
use Prim.Native.Nat.{ℕ, suc, ◌+◌, ◌*◌, ◌<◌, ◌≤◌}
use native.Mathlib.Numerals.{add-one}
use native.Mathlib.Omega.{arith}
use lib.ListN.{length, get_or, take, set, length-append}
use lib.Seq.{take-suc, take_all, length-take-le, set-get_or, get_or-set_other}
use Rattle.wire_model.specs.BigEndian.{over}
use Rattle.wire_model.specs.Facts.{over-snoc}
use Rattle.table.specs.Rows.{blank, rows_of}
use Rattle.table.specs.declared.Row.{Row}
use Rattle.table.proofs.Columns.{rows-set}
use Rattle.table.proofs.Scans.{head_at, tsn-at, id_at, ppi_at}
use Rattle.payload_model.proofs.Laws.{over-rest}
use Rattle.inflight_model.specs.Queue.{with_head, kept_beside}

-- ── a store into the column of heads ──

module _ (n : ℕ) (ws : List ℕ) (long : length ws ≡ 4 * n) (at h : ℕ) (k : at < n) where
  -- what stands in another column is as it was
  same : (q v : ℕ) → at < q → get_or ws q 0 ≡ v → set ws at h ≡ set (set ws at h) q v
  same q v l e =
      let f : get_or (set ws at h) q 0 ≡ v = get_or-set_other ws at q h 0 (λ z. omega arith) ∙ e in
      sym (ap (set (set ws at h) q) (sym f) ∙ set-get_or (set ws at h) q 0)

  pub rows_head : rows_of n (set ws at h) ≡ set (rows_of n ws) at (with_head h (get_or (rows_of n ws) at blank))
  rows_head =
      let r = with_head h (get_or (rows_of n ws) at blank) in
      rows-set n ws long at r k refl
      (same (n + at) r.tsn (omega arith) (tsn-at n ws long at k (omega arith)))
      (same (2 * n + at) r.id (omega arith) (id_at n ws long at k (omega arith)))
      (same (3 * n + at) r.ppi (omega arith) (ppi_at n ws long at k (omega arith)))

-- ── one row after the other becomes that of another list ──

pub record Passing (rows₀ ys rows : List Row) (i : ℕ) : Type 0 where
  pub fit : length ys ≤ length rows₀
  pub within : i ≤ length ys
  pub is : rows ≡ over rows₀ (take i ys)

pub pass_none : (rows₀ ys : List Row) → length ys ≤ length rows₀ → Passing rows₀ ys rows₀ 0
unfolding over
pass_none rows₀ ys h = record { fit = h; within = omega arith; is = refl }

module _ {rows₀ ys rows : List Row} {i : ℕ} (p : Passing rows₀ ys rows i) where
  done-long : length (take i ys) ≡ i
  done-long = length-take-le i ys p.within

  -- the row that is read is still as it was
  pub pass_read : i < length ys → get_or rows i blank ≡ get_or rows₀ i blank
  pass_read h = rw p.is (over-rest blank rows₀ (take i ys) i (omega (arith, done-long)) (omega (arith, done-long, p.fit)))

  pub pass_turn : (r : Row) → i < length ys → r ≡ get_or ys i blank → Passing rows₀ ys (set rows i r) (i + 1)
  pass_turn r h e =
      record {
        fit = p.fit;
        within = omega arith;
        is = rw (p.is, add-one, take-suc ys i blank h, ← e) (over-snoc blank rows₀ (take i ys) r i done-long (omega (arith, p.fit)));
      }

  pub pass_done : i ≡ length ys → rows ≡ over rows₀ ys
  pass_done e = p.is ∙ rw (take_all i ys (omega arith))

-- the same of a table, whose heads alone are stored
module _ (n : ℕ) (ws : List ℕ) {rows₀ ys : List Row} {i : ℕ} (long : length ws ≡ 4 * n) (p : Passing rows₀ ys (rows_of n ws) i) (k : i < n) (l : i < length ys) where
  pub head_read : get_or ws i 0 ≡ (get_or rows₀ i blank).head
  head_read = head_at n ws long i k refl ∙ ap (λ (r : Row). r.head) (pass_read p l)

  pub head-turn : (h : ℕ) → with_head h (get_or rows₀ i blank) ≡ get_or ys i blank → Passing rows₀ ys (rows_of n (set ws i h)) (i + 1)
  head-turn h e = rw (rows_head n ws long i h k, pass_read p l) (pass_turn p (with_head h (get_or rows₀ i blank)) l e)

-- ── numbers beside rows that stay ──

pub beside_within : (p : Row → Bool) (rs : List Row) (ms : List ℕ) → length (kept_beside p rs ms) ≤ length ms
unfolding kept_beside
beside_within p [] ms = omega arith
beside_within p (r ∷ rs) [] = omega arith
beside_within p (r ∷ rs) (m ∷ ms) = go (p r) (beside_within p rs ms)
  where
    go : (b : Bool) → length (kept_beside p rs ms) ≤ length ms → length (cond b (m ∷ kept_beside p rs ms) (kept_beside p rs ms)) ≤ suc (length ms)
    go true h = omega arith
    go false h = omega arith

beside_snoc :
    (p : Row → Bool) (rs : List Row) (ms : List ℕ) (r : Row) (m : ℕ) → length ms ≡ length rs →
    kept_beside p (rs ++ (r ∷ [])) (ms ++ (m ∷ [])) ≡ kept_beside p rs ms ++ cond (p r) (m ∷ []) []
unfolding kept_beside
beside_snoc p [] [] r m e = refl
beside_snoc p [] (n ∷ ms) r m e = absurd (omega arith)
beside_snoc p (x ∷ rs) [] r m e = absurd (omega arith)
beside_snoc p (x ∷ rs) (n ∷ ms) r m e = go (p x) (beside_snoc p rs ms r m (omega arith))
  where
    go :
        (b : Bool) → kept_beside p (rs ++ (r ∷ [])) (ms ++ (m ∷ [])) ≡ kept_beside p rs ms ++ cond (p r) (m ∷ []) [] →
        cond b (n ∷ kept_beside p (rs ++ (r ∷ [])) (ms ++ (m ∷ []))) (kept_beside p (rs ++ (r ∷ [])) (ms ++ (m ∷ [])))
        ≡ cond b (n ∷ kept_beside p rs ms) (kept_beside p rs ms) ++ cond (p r) (m ∷ []) []
    go true f = ap (λ (l : List ℕ). n ∷ l) f
    go false f = f

pub record Beside (p : Row → Bool) (rows : List Row) (ms₀ : List ℕ) (n : ℕ) (ms : List ℕ) (left i : ℕ) : Type 0 where
  pub fit : n ≤ length rows
  pub long : n ≤ length ms₀
  pub within : i ≤ n
  pub few : left ≤ i
  pub count : left ≡ length (kept_beside p (take i rows) (take i ms₀))
  pub is : ms ≡ over ms₀ (kept_beside p (take i rows) (take i ms₀))

pub beside_none : (p : Row → Bool) (rows : List Row) (ms₀ : List ℕ) (n : ℕ) → n ≤ length rows → n ≤ length ms₀ → Beside p rows ms₀ n ms₀ 0 0
unfolding kept_beside over
beside_none p rows ms₀ n h k = record { fit = h; long = k; within = omega arith; few = omega arith; count = refl; is = refl }

module _ {p : Row → Bool} {rows : List Row} {ms₀ ms : List ℕ} {n left i : ℕ} (k : Beside p rows ms₀ n ms left i) (h : i < n) where
  abbrev so_far : List ℕ
  so_far = kept_beside p (take i rows) (take i ms₀)

  next : kept_beside p (take (i + 1) rows) (take (i + 1) ms₀) ≡ so_far ++ cond (p (get_or rows i blank)) (get_or ms₀ i 0 ∷ []) []
  next =
      let a : i < length rows = omega (arith, k.fit) in
      let b : i < length ms₀ = omega (arith, k.long) in
      rw (add-one, take-suc rows i blank a, take-suc ms₀ i 0 b)
      (beside_snoc p (take i rows) (take i ms₀) (get_or rows i blank) (get_or ms₀ i 0) (length-take-le i ms₀ (omega arith) ∙ sym (length-take-le i rows (omega arith))))

  -- the number that is read is still as it was
  still : get_or ms i 0 ≡ get_or ms₀ i 0
  still = rw k.is (over-rest 0 ms₀ so_far i (omega (arith, k.count, k.few)) (omega (arith, k.count, k.few, k.long)))

  pub beside_stays : p (get_or rows i blank) ≡ true → Beside p rows ms₀ n (set ms left (get_or ms i 0)) (left + 1) (i + 1)
  beside_stays q =
      let more : kept_beside p (take (i + 1) rows) (take (i + 1) ms₀) ≡ so_far ++ (get_or ms i 0 ∷ []) = next ∙ rw (q, still) in
      record {
        fit = k.fit;
        long = k.long;
        within = omega arith;
        few = omega (arith, k.few);
        count = rw (more, length-append) (omega (arith, k.count));
        is = rw more (ap (λ (l : List ℕ). set l left (get_or ms i 0)) k.is ∙ over-snoc 0 ms₀ so_far (get_or ms i 0) left (sym k.count) (omega (arith, k.few, k.long)));
      }

  pub beside_goes : p (get_or rows i blank) ≡ false → Beside p rows ms₀ n ms left (i + 1)
  beside_goes q =
      let none : kept_beside p (take (i + 1) rows) (take (i + 1) ms₀) ≡ so_far = next ∙ rw (q, append-nil) in
      record { fit = k.fit; long = k.long; within = omega arith; few = omega (arith, k.few); count = rw none k.count; is = rw none k.is }
