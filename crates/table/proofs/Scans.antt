-- Passes over rows, one row a turn: what each finds of one row more; and which word a field of a row is.
-- Assumes nothing.
use mathlib.Core.Path.{◌≡◌, refl, sym, ap, ◌∙◌}
use mathlib.Core.Bool.{Bool, true, false, ◌||◌, cond, or_assoc, or-false, or-true}
use mathlib.Core.List.{List, [], ◌∷◌, ◌++◌, map}
use Prim.Native.Nat.{ℕ, suc, ◌+◌, ◌*◌, ◌<◌, ◌≤◌}
use native.Mathlib.Numerals.{add-one}
use native.Mathlib.Omega.{arith}
use lib.Dec.{ltb}
use borrow.Author.Tests.{ltb-true, ltb-false, lt-ltb, le-ltb}
use lib.ListN.{length, get_or, take, drop, length-drop, drop_of_length-le, get_or-map}
use lib.Seq.{take-suc, take-add, drop-drop, drop-cons, get_or-drop, get_or-take, length-take-le}
use Rattle.table.specs.Rows.{blank, rows_of, total, some, up_to_last, ahead_of}
use Rattle.table.specs.declared.Row.{Row}
use Rattle.table.proofs.Columns.{columns}

-- ── one row more ──

pub rows_more : (rs : List Row) (from i : ℕ) → from + i < length rs → take (i + 1) (drop from rs) ≡ take i (drop from rs) ++ (get_or rs (from + i) blank ∷ [])
rows_more rs from i h =
    let k : i < length (drop from rs) = rw length-drop (omega arith) in
    rw (add-one, take-suc (drop from rs) i blank k, get_or-drop)

pub total-snoc : (len : ℕ → ℕ) (rs : List Row) (r : Row) → total len (rs ++ (r ∷ [])) ≡ total len rs + len r.head
unfolding total
total-snoc len [] r = omega arith
total-snoc len (x ∷ rs) r = rw (total-snoc len rs r) (omega arith)

pub neither : (a b : Bool) → (a || b) ≡ false → (a ≡ false) × (b ≡ false)
neither false b e = (refl, e)
neither true b e = let z : ◌≡◌ {A = ℕ} 0 1 = ap (λ (t : Bool). cond t 0 1) e in absurd (omega arith)

module _ (p : Row → Bool) where
  pub some-snoc : (rs : List Row) (r : Row) → some p (rs ++ (r ∷ [])) ≡ (some p rs || p r)
  unfolding some
  some-snoc [] r = or-false (p r)
  some-snoc (x ∷ rs) r = ap (λ (t : Bool). p x || t) (some-snoc rs r) ∙ sym (or_assoc (p x) (some p rs) (p r))

  -- one that does is the last
  pub last-here : (rs : List Row) (r : Row) → p r ≡ true → up_to_last p (rs ++ (r ∷ [])) ≡ length rs + 1
  unfolding up_to_last some
  last-here [] r e = rw e
  last-here (x ∷ rs) r e = rw (some-snoc rs r, e, or-true, last-here rs r e) (omega arith)

  -- one that does not leaves the last as it was
  pub last-before : (rs : List Row) (r : Row) → p r ≡ false → up_to_last p (rs ++ (r ∷ [])) ≡ up_to_last p rs
  unfolding up_to_last some
  last-before [] r e = rw e
  last-before (x ∷ rs) r e = rw (some-snoc rs r, e, or-false, last-before rs r e)

  -- of k + 1 rows: the last one does, or the last that does is among the k
  pub last_end : (rs : List Row) (from k q : ℕ) → q ≡ k + 1 → from + k < length rs → p (get_or rs (from + k) blank) ≡ true → up_to_last p (take q (drop from rs)) ≡ q
  last_end rs from k q e h b =
      rw (e, rows_more rs from k h, last-here (take k (drop from rs)) (get_or rs (from + k) blank) b, length-take-le k (drop from rs) (rw length-drop (omega arith)))

  pub last-passed : (rs : List Row) (from k q : ℕ) → q ≡ k + 1 → from + k < length rs → p (get_or rs (from + k) blank) ≡ false → up_to_last p (take q (drop from rs)) ≡ up_to_last p (take k (drop from rs))
  last-passed rs from k q e h b = rw (e, rows_more rs from k h) (last-before (take k (drop from rs)) (get_or rs (from + k) blank) b)

  -- of at + k rows: where none of the k does, the last that does is ahead of them
  none_behind : (xs ys : List Row) → some p ys ≡ false → some p (xs ++ ys) ≡ some p xs
  unfolding some
  none_behind [] ys e = e
  none_behind (x ∷ xs) ys e = ap (λ (t : Bool). p x || t) (none_behind xs ys e)

  last-of_none : (ys : List Row) → some p ys ≡ false → up_to_last p ys ≡ 0
  unfolding up_to_last some
  last-of_none [] e = refl
  last-of_none (y ∷ ys) e = let f = neither (p y) (some p ys) e in rw (f.1, f.0)

  last-ahead : (xs ys : List Row) → some p ys ≡ false → up_to_last p (xs ++ ys) ≡ up_to_last p xs
  unfolding up_to_last
  last-ahead [] ys e = last-of_none ys e
  last-ahead (x ∷ xs) ys e = rw (none_behind xs ys e, last-ahead xs ys e)

  pub last-passed-all : (rs : List Row) (from at k q : ℕ) → q ≡ at + k → some p (take k (drop (from + at) rs)) ≡ false → up_to_last p (take q (drop from rs)) ≡ up_to_last p (take at (drop from rs))
  last-passed-all rs from at k q e n = rw (e, take-add at k (drop from rs), drop-drop at from rs) (last-ahead (take at (drop from rs)) (take k (drop (from + at) rs)) n)

  pub last_none : up_to_last p [] ≡ 0
  unfolding up_to_last
  last_none = refl

  -- one that does has none ahead; one that does not is ahead
  pub ahead-here : (r : Row) (rs : List Row) → p r ≡ true → ahead_of p (r ∷ rs) ≡ 0
  unfolding ahead_of
  ahead-here r rs e = rw e

  pub ahead_more : (r : Row) (rs : List Row) → p r ≡ false → ahead_of p (r ∷ rs) ≡ suc (ahead_of p rs)
  unfolding ahead_of
  ahead_more r rs e = rw e

  pub ahead_none : ahead_of p [] ≡ 0
  unfolding ahead_of
  ahead_none = refl

-- ── bounds of what the passes find ──

ltb-suc : (a b : ℕ) → ltb (suc a) (suc b) ≡ ltb a b
ltb-suc a b = go (ltb a b) refl
  where
    go : (t : Bool) → ltb a b ≡ t → ltb (suc a) (suc b) ≡ t
    go true e = let h = ltb-true a b e in lt-ltb (suc a) (suc b) (omega arith)
    go false e = let h = ltb-false a b e in le-ltb (suc a) (suc b) (omega arith)

module _ (p : Row → Bool) where
  pub ahead_within : (rs : List Row) → ahead_of p rs ≤ length rs
  unfolding ahead_of
  ahead_within [] = omega arith
  ahead_within (r ∷ rs) = go (p r) (ahead_within rs)
    where
      go : (b : Bool) → ahead_of p rs ≤ length rs → cond b 0 (suc (ahead_of p rs)) ≤ suc (length rs)
      go true h = omega arith
      go false h = omega arith

  pub last_within : (rs : List Row) → up_to_last p rs ≤ length rs
  unfolding up_to_last
  last_within [] = omega arith
  last_within (r ∷ rs) = go (some p rs) (p r) (last_within rs)
    where
      go : (a b : Bool) → up_to_last p rs ≤ length rs → cond a (suc (up_to_last p rs)) (cond b 1 0) ≤ suc (length rs)
      go true b h = omega arith
      go false true h = omega arith
      go false false h = omega arith

  -- not all are ahead, exactly if one does
  pub some-ahead : (rs : List Row) → some p rs ≡ ltb (ahead_of p rs) (length rs)
  unfolding some ahead_of
  some-ahead [] = refl
  some-ahead (r ∷ rs) = go (p r) (some-ahead rs)
    where
      go : (b : Bool) → some p rs ≡ ltb (ahead_of p rs) (length rs) → b || some p rs ≡ ltb (cond b 0 (suc (ahead_of p rs))) (suc (length rs))
      go true e = sym (lt-ltb 0 (suc (length rs)) (omega arith))
      go false e = e ∙ sym (ltb-suc (ahead_of p rs) (length rs))

-- ── the search: the rows ahead are those passed and those ahead in the rest ──

pub record Sought (p : Row → Bool) (rs : List Row) (from n i : ℕ) : Type 0 where
  pub fit : from + n ≤ length rs
  pub within : i ≤ n
  pub is : i + ahead_of p (drop i (take n (drop from rs))) ≡ ahead_of p (take n (drop from rs))

pub sought_none : (p : Row → Bool) (rs : List Row) (from n : ℕ) → from + n ≤ length rs → Sought p rs from n 0
sought_none p rs from n h = record { fit = h; within = omega arith; is = omega arith }

module _ {p : Row → Bool} {rs : List Row} {from n i : ℕ} (s : Sought p rs from n i) where
  long : length (take n (drop from rs)) ≡ n
  long = length-take-le n (drop from rs) (rw length-drop (omega (arith, s.fit)))

  next : i < n → drop i (take n (drop from rs)) ≡ get_or rs (from + i) blank ∷ drop (i + 1) (take n (drop from rs))
  next h =
      let k : i < length (take n (drop from rs)) = rw long h in
      rw (drop-cons (take n (drop from rs)) i blank k, get_or-take n (drop from rs) i blank h, get_or-drop, add-one)

  pub sought_here : i < n → p (get_or rs (from + i) blank) ≡ true → i ≡ ahead_of p (take n (drop from rs))
  sought_here h e = omega (arith, rw (next h, ahead-here p _ _ e) at s.is)

  pub sought_turn : i < n → p (get_or rs (from + i) blank) ≡ false → Sought p rs from n (i + 1)
  sought_turn h e = record { fit = s.fit; within = omega arith; is = omega (arith, rw (next h, ahead_more p _ _ e) at s.is) }

  pub sought_all : n ≤ i → i ≡ ahead_of p (take n (drop from rs))
  sought_all h = omega (arith, rw (drop_of_length-le (take n (drop from rs)) {i = i} (rw long h), ahead_none p) at s.is)

-- ── which word a field of a row is ──

module _ (n : ℕ) (ws : List ℕ) (long : length ws ≡ 4 * n) (j : ℕ) (h : j < n) where
  abbrev at : Row
  at = get_or (rows_of n ws) j blank

  -- the word at j of a column, which is a field of every row
  in_column : (k : ℕ) (field : Row → ℕ) → field blank ≡ 0 → map field (rows_of n ws) ≡ take n (drop k ws) → {q : ℕ} → q ≡ k + j → get_or ws q 0 ≡ field at
  in_column k field z e s =
      rw s
      (sym (get_or-drop k ws j 0) ∙ sym (get_or-take n (drop k ws) j 0 h) ∙ ap (λ (l : List ℕ). get_or l j 0) (sym e)
      ∙ ap (get_or (map field (rows_of n ws)) j) (sym z) ∙ get_or-map field (rows_of n ws) j blank)

  pub head_at : {q : ℕ} → q ≡ j → get_or ws q 0 ≡ at.head
  head_at s = in_column 0 (λ (r : Row). r.head) refl (columns n ws long).head (omega arith)

  pub tsn-at : {q : ℕ} → q ≡ n + j → get_or ws q 0 ≡ at.tsn
  tsn-at s = in_column n (λ (r : Row). r.tsn) refl (columns n ws long).tsn s

  pub id_at : {q : ℕ} → q ≡ 2 * n + j → get_or ws q 0 ≡ at.id
  id_at s = in_column (2 * n) (λ (r : Row). r.id) refl (columns n ws long).id s

  pub ppi_at : {q : ℕ} → q ≡ 3 * n + j → get_or ws q 0 ≡ at.ppi
  ppi_at s = in_column (3 * n) (λ (r : Row). r.ppi) refl (columns n ws long).ppi s
