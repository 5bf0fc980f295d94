-- Fragments in rows and a pool: what `cut` sees of them and of their parts, and one edit seen as fragments, as rows and as bytes.
-- Assumes nothing.
use mathlib.Core.Path.{◌≡◌, refl, sym, ap, ◌∙◌}
use mathlib.Core.List.{List, [], ◌∷◌, ◌++◌, append_assoc, append-nil, map, map-append}
use Prim.Native.Nat.{ℕ, zero, suc, ◌+◌, ◌-◌, ◌*◌, ◌/◌, ◌%◌, ◌<◌, ◌≤◌}
use native.Mathlib.Omega.{arith}
use lib.ListN.{length, take, drop, length-append, length-take, length-drop, length-map, take-append-drop, drop_of_length-le}
use lib.Seq.{length-take-le, take-take, take-add, take_at, drop_at, drop-drop}
use Rattle.wire_model.specs.BigEndian.{over}
use Rattle.moves_model.specs.Lists.{put, gone, slice, turned}
use Rattle.table.specs.Rows.{total}
use Rattle.table.specs.declared.Row.{Row}
use Rattle.table.proofs.Columns.{map-take, map-drop, map_turned}
use Rattle.moves_model.proofs.Turned.{turned-long, turned_app}
use Rattle.fragments.specs.Frag.{Frag, long_length, row_of, frag_of}
use Rattle.fragments.specs.Words.{size, joined}
use Rattle.fragments.specs.Pool.{cut, lay_rows, lay_bytes}

-- as many bytes as rows say
abbrev pub B : List Row → ℕ
B rs = total long_length rs

-- ── how many bytes ──

pub total-append : (xs ys : List Row) → B (xs ++ ys) ≡ B xs + B ys
unfolding total
total-append [] ys = omega arith
total-append (r ∷ xs) ys = omega (arith, total-append xs ys)

pub total-split : (k : ℕ) (rs : List Row) → B (take k rs) + B (drop k rs) ≡ B rs
total-split k rs = sym (total-append (take k rs) (drop k rs)) ∙ ap B (take-append-drop k rs)

pub total-take : (k n : ℕ) (rs : List Row) → k ≤ n → B (take k rs) ≤ B (take n rs)
total-take k n rs h = omega (arith, rw (take-take k n rs h) at (total-split k (take n rs)))

pub total_within : (at k : ℕ) (rs : List Row) → B (take k (drop at rs)) + B (take at rs) ≡ B (take (at + k) rs)
total_within at k rs = rw (take-add at k rs, total-append) (omega arith)

-- up to one place, and from there up to another
pub total_up : (a b : ℕ) (rs : List Row) → a ≤ b → B (take a rs) + B (take (b - a) (drop a rs)) ≡ B (take b rs)
total_up a b rs h =
    let e : a + (b - a) ≡ b = omega arith in
    omega (arith, rw e at (total_within a (b - a) rs))

-- no more than 24 bits each
pub total_small : (rs : List Row) → B rs ≤ 16777216 * length rs
unfolding total
total_small [] = omega arith
total_small (r ∷ rs) = omega (arith, total_small rs)

-- ── what is cut ──

pub cut-cons : (r : Row) (rs : List Row) (pool : List ℕ) → cut (r ∷ rs) pool ≡ frag_of r (take (long_length r.head) pool) ∷ cut rs (drop (long_length r.head) pool)
unfolding cut
cut-cons r rs pool = refl

pub cut-length : (rs : List Row) (pool : List ℕ) → length (cut rs pool) ≡ length rs
unfolding cut
cut-length [] pool = refl
cut-length (r ∷ rs) pool = ap suc (cut-length rs (drop (long_length r.head) pool))

pub cut-append : (xs ys : List Row) (pool : List ℕ) → cut (xs ++ ys) pool ≡ cut xs pool ++ cut ys (drop (B xs) pool)
unfolding cut total
cut-append [] ys pool = refl
cut-append (r ∷ xs) ys pool = rw (cut-append xs ys (drop (long_length r.head) pool), drop-drop)

pub cut-take : (k : ℕ) (rs : List Row) (pool : List ℕ) → take k (cut rs pool) ≡ cut (take k rs) pool
unfolding cut
cut-take zero rs pool = refl
cut-take (suc k) [] pool = refl
cut-take (suc k) (r ∷ rs) pool = rw (cut-take k rs (drop (long_length r.head) pool))

pub cut-drop : (k : ℕ) (rs : List Row) (pool : List ℕ) → drop k (cut rs pool) ≡ cut (drop k rs) (drop (B (take k rs)) pool)
unfolding cut total
cut-drop zero rs pool = refl
cut-drop (suc k) [] pool = refl
cut-drop (suc k) (r ∷ rs) pool = rw (cut-drop k rs (drop (long_length r.head) pool), drop-drop)

pub cut-joined : (rs : List Row) (pool : List ℕ) → joined (cut rs pool) ≡ take (B rs) pool
unfolding cut total joined
cut-joined [] pool = refl
cut-joined (r ∷ rs) pool = rw (cut-joined rs (drop (long_length r.head) pool), take-add)

-- a row with its bytes is that row
pub row_back : (r : Row) (bytes : List ℕ) → long_length r.head ≡ length bytes → row_of (frag_of r bytes) ≡ r
row_back r bytes e =
    let h : r.head / 16777216 * 16777216 + length bytes ≡ r.head = omega arith in
    rw h

pub cut-rows : (rs : List Row) (pool : List ℕ) → B rs ≤ length pool → map row_of (cut rs pool) ≡ rs
unfolding cut total
cut-rows [] pool h = refl
cut-rows (r ∷ rs) pool h =
    let n = long_length r.head in
    let e = length-take-le n pool (omega arith) in
    rw (row_back r (take n pool) (sym e), cut-rows rs (drop n pool) (rw length-drop (omega arith)))

-- the pool's front is all that is looked at
pub cut-front : (rs : List Row) (pool x : List ℕ) → B rs ≤ length pool → cut rs (take (B rs) pool ++ x) ≡ cut rs pool
unfolding cut total
cut-front [] pool x h = refl
cut-front (r ∷ rs) pool x h =
    let n = long_length r.head in
    let l = length-take-le n pool (omega arith) in
    rw (take-add n (B rs) pool, append_assoc, take_at (take n pool) _ n l, drop_at (take n pool) _ n l, cut-front rs (drop n pool) x (rw length-drop (omega arith)))

-- ── lists of fragments ──

pub joined-append : (xs ys : List Frag) → joined (xs ++ ys) ≡ joined xs ++ joined ys
unfolding joined
joined-append [] ys = refl
joined-append (x ∷ xs) ys = rw (joined-append xs ys, append_assoc)

pub size-append : (xs ys : List Frag) → size (xs ++ ys) ≡ size xs + size ys
unfolding size
size-append [] ys = omega arith
size-append (x ∷ xs) ys = omega (arith, size-append xs ys)

pub joined_length : (xs : List Frag) → length (joined xs) ≡ size xs
unfolding joined size
joined_length [] = refl
joined_length (x ∷ xs) = rw (length-append, joined_length xs)

module _ (k : ℕ) (xs : List Frag) where
  pub size-split : size (take k xs) + size (drop k xs) ≡ size xs
  size-split = sym (size-append (take k xs) (drop k xs)) ∙ ap size (take-append-drop k xs)

  halves : joined xs ≡ joined (take k xs) ++ joined (drop k xs)
  halves = ap joined (sym (take-append-drop k xs)) ∙ joined-append (take k xs) (drop k xs)

  -- the bytes of a front and of what stands behind it
  pub joined-take : joined (take k xs) ≡ take (size (take k xs)) (joined xs)
  joined-take = sym (ap (take (size (take k xs))) halves ∙ take_at (joined (take k xs)) _ _ (joined_length (take k xs)))

  pub joined-drop : joined (drop k xs) ≡ drop (size (take k xs)) (joined xs)
  joined-drop = sym (ap (drop (size (take k xs))) halves ∙ drop_at (joined (take k xs)) _ _ (joined_length (take k xs)))

pub cut-size : (rs : List Row) (pool : List ℕ) → B rs ≤ length pool → size (cut rs pool) ≡ B rs
cut-size rs pool h = sym (joined_length (cut rs pool)) ∙ ap length (cut-joined rs pool) ∙ length-take-le (B rs) pool h

-- ── fragments that fit: their lengths have room in their rows ──

abbrev pub Fit : List Frag → Type 0
Fit [] = Unit {0}
Fit (f ∷ fs) = (length f.bytes < 16777216) × Fit fs

pub fit_cut : (rs : List Row) (pool : List ℕ) → Fit (cut rs pool)
unfolding cut
fit_cut [] pool = tt
fit_cut (r ∷ rs) pool = (simp length-take (omega arith), fit_cut rs (drop (long_length r.head) pool))

pub fit_append : (xs ys : List Frag) → Fit xs → Fit ys → Fit (xs ++ ys)
fit_append [] ys h k = k
fit_append (x ∷ xs) ys h k = (h.0, fit_append xs ys h.1 k)

pub fit_take : (k : ℕ) (xs : List Frag) → Fit xs → Fit (take k xs)
fit_take zero xs h = tt
fit_take (suc k) [] h = tt
fit_take (suc k) (x ∷ xs) h = (h.0, fit_take k xs h.1)

pub fit_drop : (k : ℕ) (xs : List Frag) → Fit xs → Fit (drop k xs)
fit_drop zero xs h = h
fit_drop (suc k) [] h = tt
fit_drop (suc k) (x ∷ xs) h = fit_drop k xs h.1

pub fit_put : (at : ℕ) (new xs : List Frag) → Fit new → Fit xs → Fit (put at new xs)
unfolding put
fit_put at new xs h k = fit_append (take at xs) _ (fit_take at xs k) (fit_append new _ h (fit_drop at xs k))

pub fit_turned : (a b e : ℕ) (xs : List Frag) → Fit xs → Fit (turned a b e xs)
unfolding turned slice
fit_turned a b e xs h =
    fit_append (take a xs) _ (fit_take a xs h)
    (fit_append (drop b (take e xs) ++ drop a (take b xs)) _
    (fit_append (drop b (take e xs)) _ (fit_drop b _ (fit_take e xs h)) (fit_drop a _ (fit_take b xs h)))
    (fit_drop e xs h))

-- their rows say as many bytes as they have
pub fit_total : (fs : List Frag) → Fit fs → B (map row_of fs) ≡ size fs
unfolding total size
fit_total [] h = refl
fit_total (f ∷ fs) h = omega (arith, h.0, fit_total fs h.1)

-- the view of what was laid
pub cut-laid : (fs : List Frag) (rest : List ℕ) → Fit fs → cut (map row_of fs) (joined fs ++ rest) ≡ fs
unfolding cut joined
cut-laid [] rest h = refl
cut-laid (f ∷ fs) rest h =
    let short = h.0 in
    let l : (f.flags * 16777216 + length f.bytes) % 16777216 ≡ length f.bytes = omega arith in
    let q : (f.flags * 16777216 + length f.bytes) / 16777216 ≡ f.flags = omega arith in
    rw (l, q, append_assoc, take_at f.bytes _ _ refl, drop_at f.bytes _ _ refl, cut-laid fs rest h.1)

pub laid-view : (fs : List Frag) (rows : List Row) (pool : List ℕ) → Fit fs → cut (take (length fs) (lay_rows fs rows)) (lay_bytes fs pool) ≡ fs
unfolding over
laid-view fs rows pool h = rw (take_at (map row_of fs) _ (length fs) (length-map fs row_of)) (cut-laid fs _ h)

-- ── the sizes of edited fragments ──

module _ (xs : List Frag) where
  pub size-put : (at : ℕ) (new : List Frag) → size (put at new xs) ≡ size new + size xs
  unfolding put
  size-put at new = rw (size-append, size-append) (omega (arith, size-split at xs))

  pub size-gone : (at k : ℕ) → size (gone at k xs) + size (take k (drop at xs)) ≡ size xs
  unfolding gone
  size-gone at k = rw (size-append, ← (drop-drop k at xs)) (omega (arith, size-split at xs, size-split k (drop at xs)))

  size-slice : (a b : ℕ) → a ≤ b → size (take a xs) + size (slice a b xs) ≡ size (take b xs)
  unfolding slice
  size-slice a b h = rw (take-take a b xs h) at (size-split a (take b xs))

  pub size-turned : (a b e : ℕ) → a ≤ b → b ≤ e → size (turned a b e xs) ≡ size xs
  unfolding turned
  size-turned a b e h k = rw (size-append, size-append, size-append) (omega (arith, size-slice a b h, size-slice b e k, size-split e xs))

-- ── edits of fragments, as edits of their bytes ──

module _ (at : ℕ) where
  pub joined-put : (new xs : List Frag) → joined (put at new xs) ≡ put (size (take at xs)) (joined new) (joined xs)
  unfolding put
  joined-put new xs = rw (joined-append, joined-append, joined-take at xs, joined-drop at xs)

  size-reach : (k : ℕ) (xs : List Frag) → size (take (at + k) xs) ≡ size (take at xs) + size (take k (drop at xs))
  size-reach k xs = rw (take-add at k xs, size-append)

  pub joined-gone : (k : ℕ) (xs : List Frag) → joined (gone at k xs) ≡ gone (size (take at xs)) (size (take k (drop at xs))) (joined xs)
  unfolding gone
  joined-gone k xs = rw (joined-append, joined-take at xs, joined-drop (at + k) xs, size-reach k xs)

joined-slice : (a b : ℕ) (xs : List Frag) → a ≤ b → joined (slice a b xs) ≡ slice (size (take a xs)) (size (take b xs)) (joined xs)
unfolding slice
joined-slice a b xs h = rw (joined-drop a (take b xs), take-take a b xs h, joined-take b xs)

pub joined-turned : (a b e : ℕ) (xs : List Frag) → a ≤ b → b ≤ e → joined (turned a b e xs) ≡ turned (size (take a xs)) (size (take b xs)) (size (take e xs)) (joined xs)
unfolding turned
joined-turned a b e xs h k =
    rw (joined-append, joined-append, joined-append, joined-slice b e xs k, joined-slice a b xs h, joined-take a xs, joined-drop e xs)

-- ── of what is cut ──

module _ (rs : List Row) (pool : List ℕ) (h : B rs ≤ length pool) where
  -- how many bytes stand in front of a fragment
  pub cut-place : (k : ℕ) → size (take k (cut rs pool)) ≡ B (take k rs)
  cut-place k = rw cut-take (cut-size (take k rs) pool (omega (arith, total-split k rs)))

  pub cut-span : (at k : ℕ) → size (take k (drop at (cut rs pool))) ≡ B (take k (drop at rs))
  cut-span at k = omega (arith, size-reach at k (cut rs pool), cut-place (at + k), cut-place at, total_within at k rs)

  pub cut-put : (at : ℕ) (new : List Frag) → joined (put at new (cut rs pool)) ≡ put (B (take at rs)) (joined new) (take (B rs) pool)
  cut-put at new = rw (joined-put at new (cut rs pool), cut-place at, cut-joined rs pool)

  pub cut-gone : (at k : ℕ) → joined (gone at k (cut rs pool)) ≡ gone (B (take at rs)) (B (take k (drop at rs))) (take (B rs) pool)
  cut-gone at k = rw (joined-gone at k (cut rs pool), cut-place at, cut-span at k, cut-joined rs pool)

  pub cut-turned : (a b e : ℕ) → a ≤ b → b ≤ e → joined (turned a b e (cut rs pool)) ≡ turned (B (take a rs)) (B (take b rs)) (B (take e rs)) (take (B rs) pool)
  cut-turned a b e k l = rw (joined-turned a b e (cut rs pool) k l, cut-place a, cut-place b, cut-place e, cut-joined rs pool)

-- ── the rows of edited fragments ──

module _ {A C : Type 0} (f : A → C) where
  pub map-put : (at : ℕ) (new xs : List A) → map f (put at new xs) ≡ put at (map f new) (map f xs)
  unfolding put
  map-put at new xs = simp (map-append, map-take, map-drop)

  pub map-gone : (at k : ℕ) (xs : List A) → map f (gone at k xs) ≡ gone at k (map f xs)
  unfolding gone
  map-gone at k xs = simp (map-append, map-take, map-drop)

-- ── what is laid back ──

module _ {A : Type 0} where
  -- a list's own front
  pub over-own : (n : ℕ) (xs : List A) → over xs (take n xs) ≡ xs
  unfolding over
  over-own zero xs = refl
  over-own (suc n) [] = refl
  over-own (suc n) (x ∷ xs) = ap (λ (l : List A). x ∷ l) (over-own n xs)

  -- a turn of nothing
  pub turned_none : (a e : ℕ) (xs : List A) → a ≤ e → turned a a e xs ≡ xs
  unfolding turned slice
  turned_none a e xs h =
      let k : length (take a xs) ≤ a = simp length-take (omega arith) in
      rw (drop_of_length-le (take a xs) k, append-nil, ← (take-take a e xs h), ← append_assoc, take-append-drop, take-append-drop)

  -- a turn within the first n is one of the first n
  pub turned-over : (a b e n : ℕ) (xs : List A) → a ≤ b → b ≤ e → e ≤ n → n ≤ length xs → turned a b e xs ≡ over xs (turned a b e (take n xs))
  unfolding over
  turned-over a b e n xs h k l m =
      let q = length-take-le n xs m in
      rw (turned-long a b e h k (take n xs) (omega arith), q)
      (ap (turned a b e) (sym (take-append-drop n xs)) ∙ turned_app a b e h k (take n xs) (drop n xs) (omega arith))

-- fragments in the rows and pool that they were cut from
pub lay-view : (n : ℕ) (rows : List Row) (pool : List ℕ) → B (take n rows) ≤ length pool
    → (lay_rows (cut (take n rows) pool) rows ≡ rows) × (lay_bytes (cut (take n rows) pool) pool ≡ pool)
lay-view n rows pool h = (rw (cut-rows (take n rows) pool h) (over-own n rows), rw cut-joined (over-own (B (take n rows)) pool))

-- ── one edit, as rows and as bytes ──

-- the last k of n gone leave the list as it is
over-gone-last : {A : Type 0} (at k n : ℕ) (xs : List A) → at + k ≡ n → n ≤ length xs → over xs (gone at k (take n xs)) ≡ xs
unfolding gone
over-gone-last at k n xs e h =
    let none : drop n (take n xs) ≡ [] = drop_of_length-le (take n xs) {i = n} (rw (length-take-le n xs h) (omega arith)) in
    rw (e, none, append-nil, take-take at n xs (omega arith), over-own at xs)

-- of the fragments of the first n rows, whose bytes stand at the front of the pool
module _ (n : ℕ) (rows : List Row) (pool : List ℕ) (held : ℕ) (fit : B (take n rows) ≡ held) (within : held ≤ length pool) where
  abbrev view : List Frag
  view = cut (take n rows) pool

  few : B (take n rows) ≤ length pool
  few = omega arith

  place : (k : ℕ) → k ≤ n → B (take k (take n rows)) ≡ B (take k rows)
  place k h = rw (take-take k n rows h)

  pub put-rows : (at : ℕ) (r : Row) (bytes : List ℕ) → long_length r.head ≡ length bytes → over rows (put at (r ∷ []) (take n rows)) ≡ lay_rows (put at (frag_of r bytes ∷ []) view) rows
  put-rows at r bytes e = rw (map-put row_of at (frag_of r bytes ∷ []) view, row_back r bytes e, cut-rows (take n rows) pool few)

  pub put-bytes : (at : ℕ) (r : Row) (bytes : List ℕ) → at ≤ n → over pool (put (B (take at rows)) bytes (take held pool)) ≡ lay_bytes (put at (frag_of r bytes ∷ []) view) pool
  unfolding joined
  put-bytes at r bytes h = rw (cut-put (take n rows) pool few at (frag_of r bytes ∷ []), append-nil, place at h, fit)

  pub gone-rows : (at k : ℕ) → over rows (gone at k (take n rows)) ≡ lay_rows (gone at k view) rows
  gone-rows at k = rw (map-gone row_of at k view, cut-rows (take n rows) pool few)

  -- the last ones go, and nothing moves
  pub gone-last-rows : (at k : ℕ) → at + k ≡ n → n ≤ length rows → rows ≡ lay_rows (gone at k view) rows
  gone-last-rows at k e h = sym (over-gone-last at k n rows e h) ∙ gone-rows at k

  span : (at k : ℕ) → at + k ≤ n → B (take k (drop at (take n rows))) ≡ B (take k (drop at rows))
  span at k h = omega (arith, total_within at k (take n rows), total_within at k rows, place (at + k) h, place at (omega arith))

  pub gone-bytes : (at k : ℕ) → at + k ≤ n → over pool (gone (B (take at rows)) (B (take k (drop at rows))) (take held pool)) ≡ lay_bytes (gone at k view) pool
  gone-bytes at k h = rw (cut-gone (take n rows) pool few at k, place at (omega arith), span at k h, fit)

  pub gone-last-bytes : (at k : ℕ) → at + k ≡ n → pool ≡ lay_bytes (gone at k view) pool
  gone-last-bytes at k e =
      let t = total_within at k rows in
      sym (over-gone-last (B (take at rows)) (B (take k (drop at rows))) held pool (omega (arith, ap (λ (i : ℕ). B (take i rows)) e, fit)) within) ∙ gone-bytes at k (omega arith)

  pub turned_rows : (a b e : ℕ) → a ≤ b → b ≤ e → e ≤ n → n ≤ length rows → turned a b e rows ≡ lay_rows (turned a b e view) rows
  turned_rows a b e h k l m = rw (map_turned row_of a b e view, cut-rows (take n rows) pool few) (turned-over a b e n rows h k l m)

  pub turned-bytes : (a b e : ℕ) → a ≤ b → b ≤ e → e ≤ n → turned (B (take a rows)) (B (take b rows)) (B (take e rows)) pool ≡ lay_bytes (turned a b e view) pool
  turned-bytes a b e h k l =
      rw (cut-turned (take n rows) pool few a b e h k, place a (omega arith), place b (omega arith), place e l, fit)
      (turned-over _ _ _ held pool (total-take a b rows h) (total-take b e rows k) (omega (arith, total-take e n rows l)) within)
