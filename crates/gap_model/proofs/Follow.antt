-- TSNs that follow one another: the pass that counts them, and what the walk makes of a whole run of them at once.
-- Assumes nothing.
use mathlib.Core.Path.{◌≡◌, refl, sym, ap, ◌∙◌}
use mathlib.Core.Bool.{Bool, true, false, cond}
use mathlib.Core.List.{List, [], ◌∷◌, ◌++◌, map-append}
use Prim.Native.Nat.{ℕ, zero, suc, ◌+◌, ◌*◌, ◌-◌, ◌^◌, ◌<◌, ◌≤◌}
use native.Mathlib.Nat.{mod-add-mod, mod-eq_of_lt, add-zero, sub-zero}
use native.Mathlib.Decide.{dec_le}
use native.Mathlib.Omega.{arith}
use Rattle.std.specs.Prelude.{min}
use Rattle.std.proofs.Math.Nat.{min-eq_left, min-eq_right}
use lib.Dec.{eqb}
use lib.ListN.{length, get_or, drop, set, length-append, length-drop, length-map, drop_of_length-le}
use lib.Seq.{drop-cons, drop-drop, set-set}
use borrow.Author.Tests.{eqb-true, eq-eqb, ne_eqb}
use Rattle.serial_model.specs.Serial.{ahead, next}
use Rattle.gap_model.specs.Gap.{Block, block, walk, ends_of}
use Rattle.gap_model.specs.Adjacent.{adjacent}
use Rattle.gap_model.proofs.Walk.{Seen, Put, held, held_at, held-long, last, grown, counted, walk-cons, want-snoc, want_from, over_last, put_grow}

-- the TSN after one that counts is one offset on
pub ahead-next : (cum t o : ℕ) → ahead 32 cum t ≡ o → o < 65536 → ahead 32 cum (next 32 t) ≡ o + 1
unfolding ahead
ahead-next cum t o e h =
    let k = 2 ^ 32 - cum in
    let f : t + 1 + k ≡ t + k + 1 = omega arith in
    rw (mod-add-mod, f, ← (mod-add-mod (t + k)), e) (mod-eq_of_lt (omega arith))

pub adjacent_within : (k t : ℕ) (ts : List ℕ) → (adjacent k t ts ≤ k) × (adjacent k t ts ≤ length ts)
unfolding adjacent
adjacent_within zero t ts = (omega arith, omega arith)
adjacent_within (suc k) t [] = (omega arith, omega arith)
adjacent_within (suc k) t (x ∷ ts) = go (eqb x t) (adjacent_within k (next 32 t) ts)
  where
    go :
        (b : Bool) → (adjacent k (next 32 t) ts ≤ k) × (adjacent k (next 32 t) ts ≤ length ts) →
        (cond b (suc (adjacent k (next 32 t) ts)) 0 ≤ suc k) × (cond b (suc (adjacent k (next 32 t) ts)) 0 ≤ suc (length ts))
    go true h = (omega arith, omega arith)
    go false h = (omega arith, omega arith)

adjacent-cons : (k t x : ℕ) (ts : List ℕ) → adjacent (suc k) t (x ∷ ts) ≡ cond (eqb x t) (suc (adjacent k (next 32 t) ts)) 0
unfolding adjacent
adjacent-cons k t x ts = refl

adjacent_none : (k t : ℕ) → adjacent k t [] ≡ 0
unfolding adjacent
adjacent_none zero t = refl
adjacent_none (suc k) t = refl

adjacent-full : (t : ℕ) (ts : List ℕ) → adjacent 0 t ts ≡ 0
unfolding adjacent
adjacent-full t ts = refl

-- ── the pass ──

pub record Followed (size n : ℕ) (table : List ℕ) (from room tsn i want : ℕ) : Type 0 where
  pub sized : length table ≡ 4 * size
  pub fit : n ≤ size
  pub start : from ≤ n
  pub within : i ≤ n - from
  pub few : i ≤ room
  pub is : i + adjacent (room - i) want (drop (from + i) (held size n table)) ≡ adjacent room tsn (drop from (held size n table))

pub followed_none : (size n : ℕ) (table : List ℕ) (from room tsn : ℕ) → length table ≡ 4 * size → n ≤ size → from ≤ n → Followed size n table from room tsn 0 tsn
followed_none size n table from room tsn s h k = record { sized = s; fit = h; start = k; within = omega arith; few = omega arith; is = rw (add-zero from, sub-zero room) (omega arith) }

module _ {size n : ℕ} {table : List ℕ} {from room tsn i want : ℕ} (f : Followed size n table from room tsn i want) where
  abbrev ts : List ℕ
  ts = held size n table

  next-is :
      i < n - from → i < room →
      i + cond (eqb (get_or table (size + from + i) 0) want) (suc (adjacent (room - (i + 1)) (next 32 want) (drop (from + (i + 1)) ts))) 0 ≡ adjacent room tsn (drop from ts)
  next-is h k =
      let w : size + from + i ≡ size + (from + i) = omega arith in
      let v : from + (i + 1) ≡ suc (from + i) = omega arith in
      let u : room - i ≡ suc (room - (i + 1)) = omega arith in
      let l : from + i < length ts = rw (held-long size n table f.sized f.fit) (omega arith) in
      rw (w, v, held_at size n table f.sized f.fit (from + i) (omega arith), ← adjacent-cons, ← u, ← (drop-cons ts (from + i) 0 l)) f.is

  pub followed_here : i < n - from → i < room → (get_or table (size + from + i) 0 ≡ want → ⊥) → i ≡ adjacent room tsn (drop from ts)
  followed_here h k r = omega (arith, rw (ne_eqb (get_or table (size + from + i) 0) want r) at (next-is h k))

  pub followed_turn : i < n - from → i < room → get_or table (size + from + i) 0 ≡ want → Followed size n table from room tsn (i + 1) (next 32 want)
  followed_turn h k r =
      let e = rw (eq-eqb (get_or table (size + from + i) 0) want r) at (next-is h k) in
      record { sized = f.sized; fit = f.fit; start = f.start; within = omega arith; few = omega arith; is = omega arith }

  pub followed_all : (most : ℕ) → most ≡ min room (n - from) → i ≡ most → most ≡ adjacent room tsn (drop from ts)
  followed_all most e h = go (dec_le room (n - from))
    where
      go : Dec (room ≤ n - from) → most ≡ adjacent room tsn (drop from ts)
      go (yes k) =
          let m : most ≡ room = e ∙ min-eq_left k in
          let z : room - i ≡ 0 = omega arith in
          omega (arith, rw (z, adjacent-full) at f.is)
      go (no k) =
          let m : most ≡ n - from = e ∙ min-eq_right (omega arith) in
          let l : length ts ≤ from + i = rw (held-long size n table f.sized f.fit) (omega (arith, f.start)) in
          omega (arith, rw (drop_of_length-le ts {i = from + i} l, adjacent_none) at f.is)

-- no more than there is room and rows for
pub follow_few :
    {cum size n : ℕ} {table ss₀ es₀ ss es : List ℕ} {count want i : ℕ} → Put cum size n table ss₀ es₀ ss es count want i →
    (j k t : ℕ) {r : ℕ} → r ≡ adjacent k t (drop j (held size n table)) → (r ≤ k) × (r ≤ n - j)
follow_few {size = size} {n = n} {table = table} p j k t e =
    let b = adjacent_within k t (drop j (held size n table)) in
    let l = length-drop j (held size n table) in
    let m = held-long size n table p.seen.sized p.seen.fit in
    (omega arith, omega arith)

-- ── the walk over them ──

module _ (cum s : ℕ) (pre : List Block) where
  pub walk-adjacent :
      (k t e : ℕ) (ts : List ℕ) → ahead 32 cum t ≡ e + 1 → e + k ≤ 65535 →
      walk cum (pre ++ (block s (e + adjacent k t ts) ∷ [])) (drop (adjacent k t ts) ts) ≡ walk cum (pre ++ (block s e ∷ [])) ts
  unfolding adjacent
  walk-adjacent zero t e ts a h = rw (add-zero e)
  walk-adjacent (suc k) t e [] a h = rw (add-zero e)
  walk-adjacent (suc k) t e (x ∷ ts) a h = go (eqb x t) refl (walk-adjacent k (next 32 t) (e + 1) ts (ahead-next cum t (e + 1) a (omega arith)) (omega arith))
    where
      go :
          (b : Bool) → eqb x t ≡ b →
          walk cum (pre ++ (block s (e + 1 + adjacent k (next 32 t) ts) ∷ [])) (drop (adjacent k (next 32 t) ts) ts) ≡ walk cum (pre ++ (block s (e + 1) ∷ [])) ts →
          walk cum (pre ++ (block s (e + cond b (suc (adjacent k (next 32 t) ts)) 0) ∷ [])) (drop (cond b (suc (adjacent k (next 32 t) ts)) 0) (x ∷ ts)) ≡ walk cum (pre ++ (block s e ∷ [])) (x ∷ ts)
      go true f y =
          let o : ahead 32 cum x ≡ e + 1 = ap (ahead 32 cum) (eqb-true x t f) ∙ a in
          let m : e + suc (adjacent k (next 32 t) ts) ≡ e + 1 + adjacent k (next 32 t) ts = omega arith in
          rw (m, y, walk-cons, o, counted (e + 1) (omega arith) (omega arith), grown pre (block s e) (e + 1) refl)
      go false f y = rw (add-zero e)

module _ {cum size n : ℕ} {table : List ℕ} {i : ℕ} {bs : List Block} {count want : ℕ} (s : Seen cum size n table i bs count want) where
  -- a whole run passed: the last block ends r offsets on
  pub seen_run :
      (pre : List Block) (l : Block) → bs ≡ pre ++ (l ∷ []) → (k t r : ℕ) → ahead 32 cum t ≡ want → want + k ≤ 65536 → r ≡ adjacent k t (drop i (held size n table)) →
      Seen cum size n table (i + r) (pre ++ (block l.start (l.end + r) ∷ [])) count (want + r)
  seen_run pre l z k t r a h e =
      let w : want ≡ l.end + 1 = sym s.wants ∙ ap (want_from 0) z ∙ want-snoc 0 pre l in
      let b = adjacent_within k t (drop i (held size n table)) in
      let v = length-drop i (held size n table) in
      let u = held-long size n table s.sized s.fit in
      let q : l.end + r + 1 ≡ want + r = omega arith in
      record {
        sized = s.sized;
        fit = s.fit;
        within = omega (arith, s.within);
        rest = rw (← (drop-drop r i (held size n table)), e, walk-adjacent cum l.start pre k t l.end (drop i (held size n table)) (a ∙ w) (omega arith), ← z) s.rest;
        many = simp length-append (sym (simp length-append at (ap length z)) ∙ s.many);
        few = omega (arith, s.few);
        wants = want-snoc 0 pre (block l.start (l.end + r)) ∙ q;
      }

module _ {cum size n : ℕ} {table ss₀ es₀ ss es : List ℕ} {count want i : ℕ} (p : Put cum size n table ss₀ es₀ ss es count want i) where
  put-run :
      0 < want → (k t r : ℕ) → ahead 32 cum t ≡ want → want + k ≤ 65536 → r ≡ adjacent k t (drop i (held size n table)) →
      Put cum size n table ss₀ es₀ ss (set es (count - 1) (want + r - 1)) count (want + r) (i + r)
  put-run g k t r a h e = let y = last p.bs (omega (arith, p.seen.wants)) in go y.0 y.1 y.2
    where
      go : (pre : List Block) (l : Block) → p.bs ≡ pre ++ (l ∷ []) → Put cum size n table ss₀ es₀ ss (set es (count - 1) (want + r - 1)) count (want + r) (i + r)
      go pre l z =
          let w : want ≡ l.end + 1 = sym p.seen.wants ∙ ap (want_from 0) z ∙ want-snoc 0 pre l in
          let m : length pre ≡ count - 1 = omega (arith, p.seen.many, simp length-append at (ap length z)) in
          let q : want + r - 1 ≡ l.end + r = omega arith in
          record {
            room = p.room;
            room' = p.room';
            bs = pre ++ (block l.start (l.end + r) ∷ []);
            seen = seen_run p.seen pre l z k t r a h e;
            starts = rw (p.starts, z) (simp map-append);
            ends = rw (p.ends, z, q) (simp map-append (over_last es₀ (ends_of pre) l.end (l.end + r) (count - 1) (length-map pre (λ (b : Block). b.end) ∙ m)));
          }

module _ {cum size n : ℕ} {table ss₀ es₀ ss es : List ℕ} {count want i : ℕ} (p : Put cum size n table ss₀ es₀ ss es count want i) where
  -- the TSN at i extends the last block, and r more follow it
  pub put_follow :
      i < n → {o : ℕ} → o ≡ ahead 32 cum (get_or table (size + i) 0) → 0 < o → o ≤ 65535 → o ≡ want →
      (r : ℕ) → r ≡ adjacent (65535 - o) (next 32 (get_or table (size + i) 0)) (drop (i + 1) (held size n table)) →
      Put cum size n table ss₀ es₀ ss (set es (count - 1) (o + r)) count (o + r + 1) (i + 1 + r)
  put_follow h {o} e a b w r f =
      let x : o + 1 + r - 1 ≡ o + r = omega arith in
      let y : o + 1 + r ≡ o + r + 1 = omega arith in
      let t = get_or table (size + i) 0 in
      rw (x, y, set-set es (count - 1) o (o + r)) at (put-run (put_grow p h e a b w) (omega arith) (65535 - o) (next 32 t) r (ahead-next cum t o (sym e) (omega arith)) (omega arith) f)
