-- What follows from the definitions, at every width w. Where half of the round counts, the width is suc m and the half 2 ^ m.
-- Assumes nothing.
use Rattle.std.specs.Prelude.{◌≡◌, ℕ, zero, suc, ◌+◌, ◌-◌, ◌%◌, ◌^◌, ◌<◌, ◌≤◌, Bool, true, false, ◌&&◌, ◌↔◌, ◌⊎◌, leb, eqb, pos, negsuc, ◌-ℤ◌}
use Rattle.std.proofs.Math.Path.{refl}
use Rattle.std.proofs.Common.{sym, ap, ◌∙◌, inl, inr, mod-eq_of_lt, mod-lt, zero-add, add-zero, add_assoc, arith, pow_pos}
use Rattle.std.proofs.Math.Bool.{and-true, and-false}
use Rattle.std.proofs.Math.Nat.{mod-add-mod, add-mod-mod, add-mod_right}
use Rattle.std.proofs.Math.Decide.{dec_le}
use Rattle.std.proofs.Math.Dec.{ltb}
use Rattle.std.proofs.Math.Pow.{pow-lt}
use borrow.Author.Tests.{lt-ltb, le-ltb, ltb-true, ltb-false, lt-leb, le-leb, eqb-true, eqb-false}
use Rattle.serial_model.specs.Serial.{plus, next, ahead, distance, before, at_or_before}

-- P1: from 5 to 3 the distance is -2.
pub five_to_three : distance 32 5 3 ≡ negsuc 1
unfolding distance ahead
five_to_three = refl

-- P1: from 4294967295 to 0 it is 1.
pub last_to_zero : distance 32 4294967295 0 ≡ pos 1
unfolding distance ahead
last_to_zero = refl

-- P1: from 0 to 2147483648 it is -2147483648.
pub zero_to_half : distance 32 0 2147483648 ≡ negsuc 2147483647
unfolding distance ahead
zero_to_half = refl

-- Steps on from a number lead to a number below 2 ^ w.
pub plus-lt : (w a k : ℕ) → plus w a k < 2 ^ w
plus-lt w a k = mod-lt (a + k) (pow_pos w)

-- j steps and then k are j + k steps.
pub plus-plus : (w a j k : ℕ) → plus w (plus w a j) k ≡ plus w a (j + k)
plus-plus w a j k = rw (mod-add-mod, add_assoc)

-- How far ahead is below 2 ^ w.
pub ahead-lt : (w a b : ℕ) → ahead w a b < 2 ^ w
unfolding ahead
ahead-lt w a b = mod-lt (b + (2 ^ w - a)) (pow_pos w)

-- d below 2 ^ w that wraps to b when a is added is how far b is ahead of a.
pub ahead-is : (w : ℕ) {a b d : ℕ} → a < 2 ^ w → d < 2 ^ w → (d + a) % 2 ^ w ≡ b → ahead w a b ≡ d
unfolding ahead
ahead-is w {a} {b} {d} ha hd e =
    let f : d + a + (2 ^ w - a) ≡ d + 2 ^ w = omega arith in
    rw (← e, mod-add-mod, f, add-mod_right) (mod-eq_of_lt hd)

-- As many steps on from a as b is ahead lead to b.
pub plus-ahead : (w a b : ℕ) → a < 2 ^ w → b < 2 ^ w → plus w a (ahead w a b) ≡ b
unfolding ahead
plus-ahead w a b ha hb =
    let f : a + (b + (2 ^ w - a)) ≡ b + 2 ^ w = omega arith in
    rw (add-mod-mod, f, add-mod_right) (mod-eq_of_lt hb)

-- k steps on from a is k ahead of a.
pub ahead-plus : (w a k : ℕ) → a < 2 ^ w → k < 2 ^ w → ahead w a (plus w a k) ≡ k
ahead-plus w a k ha hk =
    let f : k + a ≡ a + k = omega arith in
    ahead-is w ha hk (rw f)

-- And from there the way to a is the rest of the round.
pub rest-plus : (w a k : ℕ) → a < 2 ^ w → 0 < k → k < 2 ^ w → ahead w (plus w a k) a ≡ 2 ^ w - k
rest-plus w a k ha p hk =
    let f : 2 ^ w - k + (a + k) ≡ a + 2 ^ w = omega arith in
    ahead-is w (plus-lt w a k) (omega arith) (rw (add-mod-mod, f, add-mod_right) (mod-eq_of_lt ha))

-- b is 0 ahead of a exactly when a and b are the same.
pub ahead-zero : (w a b : ℕ) → a < 2 ^ w → b < 2 ^ w → (ahead w a b ≡ 0) ↔ (a ≡ b)
ahead-zero w a b ha hb = (to, from)
  where
    to : ahead w a b ≡ 0 → a ≡ b
    to e = sym (mod-eq_of_lt ha) ∙ (rw (e, add-zero) at (plus-ahead w a b ha hb))

    from : a ≡ b → ahead w a b ≡ 0
    from e = ahead-is w ha (pow_pos w) (rw zero-add (mod-eq_of_lt ha ∙ e))

-- The way from a to b and the way back make up the round.
pub round : (w a b : ℕ) → a < 2 ^ w → b < 2 ^ w → 0 < ahead w a b → ahead w b a ≡ 2 ^ w - ahead w a b
round w a b ha hb p = rw (plus-ahead w a b ha hb) at (rest-plus w a (ahead w a b) ha p (ahead-lt w a b))

-- No number is before itself.
pub not_self : (w a : ℕ) → a < 2 ^ w → before w a a ≡ false
unfolding before distance
not_self w a h = rw ((ahead-zero w a a h h).1 refl, lt-ltb 0 (2 ^ (w - 1)) (pow_pos (w - 1)))

-- A smaller number less a larger one is below 0.
pub less : (m d : ℕ) → d < m → pos d -ℤ pos m ≡ negsuc (m - suc d)
less zero d h = absurd (omega arith)
less (suc m) d h = rw (lt-ltb d (suc m) h)

-- The half of the definitions is 2 ^ m.
half : (m : ℕ) → suc m - 1 ≡ m
half m = omega arith

-- Two tests that both hold.
pub both : (s t : Bool) → s && t ≡ true → (s ≡ true) × (t ≡ true)
both true t e = (refl, e)
both false t e = (e, cc)

module _ (m a b : ℕ) where
  -- Less than half way ahead: the distance is the steps.
  pub near : ahead (suc m) a b < 2 ^ m → distance (suc m) a b ≡ pos (ahead (suc m) a b)
  unfolding distance
  near h = rw (half m, lt-ltb (ahead (suc m) a b) (2 ^ m) h)

  -- From half way on: below 0, by the rest of the round.
  pub far : 2 ^ m ≤ ahead (suc m) a b → distance (suc m) a b ≡ negsuc (2 ^ suc m - suc (ahead (suc m) a b))
  unfolding distance
  far h = rw (half m, le-ltb (ahead (suc m) a b) (2 ^ m) h) (less (2 ^ suc m) (ahead (suc m) a b) (ahead-lt (suc m) a b))

  -- a is before b exactly when b is ahead, and less than half way.
  pub before-is : before (suc m) a b ≡ ltb 0 (ahead (suc m) a b) && ltb (ahead (suc m) a b) (2 ^ m)
  unfolding before
  before-is = go (ltb (ahead (suc m) a b) (2 ^ m)) refl
    where
      go :
          (t : Bool) → ltb (ahead (suc m) a b) (2 ^ m) ≡ t →
          before (suc m) a b ≡ ltb 0 (ahead (suc m) a b) && ltb (ahead (suc m) a b) (2 ^ m)
      go true e = rw (e, and-true, near (ltb-true _ _ e))
      go false e = rw (e, and-false, far (ltb-false _ _ e))

  -- The same as facts about the steps.
  pub before_true : before (suc m) a b ≡ true → (0 < ahead (suc m) a b) × (ahead (suc m) a b < 2 ^ m)
  before_true e =
      let t = both _ _ (rw before-is at e) in
      (ltb-true _ _ t.0, ltb-true _ _ t.1)

  -- From half way on, a is not before b.
  pub not_before : 2 ^ m ≤ ahead (suc m) a b → before (suc m) a b ≡ false
  not_before h = rw (before-is, le-ltb (ahead (suc m) a b) (2 ^ m) h, and-false)

  -- a is at or before b exactly when b is less than half way ahead.
  pub at_or_before-is : a < 2 ^ suc m → b < 2 ^ suc m → at_or_before (suc m) a b ≡ ltb (ahead (suc m) a b) (2 ^ m)
  at_or_before-is ha hb = go (eqb a b) refl
    where
      zero-ahead : (ahead (suc m) a b ≡ 0) ↔ (a ≡ b)
      zero-ahead = ahead-zero (suc m) a b ha hb

      go : (t : Bool) → eqb a b ≡ t → at_or_before (suc m) a b ≡ ltb (ahead (suc m) a b) (2 ^ m)
      go true e = rw (e, zero-ahead.1 (eqb-true a b e), lt-ltb 0 (2 ^ m) (pow_pos m))
      go false e =
          let ne : ahead (suc m) a b ≡ 0 → ⊥ = λ z. eqb-false a b e (zero-ahead.0 z) in
          rw (e, before-is, lt-ltb 0 (ahead (suc m) a b) (omega arith))

-- Of two numbers at most one is before the other.
pub one_way : (m a b : ℕ) → a < 2 ^ suc m → b < 2 ^ suc m → before (suc m) a b ≡ true → before (suc m) b a ≡ false
one_way m a b ha hb e =
    let t = before_true m a b e in
    not_before m b a (omega (arith, round (suc m) a b ha hb t.0))

-- A number is before its successor, from 2 bits on.
pub before-next : (m a : ℕ) → 0 < m → a < 2 ^ suc m → before (suc m) a (next (suc m) a) ≡ true
before-next m a p h =
    let l : 1 < 2 ^ m = pow-lt {i = 0} p in
    rw (before-is, ahead-plus (suc m) a 1 h (omega arith), lt-ltb 1 (2 ^ m) l)

module _ (m a : ℕ) (h : a < 2 ^ suc m) where
  -- Half the round on from a is half the round ahead.
  half_ahead : ahead (suc m) a (plus (suc m) a (2 ^ m)) ≡ 2 ^ m
  half_ahead = ahead-plus (suc m) a (2 ^ m) h (omega (arith, pow_pos m))

  -- At exactly 2^(w-1) the distance is the lowest value ..
  pub half_lowest : distance (suc m) a (plus (suc m) a (2 ^ m)) ≡ negsuc (2 ^ m - 1)
  half_lowest = far m a _ (omega (arith, half_ahead)) ∙ ap negsuc (omega (arith, half_ahead))

  -- .. and neither is before the other: not the number before the one half way on ..
  pub half_way : before (suc m) a (plus (suc m) a (2 ^ m)) ≡ false
  half_way = not_before m a _ (omega (arith, half_ahead))

  -- .. and not that one before the number.
  pub half_way_back : before (suc m) (plus (suc m) a (2 ^ m)) a ≡ false
  half_way_back =
      let e = rest-plus (suc m) a (2 ^ m) h (pow_pos m) (omega (arith, pow_pos m)) in
      not_before m _ a (omega arith)

-- Of two offsets from b the larger is ahead by the difference.
pub arc-ahead : (w b j k : ℕ) → j ≤ k → k < 2 ^ w → ahead w (plus w b j) (plus w b k) ≡ k - j
arc-ahead w b j k h hk =
    let f : j + (k - j) ≡ k = omega arith in
    rw (plus-plus w b j (k - j), f) at (ahead-plus w (plus w b j) (k - j) (plus-lt w b j) (omega arith))

-- And the smaller is ahead by the rest of the round.
pub arc-rest : (w b j k : ℕ) → k < j → j < 2 ^ w → ahead w (plus w b j) (plus w b k) ≡ 2 ^ w - (j - k)
arc-rest w b j k h hj =
    let f : k + (j - k) ≡ j = omega arith in
    rw (plus-plus w b k (j - k), f) at (rest-plus w (plus w b k) (j - k) (plus-lt w b k) (omega arith) (omega arith))

-- The arc of half the round from b: its numbers are j steps on, with j below 2 ^ m.
module _ (m b : ℕ) where
  -- The number at offset j.
  abbrev pub on : ℕ → ℕ
  on j = plus (suc m) b j

  -- THE ARC LAW: on an arc of half the round, before is the order of the offsets.
  pub arc : (j k : ℕ) → j < 2 ^ m → k < 2 ^ m → before (suc m) (on j) (on k) ≡ ltb j k
  arc j k hj hk = go (dec_le j k) (dec_le k j)
    where
      go : Dec (j ≤ k) → Dec (k ≤ j) → before (suc m) (on j) (on k) ≡ ltb j k
      go (yes p) (yes q) =
          rw (before-is, arc-ahead (suc m) b j k p (omega arith), le-ltb 0 (k - j) (omega arith), le-ltb j k q)
      go (yes p) (no q) =
          let f = lt-ltb (k - j) (2 ^ m) (omega arith) in
          rw (before-is, arc-ahead (suc m) b j k p (omega arith), lt-ltb 0 (k - j) (omega arith), f, lt-ltb j k (omega arith))
      go (no p) q =
          let e = arc-rest (suc m) b j k (omega arith) (omega arith) in
          rw (not_before m (on j) (on k) (omega arith), le-ltb j k (omega arith))

  -- And at or before is "at most" of the offsets.
  pub arc-at : (j k : ℕ) → j < 2 ^ m → k < 2 ^ m → at_or_before (suc m) (on j) (on k) ≡ leb j k
  arc-at j k hj hk = at_or_before-is m (on j) (on k) (plus-lt (suc m) b j) (plus-lt (suc m) b k) ∙ go (dec_le j k)
    where
      go : Dec (j ≤ k) → ltb (ahead (suc m) (on j) (on k)) (2 ^ m) ≡ leb j k
      go (yes p) = rw (arc-ahead (suc m) b j k p (omega arith), lt-ltb (k - j) (2 ^ m) (omega arith), le-leb j k p)
      go (no p) =
          let e = arc-rest (suc m) b j k (omega arith) (omega arith) in
          rw (le-ltb (ahead (suc m) (on j) (on k)) (2 ^ m) (omega arith), lt-leb j k (omega arith))

  -- On an arc, before is transitive.
  pub arc_transitive :
      (i j k : ℕ) → i < 2 ^ m → j < 2 ^ m → k < 2 ^ m →
      before (suc m) (on i) (on j) ≡ true → before (suc m) (on j) (on k) ≡ true → before (suc m) (on i) (on k) ≡ true
  arc_transitive i j k hi hj hk e f =
      let p = ltb-true i j (rw (arc i j hi hj) at e) in
      let q = ltb-true j k (rw (arc j k hj hk) at f) in
      arc i k hi hk ∙ lt-ltb i k (omega arith)

  -- On an arc, of two numbers at different offsets one is before the other.
  pub arc-total :
      (j k : ℕ) → j < 2 ^ m → k < 2 ^ m → (j ≡ k → ⊥) →
      (before (suc m) (on j) (on k) ≡ true) ⊎ (before (suc m) (on k) (on j) ≡ true)
  arc-total j k hj hk ne = go (dec_le j k)
    where
      go : Dec (j ≤ k) → (before (suc m) (on j) (on k) ≡ true) ⊎ (before (suc m) (on k) (on j) ≡ true)
      go (yes p) = inl (arc j k hj hk ∙ lt-ltb j k (omega arith))
      go (no p) = inr (arc k j hk hj ∙ lt-ltb k j (omega arith))

  -- The arc law for numbers x and y less than half way ahead of b: before is the order of their offsets from b.
  pub arc_order :
      (x y : ℕ) → b < 2 ^ suc m → x < 2 ^ suc m → y < 2 ^ suc m →
      ahead (suc m) b x < 2 ^ m → ahead (suc m) b y < 2 ^ m →
      before (suc m) x y ≡ ltb (ahead (suc m) b x) (ahead (suc m) b y)
  arc_order x y hb hx hy p q =
      rw (plus-ahead (suc m) b x hb hx, plus-ahead (suc m) b y hb hy) at (arc (ahead (suc m) b x) (ahead (suc m) b y) p q)
