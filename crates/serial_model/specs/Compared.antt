-- The comparison's four answers, at every width: what each comes to in steps, what each yes or no reads of them, and what they are the other way round.
-- Assumes nothing.
use Rattle.std.specs.Prelude.{◌≡◌, refl, Bool, true, false, cond, ◌||◌, ◌↔◌, ℕ, suc, ◌+◌, ◌-◌, ◌^◌, ◌<◌, ◌≤◌, ltb, eqb, ℤ, pos}
use Rattle.std.proofs.Common.{sym, ◌∙◌, arith, pow_pos}
use Rattle.std.proofs.Math.Path.{ap}
use Rattle.std.proofs.Math.Decide.{dec_le}
use Rattle.std.proofs.Math.IntN.{negsuc}
use borrow.Author.Tests.{lt-ltb, le-ltb, eq-eqb, ne_eqb, eqb-true, eqb-false}
use Rattle.serial_model.specs.declared.Order.{Order}
use Rattle.serial_model.specs.declared.Order.TheVariants.{Earlier, Same, Later, Opposite}
use Rattle.serial_model.specs.Serial.{ahead, distance, positive, before, at_or_before, after, at_or_after, ordered, compared, is_opposite, opposite}
use Rattle.serial_model.specs.Facts.{ahead-lt, ahead-zero, round, near, far}

-- At P1's distances: 5 is later than 3, 4294967295 earlier than 0, and 0 and 2147483648 are opposite; so are SSNs at 32768.
pub five_and_three : compared 32 5 3 ≡ Later
unfolding compared ordered distance ahead
five_and_three = refl

pub last_and_zero : compared 32 4294967295 0 ≡ Earlier
unfolding compared ordered distance ahead
last_and_zero = refl

pub zero_and_half : compared 32 0 2147483648 ≡ Opposite
unfolding compared ordered distance ahead
zero_and_half = refl

pub zero_and_half_ssn : compared 16 0 32768 ≡ Opposite
unfolding compared ordered distance ahead
zero_and_half_ssn = refl

-- ── by the steps ──

-- What d steps ahead say, where h are half the round: fewer than half, none, exactly half, more.
abbrev pub by_steps : (h d : ℕ) → Order
by_steps h d = cond (ltb d h) (cond (ltb 0 d) Earlier Same) (cond (eqb d h) Opposite Later)

module _ (h : ℕ) where
  -- fewer than half: they are the distance
  fewer : (d : ℕ) → d < h → ordered h (pos d) ≡ by_steps h d
  unfolding ordered
  fewer d l = rw (lt-ltb d h l)

  -- more: the distance is what they are short of the round, below 0
  rest : (d r : ℕ) → h ≤ d → d + suc r ≡ h + h → ordered h (negsuc r) ≡ by_steps h d
  unfolding ordered
  rest d r l e = rw (le-ltb d h l) (go (dec_le d h))
    where
      go : Dec (d ≤ h) → cond (eqb (suc r) h) Opposite Later ≡ cond (eqb d h) Opposite Later
      go (yes k) = rw (eq-eqb (suc r) h (omega arith), eq-eqb d h (omega arith))
      go (no k) = rw (ne_eqb (suc r) h (λ z. omega arith), ne_eqb d h (λ z. omega arith))

-- THE SHARED FACT: how a stands to b is said by how many steps b is ahead. TSNs and SSNs are compared by it.
pub compared_is : (m a b : ℕ) → compared (suc m) a b ≡ by_steps (2 ^ m) (ahead (suc m) a b)
unfolding compared
compared_is m a b = go (dec_le (2 ^ m) d)
  where
    d : ℕ
    d = ahead (suc m) a b

    half : suc m - 1 ≡ m
    half = omega arith

    go : Dec (2 ^ m ≤ d) → compared (suc m) a b ≡ by_steps (2 ^ m) d
    go (yes k) = rw (half, far m a b k) (rest (2 ^ m) d _ k (omega (arith, ahead-lt (suc m) a b)))
    go (no k) = rw (half, near m a b (omega arith)) (fewer (2 ^ m) d (omega arith))

-- ── yes or no ──

-- What an answer says to each question: before, the same, after, at or before, at or after.
abbrev pub is_before : Order → Bool
is_before Earlier = true
is_before Same = false
is_before Later = false
is_before Opposite = false

abbrev pub is_same : Order → Bool
is_same Earlier = false
is_same Same = true
is_same Later = false
is_same Opposite = false

abbrev pub is_after : Order → Bool
is_after Earlier = false
is_after Same = false
is_after Later = true
is_after Opposite = false

abbrev pub is_at_or_before : Order → Bool
is_at_or_before o = is_same o || is_before o

abbrev pub is_at_or_after : Order → Bool
is_at_or_after o = is_same o || is_after o

-- The answer to the same comparison the other way round.
abbrev pub turned : Order → Order
turned Earlier = Later
turned Same = Same
turned Later = Earlier
turned Opposite = Opposite

turned-before : (o : Order) → is_before (turned o) ≡ is_after o
turned-before Earlier = refl
turned-before Same = refl
turned-before Later = refl
turned-before Opposite = refl

turned_same : (o : Order) → is_same (turned o) ≡ is_same o
turned_same Earlier = refl
turned_same Same = refl
turned_same Later = refl
turned_same Opposite = refl

-- d steps one way, and the rest of the round back
steps_turned : (h d back : ℕ) → 0 < h → d < h + h → (d ≡ 0 → back ≡ 0) → (0 < d → d + back ≡ h + h) → by_steps h back ≡ turned (by_steps h d)
steps_turned h d back p f none some = go (dec_le d 0) (dec_le h d) (dec_le d h)
  where
    go : Dec (d ≤ 0) → Dec (h ≤ d) → Dec (d ≤ h) → by_steps h back ≡ turned (by_steps h d)
    go (yes z) _ _ =
        let n : d ≡ 0 = omega arith in
        rw (n, none n, lt-ltb 0 h p)
    go (no z) (no l) _ =
        let r = some (omega arith) in
        rw (lt-ltb d h (omega arith), lt-ltb 0 d (omega arith), le-ltb back h (omega arith), ne_eqb back h (λ x. omega arith))
    go (no z) (yes l) (yes k) =
        let r = some (omega arith) in
        rw (le-ltb d h l, eq-eqb d h (omega arith), le-ltb back h (omega arith), eq-eqb back h (omega arith))
    go (no z) (yes l) (no k) =
        let r = some (omega arith) in
        rw (le-ltb d h l, ne_eqb d h (λ x. omega arith), lt-ltb back h (omega arith), lt-ltb 0 back (omega arith))

-- yes counts for one
abbrev pub ayes : Bool → ℕ
ayes b = cond b 1 0

one_aye : (o : Order) → ayes (is_before o) + ayes (is_same o) + ayes (is_after o) + ayes (is_opposite o) ≡ 1
one_aye Earlier = refl
one_aye Same = refl
one_aye Later = refl
one_aye Opposite = refl

-- Before: the answer is Earlier.
pub before-told : (w a b : ℕ) → before w a b ≡ is_before (compared w a b)
unfolding before compared ordered
before-told w a b = go (distance w a b)
  where
    above : (t : Bool) → t ≡ is_before (cond t Earlier Same)
    above true = refl
    above false = refl

    below : (t : Bool) → false ≡ is_before (cond t Opposite Later)
    below true = refl
    below false = refl

    go : (z : ℤ) → positive z ≡ is_before (ordered (2 ^ (w - 1)) z)
    go (pos n) = above (ltb 0 n)
    go (negsuc n) = below (eqb (suc n) (2 ^ (w - 1)))

module _ (m a b : ℕ) where
  -- Opposite: the steps are half the round ..
  pub opposite-is : opposite (suc m) a b ≡ eqb (ahead (suc m) a b) (2 ^ m)
  opposite-is = rw (compared_is m a b) (go (dec_le (2 ^ m) (ahead (suc m) a b)))
    where
      near_not : (t : Bool) → is_opposite (cond t Earlier Same) ≡ false
      near_not true = refl
      near_not false = refl

      far_is : (t : Bool) → is_opposite (cond t Opposite Later) ≡ t
      far_is true = refl
      far_is false = refl

      go : Dec (2 ^ m ≤ ahead (suc m) a b) → is_opposite (by_steps (2 ^ m) (ahead (suc m) a b)) ≡ eqb (ahead (suc m) a b) (2 ^ m)
      go (yes k) = rw (le-ltb (ahead (suc m) a b) (2 ^ m) k) (far_is (eqb (ahead (suc m) a b) (2 ^ m)))
      go (no k) = rw (lt-ltb (ahead (suc m) a b) (2 ^ m) (omega arith), ne_eqb (ahead (suc m) a b) (2 ^ m) (λ z. omega arith)) (near_not (ltb 0 (ahead (suc m) a b)))

  -- .. and the distance is the lowest value.
  pub opposite-lowest : (opposite (suc m) a b ≡ true) ↔ (distance (suc m) a b ≡ negsuc (2 ^ m - 1))
  unfolding compared ordered
  opposite-lowest = (to, from)
    where
      to : opposite (suc m) a b ≡ true → distance (suc m) a b ≡ negsuc (2 ^ m - 1)
      to e =
          let d : ahead (suc m) a b ≡ 2 ^ m = eqb-true _ _ (sym opposite-is ∙ e) in
          far m a b (omega arith) ∙ ap negsuc (omega arith)

      from : distance (suc m) a b ≡ negsuc (2 ^ m - 1) → opposite (suc m) a b ≡ true
      from e =
          let half : suc m - 1 ≡ m = omega arith in
          rw (half, e, eq-eqb (suc (2 ^ m - 1)) (2 ^ m) (omega (arith, pow_pos m)))

module _ (m a b : ℕ) (ha : a < 2 ^ suc m) (hb : b < 2 ^ suc m) where
  -- The same: the answer is Same.
  pub same-told : eqb a b ≡ is_same (compared (suc m) a b)
  same-told = go (eqb a b) refl
    where
      alike : (ahead (suc m) a b ≡ 0) ↔ (a ≡ b)
      alike = ahead-zero (suc m) a b ha hb

      other : (d : ℕ) (l e : Bool) → 0 < d → false ≡ is_same (cond l (cond (ltb 0 d) Earlier Same) (cond e Opposite Later))
      other d true e p = rw (lt-ltb 0 d p)
      other d false true p = refl
      other d false false p = refl

      go : (t : Bool) → eqb a b ≡ t → eqb a b ≡ is_same (compared (suc m) a b)
      go true e = rw (e, compared_is m a b, alike.1 (eqb-true a b e), lt-ltb 0 (2 ^ m) (pow_pos m))
      go false e =
          let n : ahead (suc m) a b ≡ 0 → ⊥ = λ z. eqb-false a b e (alike.0 z) in
          rw (e, compared_is m a b) (other (ahead (suc m) a b) (ltb (ahead (suc m) a b) (2 ^ m)) (eqb (ahead (suc m) a b) (2 ^ m)) (omega arith))

  -- At or before: it is Earlier or Same.
  pub at_or_before-told : at_or_before (suc m) a b ≡ is_at_or_before (compared (suc m) a b)
  at_or_before-told = rw (same-told, before-told (suc m) a b)

  -- The other way round Earlier and Later change places, and Same and Opposite stay.
  pub compared-turned : compared (suc m) b a ≡ turned (compared (suc m) a b)
  compared-turned =
      rw (compared_is m a b, compared_is m b a)
      (steps_turned (2 ^ m) (ahead (suc m) a b) (ahead (suc m) b a) (pow_pos m) (omega (arith, ahead-lt (suc m) a b))
      (λ z. (ahead-zero (suc m) b a hb ha).1 (sym ((ahead-zero (suc m) a b ha hb).0 z)))
      (λ p. omega (arith, round (suc m) a b ha hb p, ahead-lt (suc m) a b)))

  -- After: it is Later.
  pub after-told : after (suc m) a b ≡ is_after (compared (suc m) a b)
  after-told = before-told (suc m) b a ∙ ap is_before compared-turned ∙ turned-before (compared (suc m) a b)

  -- Exactly one of the four is so: before, the same, after, opposite.
  pub one-of_four : ayes (before (suc m) a b) + ayes (eqb a b) + ayes (after (suc m) a b) + ayes (opposite (suc m) a b) ≡ 1
  one-of_four = rw (same-told, before-told (suc m) a b, after-told) (one_aye (compared (suc m) a b))

-- At or after: it is Later or Same.
pub at_or_after-told : (m a b : ℕ) → a < 2 ^ suc m → b < 2 ^ suc m → at_or_after (suc m) a b ≡ is_at_or_after (compared (suc m) a b)
at_or_after-told m a b ha hb = rw (same-told m b a hb ha, before-told (suc m) b a, compared-turned m a b ha hb, turned_same, turned-before)
