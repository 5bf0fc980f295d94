-- What is left of a lent buffer is lent on, and what comes back stands behind what is there.
-- Assumes nothing.
use mathlib.Core.Path.{◌≡◌, refl, ap, ◌∙◌}
use mathlib.Core.List.{List, [], ◌∷◌, ◌++◌, append-nil}
use Prim.Native.Nat.{ℕ, ◌+◌, ◌-◌, ◌*◌, ◌<◌, ◌≤◌}
use native.Mathlib.Nat.{le_refl}
use native.Mathlib.Omega.{arith}
use lib.Dec.{ltb}
use lib.ListN.{length, take, drop, length-drop, drop_of_length-le}
use lib.Seq.{take_all}
use borrow.Rule.Slice.PartMut.{mid_of, put_mid}
use borrow.Author.Tests.{lt-ltb, le-ltb}
use Rattle.wire_model.specs.BigEndian.{over}
use Rattle.wire_model.specs.Refusal.{Check, none, refuse, when, first, says, written, write}
use Rattle.wire_model.specs.Facts.{over-length, over-more}
use Rattle.wire.proofs.Reading.{first-passed}

-- the part from a on is what is left from a on
pub left-whole : (out : List ℕ) (a : ℕ) → mid_of a (length out - a) out ≡ drop a out
left-whole out a = take_all (length out - a) (drop a out) (rw length-drop (le_refl (length out - a)))

left_back : (out : List ℕ) (a : ℕ) (ys : List ℕ) → put_mid a (length out - a) out ys ≡ take a out ++ ys
left_back out a ys = rw (drop_of_length-le (drop a out) {i = length out - a} (rw length-drop (le_refl (length out - a))), append-nil)

-- out has done at its front, a bytes; what is left from a on comes back with more at its front
pub behind : (out₀ done more : List ℕ) {out ys : List ℕ} (a : ℕ) → length done ≡ a → out ≡ over out₀ done → ys ≡ over (mid_of a (length out - a) out) more
    → put_mid a (length out - a) out ys ≡ over out₀ (done ++ more)
behind out₀ done more {out} {ys} a l e f = left_back out a ys ∙ rw (f, left-whole out a, e) (over-more out₀ done more a l)

-- a list of entries, each of 4 bytes: after i of them the bytes of those stand at the front
pub record Filled (bytes : ℕ → List ℕ) (n : ℕ) (out₀ out : List ℕ) (i : ℕ) : Type 0 where
  pub within : i ≤ n
  pub room : 4 * n ≤ length out₀
  pub kept : length out ≡ length out₀
  pub is : out ≡ over out₀ (bytes i)

pub fill_none : (bytes : ℕ → List ℕ) (n : ℕ) (out₀ : List ℕ) → 4 * n ≤ length out₀ → bytes 0 ≡ [] → Filled bytes n out₀ out₀ 0
unfolding over
fill_none bytes n out₀ h e = record { within = omega arith; room = h; kept = refl; is = rw e }

module _ {bytes : ℕ → List ℕ} {n : ℕ} {out₀ out : List ℕ} {i : ℕ} (f : Filled bytes n out₀ out i) (long : (j : ℕ) → j ≤ n → length (bytes j) ≡ 4 * j) where
  -- one entry more goes into what is left behind the others
  pub fill_turn : i < n → (entry : List ℕ) → bytes (i + 1) ≡ bytes i ++ entry → {ys : List ℕ} → ys ≡ over (mid_of (4 * i) (length out - 4 * i) out) entry
      → Filled bytes n out₀ (put_mid (4 * i) (length out - 4 * i) out ys) (i + 1)
  fill_turn h entry m {ys} e =
      let is : put_mid (4 * i) (length out - 4 * i) out ys ≡ over out₀ (bytes (i + 1)) = rw m (behind out₀ (bytes i) entry (4 * i) (long i (omega arith)) f.is e) in
      let fits : length (bytes (i + 1)) ≤ length out₀ = omega (arith, long (i + 1) (omega arith), f.room) in
      record { within = omega arith; room = f.room; kept = ap length is ∙ over-length out₀ (bytes (i + 1)) fits; is = is }

-- the two ends of a writer whose checks pass: the buffer is too short, or the bytes stand at its front
module _ (checks : List Check) (bytes out : List ℕ) (pass : first checks ≡ none) {n : ℕ} (size : length bytes ≡ n) where
  pub write_short : length out < n → written (says (refuse 10) 0) out ≡ write checks bytes out
  write_short h = rw (first-passed checks (when (ltb (length out) (length bytes)) 10 ∷ []) pass, size, lt-ltb _ _ h)

  pub write_done : {out' : List ℕ} → n ≤ length out → out' ≡ over out bytes → written (says none n) out' ≡ write checks bytes out
  write_done h e = rw (first-passed checks (when (ltb (length out) (length bytes)) 10 ∷ []) pass, size, le-ltb _ _ h, e) (rw size)
