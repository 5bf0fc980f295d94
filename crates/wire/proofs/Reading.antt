-- Answers and refusals, and fields at the front of lent bytes: the laws that readers cite.
-- Assumes nothing.
use mathlib.Core.Path.{◌≡◌, refl, sym, ap, ◌∙◌}
use mathlib.Core.Bool.{Bool, true, false, cond}
use mathlib.Core.List.{List, [], ◌∷◌, ◌++◌}
use Prim.Native.Nat.{ℕ, ◌+◌, ◌^◌, ◌<◌, ◌≤◌}
use native.Mathlib.Decide.{dec_le}
use native.Mathlib.Omega.{arith}
use lib.ListN.{length, take, drop, length-append, length-drop, length-take, take-append-drop}
use lib.Seq.{take_all, take_at, take-take, take-append-le, drop-append-le}
use Rattle.wire_model.specs.BigEndian.{big_endian}
use Rattle.wire_model.specs.Refusal.{Refusal, none, refuse, Check, first, says, answer}
use Rattle.wire_model.specs.Facts.{read_back}

-- ── answers ──

answer-refusal : {A : Type 0} (z v : A) (r : Refusal) → (answer z r v).refusal ≡ r
answer-refusal z v none = refl
answer-refusal z v (refuse k) = refl

-- an answer that is refused says that the call refuses
pub refused : {A : Type 0} (z v : A) (r : Refusal) {k : ℕ} {w : A} → says (refuse k) w ≡ answer z r v → r ≡ refuse k
refused z v r e = sym (ap (λ t. t.refusal) e ∙ answer-refusal z v r)

-- one that is not refused says that it does not, and has its values
pub accepted : {A : Type 0} (z v : A) (r : Refusal) {w : A} → says none w ≡ answer z r v → (r ≡ none) × (w ≡ v)
accepted z v none e = (refl, ap (λ t. t.values) e)
accepted z v (refuse j) e = let f = ap (λ t. t.refusal) e in let n : ◌≡◌ {A = ℕ} 0 1 = cc in absurd (omega arith)

-- ── checks ──

-- what the first checks refuse stays refused
pub first-refused : (cs ds : List Check) {k : ℕ} → first cs ≡ refuse k → first (cs ++ ds) ≡ refuse k
first-refused [] ds e = let n : ◌≡◌ {A = ℕ} 0 1 = cc in absurd (omega arith)
first-refused (c ∷ cs) ds {k} e = go c.holds (λ f. first-refused cs ds f) e
  where
    go : (b : Bool) → (first cs ≡ refuse k → first (cs ++ ds) ≡ refuse k) → cond b (refuse c.number) (first cs) ≡ refuse k → cond b (refuse c.number) (first (cs ++ ds)) ≡ refuse k
    go true more f = f
    go false more f = more f

-- where they refuse nothing the others decide
pub first-passed : (cs ds : List Check) → first cs ≡ none → first (cs ++ ds) ≡ first ds
first-passed [] ds e = refl
first-passed (c ∷ cs) ds e = go c.holds (λ f. first-passed cs ds f) e
  where
    go : (b : Bool) → (first cs ≡ none → first (cs ++ ds) ≡ first ds) → cond b (refuse c.number) (first cs) ≡ none → cond b (refuse c.number) (first (cs ++ ds)) ≡ first ds
    go true more f = let n : ◌≡◌ {A = ℕ} 0 1 = cc in absurd (omega arith)
    go false more f = more f

-- ── fields ──

-- raw has n bytes and more, and begins with these, which are n bytes
pub record Whole (raw bytes : List ℕ) (n : ℕ) : Type 0 where
  pub long : n ≤ length raw
  pub sized : length bytes ≡ n
  pub begins : take n raw ≡ take (length raw) bytes

module _ {raw bytes : List ℕ} {n : ℕ} (w : Whole raw bytes n) where
  pub whole-front : take n raw ≡ bytes
  whole-front = w.begins ∙ take_all (length raw) bytes (omega (arith, w.long, w.sized))

  pub whole_is : raw ≡ bytes ++ drop n raw
  whole_is = sym (take-append-drop n raw) ∙ ap (λ (x : List ℕ). x ++ drop n raw) whole-front

  -- the number of k bytes that is read at o is the field that stands there in the layout
  pub field : (o k : ℕ) {x y : ℕ} → o + k ≤ n → x < 256 ^ k → y < 256 ^ k → take k (drop o bytes) ≡ big_endian k x → take k (drop o raw) ≡ big_endian k y → y ≡ x
  field o k h fx fy s r =
      let u : take k (drop o raw) ≡ take k (drop o bytes) =
      ap (λ (z : List ℕ). take k (drop o z)) whole_is ∙ ap (take k) (drop-append-le o bytes (drop n raw) (omega (arith, w.sized)))
      ∙ take-append-le k (drop o bytes) (drop n raw) (rw length-drop (omega (arith, w.sized))) in
      read_back k fy fx (sym r ∙ u ∙ s)

-- what begins with a layout begins with the front of it
pub shorter : (raw bytes more : List ℕ) (n k : ℕ) → k ≤ n → length bytes ≡ k → take n raw ≡ take (length raw) (bytes ++ more) → take k raw ≡ take (length raw) bytes
shorter raw bytes more n k h l e = go (dec_le k (length raw)) (sym (take-take k n raw h) ∙ ap (take k) e)
  where
    go : Dec (k ≤ length raw) → take k raw ≡ take k (take (length raw) (bytes ++ more)) → take k raw ≡ take (length raw) bytes
    go (yes m) f = f ∙ take-take k (length raw) (bytes ++ more) m ∙ take_at bytes more k l ∙ sym (take_all (length raw) bytes (omega arith))
    go (no m) f =
        f ∙ take_all k (take (length raw) (bytes ++ more)) (simp length-take (omega arith))
        ∙ take-append-le (length raw) bytes more (omega arith)

-- bytes begin with a layout that they start with, whatever follows
pub begins_with : (bytes rest : List ℕ) (n : ℕ) → length bytes ≡ n → take n (bytes ++ rest) ≡ take (length (bytes ++ rest)) bytes
begins_with bytes rest n l = take_at bytes rest n l ∙ sym (take_all (length (bytes ++ rest)) bytes (simp length-append (omega arith)))

-- no check holds where none refuses
abbrev pub NoneHolds : List Check → Type 0
NoneHolds [] = Unit {0}
NoneHolds (c ∷ cs) = (c.holds ≡ false) × NoneHolds cs

pub none_holds : (cs : List Check) → first cs ≡ none → NoneHolds cs
none_holds [] e = tt
none_holds (c ∷ cs) e = go c.holds refl (λ f. none_holds cs f) e
  where
    go : (b : Bool) → c.holds ≡ b → (first cs ≡ none → NoneHolds cs) → cond b (refuse c.number) (first cs) ≡ none → (c.holds ≡ false) × NoneHolds cs
    go true h more f = let n : ◌≡◌ {A = ℕ} 0 1 = cc in absurd (omega arith)
    go false h more f = (h, more f)

-- where checks refuse nothing, neither those in front nor those behind them do
pub none_both : (cs ds : List Check) → first (cs ++ ds) ≡ none → (first cs ≡ none) × (first ds ≡ none)
none_both [] ds e = (refl, e)
none_both (c ∷ cs) ds e = go c.holds (λ f. none_both cs ds f) e
  where
    go : (b : Bool) → (first (cs ++ ds) ≡ none → (first cs ≡ none) × (first ds ≡ none)) → cond b (refuse c.number) (first (cs ++ ds)) ≡ none → (cond b (refuse c.number) (first cs) ≡ none) × (first ds ≡ none)
    go true more f = let n : ◌≡◌ {A = ℕ} 0 1 = cc in absurd (omega arith)
    go false more f = more f
