-- Bytes behind bytes: one put after the other, and all of them from the front on.
-- Assumes nothing.
use mathlib.Core.Path.{◌≡◌, refl, sym, ap, ◌∙◌}
use mathlib.Core.List.{List, [], ◌∷◌, ◌++◌, append_assoc}
use Prim.Native.Nat.{ℕ, ◌+◌, ◌-◌, ◌≤◌}
use native.Mathlib.Omega.{arith}
use lib.ListN.{length, take, length-append, take-append-drop}
use lib.Seq.{length-take-le}
use borrow.Rule.Slice.PartMut.{mid_of, put_mid}
use Rattle.wire_model.specs.BigEndian.{over}
use Rattle.wire_model.specs.Facts.{over-length}
use Rattle.wire.proofs.Writing.{behind}
use Rattle.counters.specs.declared.Counters.{Counters}
use Rattle.replay_words.specs.Lines.{word, total_line}
use Rattle.replay_words.specs.Behind.{Behind, Put}

-- a buffer has its own front at its front
own-front : (out : List ℕ) (at : ℕ) → at ≤ length out → out ≡ over out (take at out)
unfolding over
own-front out at h = sym (rw (length-take-le at out h) (take-append-drop at out))

pub put-behind : (out bytes : List ℕ) (at : ℕ) {ys : List ℕ} → at + length bytes ≤ length out → ys ≡ over (mid_of at (length out - at) out) bytes
    → Behind out at bytes (put_mid at (length out - at) out ys) (at + length bytes)
put-behind out bytes at {ys} h e =
    let l : length (take at out) ≡ at = length-take-le at out (omega arith) in
    let own = behind out (take at out) bytes at l (own-front out at (omega arith)) e in
    record {
      is = λ out₀ done m f. behind out₀ done bytes at m f e;
      end = refl;
      long = ap length own ∙ over-length out (take at out ++ bytes) (simp (length-append, l) h);
    }

-- one after the other
pub then : {out out' out'' xs ys : List ℕ} {a b c : ℕ} → Behind out a xs out' b → Behind out' b ys out'' c → Behind out a (xs ++ ys) out'' c
then {xs = xs} {ys = ys} {a = a} p q =
    record {
      is = λ out₀ done m e. rw (← (append_assoc done xs ys)) (q.is out₀ (done ++ xs) (rw (length-append, m) (sym p.end)) (p.is out₀ done m e));
      end = rw length-append (omega (arith, p.end, q.end));
      long = q.long ∙ p.long;
    }

-- from the front on
pub all-put : {out bytes out' : List ℕ} {r : ℕ} → Behind out 0 bytes out' r → Put out bytes out' r
unfolding over
all-put {out = out} p = record { is = p.is out [] refl refl; size = omega (arith, p.end) }

-- the two pairs of numbers are the four of the last line
pub total-pairs : (c : Counters) → 116 ∷ 111 ∷ 116 ∷ 97 ∷ 108 ∷ ((word c.stored ++ word c.turned_away) ++ ((word c.refused ++ word c.cut) ++ (10 ∷ []))) ≡ total_line c
unfolding total_line
total-pairs c =
    let s = word c.stored in
    let t = word c.turned_away in
    let r = word c.refused in
    let u = word c.cut in
    ap (λ (l : List ℕ). 116 ∷ 111 ∷ 116 ∷ 97 ∷ 108 ∷ l) (append_assoc s t ((r ++ u) ++ (10 ∷ [])) ∙ ap (λ (l : List ℕ). s ++ (t ++ l)) (append_assoc r u (10 ∷ [])))
