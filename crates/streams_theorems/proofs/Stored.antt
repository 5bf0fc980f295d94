-- A chunk that is stored is held once more: the queue after it has its fragment and its bytes besides those before.
-- Assumes nothing.
use mathlib.Core.Path.{◌≡◌, refl, ◌∙◌}
use mathlib.Core.Bool.{Bool, true, false, cond}
use mathlib.Core.List.{List, [], ◌∷◌, ◌++◌}
use Prim.Native.Nat.{ℕ, ◌+◌, ◌-◌, ◌≤◌}
use native.Mathlib.Omega.{arith}
use lib.Dec.{ltb}
use lib.ListN.{length, length-append}
use Rattle.wire_model.specs.Refusal.{none, says}
use Rattle.moves_model.specs.Lists.{slice, gone}
use Rattle.moves_model.proofs.Turned.{turned-long}
use Rattle.fragments.specs.Frag.{Frag, tsn_before}
use Rattle.fragments.specs.Words.{size, placed}
use Rattle.fragments.proofs.Pool.{size-append, size-turned}
use Rattle.loose_fragments.specs.Loose.{scanned}
use Rattle.loose_fragments.specs.declared.Span.{Span}
use Rattle.loose_fragments.proofs.Scanned.{scan_within}
use Rattle.reassembly_state.specs.Model.{Queue, queue, held, gives, keep_ordered, move_run, keep_loose}
use Rattle.reassembly_state.proofs.Parts.{turned_middle}
use Rattle.streams_model.proofs.Exact.{placed_one, kept-one}

-- ── as many fragments and as many bytes ──

record Same (l r : List Frag) : Type 0 where
  few : length r ≡ length l
  small : size r ≡ size l

same : (l : List Frag) → Same l l
same l = record { few = refl; small = refl }

onward : {a b c : List Frag} → Same a b → Same b c → Same a c
onward h k = record { few = k.few ∙ h.few; small = k.small ∙ h.small }

beside : {a b c d : List Frag} → Same a c → Same b d → Same (a ++ b) (c ++ d)
beside h k = record { few = simp length-append (omega (arith, h.few, k.few)); small = simp size-append (omega (arith, h.small, k.small)) }

-- a fragment goes further back
deeper : (f : Frag) (a b : List Frag) → Same (f ∷ (a ++ b)) (a ++ (f ∷ b))
unfolding size
deeper f a b = record { few = simp length-append (omega arith); small = simp size-append (omega arith) }

-- ── what is stored ──

placed_same : (p : Frag → Bool) (f : Frag) (l : List Frag) → Same (f ∷ l) (placed p f l)
unfolding size
placed_same p f l = let h = placed_one p f l in record { few = h.few; small = h.bytes }

module _ (f : Frag) where
  inside : (a b c : List Frag) {d : List Frag} → Same (f ∷ b) d → Same (f ∷ (a ++ (b ++ c))) (a ++ (d ++ c))
  inside a b c h = onward (deeper f a (b ++ c)) (beside (same a) (beside h (same c)))

-- a run of the middle list joins the first
run-same : (a b c : List Frag) (x y : ℕ) → x ≤ y → y ≤ length b → Same (a ++ (b ++ c)) ((a ++ slice x y b) ++ (gone x (y - x) b ++ c))
run-same a b c x y h k =
    let l = a ++ (b ++ c) in
    let n : length l ≡ length a + (length b + length c) = simp length-append (omega arith) in
    rw (turned_middle a b c x y h k)
    (record {
      few = turned-long (length a) (length a + x) (length a + y) (omega arith) (omega arith) l (omega arith);
      small = size-turned l (length a) (length a + x) (length a + y) (omega arith) (omega arith);
    })

-- ── the queue that stores it ──

-- m holds one fragment more than q, and the bytes of f more
pub record Grown (q : Queue) (f : Frag) (m : Queue) : Type 0 where
  pub frags : length (held m) ≡ length (held q) + 1
  pub bytes : size (held m) ≡ size (held q) + length f.bytes

module _ (q : Queue) (f : Frag) where
  grown : (m : Queue) → Same (f ∷ held q) (held m) → Grown q f m
  unfolding size
  grown m h = record { frags = omega (arith, h.few); bytes = omega (arith, h.small) }

  pub ordered-grown : Grown q f (keep_ordered q f).queue
  ordered-grown = let h = kept-one q f in record { frags = omega (arith, h.few); bytes = omega (arith, h.bytes) }

  move_same : (l : List Frag) (s : Span) → s.from ≤ s.to → s.to ≤ length l → Same (q.finished ++ (l ++ q.ordered)) (held (move_run q l s).queue)
  unfolding move_run
  move_same l s h k = go (ltb s.from s.to)
    where
      go : (b : Bool) → Same (q.finished ++ (l ++ q.ordered))
          (held (cond b (gives (says none true) (queue q.si q.next q.max (q.finished ++ slice s.from s.to l) (gone s.from (s.to - s.from) l) q.ordered))
          (gives (says none false) (queue q.si q.next q.max q.finished l q.ordered))).queue)
      go true = run-same q.finished l q.ordered s.from s.to h k
      go false = same (q.finished ++ (l ++ q.ordered))

  pub loose-grown : Grown q f (keep_loose q f).queue
  unfolding keep_loose
  loose-grown =
      let l = placed (tsn_before f.tsn) f q.unordered in
      let k = scan_within l in
      grown _ (onward (inside f q.finished q.unordered q.ordered (placed_same (tsn_before f.tsn) f q.unordered)) (move_same l (scanned l) k.0 k.1))
