-- Takes come to an end: each gives nothing, and changes nothing, or leaves fewer fragments.
-- Assumes nothing.
use mathlib.Core.Path.{◌≡◌, refl, ap, ◌∙◌}
use mathlib.Core.Bool.{Bool, true, false}
use mathlib.Core.List.{List, [], ◌∷◌, ◌++◌}
use Prim.Native.Nat.{ℕ, zero, suc, ◌+◌, ◌<◌, ◌≤◌}
use native.Mathlib.Omega.{arith}
use lib.ListN.{length, drop, length-append, length-drop}
use borrow.Author.Tests.{lt-ltb, ltb-true}
use Rattle.fragments.specs.Frag.{Frag}
use Rattle.reassembly_state.specs.Model.{Queue, queue, held, through_end, ready_set, ordered_turn, finished_turn, turn, readable}
use Rattle.arrival_plan.specs.Plan.{after_take, final, takes, Drained}

length-held : (f u o : List Frag) → length (f ++ (u ++ o)) ≡ length f + (length u + length o)
length-held f u o = length-append f (u ++ o) ∙ ap (λ (n : ℕ). length f + n) (length-append u o)

-- ── a message that comes leaves fewer ──

module _ (si n max : ℕ) (uno : List Frag) where
  fewer-finished : (x : Frag) (f ord : List Frag) → let q = queue si n max (x ∷ f) uno ord in length (held (turn q).queue) < length (held q)
  unfolding turn finished_turn
  fewer-finished x f ord =
      let k = through_end (x ∷ f) in
      rw (lt-ltb 0 (suc (length f)) (omega arith))
      (omega (arith, length-held (drop k (x ∷ f)) uno ord, length-held (x ∷ f) uno ord, length-drop k (x ∷ f)))

  fewer-ordered : (ord : List Frag) → let q = queue si n max [] uno ord in readable q ≡ true → length (held (turn q).queue) < length (held q)
  unfolding turn ordered_turn readable ready_set
  fewer-ordered [] e = let z : ◌≡◌ {A = ℕ} 0 1 = cc in absurd (omega arith)
  fewer-ordered (x ∷ ord) e =
      let k = length (ready_set n (x ∷ ord)) in
      let h : 0 < k = ltb-true 0 k e in
      omega (arith, length-held [] uno (drop k (x ∷ ord)), length-held [] uno (x ∷ ord), length-drop k (x ∷ ord))

  fewer-of : (fin ord : List Frag) → let q = queue si n max fin uno ord in readable q ≡ true → length (held (turn q).queue) < length (held q)
  fewer-of [] ord e = fewer-ordered ord e
  fewer-of (x ∷ f) ord e = fewer-finished x f ord

fewer : (q : Queue) → readable q ≡ true → length (held (turn q).queue) < length (held q)
fewer q e = fewer-of q.si q.next q.max q.unordered q.finished q.ordered e

-- ── and nothing comes for ever ──

unchanged : (q : Queue) → readable q ≡ false → after_take q ≡ q
unchanged q e = rw e

stays : (q : Queue) (n : ℕ) → readable q ≡ false → final q (takes n) ≡ q
stays q zero e = refl
stays q (suc n) e = ap (λ (k : Queue). final k (takes n)) (unchanged q e) ∙ stays q n e

pub drains : Drained
drains q zero h = go (readable q) refl
  where
    go : (t : Bool) → readable q ≡ t → t ≡ false
    go true e = absurd (omega (arith, fewer q e))
    go false e = refl
drains q (suc n) h = go (readable q) refl (drains (turn q).queue n)
  where
    go : (t : Bool) → readable q ≡ t → (length (held (turn q).queue) ≤ n → readable (final (turn q).queue (takes n)) ≡ false) → readable (final (after_take q) (takes n)) ≡ false
    go true e ih = rw e (ih (omega (arith, fewer q e)))
    go false e ih = ap readable (stays q (suc n) e) ∙ e
