-- Arrival order does not matter: the theorems, and the run with takes behind it.
-- Assumes nothing.
use mathlib.Core.Path.{◌≡◌, refl, ap, ◌∙◌}
use mathlib.Core.List.{List, [], ◌∷◌, ◌++◌}
use Prim.Native.Nat.{ℕ, zero, suc, ◌≤◌}
use lib.ListN.{length}
use Rattle.reassembly_state.specs.Model.{Queue, held, readable}
use Rattle.arrival_plan.specs.Plan.{Msg, Plan, Carried, chunks_of, Event, Push, Take, pushes, after_push, after_take, final, out, Roomy, Order, Came, starts, Arrival, takes, Drained, Unrefused}
use Rattle.arrival_plan.proofs.Sorts.{arrives_all}
use Rattle.arrival_plan.proofs.Drains.{drains}

-- the plan's chunks pushed once each, in any order, takes anywhere between, until nothing is readable: everything came out
pub arrival : Arrival
arrival si base max os us plan es o r z = (arrives_all si base max os us plan es o r).1 z

-- and no push is refused
pub unrefused : (si base max : ℕ) (os us : List Msg) → Plan base max os us → (es : List Event) → Order Carried (pushes es) (chunks_of os us) → Roomy (starts si max) es
    → Unrefused (starts si max) es
unrefused si base max os us plan es o r = (arrives_all si base max os us plan es o r).0

-- as many takes as fragments are held leave nothing readable
pub drained : Drained
drained = drains

-- ── the two together ──

pushes-takes : (es : List Event) (n : ℕ) → pushes (es ++ takes n) ≡ pushes es
pushes-takes [] zero = refl
pushes-takes [] (suc n) = pushes-takes [] n
pushes-takes (Push c ∷ es) n = ap (λ (l : List Carried). c ∷ l) (pushes-takes es n)
pushes-takes (Take ∷ es) n = pushes-takes es n

final-takes : (q : Queue) (es : List Event) (n : ℕ) → final q (es ++ takes n) ≡ final (final q es) (takes n)
final-takes q [] n = refl
final-takes q (Push c ∷ es) n = final-takes (after_push q c) es n
final-takes q (Take ∷ es) n = final-takes (after_take q) es n

roomy-takes : (q : Queue) (es : List Event) (n : ℕ) → Roomy q es → Roomy q (es ++ takes n)
roomy-takes q [] zero r = tt
roomy-takes q [] (suc n) r = roomy-takes (after_take q) [] n tt
roomy-takes q (Push c ∷ es) n r = (r.0, roomy-takes (after_push q c) es n r.1)
roomy-takes q (Take ∷ es) n r = roomy-takes (after_take q) es n r

pub arrival_then_takes : (si base max : ℕ) (os us : List Msg) → Plan base max os us → (es : List Event) → Order Carried (pushes es) (chunks_of os us)
    → Roomy (starts si max) es → (n : ℕ) → length (held (final (starts si max) es)) ≤ n
    → Came os us (out (starts si max) (es ++ takes n)) (final (starts si max) (es ++ takes n))
arrival_then_takes si base max os us plan es o r n h =
    arrival si base max os us plan (es ++ takes n) (rw (pushes-takes es n) o) (roomy-takes (starts si max) es n r)
    (ap readable (final-takes (starts si max) es n) ∙ drained (final (starts si max) es) n h)
