-- Over a run of records the four numbers are how many there are of each kind, up to the highest value: no order and no earlier count plays a part.
-- Assumes nothing.
use mathlib.Core.Path.{◌≡◌, refl}
use mathlib.Core.Bool.{Bool, true, false, cond}
use mathlib.Core.List.{List, [], ◌∷◌}
use Prim.Native.Nat.{ℕ, ◌+◌, min, ◌≤◌}
use native.Mathlib.Omega.{arith}
use Rattle.counters.specs.declared.Counters.{Counters}
use Rattle.counters.specs.declared.Kind.{Kind}
use Rattle.counters.specs.declared.Kind.TheVariants.{Stored, TurnedAway, Refused, Cut}
use Rattle.counters.specs.Counted.{same, highest, one_more, fresh, counted_as, counted_all, how_many, totals}

-- the number of a kind
abbrev of : Kind → Counters → ℕ
of Stored c = c.stored
of TurnedAway c = c.turned_away
of Refused c = c.refused
of Cut c = c.cut

of-counted : (j k : Kind) (c : Counters) → of j (counted_as k c) ≡ cond (same k j) (one_more (of j c)) (of j c)
of-counted Stored k c = refl
of-counted TurnedAway k c = refl
of-counted Refused k c = refl
of-counted Cut k c = refl

-- one more and then m more are m + 1 more, also at the highest value
one_then : (b : Bool) (n m : ℕ) → n ≤ highest → min (cond b (one_more n) n + m) highest ≡ min (n + cond b (m + 1) m) highest
unfolding one_more
one_then true n m h = omega arith
one_then false n m h = refl

stays : (b : Bool) (n : ℕ) → n ≤ highest → cond b (one_more n) n ≤ highest
unfolding one_more
stays true n h = omega arith
stays false n h = h

run_of : (j : Kind) (c : Counters) (ks : List Kind) → of j c ≤ highest → of j (counted_all c ks) ≡ min (of j c + how_many j ks) highest
run_of j c [] h = omega arith
run_of j c (k ∷ ks) h =
    let more = of-counted j k c in
    rw (run_of j (counted_as k c) ks (rw more (stays (same k j) (of j c) h)), more) (one_then (same k j) (of j c) (how_many j ks) h)

-- from none on
of-fresh : (j : Kind) → of j fresh ≡ 0
of-fresh Stored = refl
of-fresh TurnedAway = refl
of-fresh Refused = refl
of-fresh Cut = refl

run-fresh : (j : Kind) (ks : List Kind) → of j (counted_all fresh ks) ≡ min (how_many j ks) highest
run-fresh j ks = let none = of-fresh j in rw (run_of j fresh ks (omega arith), none) (omega arith)

-- a run of counts is min(2^32 - 1, the number of such records), of each kind
pub run-counted : (ks : List Kind) → counted_all fresh ks ≡ totals ks
unfolding totals
run-counted ks = rw (← (run-fresh Stored ks), ← (run-fresh TurnedAway ks), ← (run-fresh Refused ks), ← (run-fresh Cut ks))
