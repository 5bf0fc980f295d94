-- "Count stored, turned away, refused and cut records in four 32-bit numbers that stay at the highest value once there" (document 02, M-113).
-- Assumes nothing.
use Rattle.std.specs.Prelude.{ℕ, ◌+◌, min, Bool, cond, List, [], ◌∷◌, eqb}
use Rattle.counters.specs.declared.Counters.{Counters}
use Rattle.counters.specs.declared.Kind.{Kind}
use Rattle.counters.specs.declared.Kind.TheVariants.{Stored, TurnedAway, Refused, Cut}

-- the order of document 02's list
abbrev pub rank : Kind → ℕ
rank Stored = 0
rank TurnedAway = 1
rank Refused = 2
rank Cut = 3

abbrev pub same : Kind → Kind → Bool
same k j = eqb (rank k) (rank j)

-- "the highest value" of 32 bits
abbrev pub highest : ℕ
highest = 4294967295

-- "stay at the highest value once there"
unfoldable pub one_more : ℕ → ℕ
one_more n = min (n + 1) highest

-- ── one record ──

abbrev pub fresh : Counters
fresh = record { stored = 0; turned_away = 0; refused = 0; cut = 0 }

-- the number of kind j after one record more of kind k
abbrev pub more_of : Kind → Kind → ℕ → ℕ
more_of k j n = cond (same k j) (one_more n) n

abbrev pub counted_as : Kind → Counters → Counters
counted_as k c =
    record {
      stored = more_of k Stored c.stored;
      turned_away = more_of k TurnedAway c.turned_away;
      refused = more_of k Refused c.refused;
      cut = more_of k Cut c.cut;
    }

-- ── a run of records ──

-- each is counted after the one before it
abbrev pub counted_all : Counters → List Kind → Counters
counted_all c [] = c
counted_all c (k ∷ ks) = counted_all (counted_as k c) ks

-- how many of these are of kind j
abbrev pub how_many : Kind → List Kind → ℕ
how_many j [] = 0
how_many j (k ∷ ks) = cond (same k j) (how_many j ks + 1) (how_many j ks)

-- what the four numbers are to be after these: how many there are of each kind, or the highest value where there are more
unfoldable pub totals : List Kind → Counters
totals ks =
    record {
      stored = min (how_many Stored ks) highest;
      turned_away = min (how_many TurnedAway ks) highest;
      refused = min (how_many Refused ks) highest;
      cut = min (how_many Cut ks) highest;
    }
