-- What a gap report is, from the words of RFC 4960 section 3.3.4 and with no walk; and what a queue's TSNs are: ordered on an arc.
-- Assumes nothing.
use Rattle.std.specs.Prelude.{◌≡◌, ◌↔◌, ◌⊎◌, ℕ, ◌+◌, ◌^◌, ◌<◌, ◌≤◌, List, [], ◌∷◌}
use mathlib.Core.List.{Memᴰ}
use Rattle.serial_model.specs.Serial.{ahead}
use Rattle.gap_model.specs.Gap.{Block}

-- "Gap Ack Block Start", "Gap Ack Block End": offsets of 16 bits from 1 on, the start no later than the end
pub record Sound (b : Block) : Type 0 where
  pub first : 1 ≤ b.start
  pub upward : b.start ≤ b.end
  pub small : b.end ≤ 65535

-- every block of the list is so
abbrev pub Each : List Block → Type 0
Each [] = Unit {0}
Each (b ∷ bs) = Sound b × Each bs

-- "following a break in the sequence": a block starts after the end plus 1 of the one before, so that they ascend and do not touch
abbrev pub Separate : List Block → Type 0
Separate [] = Unit {0}
Separate (b ∷ []) = Unit {0}
Separate (b ∷ c ∷ bs) = (b.end + 1 < c.start) × Separate (c ∷ bs)

-- blocks as a report may have them
pub record Proper (bs : List Block) : Type 0 where
  pub each : Each bs
  pub separate : Separate bs

-- a block holds an offset
abbrev pub Holds : Block → ℕ → Type 0
Holds b o = (b.start ≤ o) × (o ≤ b.end)

-- some block of the list holds it
abbrev pub In : ℕ → List Block → Type 0
In o [] = ⊥
In o (b ∷ bs) = Holds b o ⊎ In o bs

-- some TSN of the list is o ahead of the cumulative one
abbrev pub Received : ℕ → List ℕ → ℕ → Type 0
Received cum tsns o = (t : ℕ) × Memᴰ t tsns × (ahead 32 cum t ≡ o)

-- "acknowledges a subsequence of TSNs received": the blocks hold just the offsets of TSNs received, as far as 16 bits go
abbrev pub Covers : ℕ → List ℕ → List Block → Type 0
Covers cum tsns bs = (o : ℕ) → In o bs ↔ ((1 ≤ o) × (o ≤ 65535) × Received cum tsns o)

-- the TSNs lie on one arc: less than half the round ahead of a base
abbrev pub InArc : ℕ → List ℕ → Type 0
InArc base tsns = (t : ℕ) → Memᴰ t tsns → (t < 2 ^ 32) × (ahead 32 base t < 2 ^ 31)

-- and their offsets from it rise strictly along the list, so that no TSN stands twice
abbrev pub Ordered : ℕ → List ℕ → Type 0
Ordered base [] = Unit {0}
Ordered base (t ∷ []) = Unit {0}
Ordered base (t ∷ u ∷ tsns) = (ahead 32 base t < ahead 32 base u) × Ordered base (u ∷ tsns)
