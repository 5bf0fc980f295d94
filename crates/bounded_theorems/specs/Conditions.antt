-- What a bounded skip does, and how far it applies, by conditions on the held sets and with no order of work: document 02, M-110.
-- Assumes nothing.
use Rattle.std.specs.Prelude.{◌≡◌, Bool, true, false, ◌⊎◌, ℕ, suc, ◌^◌, ◌<◌, List}
use mathlib.Core.List.{Memᴰ}
use Rattle.std.proofs.Math.Option.{Option, none, some}
use Rattle.serial_model.specs.Serial.{next, ahead, before, at_or_before}
use Rattle.fragments.specs.Frag.{Frag, ssn_of}
use Rattle.fragment_sets.specs.Sets.{sets}
use Rattle.set_reach.specs.Kept.{set_ssn, stays, lower, higher}
use Rattle.reassembly_state.specs.Model.{Queue}
use Rattle.reassembly_bounded.specs.Bounded.{abandoned, held_back, moved_to}
use Rattle.reassembly_applicable.specs.Applicable.{settles, ends_part}

-- ── the domain ──

-- a number of suc m bits less than half the round ahead of a base
abbrev pub OnArc : ℕ → ℕ → ℕ → Type 0
OnArc m base n = (n < 2 ^ suc m) × (ahead (suc m) base n < 2 ^ m)

-- "held TSNs .. in one arc shorter than 2^31", "SSNs .. in one arc shorter than 2^15": of what is held in ordered sets. That the expected SSN is among
-- them, and that no TSN stands twice, is not needed here.
pub record Domain (l : List Frag) : Type 0 where
  pub ssn_base : ℕ
  pub ssn_fits : ssn_base < 2 ^ 16
  pub ssns : (x : Frag) → Memᴰ x l → OnArc 15 ssn_base (ssn_of x)
  pub tsn_base : ℕ
  pub tsn_fits : tsn_base < 2 ^ 32
  pub tsns : (x : Frag) → Memᴰ x l → OnArc 31 tsn_base x.tsn

-- ── the lowest and the highest ──

-- n is the best of the numbers that are so: it is so, and none that is so is better
abbrev pub Best : (ℕ → ℕ → Bool) → (ℕ → Type 0) → ℕ → Type 0
Best better Is n = Is n × ((m : ℕ) → Is m → better m n ≡ false)

-- n is the SSN of a held set that does
abbrev pub SsnOf : (List Frag → Bool) → List Frag → ℕ → Type 0
SsnOf p l n = (m : List Frag) × Memᴰ m (sets l) × (p m ≡ true) × (set_ssn m ≡ n)

-- n is a TSN held in a set at or after s
abbrev pub TsnFrom : ℕ → List Frag → ℕ → Type 0
TsnFrom s l n = (x : Frag) × Memᴰ x l × (at_or_before 16 s (ssn_of x) ≡ true) × (x.tsn ≡ n)

abbrev pub NoSuch : (ℕ → Type 0) → Type 0
NoSuch Is = (n : ℕ) → Is n → ⊥

-- ── the skip ──

-- how far the expected SSN may move: to the lowest SSN of the sets at or before s that the point does not reach; to s + 1 where it reaches all
abbrev pub Limit : ℕ → ℕ → List Frag → ℕ → Type 0
Limit s t l n = Best (lower 16) (SsnOf (held_back s t) l) n ⊎ (NoSuch (SsnOf (held_back s t) l) × (n ≡ next 16 s))

-- q' is q after the skip to s with point t: the incomplete sets at or before s that the point reaches are gone, and the expected SSN is the limit if
-- it was before it
pub record Skips (q : Queue) (s t : ℕ) (q' : Queue) : Type 0 where
  pub si : q'.si ≡ q.si
  pub max : q'.max ≡ q.max
  pub finished : q'.finished ≡ q.finished
  pub unordered : q'.unordered ≡ q.unordered
  pub ordered : q'.ordered ≡ stays (abandoned s t) q.ordered
  pub limit : ℕ
  pub limited : Limit s t q.ordered limit
  pub expected : q'.next ≡ moved_to q.next limit

-- ── how far it applies ──

-- all of the skip applies: the expected SSN is after s; or the set of s is held, and is the expected one or reached; or the lowest TSN that is held at or after s
-- is at or before the peer's last, p
abbrev pub Whole : Queue → ℕ → ℕ → ℕ → Type 0
Whole q s t p =
    (before 16 s q.next ≡ true)
    ⊎ (((l : List Frag) × Memᴰ l (sets q.ordered) × (settles q.next s t l ≡ true)) ⊎ ((n : ℕ) × Best (lower 32) (TsnFrom s q.ordered) n × (at_or_before 32 n p ≡ true)))

-- a part of it: the highest SSN of the sets from the expected one on and before s that are reached or begin at or before p; nothing where there is none
abbrev pub Part : Queue → ℕ → ℕ → ℕ → Option ℕ → Type 0
Part q s t p o =
    let Ends = SsnOf (ends_part q.next s t p) q.ordered in
    ((n : ℕ) × Best (higher 16) Ends n × ◌≡◌ {A = Option ℕ} o (some n)) ⊎ (NoSuch Ends × ◌≡◌ {A = Option ℕ} o none)

abbrev pub Applies : Queue → ℕ → ℕ → ℕ → Option ℕ → Type 0
Applies q s t p o = (Whole q s t p × ◌≡◌ {A = Option ℕ} o (some s)) ⊎ ((Whole q s t p → ⊥) × Part q s t p o)
