-- What is read is reported: a fault, lists that are too short, or the causes at the front of the lists.
-- Assumes nothing.
use mathlib.Core.Path.{◌≡◌, refl, sym, ◌∙◌}
use mathlib.Core.Bool.{Bool, true, false, ◌||◌, true≢false}
use mathlib.Core.List.{List}
use Prim.Native.Nat.{ℕ, ◌+◌, ◌≤◌}
use native.Mathlib.Omega.{arith}
use borrow.Author.Tests.{ltb-false}
use lib.Dec.{ltb}
use lib.ListN.{length, take, drop}
use Rattle.wire_model.specs.Refusal.{none, refuse, Check, first, Told, says}
use Rattle.chunk.specs.Header.{kind_checks}
use Rattle.packet_parts.specs.Fronts.{front_header, front_size}
use Rattle.cause_parts.specs.Causes.{Reading, causes}
use Rattle.cause_parts.specs.Lists.{Lists, lists, noted}
use Rattle.cause_parts.proofs.Noted.{noted-over}
use Rattle.error_causes.specs.Counts.{counted}
use Rattle.error_causes.proofs.Walk.{counted-refused, counted-all}
use Rattle.cause_report.specs.Report.{report, lacking, listed, reported}

neither : (a b : Bool) → a || b ≡ false → (a ≡ false) × (b ≡ false)
neither true b e = absurd (true≢false e)
neither false b e = (refl, e)

-- a list has no fewer places than n
room : (n codes depths starts sizes : ℕ) → lacking n codes depths starts sizes ≡ false → (n ≤ codes) × (n ≤ depths) × (n ≤ starts) × (n ≤ sizes)
room n codes depths starts sizes e =
    let a = neither (ltb codes n) _ e in
    let b = neither (ltb depths n) _ a.1 in
    let c = neither (ltb starts n) _ b.1 in
    (ltb-false _ _ a.0, ltb-false _ _ b.0, ltb-false _ _ c.0, ltb-false _ _ c.1)

module _ (r : Reading) (l : Lists) where
  abbrev lacks : ℕ → Bool
  lacks n = lacking n (length l.codes) (length l.depths) (length l.starts) (length l.sizes)

  pub fault_listed : {k : ℕ} → says (refuse k) 0 ≡ counted 0 r → report (says (refuse k) 0) l ≡ listed r l
  unfolding listed
  fault_listed e = rw (counted-refused 0 r e)

  module _ {n : ℕ} (e : says none n ≡ counted 0 r) where
    -- what was counted once without a fault has none in a later pass
    pub no_fault : {k : ℕ} → says (refuse k) 0 ≡ counted 0 r → ⊥
    no_fault {k} f =
        let f : none ≡ refuse k = sym (counted-all 0 r e).0 ∙ counted-refused 0 r f in
        let z : ◌≡◌ {A = ℕ} 0 1 = cc in absurd (omega arith)

    all : (r.fault ≡ none) × (n ≡ length r.causes)
    all = let a = counted-all 0 r e in let z : 0 + length r.causes ≡ length r.causes = omega arith in (a.0, a.1 ∙ z)

    pub short_listed : lacks n ≡ true → report (says (refuse 10) 0) l ≡ listed r l
    unfolding listed
    short_listed h = rw (all.0, ← all.1, h)

    pub all_listed : lacks n ≡ false → {told : Told ℕ} {codes depths starts sizes : List ℕ} → told ≡ counted 0 r
        → codes ≡ noted 0 0 r.causes l.codes → depths ≡ noted 1 0 r.causes l.depths → starts ≡ noted 2 0 r.causes l.starts → sizes ≡ noted 3 0 r.causes l.sizes
        → report told (lists codes depths starts sizes) ≡ listed r l
    unfolding listed
    all_listed h t c d s z =
        let m = all.1 in
        let w = room n (length l.codes) (length l.depths) (length l.starts) (length l.sizes) h in
        let h' : lacks (length r.causes) ≡ false = rw m at h in
        rw (t ∙ sym e, c ∙ noted-over 0 r.causes l.codes (omega arith), d ∙ noted-over 1 r.causes l.depths (omega arith), s ∙ noted-over 2 r.causes l.starts (omega arith), z ∙ noted-over 3 r.causes l.sizes (omega arith), all.0, h', m)

-- ── the chunk's own header ──

module _ (kind : ℕ) (raw : List ℕ) (l : Lists) where
  abbrev checks : List Check
  checks = kind_checks kind 4 2 (length raw) (front_header raw)

  pub header_refused : {k : ℕ} → first checks ≡ refuse k → report (says (refuse k) 0) l ≡ reported kind raw l
  unfolding reported
  header_refused e = rw e

  pub header-passed : {end : ℕ} → first checks ≡ none → end ≡ front_size raw → listed (causes 0 4 (drop 4 (take end raw))) l ≡ reported kind raw l
  unfolding reported
  header-passed p e = rw (p, e)
