-- What a part's pairs are, and what skipping them one by one comes to.
-- Assumes nothing.
use mathlib.Core.Path.{◌≡◌, sym, ap, ◌∙◌}
use mathlib.Core.List.{List, ◌++◌}
use Prim.Native.Nat.{ℕ, ◌+◌, ◌*◌, ◌/◌, ◌<◌, ◌≤◌}
use native.Mathlib.Numerals.{add-one}
use native.Mathlib.Omega.{arith}
use borrow.Author.Tests.{lt-leb}
use lib.ListN.{length, get_or, take, drop, length-drop, take-append-drop, drop_of_length-le}
use lib.Seq.{take_all, take-append-le, drop-append-le, drop-cons, length-take-le}
use Rattle.wire_model.specs.Refusal.{none, refuse, first, says}
use Rattle.wire.proofs.Reading.{refused, accepted}
use Rattle.entries.proofs.Entries.{entry_begins}
use Rattle.chunk_forward_tsn.specs.Layout.{Pair, pair, pair_bytes}
use Rattle.chunk_forward_tsn.specs.ForwardTsn.{entry_checks, PairFront, pair_read}
use Rattle.forward_tsn_marshal.proofs.ForwardBytes.{pair-length, pair_entries}
use Rattle.reassembly_state.specs.State.{State}
use Rattle.forward_tsn_skips.specs.Skips.{Pairs, pair_skipped, pairs_skipped}

-- ── the pair at an index ──

module _ (part : List ℕ) (f : Pairs part) (i : ℕ) (h : i < length part / 4) where
  abbrev pub pair_at : Pair
  pair_at = pair (get_or f.streams i 0) (get_or f.ssns i 0)

  -- it stands there
  pub begins : take 4 (drop (4 * i) part) ≡ take (length (drop (4 * i) part)) (pair_bytes pair_at)
  begins =
      let n = 4 * (length part / 4) in
      let all = take n part in
      let size : length all ≡ n = length-take-le n part (omega arith) in
      let long : 4 ≤ length (drop (4 * i) all) = rw length-drop (omega arith) in
      let more : 4 ≤ length (drop (4 * i) part) = rw length-drop (omega arith) in
      let whole : drop (4 * i) part ≡ drop (4 * i) all ++ drop n part =
      ap (drop (4 * i)) (sym (take-append-drop n part)) ∙ drop-append-le (4 * i) all (drop n part) (omega arith) in
      let entry : take 4 (drop (4 * i) all) ≡ take (length (drop (4 * i) all)) (pair_bytes pair_at) = rw f.is (entry_begins pair_entries f.streams f.ssns i (f.count ∙ sym f.same) (omega (arith, f.count))) in
      ap (take 4) whole ∙ take-append-le 4 (drop (4 * i) all) (drop n part) long ∙ entry
      ∙ take_all (length (drop (4 * i) all)) (pair_bytes pair_at) (omega (arith, pair-length pair_at))
      ∙ sym (take_all (length (drop (4 * i) part)) (pair_bytes pair_at) (omega (arith, pair-length pair_at)))

  abbrev pub pair-front : PairFront part i
  pair-front = record { fields = pair_at; fits = record { stream = f.small i; ssn = f.less i }; begins = begins }

  -- to skip it is to skip one pair less
  pub skip_turn : (s s' : State) → s' ≡ pair_skipped s pair_at → pairs_skipped s' (drop (i + 1) f.streams) (drop (i + 1) f.ssns) ≡ pairs_skipped s (drop i f.streams) (drop i f.ssns)
  unfolding pairs_skipped
  skip_turn s s' e =
      let l : i < length f.streams = omega (arith, f.count) in
      let m : i < length f.ssns = omega (arith, f.same) in
      rw (drop-cons f.streams i 0 l, drop-cons f.ssns i 0 m, add-one, e)

-- behind the last pair nothing is left to skip
pub skip_done : (part : List ℕ) (f : Pairs part) (i : ℕ) → length part / 4 ≤ i → (s : State) → pairs_skipped s (drop i f.streams) (drop i f.ssns) ≡ s
unfolding pairs_skipped
skip_done part f i h s = rw (drop_of_length-le f.streams {i = i} (omega (arith, f.count)))

-- ── what a lookup says below the count ──

module _ (part : List ℕ) (i : ℕ) (p : Pair) (h : i < length part / 4) where
  passes : first (entry_checks part i) ≡ none
  passes = rw (lt-leb (length part / 4) i h)

  pub at-refused : {k : ℕ} → says (refuse k) (pair 0 0) ≡ pair_read part i p → ⊥
  at-refused t = let f = sym passes ∙ refused (pair 0 0) p (first (entry_checks part i)) t in let n : ◌≡◌ {A = ℕ} 0 1 = cc in absurd (omega arith)

  pub at-is : {q : Pair} → says none q ≡ pair_read part i p → q ≡ p
  at-is t = (accepted (pair 0 0) p (first (entry_checks part i)) t).1
