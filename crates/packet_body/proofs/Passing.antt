-- A pass over lent chunks, one at a turn: what is behind it is done, and the rest decides what is left.
-- Assumes nothing.
use mathlib.Core.Path.{◌≡◌, refl, sym, ap, ◌∙◌}
use mathlib.Core.List.{List, [], ◌∷◌, ◌++◌, append_assoc, append-nil}
use Prim.Native.Nat.{ℕ, zero, suc, ◌+◌, ◌-◌, ◌*◌, ◌/◌, ◌%◌, ◌<◌, ◌≤◌}
use native.Mathlib.Omega.{arith}
use lib.ListN.{length, get_or, take, drop, length-append, length-drop, drop_of_length-le}
use lib.Seq.{get_or-take, get_or-drop, length-take-le, drop-drop, drop-nil}
use Rattle.wire_model.specs.BigEndian.{big_endian}
use Rattle.wire_model.specs.Refusal.{none, refuse, first, says}
use Rattle.wire.proofs.Reading.{refused, accepted, first-refused, first-passed, none_both}
use Rattle.packet_parts.specs.Fronts.{front_header, front_size, front_checks, rounded}
use Rattle.packet_parts.proofs.Fronts.{passed-front}
use Rattle.packet_body.proofs.Padding.{padded-length}
use Rattle.packet_body.specs.Lent.{cut, cut_checks, lent_checks, padded, joined, body, body_size}

-- ── one chunk ──

cut-more : (turns : ℕ) (bytes : List ℕ) → 0 < length bytes → cut (suc turns) bytes ≡ take (front_size bytes) bytes ∷ cut turns (drop (front_size bytes) bytes)
unfolding cut
cut-more turns [] h = absurd (omega arith)
cut-more turns (b ∷ bytes) h = refl

checks-more : (turns : ℕ) (bytes : List ℕ) → 0 < length bytes → cut_checks (suc turns) bytes ≡ front_checks bytes ++ cut_checks turns (drop (front_size bytes) bytes)
unfolding cut_checks
checks-more turns [] h = absurd (omega arith)
checks-more turns (b ∷ bytes) h = refl

cut_none : (turns : ℕ) → joined (cut turns []) ≡ []
unfolding cut joined
cut_none zero = refl
cut_none (suc turns) = refl

checks_none : (turns : ℕ) → first (cut_checks turns []) ≡ none
unfolding cut_checks
checks_none zero = refl
checks_none (suc turns) = rw (drop-nil {A = ℕ} (front_size [])) (checks_none turns)

-- the length that is read at its place is that of the chunk in front
pub size-read : (raw : List ℕ) (at n : ℕ) → n < 65536 → take 2 (drop (at + 2) raw) ≡ big_endian 2 n → n ≡ front_size (drop at raw)
unfolding big_endian front_header
size-read raw at n h e =
    let high : get_or (drop at raw) 2 0 ≡ n / 256 % 256 = get_or-drop at raw 2 0 ∙ sym (byte 0 (omega arith)) ∙ ap (λ (z : List ℕ). get_or z 0 0) e in
    let low : get_or (drop at raw) 3 0 ≡ n % 256 = get_or-drop at raw 3 0 ∙ sym (byte 1 (omega arith)) ∙ ap (λ (z : List ℕ). get_or z 1 0) e in
    omega arith
  where
    byte : (i : ℕ) → i < 2 → get_or (take 2 (drop (at + 2) raw)) i 0 ≡ get_or raw (at + (2 + i)) 0
    byte i l = get_or-take 2 (drop (at + 2) raw) i 0 l ∙ get_or-drop (at + 2) raw i 0 ∙ ap (λ (k : ℕ). get_or raw k 0) (omega arith)

-- ── the pass ──

-- the chunks of the first at bytes are done, and are these with their padding
pub record Passing (lent : List ℕ) (at : ℕ) (done : List ℕ) : Type 0 where
  pub turns : ℕ
  pub within : at ≤ length lent
  pub enough : length lent ≤ at + turns
  pub checks : first (lent_checks lent) ≡ first (cut_checks turns (drop at lent))
  pub is : body lent ≡ done ++ joined (cut turns (drop at lent))
  pub less : 4 * length done ≤ 7 * at

pub begin : (lent : List ℕ) → Passing lent 0 []
begin lent = record { turns = length lent; within = omega arith; enough = omega arith; checks = refl; is = refl; less = omega arith }

-- what is done is not more than all
pub done_within : {lent done : List ℕ} {at : ℕ} → Passing lent at done → length done ≤ length (body lent)
done_within p = omega (arith, simp length-append at (ap length p.is))

module _ {lent done : List ℕ} {at : ℕ} (p : Passing lent at done) (more : at < length lent) where
  abbrev rest : List ℕ
  rest = drop at lent

  some_left : 0 < length rest
  some_left = rw length-drop (omega arith)

  -- a bad chunk decides
  pub refuses : {k : ℕ} → first (front_checks rest) ≡ refuse k → first (lent_checks lent) ≡ refuse k
  refuses {k} e = go p.turns p.enough p.checks
    where
      go : (turns : ℕ) → length lent ≤ at + turns → first (lent_checks lent) ≡ first (cut_checks turns rest) → first (lent_checks lent) ≡ refuse k
      go zero h c = absurd (omega arith)
      go (suc turns) h c = c ∙ rw (checks-more turns rest some_left) (first-refused (front_checks rest) (cut_checks turns (drop (front_size rest) rest)) e)

  -- where all pass, this one passes
  pub passes_here : first (lent_checks lent) ≡ none → first (front_checks rest) ≡ none
  passes_here e = go p.turns p.enough p.checks
    where
      go : (turns : ℕ) → length lent ≤ at + turns → first (lent_checks lent) ≡ first (cut_checks turns rest) → first (front_checks rest) ≡ none
      go zero h c = absurd (omega arith)
      go (suc turns) h c = (none_both (front_checks rest) (cut_checks turns (drop (front_size rest) rest)) (rw (checks-more turns rest some_left) at (sym c ∙ e))).0

  -- a chunk of n bytes passes, and is done
  module _ {n : ℕ} (good : first (front_checks rest) ≡ none) (size : n ≡ front_size rest) where
    -- it has its header, and lies within what is lent
    pub chunk-room : (4 ≤ n) × (at + n ≤ length lent)
    chunk-room =
        let q = passed-front rest good in
        let fits : n ≤ length lent - at = rw size (rw length-drop at q.1) in
        (rw size q.0, omega arith)

    pub chunk-length : length (take n rest) ≡ n
    chunk-length = length-take-le n rest (rw size (passed-front rest good).1)

    pub turn : Passing lent (at + n) (done ++ padded (take n rest))
    unfolding rounded joined
    turn = go p.turns p.enough p.checks p.is
      where
        go : (turns : ℕ) → length lent ≤ at + turns → first (lent_checks lent) ≡ first (cut_checks turns rest) → body lent ≡ done ++ joined (cut turns rest) → Passing lent (at + n) (done ++ padded (take n rest))
        go zero h c b = absurd (omega arith)
        go (suc turns) h c b =
            let room = chunk-room in
            let long = padded-length (take n rest) ∙ ap rounded chunk-length in
            record {
              turns = turns;
              within = omega arith;
              enough = omega arith;
              checks = c ∙ rw (checks-more turns rest some_left, first-passed (front_checks rest) (cut_checks turns (drop (front_size rest) rest)) good, ← size, drop-drop);
              is = b ∙ rw (cut-more turns rest some_left, ← size, drop-drop, append_assoc);
              less = rw (length-append, long) (omega (arith, p.less));
            }

-- at the end all passed, and all is done
module _ {lent done : List ℕ} {at : ℕ} (p : Passing lent at done) (over : length lent ≤ at) where
  pub all_pass : first (lent_checks lent) ≡ none
  all_pass = p.checks ∙ rw (drop_of_length-le lent over) (checks_none p.turns)

  pub all_done : body lent ≡ done
  all_done = p.is ∙ rw (drop_of_length-le lent over, cut_none p.turns, append-nil)

-- ── what a measure says ──

module _ (lent : List ℕ) where
  pub measured_refused : {k : ℕ} → says (refuse k) 0 ≡ body_size lent → first (lent_checks lent) ≡ refuse k
  unfolding body_size
  measured_refused e = refused 0 (length (body lent)) (first (lent_checks lent)) e

  pub measured : {n : ℕ} → says none n ≡ body_size lent → (first (lent_checks lent) ≡ none) × (n ≡ length (body lent))
  unfolding body_size
  measured e = accepted 0 (length (body lent)) (first (lent_checks lent)) e
