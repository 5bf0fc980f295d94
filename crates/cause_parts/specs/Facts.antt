-- That the number of bytes is turns enough: the causes of any bytes are what the first cause says, what it holds, and the causes behind it.
-- Assumes nothing.
use Rattle.std.specs.Prelude.{◌≡◌, refl, Bool, true, false, cond, ◌||◌, List, [], ◌∷◌, ℕ, zero, suc, ◌+◌, ◌<◌, ◌≤◌, ltb, eqb, length, take, drop}
use Rattle.std.proofs.Common.{arith, ltb-false, length-take, length-drop}
use Rattle.wire_model.specs.Refusal.{Refusal, none, refuse, first}
use Rattle.packet_parts.specs.Fronts.{front_header, front_size, rounded}
use Rattle.cause_parts.specs.Causes.{Reading, reading, unless, cause_size, cause_value, cause_checks, chunk_causes, cause_by, causes_in, causes}

-- the causes of a chunk in a value are fewer bytes than the value
held-fewer : (value : List ℕ) → length (chunk_causes value) ≤ length value
held-fewer value = go (eqb (front_header value).kind 9 || eqb (front_header value).kind 6)
  where
    go : (b : Bool) → length (cond b (drop 4 (take (front_size value) value)) []) ≤ length value
    go true = simp (length-drop, length-take) (omega arith)
    go false = omega arith

-- a cause that passes has four bytes and more
passed_four : (bytes : List ℕ) → first (cause_checks bytes) ≡ none → (4 ≤ cause_size bytes) × (4 ≤ length bytes)
passed_four bytes e = go (ltb (length bytes) 4) (ltb (cause_size bytes) 4) refl refl e
  where
    go : (a b : Bool) → ltb (length bytes) 4 ≡ a → ltb (cause_size bytes) 4 ≡ b → cond a (refuse 16) (cond (b || ltb (length bytes) (cause_size bytes)) (refuse 16) none) ≡ none → (4 ≤ cause_size bytes) × (4 ≤ length bytes)
    go true b p q f = let n : ◌≡◌ {A = ℕ} 0 1 = cc in absurd (omega arith)
    go false true p q f = let n : ◌≡◌ {A = ℕ} 0 1 = cc in absurd (omega arith)
    go false false p q f = (ltb-false _ _ q, ltb-false _ _ p)

unless-same : (k : Refusal) {r s : Reading} → (k ≡ none → r ≡ s) → unless k [] r ≡ unless k [] s
unless-same none f = f refl
unless-same (refuse k) f = refl

-- two readings of fewer bytes that agree there agree on the cause in front
cause_by-same : (f g : ℕ → ℕ → List ℕ → Reading) (depth at : ℕ) (bytes : List ℕ)
    → ((d a : ℕ) (fewer : List ℕ) → length fewer < length bytes → f d a fewer ≡ g d a fewer)
    → cause_by f depth at bytes ≡ cause_by g depth at bytes
unfolding rounded
cause_by-same f g depth at bytes same =
    unless-same (first (cause_checks bytes))
    (λ p.
    let four = passed_four bytes p in
    let value = cause_value bytes in
    let shorter : length value < length bytes = simp (length-drop, length-take) (omega arith) in
    let held = same (depth + 1) (at + 4 + 4) (chunk_causes value) (omega (arith, held-fewer value)) in
    let later = same depth (at + rounded (cause_size bytes)) (drop (rounded (cause_size bytes)) bytes) (rw length-drop (omega arith)) in
    rw (held, later))

-- so more turns than bytes change nothing
enough : (m n depth at : ℕ) (bytes : List ℕ) → length bytes ≤ m → length bytes ≤ n → causes_in m depth at bytes ≡ causes_in n depth at bytes
unfolding causes_in
enough zero zero depth at bytes l h = refl
enough zero (suc n) depth at [] l h = refl
enough zero (suc n) depth at (b ∷ bytes) l h = absurd (omega arith)
enough (suc m) zero depth at [] l h = refl
enough (suc m) zero depth at (b ∷ bytes) l h = absurd (omega arith)
enough (suc m) (suc n) depth at [] l h = refl
enough (suc m) (suc n) depth at (b ∷ bytes) l h =
    cause_by-same (causes_in m) (causes_in n) depth at (b ∷ bytes) (λ d a fewer s. enough m n d a fewer (omega arith) (omega arith))

-- "rounding past the end finishes the list": nothing is left
pub causes_none : (depth at : ℕ) → causes depth at [] ≡ reading [] none
unfolding causes causes_in
causes_none depth at = refl

-- the causes of bytes: the first, what it holds, and those behind it, read in the same way
pub causes-step : (depth at : ℕ) (bytes : List ℕ) → 0 < length bytes → causes depth at bytes ≡ cause_by causes depth at bytes
unfolding causes causes_in
causes-step depth at [] h = absurd (omega arith)
causes-step depth at (b ∷ bytes) h =
    cause_by-same (causes_in (length bytes)) causes depth at (b ∷ bytes) (λ d a fewer s. enough (length bytes) (length fewer) d a fewer (omega arith) (omega arith))
