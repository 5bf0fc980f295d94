-- What the result of a C call has. Tied to no function.
-- Assumes nothing.
use Rattle.std.specs.Prelude.{◌≡◌, refl, Bool, true, false, cond, ℕ, suc, ◌-◌, ◌%◌, ◌<◌, ◌^◌, eqb, ℤ, pos, negsuc}
use Rattle.std.proofs.Common.{sym, ap, ◌∙◌, arith, SFits, eqb-true}
use Rattle.std.specs.Int.{w32}
use Rattle.std.proofs.lemmas.Bool.{eqb-false}
use Rattle.wire_model.specs.Refusal.{Refusal, none, refuse}
use Rattle.sctp_receive_result.specs.Result.{refusal_of}

-- a refusal by a number: 0 for none
abbrev number : Refusal → ℕ
number none = 0
number (refuse k) = suc k

below : (k : ℕ) → k < 2 ^ 31 → number (refusal_of (negsuc k)) ≡ (4294967296 - k) % 4294967296
below k h = go (eqb k 0) refl
  where
    go : (b : Bool) → eqb k 0 ≡ b → number (cond b none (refuse (4294967295 - k))) ≡ (4294967296 - k) % 4294967296
    go true e = let z : k ≡ 0 = eqb-true k 0 e in omega arith
    go false e = let z : k ≡ 0 → ⊥ = eqb-false k 0 e in omega arith

-- no two results of 32 bits say the same
pub result_one : (a b : ℤ) → SFits w32 a → SFits w32 b → refusal_of a ≡ refusal_of b → a ≡ b
result_one (pos k) (pos l) f g e = let n : suc k ≡ suc l = ap number e in ap pos (omega arith)
result_one (pos k) (negsuc l) f g e =
    let fk = f.sfits in let gl = g.sfits in
    let n = ap number e ∙ below l gl in absurd (omega arith)
result_one (negsuc k) (pos l) f g e =
    let fk = f.sfits in let gl = g.sfits in
    let n = sym (below k fk) ∙ ap number e in absurd (omega arith)
result_one (negsuc k) (negsuc l) f g e =
    let fk = f.sfits in let gl = g.sfits in
    let n = sym (below k fk) ∙ ap number e ∙ below l gl in ap negsuc (omega arith)
