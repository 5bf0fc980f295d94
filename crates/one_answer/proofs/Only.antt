-- One outcome for a promise: what that says, and the general lemma that shows it.
-- Assumes nothing.
use mathlib.Core.Path.{◌≡◌, sym, ap, ◌∙◌}
use Rattle.chunk_theorems.proofs.OneAnswer.{one_answer}

-- any two outcomes that meet the promise are equal
abbrev pub Only : {A : Type 0} → (A → Type 0) → Type 0
Only {A} Meets = (r s : A) → Meets r → Meets s → r ≡ s

-- a promise that names the answer
pub named-one : {A : Type 0} {b : A} → Only (λ (r : A). r ≡ b)
named-one r s p q = p ∙ sym q

-- the general lemma: a promise that fixes what an outcome tells fixes the outcome, if what it tells can be taken back
pub only : {A B : Type 0} (tells : A → B) (back : B → A) → ((a : A) → back (tells a) ≡ a) → {b : B} → Only (λ (r : A). tells r ≡ b)
only tells back inverse r s p q = one_answer tells back inverse p q

-- equal parts, equal wholes
pub both : {A B C : Type 0} (whole : A → B → C) {a c : A} {b d : B} → a ≡ c → b ≡ d → whole a b ≡ whole c d
both whole {a} {c} {b} {d} p q = ap (λ x. whole x b) p ∙ ap (whole c) q
