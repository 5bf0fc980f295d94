-- No second outcome of a call on causes fits its promise: the answer and the four lists are fixed.
-- Assumes nothing.
use mathlib.Core.Path.{◌≡◌, refl, sym, ap, ◌∙◌}
use mathlib.Core.List.{List}
use Prim.Native.Nat.{ℕ}
use Rattle.std.specs.Prelude.{Result}
use Rattle.wire_model.specs.Refusal.{Told}
use Rattle.refusal.specs.Told.{count_told}
use Rattle.refusal.specs.declared.Refusal.{Refusal}
use Rattle.refusal.proofs.Reasons.{answer_back, answer_inverse}
use Rattle.cause_parts.specs.Lists.{Lists}
use Rattle.cause_report.specs.Report.{Report, report, reported}
use Rattle.one_answer.proofs.Only.{Only, only, both}

-- the answer, and what the lists hold in the end
pub record Listed : Type 0 where
  pub gives : Result ℕ Refusal
  pub lists : Lists

abbrev answered : Told ℕ → Result ℕ Refusal
answered = answer_back (λ (n : ℕ). n)

answered-back : (c : Result ℕ Refusal) → answered (count_told c) ≡ c
answered-back c = answer_inverse 0 (λ (n : ℕ). n) (λ (n : ℕ). n) (λ (n : ℕ). refl) c

listed-one : {b : Report} → Only (λ (o : Listed). report (count_told o.gives) o.lists ≡ b)
listed-one r s p q =
    let e : report (count_told r.gives) r.lists ≡ report (count_told s.gives) s.lists = p ∙ sym q in
    both (λ (c : Result ℕ Refusal) (l : Lists). record { gives = c; lists = l })
    (only count_told answered answered-back r.gives s.gives (ap (λ (x : Report). x.count) e) refl)
    (ap (λ (x : Report). x.lists) e)

module _ (raw : List ℕ) (l : Lists) where
  pub error_unmarshal_one : Only (λ (o : Listed). report (count_told o.gives) o.lists ≡ reported 9 raw l)
  error_unmarshal_one = listed-one

  pub abort_unmarshal_one : Only (λ (o : Listed). report (count_told o.gives) o.lists ≡ reported 6 raw l)
  abort_unmarshal_one = listed-one
