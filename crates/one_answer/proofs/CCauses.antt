-- No second outcome of a C call on causes fits its promise: the result, the count and the four lists are fixed.
-- Assumes nothing.
use mathlib.Core.Path.{◌≡◌, sym, ap, ◌∙◌}
use mathlib.Core.List.{List}
use Prim.Native.Nat.{ℕ}
use Rattle.cause_parts.specs.Lists.{Lists}
use Rattle.cause_report.specs.Report.{Report, report, reported}
use Rattle.sctp_receive_result.specs.Result.{told}
use Rattle.one_answer.proofs.Only.{Only, both}
use Rattle.one_answer.proofs.C.{Said, Word, same_said}

-- the result and the count, and what the lists hold in the end
pub record Listed : Type 0 where
  pub said : Said ℕ
  pub lists : Lists

listed-one : {b : Report} → Only (λ (o : Listed). Word o.said.result × (report (told o.said.result o.said.values) o.lists ≡ b))
listed-one r s p q =
    let e : report (told r.said.result r.said.values) r.lists ≡ report (told s.said.result s.said.values) s.lists = p.1 ∙ sym q.1 in
    both (λ (c : Said ℕ) (l : Lists). record { said = c; lists = l })
    (same_said r.said s.said p.0 q.0 (ap (λ (x : Report). x.count) e))
    (ap (λ (x : Report). x.lists) e)

module _ (raw : List ℕ) (l : Lists) where
  pub c_error_unmarshal_one : Only (λ (o : Listed). Word o.said.result × (report (told o.said.result o.said.values) o.lists ≡ reported 9 raw l))
  c_error_unmarshal_one = listed-one

  pub c_abort_unmarshal_one : Only (λ (o : Listed). Word o.said.result × (report (told o.said.result o.said.values) o.lists ≡ reported 6 raw l))
  c_abort_unmarshal_one = listed-one
