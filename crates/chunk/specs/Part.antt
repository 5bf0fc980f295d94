-- A part of the lent chunk, handed back where nothing is refused.
-- Assumes nothing.
use Rattle.std.specs.Prelude.{ℕ, ◌+◌, List, [], take, drop, Result}
use Rattle.std.specs.Borrow.{Bor}
use Rattle.wire_model.specs.Refusal as checks
use Rattle.refusal.specs.declared.Refusal.{Refusal}
use Rattle.refusal.specs.Told.{answer_told}

-- the part's bytes, and where it lies: its block of memory and the offset there
pub record Part : Type 0 where
  pub bytes : List ℕ
  pub place : ℕ × ℕ

abbrev pub no_part : Part
no_part = record { bytes = []; place = (0, 0) }

abbrev pub part_told : Result (Bor (List ℕ)) Refusal → checks.Told Part
part_told = answer_told no_part (λ (r : Bor (List ℕ)). record { bytes = r.now; place = r.ref_ptr })

-- "a part of the caller's own chunk, .. not copied": size bytes from byte start on
abbrev pub part_of : checks.Refusal → ℕ → ℕ → Bor (List ℕ) → checks.Told Part
part_of refusal start size raw = checks.answer no_part refusal (record { bytes = take size (drop start raw.now); place = (raw.ref_ptr.0, start + raw.ref_ptr.1) })
