-- The gap report of a queue, as its call answers it.
-- Assumes nothing.
use Rattle.std.specs.Prelude.{ℕ, cond, List}
use Rattle.wire_model.specs.Refusal.{refuse, Told, says}
use Rattle.payload_model.specs.Queue.{Queue, held, unsound}
use Rattle.gap_model.specs.Gap.{reported}
use Rattle.refusal.specs.Told.{count_told}

-- the answer, and what the two lent lists hold in the end
pub record Lists : Type 0 where
  pub told : Told ℕ
  pub starts : List ℕ
  pub ends : List ℕ

abbrev pub lists : Told ℕ → List ℕ → List ℕ → Lists
lists t ss es = record { told = t; starts = ss; ends = es }

-- 0 of an unsound queue, else what the report answers and leaves
unfoldable pub gap_report : Queue → ℕ → List ℕ → List ℕ → Lists
gap_report q cumulative ss es =
    cond (unsound q) (lists (says (refuse 0) 0) ss es)
    (lists (count_told (reported (held q) cumulative ss es).answer) (reported (held q) cumulative ss es).starts (reported (held q) cumulative ss es).ends)
