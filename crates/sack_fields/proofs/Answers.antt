-- What a reader's answer says of the checks of a SACK chunk.
-- Assumes nothing.
use mathlib.Core.Path.{◌≡◌}
use Prim.Native.Nat.{ℕ}
use Rattle.wire_model.specs.Refusal.{none, refuse, first, says}
use Rattle.wire.proofs.Reading.{refused, accepted}
use Rattle.sack_entries.specs.Layout.{Sack, sack}
use Rattle.chunk.specs.Header.{Headed}
use Rattle.sack_fields.specs.Sack.{sack_checks, sack_read}

module _ (lent : ℕ) (h : Headed Sack) where
  pub sack-refused : {k : ℕ} → says (refuse k) (sack 0 0 0 0) ≡ sack_read lent h → first (sack_checks lent h) ≡ refuse k
  unfolding sack_read
  sack-refused t = refused (sack 0 0 0 0) h.fields (first (sack_checks lent h)) t

  pub sack-taken : {s : Sack} → says none s ≡ sack_read lent h → (first (sack_checks lent h) ≡ none) × (s ≡ h.fields)
  unfolding sack_read
  sack-taken t = accepted (sack 0 0 0 0) h.fields (first (sack_checks lent h)) t
