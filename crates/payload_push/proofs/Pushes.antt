-- What a push to a sound queue answers and leaves, by how its TSN stands to the cumulative one: the laws that its proof cites.
-- Assumes nothing.
use mathlib.Core.Path.{◌≡◌}
use mathlib.Core.Bool.{true, false, or-true}
use mathlib.Core.Logic.{◌⊎◌, inl, inr}
use Prim.Native.Nat.{ℕ, ◌^◌, ◌<◌, ◌≤◌}
use borrow.Author.Tests.{le-leb, lt-leb}
use Rattle.wire_model.specs.Refusal.{none, refuse, says}
use Rattle.serial_model.specs.Serial.{at_or_before, compared}
use Rattle.serial_model.specs.declared.Order.TheVariants.{Earlier, Same, Later, Opposite}
use Rattle.serial_model.specs.Compared.{is_at_or_before, at_or_before-told}
use Rattle.table.specs.Rows.{some, has_tsn}
use Rattle.table.specs.declared.Row.{Row}
use Rattle.payload_model.specs.Limits.{tsns_most}
use Rattle.payload_model.specs.Queue.{Queue, held, unsound, after, turned_away, logged, stored, pushed}

module _ (q : Queue) (r : Row) (cumulative : ℕ) (ok : unsound q ≡ false) where
  -- opposite: 17, and all stays
  pub push-opposite : compared 32 r.tsn cumulative ≡ Opposite → pushed q r cumulative ≡ after (says (refuse 17) false) q
  unfolding pushed
  push-opposite e = rw (ok, e)

  module _ (fits : r.tsn < 2 ^ 32) (fits' : cumulative < 2 ^ 32) where
    old-is : at_or_before 32 r.tsn cumulative ≡ is_at_or_before (compared 32 r.tsn cumulative)
    old-is = at_or_before-told 31 r.tsn cumulative fits fits'

    -- earlier, or the same: old
    pub push_old :
        (compared 32 r.tsn cumulative ≡ Earlier) ⊎ (compared 32 r.tsn cumulative ≡ Same) →
        pushed q r cumulative ≡ after (says none false) (logged q r.tsn)
    unfolding pushed turned_away
    push_old (inl e) = rw (ok, old-is, e, or-true (some (has_tsn r.tsn) (held q)))
    push_old (inr e) = rw (ok, old-is, e, or-true (some (has_tsn r.tsn) (held q)))

    -- later: by what is held, and whether there is room
    module _ (later : compared 32 r.tsn cumulative ≡ Later) where
      pub push-held : some (has_tsn r.tsn) (held q) ≡ true → pushed q r cumulative ≡ after (says none false) (logged q r.tsn)
      unfolding pushed turned_away
      push-held e = rw (ok, later, e)

      module _ (fresh : some (has_tsn r.tsn) (held q) ≡ false) where
        pub push-full : tsns_most ≤ q.count → pushed q r cumulative ≡ after (says (refuse 8) false) q
        unfolding pushed turned_away
        push-full h = rw (ok, old-is, later, fresh, le-leb tsns_most q.count h)

        pub push-new : q.count < tsns_most → pushed q r cumulative ≡ after (says none true) (stored q r)
        unfolding pushed turned_away
        push-new h = rw (ok, old-is, later, fresh, lt-leb tsns_most q.count h)
