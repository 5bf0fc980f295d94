-- A TSN opposite to the cumulative one, or to the one up to which TSNs go (document 02, M-107).
-- Assumes nothing.
use mathlib.Core.Path.{◌≡◌, refl, sym, ◌∙◌}
use mathlib.Core.Bool.{Bool, true, false, cond, ◌&&◌, true≢false}
use mathlib.Core.List.{List, [], ◌∷◌}
use Prim.Native.Nat.{ℕ, ◌^◌, ◌<◌}
use lib.Dec.{ltb}
use borrow.Author.Tests.{ltb-true}
use Rattle.wire_model.specs.Refusal.{none, refuse, says}
use Rattle.serial_model.specs.Serial.{at_or_before, compared, is_opposite, opposite}
use Rattle.serial_model.specs.declared.Order.{Order}
use Rattle.serial_model.specs.declared.Order.TheVariants.{Earlier, Same, Later, Opposite}
use Rattle.serial_model.specs.Facts.{both}
use Rattle.serial_model.specs.Compared.{is_at_or_before, at_or_before-told}
use Rattle.table.specs.Rows.{some, kept, has_tsn}
use Rattle.table.specs.declared.Row.{Row}
use Rattle.payload_model.specs.Queue.{Queue, held, unsound, after, turned_away, pushed, can_push, stays_after, popped_up_to}
use Rattle.payload_model.proofs.Laws.{front-back}

-- such a TSN is neither before nor the same
not_old : (a b : ℕ) → a < 2 ^ 32 → b < 2 ^ 32 → opposite 32 a b ≡ true → at_or_before 32 a b ≡ false
not_old a b ha hb e = at_or_before-told 31 a b ha hb ∙ go (compared 32 a b) e
  where
    go : (o : Order) → is_opposite o ≡ true → is_at_or_before o ≡ false
    go Earlier f = absurd (true≢false (sym f))
    go Same f = absurd (true≢false (sym f))
    go Later f = refl
    go Opposite f = refl

module _ (q : Queue) (ok : unsound q ≡ false) where
  -- "refusal 17, before the duplicate test, with no logging": whether it is held or not, and whatever room there is.
  pub opposite-refused : (r : Row) (cumulative : ℕ) → opposite 32 r.tsn cumulative ≡ true → pushed q r cumulative ≡ after (says (refuse 17) false) q
  unfolding pushed
  opposite-refused r cumulative e = rw (ok, e)

  -- "`can_push` stays": such a TSN can be pushed, by its answer, where it is not held.
  pub opposite_can_push :
      (tsn cumulative : ℕ) → tsn < 2 ^ 32 → cumulative < 2 ^ 32 → opposite 32 tsn cumulative ≡ true → some (has_tsn tsn) (held q) ≡ false →
      can_push q tsn cumulative ≡ says none true
  unfolding can_push turned_away
  opposite_can_push tsn cumulative ht hc e h = rw (ok, h, not_old tsn cumulative ht hc e)

  -- "`pop_up_to` keeps an opposite TSN": the held records that are opposite to the given TSN are the same ones after it, in the same order.
  module _ (tsn : ℕ) (fits : tsn < 2 ^ 32) where
    abbrev pub across : Row → Bool
    across r = ltb r.tsn (2 ^ 32) && opposite 32 r.tsn tsn

    stays : (r : Row) → across r ≡ true → stays_after tsn r ≡ true
    stays r e = let t = both _ _ e in rw (not_old r.tsn tsn (ltb-true _ _ t.0) fits t.1)

    thin : (rs : List Row) → kept across (kept (stays_after tsn) rs) ≡ kept across rs
    unfolding kept
    thin [] = refl
    thin (r ∷ rs) = go (stays_after tsn r) refl (across r) refl (thin rs)
      where
        go :
            (s : Bool) → stays_after tsn r ≡ s → (a : Bool) → across r ≡ a → kept across (kept (stays_after tsn) rs) ≡ kept across rs →
            kept across (cond s (r ∷ kept (stays_after tsn) rs) (kept (stays_after tsn) rs)) ≡ cond a (r ∷ kept across rs) (kept across rs)
        go true f a e h = rw (e, h)
        go false f true e h = absurd (true≢false (sym (stays r e) ∙ f))
        go false f false e h = h

    pub opposite-kept : kept across (held (popped_up_to q tsn).queue) ≡ kept across (held q)
    unfolding popped_up_to
    opposite-kept = rw (ok, front-back q.rows (kept (stays_after tsn) (held q))) (thin (held q))
