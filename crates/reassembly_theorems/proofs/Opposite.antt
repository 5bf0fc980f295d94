-- An unordered skip does not stop at a fragment that is opposite to its TSN (document 02, M-107): neither is after the other.
-- Assumes nothing.
use mathlib.Core.Path.{◌≡◌, refl, sym, ◌∙◌}
use mathlib.Core.Bool.{true, false, true≢false}
use mathlib.Core.List.{List, ◌∷◌}
use Prim.Native.Nat.{ℕ}
use Rattle.serial_model.specs.Serial.{before, compared, is_opposite, opposite}
use Rattle.serial_model.specs.declared.Order.{Order}
use Rattle.serial_model.specs.declared.Order.TheVariants.{Earlier, Same, Later, Opposite}
use Rattle.serial_model.specs.Compared.{is_before, before-told}
use Rattle.fragments.specs.Frag.{Frag}
use Rattle.fragments.specs.Words.{past}
use Rattle.reassembly_state.specs.Model.{Queue, queue, skip_unordered}

not_before : (a b : ℕ) → opposite 32 a b ≡ true → before 32 a b ≡ false
not_before a b e = before-told 32 a b ∙ go (compared 32 a b) e
  where
    go : (o : Order) → is_opposite o ≡ true → is_before o ≡ false
    go Earlier f = absurd (true≢false (sym f))
    go Same f = refl
    go Later f = refl
    go Opposite f = refl

-- the queue with these loose fragments
abbrev pub with_loose : Queue → List Frag → Queue
with_loose q l = queue q.si q.next q.max q.finished l q.ordered

-- Such a fragment goes, and the skip goes on behind it, as if it had not been there.
pub opposite-passed :
    (q : Queue) (t : ℕ) (x : Frag) (xs : List Frag) → opposite 32 t x.tsn ≡ true → skip_unordered (with_loose q (x ∷ xs)) t ≡ skip_unordered (with_loose q xs) t
unfolding skip_unordered past
opposite-passed q t x xs e = rw (not_before t x.tsn e)
