-- A register as it goes through bytes.
-- Assumes nothing.
use mathlib.Core.Path.{◌≡◌, refl, sym, ap, ◌∙◌}
use mathlib.Core.List.{List, ◌∷◌}
use Prim.Native.Nat.{ℕ, ◌+◌, ◌/◌, ◌%◌, ◌<◌, ◌≤◌}
use native.Mathlib.Nat.{mod-lt}
use native.Mathlib.Numerals.{add-one}
use native.Mathlib.Omega.{arith}
use lib.Bits.{bit_xor}
use lib.ListN.{length, get_or, drop, drop_of_length-le}
use lib.Seq.{drop-cons}
use Rattle.crc32c_table.specs.Crc.{byte_step, through}
use Rattle.crc32c_table.specs.Table.{Rule}
use Rattle.crc32c_table.proofs.Linear.{byte_split}

-- a byte goes in by the table's entry for the register's low byte with it
pub by_table : {words : List ℕ} → Rule words → (register : ℕ) {b byte : ℕ} → b < 256 → b ≡ byte → bit_xor (register / 256) (get_or words (bit_xor b register % 256) 0) ≡ byte_step register byte
by_table u register {b} l e =
    ap (bit_xor (register / 256)) (u.entry (bit_xor b register % 256) (mod-lt (bit_xor b register) (omega arith)))
    ∙ sym (byte_split register b l)
    ∙ ap (byte_step register) e

-- after i bytes: the rest takes r where all of them take the register at the start
pub record Walked (register : ℕ) (bytes : List ℕ) (r i : ℕ) : Type 0 where
  pub within : i ≤ length bytes
  pub rest : through r (drop i bytes) ≡ through register bytes

through-cons : (r b : ℕ) (bytes : List ℕ) → through r (b ∷ bytes) ≡ through (byte_step r b) bytes
unfolding through
through-cons r b bytes = refl

module _ {register : ℕ} {bytes : List ℕ} {r i : ℕ} (w : Walked register bytes r i) where
  pub walk_turn : {r' : ℕ} → i < length bytes → r' ≡ byte_step r (get_or bytes i 0) → Walked register bytes r' (i + 1)
  walk_turn h e =
      let rest = rw (drop-cons bytes i 0 h, through-cons, ← e) at w.rest in
      record { within = omega arith; rest = rw add-one rest }

  pub walk_end : length bytes ≤ i → r ≡ through register bytes
  unfolding through
  walk_end h = rw (drop_of_length-le bytes {i = i} h) at w.rest
