-- Four parts and as many zeros, side by side.
-- Assumes nothing.
use mathlib.Core.Path.{◌≡◌, sym, ap, ◌∙◌}
use mathlib.Core.List.{List}
use Prim.Native.Nat.{ℕ, ◌+◌, ◌*◌, ◌^◌, ◌<◌, ◌≤◌}
use native.Mathlib.Omega.{arith}
use lib.ListN.{length, get_or, take, drop, replicate, length-drop, length-replicate, get_or-replicate}
use lib.Seq.{get_or-take, get_or-drop, length-take-le}
use Rattle.crc32c_table.specs.Crc.{byte_step}
use Rattle.crc32c_table.specs.Table.{Rule}
use Rattle.crc32c_lanes.specs.Parts.{Quarters}
use Rattle.crc32c_lanes.proofs.Walk.{Walked, walk_turn, walk_end}
use Rattle.crc32c_lanes.proofs.Parts.{through-zeros}

pub record Lanes (words : List ℕ) (register : ℕ) (bytes : List ℕ) (size a b c d far i : ℕ) : Type 0 where
  pub rule : Rule words
  pub fits : 4 * size ≤ length bytes
  pub one : Walked register (take size bytes) a i
  pub two : Walked 0 (take size (drop size bytes)) b i
  pub three : Walked 0 (take size (drop (2 * size) bytes)) c i
  pub four : Walked 0 (take size (drop (3 * size) bytes)) d i
  pub zeros : Walked (2 ^ 31) (replicate size 0) far i

module _ {words : List ℕ} {register : ℕ} {bytes : List ℕ} {size a b c d far i : ℕ} (l : Lanes words register bytes size a b c d far i) where
  long : (p : ℕ) → p + size ≤ length bytes → length (take size (drop p bytes)) ≡ size
  long p h = length-take-le size (drop p bytes) (rw length-drop (omega arith))

  front : length (take size bytes) ≡ size
  front = length-take-le size bytes (omega arith)

  byte : (p : ℕ) → i < size → get_or bytes (p + i) 0 ≡ get_or (take size (drop p bytes)) i 0
  byte p h = sym (get_or-take size (drop p bytes) i 0 h ∙ get_or-drop p bytes i 0)

  -- each lane takes its next byte
  pub lanes_turn : {a' b' c' d' far' : ℕ} → i < size → a' ≡ byte_step a (get_or bytes i 0) → b' ≡ byte_step b (get_or bytes (size + i) 0) → c' ≡ byte_step c (get_or bytes (2 * size + i) 0)
      → d' ≡ byte_step d (get_or bytes (3 * size + i) 0) → far' ≡ byte_step far 0 → Lanes words register bytes size a' b' c' d' far' (i + 1)
  lanes_turn h p q r s z =
      record {
        rule = l.rule;
        fits = l.fits;
        one = walk_turn l.one (rw front h) (p ∙ ap (byte_step a) (sym (get_or-take size bytes i 0 h)));
        two = walk_turn l.two (rw (long size (omega arith)) h) (q ∙ ap (byte_step b) (byte size h));
        three = walk_turn l.three (rw (long (2 * size) (omega arith)) h) (r ∙ ap (byte_step c) (byte (2 * size) h));
        four = walk_turn l.four (rw (long (3 * size) (omega arith)) h) (s ∙ ap (byte_step d) (byte (3 * size) h));
        zeros = walk_turn l.zeros (rw length-replicate h) (z ∙ ap (byte_step far) (sym (get_or-replicate {A = ℕ} size i 0 0 h)));
      }

  pub lanes_end : size ≤ i → Quarters register bytes size a b c d far
  lanes_end h =
      record {
        first = walk_end l.one (rw front h);
        second = walk_end l.two (rw (long size (omega arith)) h);
        third = walk_end l.three (rw (long (2 * size) (omega arith)) h);
        fourth = walk_end l.four (rw (long (3 * size) (omega arith)) h);
        zeros = walk_end l.zeros (rw length-replicate h) ∙ through-zeros size (2 ^ 31);
      }
