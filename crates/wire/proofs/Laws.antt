-- How a number is read byte by byte: over the width.
-- Assumes nothing.
use mathlib.Core.Path.{◌≡◌, sym}
use mathlib.Core.List.{List}
use Prim.Native.Nat.{ℕ, suc, ◌+◌, ◌*◌, ◌<◌}
use native.Mathlib.Nat.{mod-eq_of_lt}
use native.Mathlib.Omega.{arith}
use lib.ListN.{length, get_or, take, drop, length-drop}
use lib.Seq.{take-suc, drop-cons, get_or-drop}
use Rattle.wire_model.specs.BigEndian.{big_endian}
use Rattle.wire_model.specs.Facts.{big_endian-more}

-- the first byte of a number
pub read_first : (raw : List ℕ) (at b : ℕ) → at < length raw → b < 256 → b ≡ get_or raw at 0 → take 1 (drop at raw) ≡ big_endian 1 b
unfolding big_endian
read_first raw at b h l e = rw (drop-cons raw at 0 h, ← e, mod-eq_of_lt l)

-- each further byte
pub read_more : (raw : List ℕ) (at k x b : ℕ) → at + k < length raw → b < 256 → b ≡ get_or raw (at + k) 0 → take k (drop at raw) ≡ big_endian k x → take (suc k) (drop at raw) ≡ big_endian (suc k) (x * 256 + b)
read_more raw at k x b h l e s =
    let m : k < length (drop at raw) = rw length-drop (omega arith) in
    rw (take-suc (drop at raw) k 0 m, s, get_or-drop, ← e) (sym (big_endian-more k x b l))
