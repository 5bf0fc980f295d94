-- How bytes are put at the front: over the width.
-- Assumes nothing.
use mathlib.Core.Path.{◌≡◌, sym, ◌∙◌}
use mathlib.Core.List.{List, ◌++◌, append_assoc}
use Prim.Native.Nat.{ℕ, ◌+◌, ◌≤◌}
use native.Mathlib.Nat.{zero-add}
use native.Mathlib.Omega.{arith}
use lib.ListN.{length, take, drop}
use lib.Seq.{sets, sets-eq, take_at, drop_at, take-add, drop-drop, length-take-le}
use borrow.Rule.Slice.PartMut.{put_mid}
use Rattle.wire_model.specs.BigEndian.{over}

-- stores from the front on
pub put_front : (out bytes : List ℕ) → length bytes ≤ length out → sets out 0 bytes ≡ over out bytes
unfolding over
put_front out bytes h = sets-eq bytes out 0 (rw zero-add h) ∙ rw zero-add

-- one piece more behind those that stand at the front
pub next_piece : (out bytes : List ℕ) (at k : ℕ) → at + k ≤ length bytes → put_mid at k (over out (take at bytes)) (take k (drop at bytes)) ≡ over out (take (at + k) bytes)
unfolding over
next_piece out bytes at k h =
    let l : length (take at bytes) ≡ at = length-take-le at bytes (omega arith) in
    let m : length (take (at + k) bytes) ≡ at + k = length-take-le (at + k) bytes h in
    let d : drop k (drop at (take at bytes ++ drop at out)) ≡ drop (at + k) out = rw (drop_at (take at bytes) (drop at out) at l) (drop-drop k at out) in
    rw (l, m, take_at (take at bytes) (drop at out) at l, d, take-add at k bytes) (sym (append_assoc (take at bytes) (take k (drop at bytes)) (drop (at + k) out)))
