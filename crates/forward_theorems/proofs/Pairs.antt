-- The pairs of a part: whatever bytes it has, it is some, so the promise says something of every part; and the part of a chunk is the pairs that were written.
-- Assumes nothing.
use mathlib.Core.Path.{◌≡◌, sym, ◌∙◌}
use mathlib.Core.List.{List}
use Prim.Native.Nat.{ℕ, ◌*◌, ◌/◌, ◌^◌, ◌<◌}
use native.Mathlib.Omega.{arith}
use lib.ListN.{length, get_or, take}
use lib.Seq.{take_all}
use Rattle.wire.proofs.Exists.{Bytes}
use Rattle.entries.proofs.Entries.{entries_length, any-pairs, entry_bytes}
use Rattle.chunk_forward_tsn.specs.Layout.{pairs_bytes}
use Rattle.forward_tsn_marshal.proofs.ForwardBytes.{pair_entries, bytes-pairs}
use Rattle.forward_tsn.specs.Applied.{Pairs}

-- whatever its bytes are, a part is some pairs
pub pairs-some : (part : List ℕ) → Bytes part → Pairs part
pairs-some part by =
    let n = length part / 4 in
    let e = entry_bytes part by 0 n (omega arith) in
    let (streams, ssns, s, t, a, b, is) = any-pairs n (take (4 * n) part) e.0 e.1 in
    record { streams = streams; ssns = ssns; count = s; same = t; small = a; less = b; is = sym (bytes-pairs streams ssns (omega arith) ∙ is) }

-- the part of a chunk is the pairs of the chunk
abbrev pub pairs-own : (streams ssns : List ℕ) → length streams ≡ length ssns → ((i : ℕ) → get_or streams i 0 < 2 ^ 16) → ((i : ℕ) → get_or ssns i 0 < 2 ^ 16) → Pairs (pairs_bytes streams ssns)
pairs-own streams ssns same small less =
    let size = entries_length pair_entries streams ssns same in
    record {
      streams = streams;
      ssns = ssns;
      count = omega (arith, size);
      same = omega (arith, size);
      small = small;
      less = less;
      is = take_all (4 * (length (pairs_bytes streams ssns) / 4)) (pairs_bytes streams ssns) (omega (arith, size));
    }
