-- `packet_body::put_padded` meets its contract: of the four zeros those behind the chunk stay.
use mathlib.Core.Path.{◌≡◌, sym, ap, ◌∙◌}
use Prim.Native.Nat.{◌+◌, ◌-◌, ◌≤◌}
use native.Mathlib.Omega.{arith}
use lib.ListN.{length, length-take, length-drop}
use Rattle.packet_parts.specs.Fronts.{rounded}
use Rattle.packet_body.proofs.Padding.{padded-length, padded-put}
use Rattle.packet_body.proofs.put_padded.Goals as goal

pub overflow_sub-last : goal.overflow_sub-last
unfolding rounded
overflow_sub-last c =
    let room : (let a = c.args in let end = c.padded_size-last.result in (end ≡ rounded (length a.chunk.now)) × (4 ≤ length a.chunk.now) × (length a.chunk.now ≤ end) × (end ≤ length a.out.now)) = let fits = padded-length c.args.chunk.now in let end = c.padded_size-last.ensures ∙ ap rounded (sym c.requires.chunk_len) in (end, omega (arith, c.requires), omega arith, omega (arith, c.requires)) in
    omega (arith, room)

pub slice_bounds-put_u32-count : goal.slice_bounds-put_u32-count
unfolding rounded
slice_bounds-put_u32-count c =
    let room : (let a = c.args in let end = c.padded_size-last.result in (end ≡ rounded (length a.chunk.now)) × (4 ≤ length a.chunk.now) × (length a.chunk.now ≤ end) × (end ≤ length a.out.now)) = let fits = padded-length c.args.chunk.now in let end = c.padded_size-last.ensures ∙ ap rounded (sym c.requires.chunk_len) in (end, omega (arith, c.requires), omega arith, omega (arith, c.requires)) in
    omega (arith, room)

pub slice_bounds-put_u32-start : goal.slice_bounds-put_u32-start
unfolding rounded
slice_bounds-put_u32-start c =
    let room : (let a = c.args in let end = c.padded_size-last.result in (end ≡ rounded (length a.chunk.now)) × (4 ≤ length a.chunk.now) × (length a.chunk.now ≤ end) × (end ≤ length a.out.now)) = let fits = padded-length c.args.chunk.now in let end = c.padded_size-last.ensures ∙ ap rounded (sym c.requires.chunk_len) in (end, omega (arith, c.requires), omega arith, omega (arith, c.requires)) in
    omega (arith, room)

pub put_u32-requires : goal.put_u32-requires
unfolding rounded
put_u32-requires c =
    let room : (let a = c.args in let end = c.padded_size-last.result in (end ≡ rounded (length a.chunk.now)) × (4 ≤ length a.chunk.now) × (length a.chunk.now ≤ end) × (end ≤ length a.out.now)) = let fits = padded-length c.args.chunk.now in let end = c.padded_size-last.ensures ∙ ap rounded (sym c.requires.chunk_len) in (end, omega (arith, c.requires), omega arith, omega (arith, c.requires)) in
    simp (length-take, length-drop) (omega (arith, room))

pub put_bytes-requires : goal.put_bytes-requires
unfolding rounded
put_bytes-requires c =
    let room : (let a = c.args in let end = c.padded_size-last.result in (end ≡ rounded (length a.chunk.now)) × (4 ≤ length a.chunk.now) × (length a.chunk.now ≤ end) × (end ≤ length a.out.now)) = let fits = padded-length c.args.chunk.now in let end = c.padded_size-last.ensures ∙ ap rounded (sym c.requires.chunk_len) in (end, omega (arith, c.requires), omega arith, omega (arith, c.requires)) in
    omega (arith, room)

pub returns : goal.returns
unfolding rounded
returns c =
    let room : (let a = c.args in let end = c.padded_size-last.result in (end ≡ rounded (length a.chunk.now)) × (4 ≤ length a.chunk.now) × (length a.chunk.now ≤ end) × (end ≤ length a.out.now)) = let fits = padded-length c.args.chunk.now in let end = c.padded_size-last.ensures ∙ ap rounded (sym c.requires.chunk_len) in (end, omega (arith, c.requires), omega arith, omega (arith, c.requires)) in
    let a = c.args in
    let r = room in
    let end : c.padded_size-last.result - 4 + 4 ≡ rounded (length a.chunk.now) = omega arith in
    c.put_bytes.ensures ∙ padded-put a.out.now a.chunk.now (c.padded_size-last.result - 4) r.1 end (omega arith) c.put_u32.ensures
