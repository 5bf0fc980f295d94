-- `chunk_forward_tsn::unmarshal` meets its contract: the header decides what is refused and how many pairs there are, and the point is the one in front.
use mathlib.Core.Path.{refl, ap}
use borrow.Author.Rules.{rules}
use native.Mathlib.Omega.{arith}
use lib.ListN.{length}
use Rattle.std.proofs.lemmas.Result.{err_from_is_err_and}
use Rattle.wire_model.specs.BigEndian.{big_endian}
use Rattle.wire.proofs.Reading.{field}
use Rattle.chunk.specs.Layout.{Header, header_bytes}
use Rattle.chunk.proofs.Headers.{header-front, headed_whole, told-refused, told-taken}
use Rattle.chunk_forward_tsn.specs.ForwardTsn.{Word, forward_checks, forward_read}
use Rattle.chunk_forward_tsn.proofs.unmarshal.Goals as goal

pub returns-in_err-h : goal.returns-in_err-h
unfolding forward_read
returns-in_err-h c f =
    let h = f.fields.header in
    let e = err_from_is_err_and c.from_residual.result c.from_residual.ensures.1 in
    rw (e.1, e.2, told-refused (forward_checks (length c.args.raw.now) h) h (c.in_err-h.ensures.result_value (header-front (big_endian 4) Word 4 f)))

pub returns : goal.returns
unfolding big_endian forward_read header_bytes
returns c f =
    let h = f.fields.header in
    let room = c.in_ok-h.ensures.room in
    let t = told-taken (forward_checks (length c.args.raw.now) h) h (c.in_ok-h.ensures.result_value (header-front (big_endian 4) Word 4 f)) in
    let w = headed_whole (big_endian 4) Word 4 f refl (omega (arith, room.0, room.1)) in
    rw (t.0, field w 4 4 (omega arith) f.fits.fields (search rules) refl c.get_u32-new_cumulative_tsn.ensures, ap (λ (x : Header). x.size) t.1)
