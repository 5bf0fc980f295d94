-- `chunk::chunk_header::read` meets its contract: what is read of the front are the header's fields, and each `return` is the first check that holds.
use mathlib.Core.Path.{refl}
use borrow.Author.Rules.{rules}
use borrow.Author.Tests.{lt-ltb, le-ltb}
use native.Mathlib.Omega.{arith}
use Rattle.wire_model.specs.BigEndian.{big_endian}
use Rattle.wire.proofs.Reading.{field}
use Rattle.chunk.specs.Layout.{header_bytes}
use Rattle.chunk.specs.Header.{header_read}
use Rattle.chunk.proofs.Headers.{header-whole}
use Rattle.chunk.proofs.chunk_header.read.Goals as goal

pub returns-then-raw-lt4 : goal.returns-then-raw-lt4
unfolding header_read
returns-then-raw-lt4 c =
    record {
      result_value = λ f. rw (lt-ltb _ 4 c.if-raw-lt4.true);
      room = tt;
    }

pub returns-then-length-lt4 : goal.returns-then-length-lt4
unfolding big_endian header_bytes header_read
returns-then-length-lt4 c =
    record {
      result_value = λ f.
          let s = field (header-whole f c.if-raw-lt4.false) 2 2 (omega arith) f.fits.size (search rules) refl c.get_u16-length.ensures in
          rw (le-ltb _ 4 c.if-raw-lt4.false, ← s, lt-ltb _ 4 c.if-length-lt4.true);
      room = tt;
    }

pub returns-then-raw-length : goal.returns-then-raw-length
unfolding big_endian header_bytes header_read
returns-then-raw-length c =
    record {
      result_value = λ f.
          let s = field (header-whole f c.if-raw-lt4.false) 2 2 (omega arith) f.fits.size (search rules) refl c.get_u16-length.ensures in
          rw (le-ltb _ 4 c.if-raw-lt4.false, ← s, le-ltb _ 4 c.if-length-lt4.false, lt-ltb _ _ c.if-raw-length.true);
      room = tt;
    }

pub returns : goal.returns
unfolding big_endian header_bytes header_read
returns c =
    record {
      result_value = λ f.
          let long = c.if-raw-lt4.false in
          let w = header-whole f long in
          let s = field w 2 2 (omega arith) f.fits.size (search rules) refl c.get_u16-length.ensures in
          let k = field w 0 1 (omega arith) f.fits.kind (search rules) refl c.get_u8-typ.ensures in
          let l = field w 1 1 (omega arith) f.fits.flags (search rules) refl c.get_u8-flags.ensures in
          rw (le-ltb _ 4 long, ← s, le-ltb _ 4 c.if-length-lt4.false, le-ltb _ _ c.if-raw-length.false, ← k, ← l);
      room = (omega arith, omega arith);
    }
