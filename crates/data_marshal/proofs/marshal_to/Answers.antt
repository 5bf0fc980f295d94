-- `data_marshal::marshal_to` meets its contract: what is empty or too long is refused, and else header, fields and user data stand one behind the other.
use borrow.Author.Tests.{eq-eqb, ne_eqb, lt-ltb, le-ltb}
use lib.ListN.{length}
use Rattle.wire.proofs.Writing.{write_short, write_done}
use Rattle.data_marshal.specs.Layout.{data_value, data_chunk}
use Rattle.data_marshal.specs.Checks.{sent, size_checks}
use Rattle.chunk.proofs.Headers.{chunk-put}
use Rattle.data_marshal.proofs.DataBytes.{data_value-length, data_chunk-length}
use Rattle.data_marshal.proofs.marshal_to.Goals as goal

pub returns-then-user-eq0 : goal.returns-then-user-eq0
returns-then-user-eq0 c = rw (eq-eqb _ 0 c.if-user-eq0.true)

pub returns-then-user-gt65519 : goal.returns-then-user-gt65519
returns-then-user-gt65519 c = rw (ne_eqb _ 0 c.if-user-eq0.false, lt-ltb 65519 _ c.if-user-gt65519.true)

pub returns-then-out-size : goal.returns-then-out-size
returns-then-out-size c =
    let a = c.args in
    let d = sent a.tsn a.stream_identifier a.stream_sequence_number a.payload_type in
    write_short (size_checks (length a.user.now)) (data_chunk a.flags d a.user.now) a.out.now
    (rw (ne_eqb _ 0 c.if-user-eq0.false, le-ltb 65519 _ c.if-user-gt65519.false)) (data_chunk-length a.flags d a.user.now) c.if-out-size.true

pub returns : goal.returns
unfolding data_value
returns c =
    let a = c.args in
    let out = a.out.now in
    let user = a.user.now in
    let d = sent a.tsn a.stream_identifier a.stream_sequence_number a.payload_type in
    write_done (size_checks (length user)) (data_chunk a.flags d user) out
    (rw (ne_eqb _ 0 c.if-user-eq0.false, le-ltb 65519 _ c.if-user-gt65519.false)) (data_chunk-length a.flags d user) c.if-out-size.false
    (chunk-put 0 a.flags 12 (data_value d) user out (data_value-length d) c.put_front_4224.ensures c.put_bytes.ensures)
