-- `sctp_receive_sack_duplicate_tsns` meets its contract: what reading the fields says decides, and the counts say where the part stands.
use mathlib.Core.Path.{ap}
use borrow.Author.Rules.{rules}
use lib.ListN.{length}
use Rattle.chunk_selective_ack.specs.Layout.{Sack}
use Rattle.chunk_selective_ack.specs.Sack.{sack_held}
use Rattle.sack_fields.proofs.Answers.{sack-refused, sack-taken}
use Rattle.sctp_receive_places.specs.Places.{duplicates_span}
use Rattle.sctp_receive.proofs.sack_chunk.sctp_receive_sack_duplicate_tsns.Goals as goal

pub returns-in-Ok : goal.returns-in-Ok
unfolding duplicates_span sack_held
returns-in-Ok c f =
    let r = c.unmarshal-answer in
    let t = sack-taken (length c.args.raw.now) f.fields (rw c.in-Ok.is at (r.ensures f)) in
    rw (t.0, ← (ap (λ (x : Sack). x.blocks) t.1), ← (ap (λ (x : Sack). x.duplicates) t.1))

pub returns-in-Err : goal.returns-in-Err
unfolding duplicates_span
returns-in-Err c f =
    let r = c.unmarshal-answer in
    rw (sack-refused (length c.args.raw.now) f.fields (rw c.in-Err.is at (r.ensures f))) (search rules)
