-- `user_data` meets its contract: the header decides what is refused, and else its length says where the part ends.
use mathlib.Core.Path.{ap}
use borrow.Author.Rules.{rules}
use lib.ListN.{length}
use Rattle.chunk.specs.Layout.{Header}
use Rattle.chunk.proofs.Headers.{told-refused, told-taken}
use Rattle.chunk_payload_data.specs.Data.{data_checks}
use Rattle.sctp_receive_places.specs.Places.{user_span}
use Rattle.sctp_receive_codecs.proofs.user_data.Goals as goal

pub returns-in-Ok : goal.returns-in-Ok
unfolding user_span
returns-in-Ok c f =
    let t = told-taken (data_checks (length c.args.raw.now) f.fields) f.fields (rw c.in-Ok.is at (c.header-answer.ensures.result_value f)) in
    rw (t.0, ← (ap (λ (x : Header). x.size) t.1))

pub returns-in-Err : goal.returns-in-Err
unfolding user_span
returns-in-Err c f =
    let t = told-refused (data_checks (length c.args.raw.now) f.fields) f.fields (rw c.in-Err.is at (c.header-answer.ensures.result_value f)) in
    rw t (search rules)
