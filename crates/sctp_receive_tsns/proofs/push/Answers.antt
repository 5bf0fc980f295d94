-- `push` answers and leaves what the call below it does: the log plays no part there, and the TSN is noted in C's own log where one is logged.
use Rattle.data_fields.specs.Fields.{data_sent}
use Rattle.payload_model.specs.Queue.{row_of}
use Rattle.payload_model.specs.Log.{pushed_log}
use Rattle.sctp_receive_counts.proofs.Left.{log_noted}
use Rattle.sctp_receive_tsns.proofs.push.Goals as goal

pub returns : goal.returns
unfolding data_sent row_of
returns c = log_noted c.args.dup_tsn.now c.args.dups.now c.args.chunk.tsn _ c.flag.ensures c.put_counts.ensures c.note.ensures (rw c.of_counts-queue.ensures at c.push-answer.ensures) (pushed_log _ _ _ _)
