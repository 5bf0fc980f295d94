-- `inflight_parts::sent_of` meets its contract: the chunk is the row's, and each mark its bit.
use Rattle.inflight_model.specs.Queue.{sent_of}
use Rattle.inflight_model.specs.Answers.{sent_given}
use Rattle.inflight_parts.proofs.sent_of.Goals as goal

pub returns : goal.returns
unfolding sent_given sent_of
returns c = rw c.chunk_of-queued.ensures
