-- `chunks::Chunks::unsound` meets its contract: both conditions are tested.
use Rattle.chunks.specs.Message.{unsound}
use Rattle.chunks.proofs.Chunks.unsound.Goals as goal

pub returns : goal.returns
unfolding unsound
returns c = c.unsound.ensures
