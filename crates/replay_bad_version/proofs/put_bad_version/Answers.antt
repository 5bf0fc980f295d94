-- `replay_bad_version::put_bad_version` meets its contract: its one text goes to the front.
use Rattle.replay_words.proofs.Put.{all-put}
use Rattle.replay_bad_version.proofs.put_bad_version.Goals as goal

pub returns : goal.returns
returns c = all-put c.put_at.ensures
