-- The bytes go into what is left behind the first ones.
use Rattle.replay_words.proofs.Put.{put-behind}
use Rattle.replay_words.proofs.put_at.Goals as goal

pub returns : goal.returns
returns c = put-behind c.args.out.now c.args.bytes.now c.args.at c.requires c.put_bytes.ensures
