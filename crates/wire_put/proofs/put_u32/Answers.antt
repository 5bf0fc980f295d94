-- `wire_put::put_u32` meets its contract: its bytes are stored from the front on.
use borrow.Author.Rules.{rules}
use Rattle.wire_model.specs.BigEndian.{big_endian}
use Rattle.wire_put.proofs.Laws.{put_front}
use Rattle.wire_put.proofs.put_u32.Goals as goal

pub returns : goal.returns
unfolding big_endian
returns c = put_front c.args.out.now (big_endian 4 c.args.x) (search rules)
