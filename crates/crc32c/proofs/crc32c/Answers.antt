-- `crc32c::crc32c` meets its contract: the sum of the whole, with all bits turned over at both ends.
use borrow.Author.Rules.{rules}
use Rattle.crc32c.proofs.crc32c.Goals as goal

pub update-requires : goal.update-requires
update-requires c = search rules

pub overflow_sub-result : goal.overflow_sub-result
overflow_sub-result c = search rules

pub returns : goal.returns
returns c = rw c.update.ensures
