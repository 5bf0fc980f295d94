-- `serial_steps::tsn_offset` meets its contract: what is added to `from` to wrap to `to` is how far `to` is ahead.
use Rattle.std.proofs.Common.{sym, rules}
use Rattle.serial_model.specs.Facts.{ahead-is}
use Rattle.serial_steps.proofs.tsn_offset.Goals as goal

pub returns : goal.returns
returns c = sym (ahead-is 32 (search rules) (search rules) c.wrapping_sub_u32.ensures.value)
