-- `serial_steps::ssn_next` meets its contract: the next number is one more, wrapped.
use Rattle.std.proofs.Common.{rules}
use Rattle.serial_steps.proofs.ssn_next.Goals as goal

pub wrapping_add_u16-requires : goal.wrapping_add_u16-requires
wrapping_add_u16-requires c = search rules

pub returns : goal.returns
returns c = rw c.wrapping_add_u16.ensures.value
