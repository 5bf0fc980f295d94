-- `serial_ssns_after::sna16eq` meets its contract: the test is the definition's.
use mathlib.Core.Path.{refl}
use Rattle.serial_ssns_after.proofs.sna16eq.Goals as goal

pub returns : goal.returns
returns c = refl
