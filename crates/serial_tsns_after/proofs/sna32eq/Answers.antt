-- `serial_tsns_after::sna32eq` meets its contract: the test is the definition's.
use mathlib.Core.Path.{refl}
use Rattle.serial_tsns_after.proofs.sna32eq.Goals as goal

pub returns : goal.returns
returns c = refl
