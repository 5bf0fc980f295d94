-- `serial_ssns::sna16lt` meets its contract: "before" is what the comparison's answer says of it.
use Rattle.serial_model.specs.Compared.{before-told}
use Rattle.serial_ssns.proofs.sna16lt.Goals as goal

pub returns : goal.returns
returns c = rw (before-told 16, ← c.ssn_compare.ensures) c.earlier.ensures
