-- `serial_tsns::sna32lt` meets its contract: "before" is what the comparison's answer says of it.
use Rattle.serial_model.specs.Compared.{before-told}
use Rattle.serial_tsns.proofs.sna32lt.Goals as goal

pub returns : goal.returns
returns c = rw (before-told 32, ← c.tsn_compare.ensures) c.earlier.ensures
