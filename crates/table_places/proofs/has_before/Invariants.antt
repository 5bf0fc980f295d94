-- `table_places::has_before` meets its contract: so far it is whether one of the words passed is before the TSN.
use Rattle.std.proofs.Common.{◌≡◌, take}
use Rattle.std.specs.List.{list_any}
use Rattle.serial_model.specs.Serial.{before}
use Rattle.table_places.proofs.has_before.Given as goal

abbrev pub invariant-loop-held : goal.invariant-loop-held
invariant-loop-held l = l.found ≡ list_any (λ word. before 32 word l.tsn) (take l.held-index l.held-items)
