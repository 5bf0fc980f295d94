-- `packet_places::place_after` meets its contract: the step decides.
use mathlib.Core.Path.{ap}
use Rattle.wire_model.specs.Refusal.{Told}
use Rattle.packet_chunks.specs.Chunks.{Spot}
use Rattle.packet_places.specs.Walk.{spot_next, place_after}
use Rattle.packet_places.proofs.place_after.Goals as goal

pub returns-in-Ok-Some : goal.returns-in-Ok-Some
unfolding place_after
returns-in-Ok-Some c =
    let at = c.args.at in
    ap (λ (t : Told Spot). spot_next at t.values) (rw c.in-Ok-Some.field-0-is at c.in-Ok-Some.ensures)

pub returns-in-Ok-None : goal.returns-in-Ok-None
unfolding place_after
returns-in-Ok-None c =
    let at = c.args.at in
    ap (λ (t : Told Spot). spot_next at t.values) (rw c.in-Ok-None.field-0-is at c.in-Ok-None.ensures)

pub returns-in-Err : goal.returns-in-Err
unfolding place_after
returns-in-Err c =
    let at = c.args.at in
    ap (λ (t : Told Spot). spot_next at t.values) c.in-Err.ensures
