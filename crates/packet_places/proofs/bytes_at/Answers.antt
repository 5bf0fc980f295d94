-- `packet_places::bytes_at` meets its contract: the step decides, and the part is what its places say.
use mathlib.Core.Path.{ap}
use native.Mathlib.Omega.{arith}
use Rattle.wire_model.specs.Refusal.{Told}
use Rattle.packet_chunks.specs.Chunks.{Spot}
use Rattle.packet_chunks.proofs.Steps.{Reached, reached}
use Rattle.packet_places.specs.Walk.{spot_bytes, bytes_at}
use Rattle.packet_places.proofs.bytes_at.Goals as goal

pub slice_bounds-result-count : goal.slice_bounds-result-count
slice_bounds-result-count c =
    let places : (let f = c.in-Ok-Some.found in let a = c.args in Reached a.packet.now a.at f.end f.next) = let a = c.args in reached a.packet.now a.at (rw c.in-Ok-Some.field-0-is at c.in-Ok-Some.ensures) in
    omega (arith, places)

pub slice_bounds-result-start : goal.slice_bounds-result-start
slice_bounds-result-start c =
    let places : (let f = c.in-Ok-Some.found in let a = c.args in Reached a.packet.now a.at f.end f.next) = let a = c.args in reached a.packet.now a.at (rw c.in-Ok-Some.field-0-is at c.in-Ok-Some.ensures) in
    omega (arith, places)

pub slice_bounds-result-end : goal.slice_bounds-result-end
slice_bounds-result-end c =
    let places : (let f = c.in-Ok-Some.found in let a = c.args in Reached a.packet.now a.at f.end f.next) = let a = c.args in reached a.packet.now a.at (rw c.in-Ok-Some.field-0-is at c.in-Ok-Some.ensures) in
    omega (arith, places)

pub returns-in-Ok-Some : goal.returns-in-Ok-Some
unfolding bytes_at
returns-in-Ok-Some c =
    let a = c.args in
    ap (λ (t : Told Spot). spot_bytes a.packet a.at t.values) (rw c.in-Ok-Some.field-0-is at c.in-Ok-Some.ensures)

pub returns-in-Ok-None : goal.returns-in-Ok-None
unfolding bytes_at
returns-in-Ok-None c =
    let a = c.args in
    ap (λ (t : Told Spot). spot_bytes a.packet a.at t.values) (rw c.in-Ok-None.field-0-is at c.in-Ok-None.ensures)

pub returns-in-Err : goal.returns-in-Err
unfolding bytes_at
returns-in-Err c =
    let a = c.args in
    ap (λ (t : Told Spot). spot_bytes a.packet a.at t.values) c.in-Err.ensures
