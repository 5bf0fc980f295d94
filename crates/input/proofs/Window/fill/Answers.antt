-- `Window::fill` meets its contract: what is read goes behind what was not used.
use Rattle.std.proofs.Common.{◌+◌, ◌-◌, arith}
use Rattle.moves_model.specs.Lists.{slice}
use Rattle.input.proofs.Shifted.{in_front}
use Rattle.input.proofs.Window.fill.Goals as goal

pub returns-in_err-more : goal.returns-in_err-more
returns-in_err-more g c =
    let old = c.args.self.now in
    let w = c.shift.new.self in
    let to = c.shift.ensures in
    in_front w.bytes (slice old.from old.to old.bytes) old.bytes c.read_full.new.bytes w.from w.to (262144 - w.to) w.to to.bytes to.from to.to (omega arith)

pub returns-in_ok-more : goal.returns-in_ok-more
returns-in_ok-more g c =
    let old = c.args.self.now in
    let w = c.shift.new.self in
    let to = c.shift.ensures in
    in_front w.bytes (slice old.from old.to old.bytes) old.bytes c.read_full.new.bytes w.from w.to (262144 - w.to) (w.to + c.in_ok-more.more) to.bytes to.from to.to (omega arith)
