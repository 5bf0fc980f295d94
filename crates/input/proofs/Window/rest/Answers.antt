-- `Window::rest` meets its contract: a part of the array is what stands between two places of it.
use Rattle.std.proofs.Common.{arith}
use Rattle.input.proofs.Shifted.{part}
use Rattle.input.proofs.Window.rest.Goals as goal

pub returns : goal.returns
returns c =
    let w = c.args.self.now in
    part w.bytes w.from w.to (omega arith)
