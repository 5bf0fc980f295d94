-- `Window::consume` meets its contract: the place goes on by as many, or to where there are none.
use Rattle.std.proofs.Common.{arith}
use Rattle.input.proofs.Shifted.{used}
use Rattle.input.proofs.Window.consume.Goals as goal

pub returns : goal.returns
returns c =
    let w = c.args.self.now in
    used w.bytes w.from w.to c.args.n 18446744073709551615 c.min-self.result (omega arith) (omega arith)
