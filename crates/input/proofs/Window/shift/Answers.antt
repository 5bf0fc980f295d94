-- `Window::shift` meets its contract: what lies in front of the bytes is taken out.
use Rattle.std.proofs.Common.{◌∙◌, arith}
use Rattle.input.proofs.Shifted.{length-slice, shifted}
use Rattle.input.proofs.Window.shift.Goals as goal

pub returns-clause-bytes : goal.returns-clause-bytes
returns-clause-bytes c =
    let w = c.args.self.now in
    c.copy_within.ensures.after ∙ shifted w.bytes w.from w.to (omega arith) (omega arith)

pub returns-clause-to : goal.returns-clause-to
returns-clause-to c =
    let w = c.args.self.now in
    length-slice w.bytes w.from w.to (omega arith)
