-- `loose_fragments::scan` meets its contract: without a B or without an E the scan finds nothing.
use mathlib.Core.Path.{sym, ◌∙◌}
use lib.ListN.{take, drop}
use Rattle.table.specs.Rows.{rows_of}
use Rattle.loose_fragments.proofs.Scanned.{no_message_lem}
use Rattle.loose_fragments.proofs.scan.Goals as goal

pub returns-then-not-has_marks : goal.returns-then-not-has_marks
returns-then-not-has_marks c =
    let a = c.args in
    no_message_lem (take a.n (drop a.from (rows_of a.size a.table.now))) (sym c.has_marks.ensures ∙ c.if-not-has_marks.true)

pub returns : goal.returns
returns c = c.scan_rows.ensures
