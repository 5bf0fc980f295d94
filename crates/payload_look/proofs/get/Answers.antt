-- `payload_look::get` meets its contract: an unsound queue is refused, and else the first held record with the TSN is given.
use mathlib.Core.Path.{◌≡◌, sym, ◌∙◌}
use mathlib.Core.Bool.{true, false}
use Prim.Native.Nat.{◌<◌, ◌≤◌}
use native.Mathlib.Omega.{arith}
use borrow.Author.Tests.{lt-ltb, le-ltb}
use lib.ListN.{length}
use lib.Seq.{get_or-take, length-take-le}
use Rattle.table.specs.Rows.{blank, has_tsn, ahead_of, some}
use Rattle.table.proofs.Columns.{rows_long}
use Rattle.payload_model.specs.Limits.{tsns_most}
use Rattle.payload_model.specs.Queue.{queue_of, held, got}
use Rattle.payload_model.proofs.Laws.{Sound, sound}
use Rattle.table.proofs.Scans.{some-ahead}
use Rattle.payload_look.proofs.get.Goals as goal

pub returns-then-unsound : goal.returns-then-unsound
unfolding got
returns-then-unsound c = rw (sym c.unsound.ensures ∙ c.if-unsound.true)

pub find_tsn-at-requires : goal.find_tsn-at-requires
find_tsn-at-requires c =
    let of = queue_of c.args.counts c.args.table.now in
    let ok : Sound of = sound of (sym c.unsound.ensures ∙ c.if-unsound.false) in
    omega (arith, ok.few)

pub returns-then-count-at : goal.returns-then-count-at
unfolding got
returns-then-count-at c =
    let of = queue_of c.args.counts c.args.table.now in
    let ok : Sound of = sound of (sym c.unsound.ensures ∙ c.if-unsound.false) in
    let held-long : length (held of) ≡ of.count = let e = rows_long tsns_most c.args.table.now (omega arith) in length-take-le of.count of.rows (omega (arith, ok.few)) in
    let p = has_tsn c.args.tsn in
    let all : length (held of) ≤ ahead_of p (held of) = omega (arith, held-long, c.find_tsn-at.ensures) in
    let none : some p (held of) ≡ false = some-ahead p (held of) ∙ le-ltb _ _ all in
    rw (sym c.unsound.ensures ∙ c.if-unsound.false, none)

pub row_at-requires : goal.row_at-requires
row_at-requires c =
    let of = queue_of c.args.counts c.args.table.now in
    let ok : Sound of = sound of (sym c.unsound.ensures ∙ c.if-unsound.false) in
    omega (arith, ok.few)

pub returns : goal.returns
unfolding got
returns c =
    let of = queue_of c.args.counts c.args.table.now in
    let ok : Sound of = sound of (sym c.unsound.ensures ∙ c.if-unsound.false) in
    let held-long : length (held of) ≡ of.count = let e = rows_long tsns_most c.args.table.now (omega arith) in length-take-le of.count of.rows (omega (arith, ok.few)) in
    let p = has_tsn c.args.tsn in
    let at : c.find_tsn-at.result ≡ ahead_of p (held of) = c.find_tsn-at.ensures in
    let in_held : ahead_of p (held of) < of.count = omega (arith, at, c.if-count-at.false) in
    let few : ahead_of p (held of) < length (held of) = omega (arith, held-long) in
    let one : some p (held of) ≡ true = some-ahead p (held of) ∙ lt-ltb _ _ few in
    rw (sym c.unsound.ensures ∙ c.if-unsound.false, one, c.chunk_of.ensures, c.row_at.ensures, at, get_or-take of.count of.rows (ahead_of p (held of)) blank in_held)
