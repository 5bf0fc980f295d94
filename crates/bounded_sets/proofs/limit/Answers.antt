-- `bounded_sets::limit` meets its contract: of the SSNs of the sets passed that hold back the lowest is kept.
use mathlib.Core.Path.{sym, ◌∙◌}
use Prim.Native.Nat.{◌+◌, ◌≤◌, ◌<◌}
use native.Mathlib.Omega.{arith}
use Rattle.set_reach.specs.Kept.{lower}
use Rattle.set_reach.proofs.Passing.{set_fits}
use Rattle.set_reach.proofs.Keeping.{keeping_none, keeping_past, keeping_one, keeping_all}
use Rattle.reassembly_state.specs.Limits.{frags_most}
use Rattle.set_reach.specs.Bounded.{held_back}
use Rattle.bounded_sets.proofs.Back.{limit_found, limit_free}
use Rattle.bounded_sets.proofs.limit.Goals as goal

pub loop-i-init : goal.loop-i-init
loop-i-init c = keeping_none (lower 16) (held_back c.args.last_ssn c.args.tsn) frags_most c.args.table.now c.args.from c.args.n 0 c.requires.table_len c.requires.n_bound

pub overflow_add-at : goal.overflow_add-at
overflow_add-at c = omega (arith, c.loop-i.invariant.pass.within)

pub overflow_add-i : goal.overflow_add-i
overflow_add-i c =
    let rows_fit : (0 < c.set_at-k.result) × (c.loop-i.i + c.set_at-k.result ≤ c.args.n) = set_fits c.loop-i.invariant.pass (omega arith) c.set_at-k.ensures in
    omega (arith, rows_fit)

pub holds_back-requires : goal.holds_back-requires
holds_back-requires c =
    let rows_fit : (0 < c.set_at-k.result) × (c.loop-i.i + c.set_at-k.result ≤ c.args.n) = set_fits c.loop-i.invariant.pass (omega arith) c.set_at-k.ensures in
    omega (arith, rows_fit)

pub row_at-first-requires : goal.row_at-first-requires
row_at-first-requires c =
    let rows_fit : (0 < c.set_at-k.result) × (c.loop-i.i + c.set_at-k.result ≤ c.args.n) = set_fits c.loop-i.invariant.pass (omega arith) c.set_at-k.ensures in
    omega (arith, rows_fit)

pub loop-i-smaller-then-holds_back : goal.loop-i-smaller-then-holds_back
loop-i-smaller-then-holds_back c =
    let rows_fit : (0 < c.set_at-k.result) × (c.loop-i.i + c.set_at-k.result ≤ c.args.n) = set_fits c.loop-i.invariant.pass (omega arith) c.set_at-k.ensures in
    omega (arith, rows_fit)

pub loop-i-preserved-then-holds_back : goal.loop-i-preserved-then-holds_back
loop-i-preserved-then-holds_back c = keeping_one c.loop-i.invariant (omega arith) c.set_at-k.ensures (sym c.holds_back.ensures ∙ c.if-holds_back.true) (rw c.row_at-first.ensures at c.lower-lowest.ensures)

pub loop-i-smaller : goal.loop-i-smaller
loop-i-smaller c =
    let rows_fit : (0 < c.set_at-k.result) × (c.loop-i.i + c.set_at-k.result ≤ c.args.n) = set_fits c.loop-i.invariant.pass (omega arith) c.set_at-k.ensures in
    omega (arith, rows_fit)

pub loop-i-preserved : goal.loop-i-preserved
loop-i-preserved c = keeping_past c.loop-i.invariant (omega arith) c.set_at-k.ensures (sym c.holds_back.ensures ∙ c.if-holds_back.false)

pub returns-then-found : goal.returns-then-found
returns-then-found c = limit_found _ _ _ _ _ (keeping_all c.loop-i.invariant c.loop-i-test.false) c.if-found.true

pub returns : goal.returns
returns c = limit_free _ _ _ _ _ (keeping_all c.loop-i.invariant c.loop-i-test.false) c.if-found.false c.ssn_next.ensures
