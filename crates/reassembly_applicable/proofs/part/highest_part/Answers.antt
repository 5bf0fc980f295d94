-- `reassembly_applicable::part::highest_part` meets its contract: of the SSNs of the sets passed that may end a part the highest is kept.
use mathlib.Core.Path.{sym, ap, ◌∙◌}
use mathlib.Core.Option.{Option}
use Prim.Native.Nat.{ℕ, ◌+◌, ◌≤◌, ◌<◌}
use native.Mathlib.Omega.{arith}
use Rattle.wire_model.specs.Refusal.{none, says}
use Rattle.set_reach.specs.Kept.{higher}
use Rattle.set_reach.proofs.Passing.{set_fits}
use Rattle.set_reach.proofs.Keeping.{keeping_none, keeping_past, keeping_one, keeping_all}
use Rattle.reassembly_state.specs.Limits.{frags_most}
use Rattle.set_reach.specs.Applicable.{ends_part, found_in}
use Rattle.reassembly_applicable.proofs.part.highest_part.Goals as goal

pub loop-i-init : goal.loop-i-init
loop-i-init c = keeping_none (higher 16) (ends_part c.args.expected c.args.last_ssn c.args.tsn c.args.peer_last_tsn) frags_most c.args.table.now c.args.from c.args.n 0 c.requires.table_len c.requires.n_bound

pub overflow_add-at : goal.overflow_add-at
overflow_add-at c = omega (arith, c.loop-i.invariant.pass.within)

pub overflow_add-i : goal.overflow_add-i
overflow_add-i c =
    let rows_fit : (0 < c.set_at-k.result) × (c.loop-i.i + c.set_at-k.result ≤ c.args.n) = set_fits c.loop-i.invariant.pass (omega arith) c.set_at-k.ensures in
    omega (arith, rows_fit)

pub ends_part-requires : goal.ends_part-requires
ends_part-requires c =
    let rows_fit : (0 < c.set_at-k.result) × (c.loop-i.i + c.set_at-k.result ≤ c.args.n) = set_fits c.loop-i.invariant.pass (omega arith) c.set_at-k.ensures in
    omega (arith, rows_fit)

pub row_at-first-requires : goal.row_at-first-requires
row_at-first-requires c =
    let rows_fit : (0 < c.set_at-k.result) × (c.loop-i.i + c.set_at-k.result ≤ c.args.n) = set_fits c.loop-i.invariant.pass (omega arith) c.set_at-k.ensures in
    omega (arith, rows_fit)

pub loop-i-smaller-then-ends_part : goal.loop-i-smaller-then-ends_part
loop-i-smaller-then-ends_part c =
    let rows_fit : (0 < c.set_at-k.result) × (c.loop-i.i + c.set_at-k.result ≤ c.args.n) = set_fits c.loop-i.invariant.pass (omega arith) c.set_at-k.ensures in
    omega (arith, rows_fit)

pub loop-i-preserved-then-ends_part : goal.loop-i-preserved-then-ends_part
loop-i-preserved-then-ends_part c = keeping_one c.loop-i.invariant (omega arith) c.set_at-k.ensures (sym c.ends_part.ensures ∙ c.if-ends_part.true) (rw c.row_at-first.ensures at c.higher-highest.ensures)

pub loop-i-smaller : goal.loop-i-smaller
loop-i-smaller c =
    let rows_fit : (0 < c.set_at-k.result) × (c.loop-i.i + c.set_at-k.result ≤ c.args.n) = set_fits c.loop-i.invariant.pass (omega arith) c.set_at-k.ensures in
    omega (arith, rows_fit)

pub loop-i-preserved : goal.loop-i-preserved
loop-i-preserved c = keeping_past c.loop-i.invariant (omega arith) c.set_at-k.ensures (sym c.ends_part.ensures ∙ c.if-ends_part.false)

pub returns-then-found : goal.returns-then-found
unfolding found_in
returns-then-found c = ap (λ (o : Option ℕ). says none (found_in o)) (rw c.if-found.true at (keeping_all c.loop-i.invariant c.loop-i-test.false))

pub returns : goal.returns
unfolding found_in
returns c = ap (λ (o : Option ℕ). says none (found_in o)) (rw c.if-found.false at (keeping_all c.loop-i.invariant c.loop-i-test.false))
