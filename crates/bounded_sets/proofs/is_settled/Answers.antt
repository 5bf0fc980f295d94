-- `bounded_sets::is_settled` meets its contract: where no set passed does, those from the row at i on decide.
use mathlib.Core.Path.{sym, ◌∙◌}
use Prim.Native.Nat.{◌+◌, ◌≤◌, ◌<◌}
use native.Mathlib.Omega.{arith}
use Rattle.set_reach.proofs.Passing.{set_fits}
use Rattle.set_reach.proofs.Keeping.{looking_none, looking_past, looking_found, looking_all}
use Rattle.reassembly_state.specs.Limits.{frags_most}
use Rattle.set_reach.specs.Applicable.{settles}
use Rattle.bounded_sets.proofs.is_settled.Goals as goal

pub loop-i-init : goal.loop-i-init
loop-i-init c = looking_none (settles c.args.expected c.args.last_ssn c.args.tsn) frags_most c.args.table.now c.args.from c.args.n c.requires.table_len c.requires.n_bound

pub overflow_add-at : goal.overflow_add-at
overflow_add-at c = omega (arith, c.loop-i.invariant.pass.within)

pub overflow_add-i : goal.overflow_add-i
overflow_add-i c =
    let rows_fit : (0 < c.set_at-k.result) × (c.loop-i.i + c.set_at-k.result ≤ c.args.n) = set_fits c.loop-i.invariant.pass (omega arith) c.set_at-k.ensures in
    omega (arith, rows_fit)

pub settles-requires : goal.settles-requires
settles-requires c =
    let rows_fit : (0 < c.set_at-k.result) × (c.loop-i.i + c.set_at-k.result ≤ c.args.n) = set_fits c.loop-i.invariant.pass (omega arith) c.set_at-k.ensures in
    omega (arith, rows_fit)

pub returns-then-settles : goal.returns-then-settles
returns-then-settles c = looking_found c.loop-i.invariant (omega arith) c.set_at-k.ensures (sym c.settles.ensures ∙ c.if-settles.true)

pub loop-i-smaller : goal.loop-i-smaller
loop-i-smaller c =
    let rows_fit : (0 < c.set_at-k.result) × (c.loop-i.i + c.set_at-k.result ≤ c.args.n) = set_fits c.loop-i.invariant.pass (omega arith) c.set_at-k.ensures in
    omega (arith, rows_fit)

pub loop-i-preserved : goal.loop-i-preserved
loop-i-preserved c = looking_past c.loop-i.invariant (omega arith) c.set_at-k.ensures (sym c.settles.ensures ∙ c.if-settles.false)

pub returns : goal.returns
returns c = looking_all c.loop-i.invariant c.loop-i-test.false
