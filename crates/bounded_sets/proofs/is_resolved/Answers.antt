-- `bounded_sets::is_resolved` meets its contract: of the TSNs of the rows passed that count the lowest is kept.
use mathlib.Core.Path.{sym, ◌∙◌}
use native.Mathlib.Omega.{arith}
use Rattle.reassembly_state.specs.Limits.{frags_most}
use Rattle.bounded_sets.proofs.Lowest.{lowest_none, lowest-past, lowest-one, lowest_none_found, lowest_found}
use Rattle.bounded_sets.proofs.is_resolved.Goals as goal
use Rattle.bounded_sets.proofs.is_resolved.Goals.{then-sna16lte, else-sna16lte}

pub loop-i-init : goal.loop-i-init
loop-i-init c = lowest_none c.args.last_ssn frags_most c.args.table.now c.args.from c.args.n 0 c.requires.table_len c.requires.n_bound

pub loop-i-preserved : goal.loop-i-preserved
loop-i-preserved c =
    elim c.if-sna16lte.branch [
      | then-sna16lte w ↦ rw (w.found-is, w.lowest-is) (lowest-one c.loop-i.invariant (omega arith) c.row_at-row.ensures (sym c.sna16lte.ensures ∙ w.if-sna16lte.true) w.lower-lowest.ensures)
      | else-sna16lte w ↦ rw (w.found-is, w.lowest-is) (lowest-past c.loop-i.invariant (omega arith) c.row_at-row.ensures (sym c.sna16lte.ensures ∙ w.if-sna16lte.false))
    ]

pub returns-then-not-found : goal.returns-then-not-found
returns-then-not-found c = lowest_none_found c.loop-i.invariant c.loop-i-test.false c.args.peer_last_tsn c.if-not-found.true

pub returns : goal.returns
returns c = lowest_found c.loop-i.invariant c.loop-i-test.false c.args.peer_last_tsn c.if-not-found.false c.sna32lte.ensures
