-- `reassembly_applicable::applies` meets its contract: its tests are those of the definition, in their order.
use mathlib.Core.Path.{◌≡◌, sym, ◌∙◌}
use mathlib.Core.List.{List}
use Prim.Native.Nat.{ℕ}
use lib.ListN.{length}
use Rattle.table.proofs.Columns.{rows_long}
use Rattle.reassembly_state.specs.Limits.{frags_most}
use Rattle.reassembly_state.specs.State.{State, state_of}
use Rattle.set_reach.specs.Applicable.{found_in}
use Rattle.reassembly_applicable.proofs.Seen.{after_it, settled_it, resolved_it, part_it}
use Rattle.reassembly_applicable.proofs.applies.Goals as goal

pub returns-then-sna16gt : goal.returns-then-sna16gt
unfolding found_in
returns-then-sna16gt c =
    let of : List ℕ → State = λ pool. state_of c.args.counts c.args.table.now pool in
    let full : (pool : List ℕ) → length (of pool).rows ≡ frags_most = λ pool. rows_long frags_most c.args.table.now c.requires.table_len in
    let a = c.args in
    λ pool. after_it (of pool) c.requires.counts_bound (full pool) a.last_ssn a.new_cumulative_tsn a.peer_last_tsn (sym c.sna16gt.ensures ∙ c.if-sna16gt.true)

pub returns-then-is_settled : goal.returns-then-is_settled
unfolding found_in
returns-then-is_settled c =
    let of : List ℕ → State = λ pool. state_of c.args.counts c.args.table.now pool in
    let full : (pool : List ℕ) → length (of pool).rows ≡ frags_most = λ pool. rows_long frags_most c.args.table.now c.requires.table_len in
    let a = c.args in
    λ pool. settled_it (of pool) c.requires.counts_bound (full pool) a.last_ssn a.new_cumulative_tsn a.peer_last_tsn (sym c.sna16gt.ensures ∙ c.if-sna16gt.false) (sym c.if-is_settled.true ∙ c.is_settled.ensures)

pub returns-then-is_resolved : goal.returns-then-is_resolved
unfolding found_in
returns-then-is_resolved c =
    let of : List ℕ → State = λ pool. state_of c.args.counts c.args.table.now pool in
    let full : (pool : List ℕ) → length (of pool).rows ≡ frags_most = λ pool. rows_long frags_most c.args.table.now c.requires.table_len in
    let a = c.args in
    λ pool. resolved_it (of pool) c.requires.counts_bound (full pool) a.last_ssn a.new_cumulative_tsn a.peer_last_tsn (sym c.sna16gt.ensures ∙ c.if-sna16gt.false) (sym c.if-is_settled.false ∙ c.is_settled.ensures)
    (sym c.if-is_resolved.true ∙ c.is_resolved.ensures)

pub returns : goal.returns
returns c =
    let of : List ℕ → State = λ pool. state_of c.args.counts c.args.table.now pool in
    let full : (pool : List ℕ) → length (of pool).rows ≡ frags_most = λ pool. rows_long frags_most c.args.table.now c.requires.table_len in
    let a = c.args in
    λ pool. part_it (of pool) c.requires.counts_bound (full pool) a.last_ssn a.new_cumulative_tsn a.peer_last_tsn (sym c.sna16gt.ensures ∙ c.if-sna16gt.false) (sym c.if-is_settled.false ∙ c.is_settled.ensures)
    (sym c.if-is_resolved.false ∙ c.is_resolved.ensures) c.highest_part.ensures
