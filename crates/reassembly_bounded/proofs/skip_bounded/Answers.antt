-- `reassembly_bounded::skip_bounded` meets its contract: the limit is seen before sets go, and the expected SSN moves there where it is before it.
use mathlib.Core.Path.{◌≡◌, sym, ◌∙◌}
use native.Mathlib.Omega.{arith}
use lib.ListN.{length}
use Rattle.table.proofs.Columns.{rows_long}
use Rattle.reassembly_state.specs.Limits.{frags_most}
use Rattle.reassembly_state.specs.State.{state_of, view}
use Rattle.reassembly_state.proofs.Laws.{Sound, sound}
use Rattle.set_reach.specs.Bounded.{limit}
use Rattle.reassembly_bounded.proofs.Bounded.{limit_seen, moved_on_lem, stayed}
use Rattle.reassembly_bounded.proofs.skip_bounded.Goals as goal

pub overflow_add-from : goal.overflow_add-from
overflow_add-from c =
    let of = state_of c.args.queue.now c.args.table.now c.args.pool.now in
    let ok : Sound of = sound of c.requires.pool_value in
    omega (arith, ok.few)

pub limit-next-requires : goal.limit-next-requires
limit-next-requires c =
    let of = state_of c.args.queue.now c.args.table.now c.args.pool.now in
    let ok : Sound of = sound of c.requires.pool_value in
    record {
      table_len = omega arith;
      n_bound = omega (arith, ok.few);
    }

pub drop_sets-requires : goal.drop_sets-requires
drop_sets-requires c = c.requires

pub returns-then-sna16lt : goal.returns-then-sna16lt
returns-then-sna16lt c =
    let of = state_of c.args.queue.now c.args.table.now c.args.pool.now in
    let ok : Sound of = sound of c.requires.pool_value in
    let full : length of.rows ≡ frags_most = rows_long frags_most c.args.table.now c.requires.table_len in
    let limited : (let a = c.args in c.limit-next.result ≡ limit a.last_ssn a.new_cumulative_tsn (view of).ordered) = c.limit-next.ensures ∙ limit_seen of ok full _ _ in
    moved_on_lem _ _ _ _ c.drop_sets.ensures limited (sym c.sna16lt.ensures ∙ c.if-sna16lt.true)

pub returns-else-sna16lt : goal.returns-else-sna16lt
returns-else-sna16lt c =
    let of = state_of c.args.queue.now c.args.table.now c.args.pool.now in
    let ok : Sound of = sound of c.requires.pool_value in
    let full : length of.rows ≡ frags_most = rows_long frags_most c.args.table.now c.requires.table_len in
    let limited : (let a = c.args in c.limit-next.result ≡ limit a.last_ssn a.new_cumulative_tsn (view of).ordered) = c.limit-next.ensures ∙ limit_seen of ok full _ _ in
    stayed _ _ _ _ c.drop_sets.ensures limited (sym c.sna16lt.ensures ∙ c.if-sna16lt.false)
