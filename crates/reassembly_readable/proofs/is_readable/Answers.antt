-- `reassembly_readable::is_readable` meets its contract: an unsound queue is refused, and else a message is there where its run has a fragment.
use mathlib.Core.Path.{◌≡◌, sym, ◌∙◌}
use native.Mathlib.Omega.{arith}
use lib.ListN.{length}
use Rattle.table.proofs.Columns.{rows_long}
use Rattle.reassembly_state.specs.Limits.{frags_most}
use Rattle.reassembly_state.specs.State.{state_of, is_readable}
use Rattle.reassembly_state.proofs.Laws.{Sound, sound}
use Rattle.reassembly_turn.proofs.Turn.{readable-is}
use Rattle.reassembly_readable.proofs.is_readable.Goals as goal

pub returns-then-unsound : goal.returns-then-unsound
unfolding is_readable
returns-then-unsound c = rw (sym c.unsound.ensures ∙ c.if-unsound.true)

pub in_turn-turn-requires : goal.in_turn-turn-requires
in_turn-turn-requires c =
    let of = state_of c.args.counts c.args.table.now c.args.pool.now in
    let ok : Sound of = sound of (sym c.unsound.ensures ∙ c.if-unsound.false) in
    record {
      table_len = omega arith;
      queue_bound = ok.few;
    }

pub returns : goal.returns
unfolding is_readable
returns c =
    let of = state_of c.args.counts c.args.table.now c.args.pool.now in
    let ok : Sound of = sound of (sym c.unsound.ensures ∙ c.if-unsound.false) in
    let full : length of.rows ≡ frags_most = rows_long frags_most c.args.table.now (omega arith) in
    let pool = c.args.pool.now in
    rw (sym c.unsound.ensures ∙ c.if-unsound.false, readable-is of ok full c.in_turn-turn.result (c.in_turn-turn.ensures pool))
