-- `reassembly_ordered::push` meets its contract: what the questions say becomes of it.
use mathlib.Core.Path.{◌≡◌}
use lib.ListN.{length}
use Rattle.std.proofs.lemmas.Result.{err_from_is_err_and}
use Rattle.table.proofs.Columns.{rows_long}
use Rattle.reassembly_state.specs.Limits.{frags_most}
use Rattle.reassembly_state.specs.State.{state_of}
use Rattle.reassembly_state.proofs.Laws.{Sound, sound}
use Rattle.reassembly_ask.proofs.Sets.{asked-stays}
use Rattle.reassembly_ordered.proofs.push.Goals as goal

pub ask-asked-requires : goal.ask-asked-requires
ask-asked-requires c =
    let of = state_of c.args.queue.now c.args.table.now c.args.pool.now in
    let ok : Sound of = sound of c.requires.pool_value in
    record {
      table_len = c.requires.table_len;
      queue_bound = ok.few;
      table_value = ok.sums;
    }

pub returns-in_err-asked : goal.returns-in_err-asked
returns-in_err-asked c =
    let of = state_of c.args.queue.now c.args.table.now c.args.pool.now in
    let ok : Sound of = sound of c.requires.pool_value in
    let full : length of.rows ≡ frags_most = rows_long frags_most c.args.table.now c.requires.table_len in
    let e = err_from_is_err_and c.from_residual.result c.from_residual.ensures.1 in
    rw (e.1, e.2) (asked-stays of ok full c.args.room c.args.chunk c.args.user_data.now (rw c.in_err-asked.was at (c.ask-asked.ensures.asks c.args.pool.now c.requires.pool_value)))

pub returns-then-not-branch : goal.returns-then-not-branch
returns-then-not-branch c =
    let of = state_of c.args.queue.now c.args.table.now c.args.pool.now in
    let ok : Sound of = sound of c.requires.pool_value in
    let full : length of.rows ≡ frags_most = rows_long frags_most c.args.table.now c.requires.table_len in
    asked-stays of ok full c.args.room c.args.chunk c.args.user_data.now (rw (c.in_ok-asked.was, c.if-not-branch.true) at (c.ask-asked.ensures.asks c.args.pool.now c.requires.pool_value))
