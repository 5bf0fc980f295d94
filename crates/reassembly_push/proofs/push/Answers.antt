-- `reassembly_push::push` meets its contract: an unsound queue is refused, another stream is answered false, and else the chunk goes by its mark U.
use mathlib.Core.Path.{◌≡◌, sym, ◌∙◌}
use mathlib.Core.Bool.{false}
use native.Mathlib.Omega.{arith}
use lib.ListN.{length}
use Rattle.table.proofs.Columns.{rows_long}
use Rattle.reassembly_state.specs.Limits.{frags_most}
use Rattle.reassembly_state.specs.State.{state_of, unsound, pushed}
use Rattle.reassembly_state.specs.Rows.{fits_if}
use Rattle.reassembly_state.proofs.Laws.{sound}
use Rattle.reassembly_push.proofs.Pushes.{room_fits, push_other, push-unordered, push-ordered}
use Rattle.reassembly_push.proofs.push.Goals as goal

pub returns-then-unsound : goal.returns-then-unsound
unfolding pushed
returns-then-unsound c = rw (sym c.unsound.ensures ∙ c.if-unsound.true)

pub returns-then-chunk-counts : goal.returns-then-chunk-counts
returns-then-chunk-counts c =
    let of = state_of c.args.counts.now c.args.table.now c.args.pool.now in
    let ok : unsound of ≡ false = sym c.unsound.ensures ∙ c.if-unsound.false in
    let full : length of.rows ≡ frags_most = rows_long frags_most c.args.table.now (omega arith) in
    push_other of ok _ _ full c.if-chunk-counts.true

pub has_room-room-requires : goal.has_room-room-requires
has_room-room-requires c =
    let of = state_of c.args.counts.now c.args.table.now c.args.pool.now in
    let ok : unsound of ≡ false = sym c.unsound.ensures ∙ c.if-unsound.false in
    (sound of ok).few

pub push-requires : goal.push-requires
push-requires c =
    let of = state_of c.args.counts.now c.args.table.now c.args.pool.now in
    let ok : unsound of ≡ false = sym c.unsound.ensures ∙ c.if-unsound.false in
    let fits : fits_if c.has_room-room.result c.args.counts.now (length c.args.user_data.now) = room_fits c.args.counts.now (length c.args.user_data.now) c.has_room-room.ensures in
    record {
      table_len = omega arith;
      pool_value = ok;
      fits_if = fits;
    }

pub returns-then-chunk : goal.returns-then-chunk
returns-then-chunk c =
    let of = state_of c.args.counts.now c.args.table.now c.args.pool.now in
    let ok : unsound of ≡ false = sym c.unsound.ensures ∙ c.if-unsound.false in
    let full : length of.rows ≡ frags_most = rows_long frags_most c.args.table.now (omega arith) in
    c.push.ensures ∙ push-unordered of ok _ _ c.if-chunk-counts.false full c.has_room-room.ensures c.if-chunk.true

pub push-requires-2 : goal.push-requires-2
push-requires-2 c =
    let of = state_of c.args.counts.now c.args.table.now c.args.pool.now in
    let ok : unsound of ≡ false = sym c.unsound.ensures ∙ c.if-unsound.false in
    let fits : fits_if c.has_room-room.result c.args.counts.now (length c.args.user_data.now) = room_fits c.args.counts.now (length c.args.user_data.now) c.has_room-room.ensures in
    record {
      table_len = omega arith;
      pool_value = ok;
      fits_if = fits;
    }

pub returns : goal.returns
returns c =
    let of = state_of c.args.counts.now c.args.table.now c.args.pool.now in
    let ok : unsound of ≡ false = sym c.unsound.ensures ∙ c.if-unsound.false in
    let full : length of.rows ≡ frags_most = rows_long frags_most c.args.table.now (omega arith) in
    c.push-2.ensures ∙ push-ordered of ok _ _ c.if-chunk-counts.false full c.has_room-room.ensures c.if-chunk.false
