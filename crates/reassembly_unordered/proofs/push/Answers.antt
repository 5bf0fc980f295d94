-- `reassembly_unordered::push` meets its contract: its tests are the model's, in the same order; a refused push changes nothing, and one that stores is settled.
use mathlib.Core.Path.{◌≡◌, sym, ap, ◌∙◌}
use Prim.Native.Nat.{◌+◌, ◌≤◌, ◌<◌}
use borrow.Author.Rules.{rules}
use native.Mathlib.Omega.{arith}
use lib.ListN.{length}
use Rattle.table.proofs.Columns.{rows_long}
use Rattle.reassembly_state.specs.Limits.{frags_most, bytes_most}
use Rattle.reassembly_state.specs.State.{State, state_of, unsound, count, view, laid, fragment_of}
use Rattle.reassembly_state.specs.Rows.{settled}
use Rattle.reassembly_state.proofs.Laws.{Sound, sound}
use Rattle.reassembly_loose.proofs.Loose.{push-large, push-again, push_crowded, push_stores, stored_sound, stored-settled}
use Rattle.reassembly_unordered.proofs.push.Goals as goal

pub too_large-requires : goal.too_large-requires
too_large-requires c =
    let of = state_of c.args.queue.now c.args.table.now c.args.pool.now in
    let ok : Sound of = sound of c.requires.pool_value in
    record {
      table_len = c.requires.table_len;
      queue_bound = ok.few;
      table_value = ok.sums;
    }

pub returns-then-too_large : goal.returns-then-too_large
returns-then-too_large c =
    let of = state_of c.args.queue.now c.args.table.now c.args.pool.now in
    let ok : Sound of = sound of c.requires.pool_value in
    let full : length of.rows ≡ frags_most = rows_long frags_most c.args.table.now c.requires.table_len in
    push-large of ok full c.args.chunk c.args.user_data.now c.args.room (sym c.too_large.ensures ∙ c.if-too_large.true)

pub has_tsn-requires : goal.has_tsn-requires
has_tsn-requires c =
    let of = state_of c.args.queue.now c.args.table.now c.args.pool.now in
    let ok : Sound of = sound of c.requires.pool_value in
    record {
      table_len = c.requires.table_len;
      n_bound = omega (arith, ok.few);
    }

pub returns-then-has_tsn : goal.returns-then-has_tsn
returns-then-has_tsn c =
    let of = state_of c.args.queue.now c.args.table.now c.args.pool.now in
    let ok : Sound of = sound of c.requires.pool_value in
    let full : length of.rows ≡ frags_most = rows_long frags_most c.args.table.now c.requires.table_len in
    push-again of ok full c.args.chunk c.args.user_data.now c.args.room (sym c.too_large.ensures ∙ c.if-too_large.false) (sym c.has_tsn.ensures ∙ c.if-has_tsn.true)

pub returns-then-not-room : goal.returns-then-not-room
returns-then-not-room c =
    let of = state_of c.args.queue.now c.args.table.now c.args.pool.now in
    let ok : Sound of = sound of c.requires.pool_value in
    let full : length of.rows ≡ frags_most = rows_long frags_most c.args.table.now c.requires.table_len in
    push_crowded of ok full c.args.chunk c.args.user_data.now c.args.room (sym c.too_large.ensures ∙ c.if-too_large.false) (sym c.has_tsn.ensures ∙ c.if-has_tsn.false) c.if-not-room.true

pub store_loose-requires : goal.store_loose-requires
unfolding fragment_of
store_loose-requires c =
    let new = fragment_of c.args.chunk c.args.user_data.now in
    let room : ((count c.args.queue.now < frags_most) × (c.args.queue.now.n_bytes + length new.bytes ≤ bytes_most)) = c.requires.fits_if c.if-not-room.false in
    record {
      table_len = c.requires.table_len;
      pool_value = c.requires.pool_value;
      queue_bound = room.0;
      user_data_bound = room.1;
    }

pub settle-requires : goal.settle-requires
unfolding fragment_of
settle-requires c =
    let of = state_of c.args.queue.now c.args.table.now c.args.pool.now in
    let ok : Sound of = sound of c.requires.pool_value in
    let full : length of.rows ≡ frags_most = rows_long frags_most c.args.table.now c.requires.table_len in
    let new = fragment_of c.args.chunk c.args.user_data.now in
    let room : ((count c.args.queue.now < frags_most) × (c.args.queue.now.n_bytes + length new.bytes ≤ bytes_most)) = c.requires.fits_if c.if-not-room.false in
    record {
      table_len = search rules;
      pool_value = ap unsound c.store_loose.ensures ∙ stored_sound of ok full new room.0 room.1;
    }

pub returns : goal.returns
unfolding fragment_of
returns c =
    let of = state_of c.args.queue.now c.args.table.now c.args.pool.now in
    let ok : Sound of = sound of c.requires.pool_value in
    let full : length of.rows ≡ frags_most = rows_long frags_most c.args.table.now c.requires.table_len in
    let new = fragment_of c.args.chunk c.args.user_data.now in
    let room : ((count c.args.queue.now < frags_most) × (c.args.queue.now.n_bytes + length new.bytes ≤ bytes_most)) = c.requires.fits_if c.if-not-room.false in
    c.settle.ensures ∙ ap (λ (x : State). laid x (settled (view x))) c.store_loose.ensures
    ∙ stored-settled of ok full new room.0 room.1
    ∙ push_stores of ok full c.args.chunk c.args.user_data.now c.args.room (sym c.too_large.ensures ∙ c.if-too_large.false) (sym c.has_tsn.ensures ∙ c.if-has_tsn.false) c.if-not-room.false
