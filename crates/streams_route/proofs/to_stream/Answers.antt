-- `streams_route::to_stream` meets its contract: the chunk's stream is compared, the room is asked for by the counts, and the chunk goes by its mark U.
use mathlib.Core.Path.{◌≡◌, refl, sym, ap, ◌∙◌}
use mathlib.Core.Bool.{Bool, false}
use Prim.Native.Nat.{◌*◌, ◌<◌}
use borrow.Author.Rules.{rules}
use lib.ListN.{length}
use Rattle.table.proofs.Columns.{rows_long}
use Rattle.reassembly_state.specs.Limits.{frags_most}
use Rattle.reassembly_state.specs.Model as queue
use Rattle.reassembly_state.specs.State.{fragment_of}
use Rattle.reassembly_state.specs.declared.Counts.{Counts}
use Rattle.streams_model.specs.Limits.{streams_most}
use Rattle.streams_model.specs.Room.{room_among}
use Rattle.streams_model.specs.State.{state_of, unsound, view, own, laid, After}
use Rattle.streams_model.specs.Among.{mine, roomy_if}
use Rattle.streams_model.proofs.Laws.{Sound, sound, bytes_bounded}
use Rattle.streams_model.proofs.Rooms.{room_fits}
use Rattle.streams_route.proofs.Ways.{other_stream, by_mark, without-mark, room-is}
use Rattle.streams_route.proofs.to_stream.Goals as goal

pub returns-then-chunk-own : goal.returns-then-chunk-own
returns-then-chunk-own c =
    let of = state_of c.args.streams.now c.args.table.now c.args.pool.now in
    let safe : unsound of ≡ false = search rules in
    let ok : Sound of = sound of safe in
    let sized : length c.args.table.now ≡ 4 * frags_most = search rules in
    let full : length of.rows ≡ frags_most = rows_long frags_most c.args.table.now sized in
    let here : c.args.stream < streams_most = search rules in
    let new = fragment_of c.args.chunk c.args.user_data.now in
    let si-is : c.at-own.result.si ≡ (mine of c.args.stream).si = ap (λ (q : Counts). q.si) c.at-own.ensures in
    other_stream of ok full c.args.stream here c.args.chunk c.args.user_data.now (room_among (view of) c.args.stream new)
    (λ e. c.if-chunk-own.true (e ∙ sym si-is))

pub has_room-room-requires : goal.has_room-room-requires
has_room-room-requires c =
    let here : c.args.stream < streams_most = search rules in
    let of = state_of c.args.streams.now c.args.table.now c.args.pool.now in
    let safe : unsound of ≡ false = search rules in
    let ok : Sound of = sound of safe in
    record {
      stream_lt_streams_most = here;
      streams_bound = ok.few;
      streams_bound_2 = bytes_bounded of ok;
    }

pub push-requires : goal.push-requires
push-requires c =
    let sized : length c.args.table.now ≡ 4 * frags_most = search rules in
    let of = state_of c.args.streams.now c.args.table.now c.args.pool.now in
    let safe : unsound of ≡ false = search rules in
    let here : c.args.stream < streams_most = search rules in
    let roomy : roomy_if c.has_room-room.result of (length c.args.user_data.now) = λ e. room_fits of.queues refl c.args.stream (length c.args.user_data.now) here (sym c.has_room-room.ensures ∙ e) in
    record {
      table_len = sized;
      pool_value = safe;
      stream_lt_streams_most = here;
      roomy_if = roomy;
    }

pub returns-then-chunk : goal.returns-then-chunk
returns-then-chunk c =
    let of = state_of c.args.streams.now c.args.table.now c.args.pool.now in
    let safe : unsound of ≡ false = search rules in
    let ok : Sound of = sound of safe in
    let sized : length c.args.table.now ≡ 4 * frags_most = search rules in
    let full : length of.rows ≡ frags_most = rows_long frags_most c.args.table.now sized in
    let here : c.args.stream < streams_most = search rules in
    let si-is : c.at-own.result.si ≡ (mine of c.args.stream).si = ap (λ (q : Counts). q.si) c.at-own.ensures in
    let own-stream : c.args.chunk.stream_identifier ≡ (mine of c.args.stream).si = c.if-chunk-own.false ∙ si-is in
    let new = fragment_of c.args.chunk c.args.user_data.now in
    let pushed : Bool → After Bool = λ r. laid of c.args.stream (queue.push r (own of c.args.stream) c.args.chunk.stream_identifier c.args.chunk.unordered new) in
    let room : c.has_room-room.result ≡ room_among (view of) c.args.stream new = room-is of ok full c.args.stream here c.args.chunk c.args.user_data.now c.has_room-room.ensures in
    c.push.ensures
    ∙ by_mark of ok full c.args.stream here c.args.chunk c.args.user_data.now c.has_room-room.result own-stream c.if-chunk.true
    ∙ ap pushed room

pub push-requires-2 : goal.push-requires-2
push-requires-2 c =
    let sized : length c.args.table.now ≡ 4 * frags_most = search rules in
    let of = state_of c.args.streams.now c.args.table.now c.args.pool.now in
    let safe : unsound of ≡ false = search rules in
    let here : c.args.stream < streams_most = search rules in
    let roomy : roomy_if c.has_room-room.result of (length c.args.user_data.now) = λ e. room_fits of.queues refl c.args.stream (length c.args.user_data.now) here (sym c.has_room-room.ensures ∙ e) in
    record {
      table_len = sized;
      pool_value = safe;
      stream_lt_streams_most = here;
      roomy_if = roomy;
    }

pub returns : goal.returns
returns c =
    let of = state_of c.args.streams.now c.args.table.now c.args.pool.now in
    let safe : unsound of ≡ false = search rules in
    let ok : Sound of = sound of safe in
    let sized : length c.args.table.now ≡ 4 * frags_most = search rules in
    let full : length of.rows ≡ frags_most = rows_long frags_most c.args.table.now sized in
    let here : c.args.stream < streams_most = search rules in
    let si-is : c.at-own.result.si ≡ (mine of c.args.stream).si = ap (λ (q : Counts). q.si) c.at-own.ensures in
    let own-stream : c.args.chunk.stream_identifier ≡ (mine of c.args.stream).si = c.if-chunk-own.false ∙ si-is in
    let new = fragment_of c.args.chunk c.args.user_data.now in
    let pushed : Bool → After Bool = λ r. laid of c.args.stream (queue.push r (own of c.args.stream) c.args.chunk.stream_identifier c.args.chunk.unordered new) in
    let room : c.has_room-room.result ≡ room_among (view of) c.args.stream new = room-is of ok full c.args.stream here c.args.chunk c.args.user_data.now c.has_room-room.ensures in
    c.push-2.ensures
    ∙ without-mark of ok full c.args.stream here c.args.chunk c.args.user_data.now c.has_room-room.result own-stream c.if-chunk.false
    ∙ ap pushed room
