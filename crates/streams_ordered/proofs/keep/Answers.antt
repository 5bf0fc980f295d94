-- `streams_ordered::keep` meets its contract: with room made the queue keeps the fragment as it would alone, and its counts are made its own again.
use mathlib.Core.Path.{◌≡◌, sym, ap, ◌∙◌}
use Prim.Native.Nat.{◌+◌, ◌*◌, ◌<◌, ◌≤◌}
use native.Mathlib.Omega.{arith}
use borrow.Author.Rules.{rules}
use lib.ListN.{length}
use Rattle.table.proofs.Columns.{rows_long}
use Rattle.reassembly_state.specs.Limits.{frags_most, bytes_most}
use Rattle.reassembly_state.specs.State.{count, fragment_of}
use Rattle.streams_model.specs.Limits.{streams_most}
use Rattle.streams_model.specs.State.{state_of, rows_held, bytes_said}
use Rattle.table.specs.Rows.{rows_of}
use Rattle.reassembly_state.specs.Model.{keep_ordered}
use Rattle.reassembly_state.specs.Rows.{set_at, set_run}
use Rattle.streams_model.specs.State.{own}
use Rattle.streams_model.specs.Among.{Others, among_none, among}
use Rattle.reassembly_state.specs.declared.Counts.{Counts}
use Rattle.streams_model.proofs.Laws.{Sound, sound, both_are}
use Rattle.streams_model.proofs.Among.{rows_split, bytes-split}
use Rattle.streams_model.proofs.Front.{Fronted, front_fits, front-is, kept-told, kept_fronted}
use Rattle.streams_ordered.proofs.keep.Goals as goal

pub make_room-requires : goal.make_room-requires
make_room-requires c =
    let sized : length c.args.table.now ≡ 4 * frags_most = search rules in
    let here : c.args.stream < streams_most = search rules in
    let of = state_of c.args.streams.now c.args.table.now c.args.pool.now in
    let roomy : (rows_held of.queues < frags_most) × (bytes_said of.queues + length c.args.user_data.now ≤ bytes_most) = (search rules, search rules) in
    let others : let p = c.args.place in Others of.queues c.args.stream p.before.rows p.before.bytes p.behind.rows p.behind.bytes = search rules in
    let front : c.args.place.queue ≡ among_none of.queues c.args.stream = search rules in
    record {
      table_len = sized;
      pool_value = search rules;
      stream_lt_streams_most = here;
      streams_bound = roomy.0;
      user_data_bound = roomy.1;
      others = others;
      queue_value = front;
    }

pub keep-complete-requires : goal.keep-complete-requires
keep-complete-requires c =
    let of = state_of c.args.streams.now c.args.table.now c.args.pool.now in
    let new = fragment_of c.args.chunk c.args.user_data.now in
    let ready = c.make_room.ensures in
    let sized : length c.args.table.now ≡ 4 * frags_most = search rules in
    let front : c.args.place.queue ≡ among_none of.queues c.args.stream = search rules in
    let roomy : (rows_held of.queues < frags_most) × (bytes_said of.queues + length c.args.user_data.now ≤ bytes_most) = (search rules, search rules) in
    let ok : Sound of = sound of (search rules) in
    let full : length of.rows ≡ frags_most = rows_long frags_most c.args.table.now (search rules) in
    let here : c.args.stream < streams_most = search rules in
    let fits : (count c.args.place.queue < frags_most) × (c.args.place.queue.n_bytes + length c.args.user_data.now ≤ bytes_most) = let rows = ap count front in let bytes = ap (λ (q : Counts). q.n_bytes) front in let room = roomy in (omega (arith, rows, room.0, rows_split of ok full c.args.stream here), omega (arith, bytes, room.1, bytes-split of ok full c.args.stream here)) in
    let stands : let n = c.args.chunk.stream_sequence_number in (c.args.at ≡ set_at (among of c.args.stream 0 0) n) × (c.args.run ≡ set_run (among of c.args.stream 0 0) n) = (search rules, search rules) in
    let r = ready in
    record {
      table_len = omega (arith, c.make_room.auto, sized);
      pool_value = r.sound;
      queue_bound = fits.0;
      user_data_bound = fits.1;
      at_value = stands.0 ∙ sym (r.set-at c.args.chunk.stream_sequence_number);
      run_value = stands.1 ∙ sym (r.set-run c.args.chunk.stream_sequence_number);
    }

pub put_back-requires : goal.put_back-requires
put_back-requires c =
    let here : c.args.stream < streams_most = search rules in
    let of = state_of c.args.streams.now c.args.table.now c.args.pool.now in
    let ok : Sound of = sound of (search rules) in
    let full : length of.rows ≡ frags_most = rows_long frags_most c.args.table.now (search rules) in
    let new = fragment_of c.args.chunk c.args.user_data.now in
    let ready = c.make_room.ensures in
    let fronted : Fronted of c.args.stream (keep_ordered (own of c.args.stream) new).queue c.keep-complete.new.queue (rows_of frags_most c.keep-complete.new.table) c.keep-complete.new.pool = kept_fronted of ok full c.args.stream here new ready c.keep-complete.ensures in
    let others : let p = c.args.place in Others of.queues c.args.stream p.before.rows p.before.bytes p.behind.rows p.behind.bytes = search rules in
    let rest = front_fits of ok full c.args.stream here fronted others in
    record {
      stream_lt_streams_most = here;
      rows_le_finished = rest.0;
      rows_le_ordered = rest.1.0;
      bytes_bound = rest.1.1;
    }

pub returns : goal.returns
returns c =
    let of = state_of c.args.streams.now c.args.table.now c.args.pool.now in
    let ok : Sound of = sound of (search rules) in
    let full : length of.rows ≡ frags_most = rows_long frags_most c.args.table.now (search rules) in
    let here : c.args.stream < streams_most = search rules in
    let new = fragment_of c.args.chunk c.args.user_data.now in
    let ready = c.make_room.ensures in
    let fronted : Fronted of c.args.stream (keep_ordered (own of c.args.stream) new).queue c.keep-complete.new.queue (rows_of frags_most c.keep-complete.new.table) c.keep-complete.new.pool = kept_fronted of ok full c.args.stream here new ready c.keep-complete.ensures in
    let others : let p = c.args.place in Others of.queues c.args.stream p.before.rows p.before.bytes p.behind.rows p.behind.bytes = search rules in
    both_are (kept-told of ok full c.args.stream here new ready c.keep-complete.ensures)
    (front-is of ok full c.args.stream here fronted others c.put_back.ensures)
