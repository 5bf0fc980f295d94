-- `streams_open::make_room` meets its contract: where nothing stands behind the stream nothing is done; else the fragment is put in behind its own.
use mathlib.Core.Path.{◌≡◌, sym, ap, ◌∙◌}
use mathlib.Core.Bool.{true}
use Prim.Native.Nat.{ℕ, ◌+◌, ◌<◌, ◌≤◌}
use native.Mathlib.Omega.{arith}
use borrow.Author.Rules.{rules}
use lib.ListN.{length, take}
use Rattle.table.proofs.Columns.{rows_long}
use Rattle.reassembly_state.specs.Limits.{frags_most, bytes_most}
use Rattle.reassembly_state.specs.State.{count, fragment_of}
use Rattle.streams_model.specs.Limits.{streams_most}
use Rattle.streams_model.specs.State.{state_of, rows_held, bytes_said}
use Rattle.reassembly_state.specs.declared.Counts.{Counts}
use Rattle.streams_model.specs.Among.{Others, among_none, mine, rows_before}
use Rattle.fragments.specs.Frag.{frag_of}
use Rattle.fragments.proofs.Pool.{B}
use Rattle.table.specs.declared.Row.{Row}
use Rattle.reassembly_state.proofs.Chunk.{chunk_bytes, chunk-frag, chunk-long}
use Rattle.streams_model.proofs.Laws.{Sound, sound, sums-total}
use Rattle.streams_model.proofs.Among.{rows_split, bytes-split}
use Rattle.streams_model.proofs.Opened.{ready_last, ready_opened}
use Rattle.streams_open.proofs.make_room.Goals as goal

pub returns-then-behind-eq0 : goal.returns-then-behind-eq0
returns-then-behind-eq0 c =
    let of = state_of c.args.streams c.args.table.now c.args.pool.now in
    let ok : Sound of = sound of (search rules) in
    let full : length of.rows ≡ frags_most = rows_long frags_most c.args.table.now (search rules) in
    let here : c.args.stream < streams_most = search rules in
    let new = fragment_of c.args.chunk c.args.user_data.now in
    let front : c.args.place.queue ≡ among_none of.queues c.args.stream = search rules in
    let others : let p = c.args.place in Others of.queues c.args.stream p.before.rows p.before.bytes p.behind.rows p.behind.bytes = search rules in
    let none : c.args.place.behind.rows ≡ 0 = c.if-behind-eq0.true in
    ready_last of ok full c.args.stream here new front (sym others.rows_behind_is ∙ none)

pub row_of-row-requires : goal.row_of-row-requires
row_of-row-requires c =
    let of = state_of c.args.streams c.args.table.now c.args.pool.now in
    let roomy : (rows_held of.queues < frags_most) × (bytes_said of.queues + length c.args.user_data.now ≤ bytes_most) = (search rules, search rules) in
    let short : length c.args.user_data.now < 16777216 = omega (arith, roomy) in
    short

pub overflow_add-at : goal.overflow_add-at
overflow_add-at c =
    let of = state_of c.args.streams c.args.table.now c.args.pool.now in
    let front : c.args.place.queue ≡ among_none of.queues c.args.stream = search rules in
    let own-rows : count c.args.place.queue ≡ rows_before of c.args.stream + count (mine of c.args.stream) = let e = ap count front in omega (arith, e) in
    let others : let p = c.args.place in Others of.queues c.args.stream p.before.rows p.before.bytes p.behind.rows p.behind.bytes = search rules in
    let ok : Sound of = sound of (search rules) in
    let full : length of.rows ≡ frags_most = rows_long frags_most c.args.table.now (search rules) in
    let here : c.args.stream < streams_most = search rules in
    let all-rows : count c.args.place.queue + c.args.place.behind.rows ≡ rows_held of.queues = omega (arith, own-rows, others.rows_behind_is, rows_split of ok full c.args.stream here) in
    omega (arith, all-rows, ok.few)

pub overflow_add-at-2 : goal.overflow_add-at-2
overflow_add-at-2 c =
    let of = state_of c.args.streams c.args.table.now c.args.pool.now in
    let front : c.args.place.queue ≡ among_none of.queues c.args.stream = search rules in
    let own-rows : count c.args.place.queue ≡ rows_before of c.args.stream + count (mine of c.args.stream) = let e = ap count front in omega (arith, e) in
    let others : let p = c.args.place in Others of.queues c.args.stream p.before.rows p.before.bytes p.behind.rows p.behind.bytes = search rules in
    let ok : Sound of = sound of (search rules) in
    let full : length of.rows ≡ frags_most = rows_long frags_most c.args.table.now (search rules) in
    let here : c.args.stream < streams_most = search rules in
    let all-rows : count c.args.place.queue + c.args.place.behind.rows ≡ rows_held of.queues = omega (arith, own-rows, others.rows_behind_is, rows_split of ok full c.args.stream here) in
    omega (arith, all-rows, ok.few)

pub overflow_add-held : goal.overflow_add-held
overflow_add-held c =
    let of = state_of c.args.streams c.args.table.now c.args.pool.now in
    let front : c.args.place.queue ≡ among_none of.queues c.args.stream = search rules in
    let own-rows : count c.args.place.queue ≡ rows_before of c.args.stream + count (mine of c.args.stream) = let e = ap count front in omega (arith, e) in
    let others : let p = c.args.place in Others of.queues c.args.stream p.before.rows p.before.bytes p.behind.rows p.behind.bytes = search rules in
    let ok : Sound of = sound of (search rules) in
    let full : length of.rows ≡ frags_most = rows_long frags_most c.args.table.now (search rules) in
    let here : c.args.stream < streams_most = search rules in
    let all-rows : count c.args.place.queue + c.args.place.behind.rows ≡ rows_held of.queues = omega (arith, own-rows, others.rows_behind_is, rows_split of ok full c.args.stream here) in
    omega (arith, all-rows, ok.few)

pub overflow_add-bytes : goal.overflow_add-bytes
overflow_add-bytes c =
    let of = state_of c.args.streams c.args.table.now c.args.pool.now in
    let front : c.args.place.queue ≡ among_none of.queues c.args.stream = search rules in
    let others : let p = c.args.place in Others of.queues c.args.stream p.before.rows p.before.bytes p.behind.rows p.behind.bytes = search rules in
    let ok : Sound of = sound of (search rules) in
    let full : length of.rows ≡ frags_most = rows_long frags_most c.args.table.now (search rules) in
    let here : c.args.stream < streams_most = search rules in
    let all-bytes : c.args.place.queue.n_bytes + c.args.place.behind.bytes ≡ bytes_said of.queues = let e = ap (λ (q : Counts). q.n_bytes) front in omega (arith, e, others.bytes-behind, bytes-split of ok full c.args.stream here) in
    let roomy : (rows_held of.queues < frags_most) × (bytes_said of.queues + length c.args.user_data.now ≤ bytes_most) = (search rules, search rules) in
    omega (arith, all-bytes, roomy)

pub put_fragment-requires : goal.put_fragment-requires
put_fragment-requires c =
    let of = state_of c.args.streams c.args.table.now c.args.pool.now in
    let front : c.args.place.queue ≡ among_none of.queues c.args.stream = search rules in
    let own-rows : count c.args.place.queue ≡ rows_before of c.args.stream + count (mine of c.args.stream) = let e = ap count front in omega (arith, e) in
    let others : let p = c.args.place in Others of.queues c.args.stream p.before.rows p.before.bytes p.behind.rows p.behind.bytes = search rules in
    let ok : Sound of = sound of (search rules) in
    let full : length of.rows ≡ frags_most = rows_long frags_most c.args.table.now (search rules) in
    let here : c.args.stream < streams_most = search rules in
    let all-rows : count c.args.place.queue + c.args.place.behind.rows ≡ rows_held of.queues = omega (arith, own-rows, others.rows_behind_is, rows_split of ok full c.args.stream here) in
    let all-bytes : c.args.place.queue.n_bytes + c.args.place.behind.bytes ≡ bytes_said of.queues = let e = ap (λ (q : Counts). q.n_bytes) front in omega (arith, e, others.bytes-behind, bytes-split of ok full c.args.stream here) in
    let roomy : (rows_held of.queues < frags_most) × (bytes_said of.queues + length c.args.user_data.now ≤ bytes_most) = (search rules, search rules) in
    let summed : (n : ℕ) → n ≡ rows_held of.queues → B (take n of.rows) ≡ bytes_said of.queues = λ n e. ap (λ (i : ℕ). B (take i of.rows)) e ∙ sums-total of.queues of.rows ok.sums in
    let short : length c.args.user_data.now < 16777216 = omega (arith, roomy) in
    let e = all-rows in
    let bytes = all-bytes in
    let room = roomy in
    record {
      size_bound = omega arith;
      table_len = search rules;
      n_lt_size = omega (arith, e, room.0);
      at_le_n = omega arith;
      table_value = summed _ e ∙ sym bytes;
      bytes_in_bounds = omega (arith, bytes, room.1, ok.long);
      head_value = chunk-long c.args.chunk c.args.user_data.now short c.row_of-row.ensures;
    }

pub returns : goal.returns
returns c =
    let new = fragment_of c.args.chunk c.args.user_data.now in
    let of = state_of c.args.streams c.args.table.now c.args.pool.now in
    let roomy : (rows_held of.queues < frags_most) × (bytes_said of.queues + length c.args.user_data.now ≤ bytes_most) = (search rules, search rules) in
    let short : length c.args.user_data.now < 16777216 = omega (arith, roomy) in
    let ok : Sound of = sound of (search rules) in
    let full : length of.rows ≡ frags_most = rows_long frags_most c.args.table.now (search rules) in
    let here : c.args.stream < streams_most = search rules in
    let front : c.args.place.queue ≡ among_none of.queues c.args.stream = search rules in
    let own-rows : count c.args.place.queue ≡ rows_before of c.args.stream + count (mine of c.args.stream) = let e = ap count front in omega (arith, e) in
    let others : let p = c.args.place in Others of.queues c.args.stream p.before.rows p.before.bytes p.behind.rows p.behind.bytes = search rules in
    let all-rows : count c.args.place.queue + c.args.place.behind.rows ≡ rows_held of.queues = omega (arith, own-rows, others.rows_behind_is, rows_split of ok full c.args.stream here) in
    let same : frag_of c.row_of-row.result c.args.user_data.now ≡ new =
    ap (λ (x : Row). frag_of x c.args.user_data.now) c.row_of-row.ensures ∙ chunk-frag c.args.chunk c.args.user_data.now short in
    let bytes : length new.bytes ≡ length c.args.user_data.now = ap length (chunk_bytes c.args.chunk c.args.user_data.now) in
    ready_opened of ok full c.args.stream here new (omega (arith, bytes, short)) (omega (arith, bytes, roomy, ok.long))
    front own-rows all-rows same c.put_fragment.ensures.table_after c.put_fragment.ensures.pool_after
