-- `streams_turn::take_run` meets its contract: the message goes out of all that is held, and the stream's counts are those without it.
use mathlib.Core.Path.{◌≡◌, refl, sym, ap, ◌∙◌}
use mathlib.Core.Bool.{false}
use Prim.Native.Nat.{ℕ, ◌+◌, ◌-◌, ◌*◌, ◌<◌, ◌≤◌}
use native.Mathlib.Omega.{arith}
use borrow.Author.Rules.{rules}
use lib.ListN.{length}
use Rattle.table.proofs.Columns.{rows_long}
use Rattle.reassembly_state.specs.Limits.{frags_most}
use Rattle.reassembly_state.specs.State.{count}
use Rattle.reassembly_state.specs.declared.Counts.{Counts}
use Rattle.streams_model.specs.Limits.{streams_most}
use Rattle.streams_model.specs.State.{state_of, rows_held, bytes_said, unsound, own}
use Rattle.streams_model.specs.Among.{Others, among_none, mine}
use lib.Dec.{eqb}
use lib.ListN.{take}
use Rattle.fragments.proofs.Pool.{B}
use Rattle.std.proofs.lemmas.Result.{err_from_is_err_and}
use Rattle.refusal.specs.Told.{number}
use Rattle.wire_model.specs.Refusal.{none, refuse, says}
use Rattle.reassembly_state.specs.Model.{no_message, turn}
use Rattle.reassembly_state.specs.Answers.{message_held}
use Rattle.streams_model.proofs.Laws.{Sound, sound, sums-total, bytes_bounded}
use Rattle.streams_model.proofs.Among.{rows_split, bytes-split}
use Rattle.streams_turn.specs.Turned.{Turned}
use Rattle.table.specs.Rows.{rows_of}
use Rattle.fragments.specs.Pool.{cut}
use Rattle.reassembly_state.specs.Rows.{out, taken_out, without_message}
use Rattle.streams_model.specs.State.{fragments}
use Rattle.streams_turn.proofs.Asked.{held_comes, fits_own}
use Rattle.streams_turn.proofs.Takes.{run_within, message_fits, comes_not, comes_is}
use Rattle.streams_turn.proofs.take_run.Goals as goal

pub overflow_add-held : goal.overflow_add-held
overflow_add-held c =
    let of = state_of c.args.streams.now c.args.table.now c.args.pool.now in
    let front : c.args.place.queue ≡ among_none of.queues c.args.stream = search rules in
    let others : let p = c.args.place in Others of.queues c.args.stream p.before.rows p.before.bytes p.behind.rows p.behind.bytes = search rules in
    let safe : unsound of ≡ false = search rules in
    let ok : Sound of = sound of safe in
    let sized : length c.args.table.now ≡ 4 * frags_most = search rules in
    let full : length of.rows ≡ frags_most = rows_long frags_most c.args.table.now sized in
    let here : c.args.stream < streams_most = search rules in
    let all-rows : count c.args.place.queue + c.args.place.behind.rows ≡ rows_held of.queues = let e = ap count front in omega (arith, e, others.rows_behind_is, rows_split of ok full c.args.stream here) in
    omega (arith, all-rows, ok.few)

pub overflow_add-held-2 : goal.overflow_add-held-2
overflow_add-held-2 c =
    let of = state_of c.args.streams.now c.args.table.now c.args.pool.now in
    let front : c.args.place.queue ≡ among_none of.queues c.args.stream = search rules in
    let others : let p = c.args.place in Others of.queues c.args.stream p.before.rows p.before.bytes p.behind.rows p.behind.bytes = search rules in
    let safe : unsound of ≡ false = search rules in
    let ok : Sound of = sound of safe in
    let sized : length c.args.table.now ≡ 4 * frags_most = search rules in
    let full : length of.rows ≡ frags_most = rows_long frags_most c.args.table.now sized in
    let here : c.args.stream < streams_most = search rules in
    let all-rows : count c.args.place.queue + c.args.place.behind.rows ≡ rows_held of.queues = let e = ap count front in omega (arith, e, others.rows_behind_is, rows_split of ok full c.args.stream here) in
    omega (arith, all-rows, ok.few)

pub overflow_add-held-3 : goal.overflow_add-held-3
overflow_add-held-3 c =
    let of = state_of c.args.streams.now c.args.table.now c.args.pool.now in
    let front : c.args.place.queue ≡ among_none of.queues c.args.stream = search rules in
    let others : let p = c.args.place in Others of.queues c.args.stream p.before.rows p.before.bytes p.behind.rows p.behind.bytes = search rules in
    let safe : unsound of ≡ false = search rules in
    let ok : Sound of = sound of safe in
    let sized : length c.args.table.now ≡ 4 * frags_most = search rules in
    let full : length of.rows ≡ frags_most = rows_long frags_most c.args.table.now sized in
    let here : c.args.stream < streams_most = search rules in
    let all-rows : count c.args.place.queue + c.args.place.behind.rows ≡ rows_held of.queues = let e = ap count front in omega (arith, e, others.rows_behind_is, rows_split of ok full c.args.stream here) in
    omega (arith, all-rows, ok.few)

pub overflow_add-bytes : goal.overflow_add-bytes
overflow_add-bytes c =
    let of = state_of c.args.streams.now c.args.table.now c.args.pool.now in
    let front : c.args.place.queue ≡ among_none of.queues c.args.stream = search rules in
    let others : let p = c.args.place in Others of.queues c.args.stream p.before.rows p.before.bytes p.behind.rows p.behind.bytes = search rules in
    let safe : unsound of ≡ false = search rules in
    let ok : Sound of = sound of safe in
    let sized : length c.args.table.now ≡ 4 * frags_most = search rules in
    let full : length of.rows ≡ frags_most = rows_long frags_most c.args.table.now sized in
    let here : c.args.stream < streams_most = search rules in
    let all-bytes : c.args.place.queue.n_bytes + c.args.place.behind.bytes ≡ bytes_said of.queues = let e = ap (λ (q : Counts). q.n_bytes) front in omega (arith, e, others.bytes-behind, bytes-split of ok full c.args.stream here) in
    omega (arith, all-bytes, bytes_bounded of ok)

pub sum_long-off-requires : goal.sum_long-off-requires
sum_long-off-requires c =
    let sized : length c.args.table.now ≡ 4 * frags_most = search rules in
    let of = state_of c.args.streams.now c.args.table.now c.args.pool.now in
    let turned : Turned of c.args.stream c.args.from (c.args.from + c.args.k) = search rules in
    let many : c.args.k ≡ length (turn (own of c.args.stream)).frags = let e : c.args.from + c.args.k - c.args.from ≡ c.args.k = omega arith in rw e at turned.run_is in
    let safe : unsound of ≡ false = search rules in
    let ok : Sound of = sound of safe in
    let full : length of.rows ≡ frags_most = rows_long frags_most c.args.table.now sized in
    let here : c.args.stream < streams_most = search rules in
    let within : c.args.from + c.args.k ≤ rows_held of.queues = omega (arith, turned.from_is, many, run_within of ok full c.args.stream here) in
    record {
      size_bound = omega arith;
      table_len = sized;
      n_bound = omega (arith, within, ok.few);
    }

pub take_among-requires : goal.take_among-requires
take_among-requires c =
    let of = state_of c.args.streams.now c.args.table.now c.args.pool.now in
    let front : c.args.place.queue ≡ among_none of.queues c.args.stream = search rules in
    let others : let p = c.args.place in Others of.queues c.args.stream p.before.rows p.before.bytes p.behind.rows p.behind.bytes = search rules in
    let safe : unsound of ≡ false = search rules in
    let ok : Sound of = sound of safe in
    let sized : length c.args.table.now ≡ 4 * frags_most = search rules in
    let full : length of.rows ≡ frags_most = rows_long frags_most c.args.table.now sized in
    let here : c.args.stream < streams_most = search rules in
    let all-rows : count c.args.place.queue + c.args.place.behind.rows ≡ rows_held of.queues = let e = ap count front in omega (arith, e, others.rows_behind_is, rows_split of ok full c.args.stream here) in
    let all-bytes : c.args.place.queue.n_bytes + c.args.place.behind.bytes ≡ bytes_said of.queues = let e = ap (λ (q : Counts). q.n_bytes) front in omega (arith, e, others.bytes-behind, bytes-split of ok full c.args.stream here) in
    let turned : Turned of c.args.stream c.args.from (c.args.from + c.args.k) = search rules in
    let many : c.args.k ≡ length (turn (own of c.args.stream)).frags = let e : c.args.from + c.args.k - c.args.from ≡ c.args.k = omega arith in rw e at turned.run_is in
    let within : c.args.from + c.args.k ≤ rows_held of.queues = omega (arith, turned.from_is, many, run_within of ok full c.args.stream here) in
    let some : 0 < c.args.k = search rules in
    let e = all-rows in
    let bytes = all-bytes in
    let summed = ap (λ (n : ℕ). B (take n of.rows)) e ∙ sums-total of.queues of.rows ok.sums in
    record {
      table_len = sized;
      held_le_frags_most = omega (arith, e, ok.few);
      k_bound = omega (arith, e, within);
      k_nonzero = some;
      table_value = summed ∙ sym bytes;
      bytes_in_bounds = omega (arith, bytes, sums-total of.queues of.rows ok.sums, ok.within);
      off_value = c.sum_long-off.ensures;
    }

pub returns-in_err-hand : goal.returns-in_err-hand
returns-in_err-hand c =
    let of = state_of c.args.streams.now c.args.table.now c.args.pool.now in
    let safe : unsound of ≡ false = search rules in
    let ok : Sound of = sound of safe in
    let sized : length c.args.table.now ≡ 4 * frags_most = search rules in
    let full : length of.rows ≡ frags_most = rows_long frags_most c.args.table.now sized in
    let here : c.args.stream < streams_most = search rules in
    let turned : Turned of c.args.stream c.args.from (c.args.from + c.args.k) = search rules in
    let many : c.args.k ≡ length (turn (own of c.args.stream)).frags = let e : c.args.from + c.args.k - c.args.from ≡ c.args.k = omega arith in rw e at turned.run_is in
    let some : 0 < c.args.k = search rules in
    let more : 0 < length (turn (own of c.args.stream)).frags = omega (arith, many, some) in
    let kind : eqb c.at-own.result.finished 0 ≡ eqb (mine of c.args.stream).finished 0 = ap (λ (q : Counts). eqb q.finished 0) c.at-own.ensures in
    let front : c.args.place.queue ≡ among_none of.queues c.args.stream = search rules in
    let others : let p = c.args.place in Others of.queues c.args.stream p.before.rows p.before.bytes p.behind.rows p.behind.bytes = search rules in
    let all-rows : count c.args.place.queue + c.args.place.behind.rows ≡ rows_held of.queues = let e = ap count front in omega (arith, e, others.rows_behind_is, rows_split of ok full c.args.stream here) in
    let taken_out_lem : out (says (refuse (number c.in_err-hand.field-0.0)) no_message) 0 0 (rows_of frags_most c.take_among.new.table) c.take_among.new.pool c.take_among.new.buffer ≡ taken_out (eqb c.at-own.result.finished 0) c.args.from c.args.k (fragments of) of.rows of.pool c.args.buffer.now = c.in_err-hand.ensures ∙ ap (λ (n : ℕ). taken_out (eqb c.at-own.result.finished 0) c.args.from c.args.k (cut (take n of.rows) of.pool) of.rows of.pool c.args.buffer.now) all-rows in
    let e = err_from_is_err_and c.from_residual.result c.from_residual.ensures.1 in
    rw (e.1, e.2) (comes_not of ok full c.args.stream here c.args.buffer.now more turned.from_is many kind taken_out_lem refl)

pub without-requires : goal.without-requires
without-requires c =
    let of = state_of c.args.streams.now c.args.table.now c.args.pool.now in
    let safe : unsound of ≡ false = search rules in
    let ok : Sound of = sound of safe in
    let sized : length c.args.table.now ≡ 4 * frags_most = search rules in
    let full : length of.rows ≡ frags_most = rows_long frags_most c.args.table.now sized in
    let here : c.args.stream < streams_most = search rules in
    let turned : Turned of c.args.stream c.args.from (c.args.from + c.args.k) = search rules in
    let many : c.args.k ≡ length (turn (own of c.args.stream)).frags = let e : c.args.from + c.args.k - c.args.from ≡ c.args.k = omega arith in rw e at turned.run_is in
    let some : 0 < c.args.k = search rules in
    let more : 0 < length (turn (own of c.args.stream)).frags = omega (arith, many, some) in
    let kind : eqb c.at-own.result.finished 0 ≡ eqb (mine of c.args.stream).finished 0 = ap (λ (q : Counts). eqb q.finished 0) c.at-own.ensures in
    let front : c.args.place.queue ≡ among_none of.queues c.args.stream = search rules in
    let others : let p = c.args.place in Others of.queues c.args.stream p.before.rows p.before.bytes p.behind.rows p.behind.bytes = search rules in
    let all-rows : count c.args.place.queue + c.args.place.behind.rows ≡ rows_held of.queues = let e = ap count front in omega (arith, e, others.rows_behind_is, rows_split of ok full c.args.stream here) in
    let taken_out_lem : out (says none (message_held c.in_ok-hand.hand)) c.args.k c.in_ok-hand.hand.size (rows_of frags_most c.take_among.new.table) c.take_among.new.pool c.take_among.new.buffer ≡ taken_out (eqb c.at-own.result.finished 0) c.args.from c.args.k (fragments of) of.rows of.pool c.args.buffer.now = c.in_ok-hand.ensures ∙ ap (λ (n : ℕ). taken_out (eqb c.at-own.result.finished 0) c.args.from c.args.k (cut (take n of.rows) of.pool) of.rows of.pool c.args.buffer.now) all-rows in
    let fits = fits_own c.at-own.ensures (message_fits of ok full c.args.stream here c.args.buffer.now more turned.from_is many kind taken_out_lem (held_comes c.in_ok-hand.hand)) in
    record {
      bytes_bound = fits.0;
      k_bound = fits.1;
    }

pub returns : goal.returns
unfolding message_held
returns c =
    let of = state_of c.args.streams.now c.args.table.now c.args.pool.now in
    let safe : unsound of ≡ false = search rules in
    let ok : Sound of = sound of safe in
    let sized : length c.args.table.now ≡ 4 * frags_most = search rules in
    let full : length of.rows ≡ frags_most = rows_long frags_most c.args.table.now sized in
    let here : c.args.stream < streams_most = search rules in
    let turned : Turned of c.args.stream c.args.from (c.args.from + c.args.k) = search rules in
    let many : c.args.k ≡ length (turn (own of c.args.stream)).frags = let e : c.args.from + c.args.k - c.args.from ≡ c.args.k = omega arith in rw e at turned.run_is in
    let some : 0 < c.args.k = search rules in
    let more : 0 < length (turn (own of c.args.stream)).frags = omega (arith, many, some) in
    let kind : eqb c.at-own.result.finished 0 ≡ eqb (mine of c.args.stream).finished 0 = ap (λ (q : Counts). eqb q.finished 0) c.at-own.ensures in
    let front : c.args.place.queue ≡ among_none of.queues c.args.stream = search rules in
    let others : let p = c.args.place in Others of.queues c.args.stream p.before.rows p.before.bytes p.behind.rows p.behind.bytes = search rules in
    let all-rows : count c.args.place.queue + c.args.place.behind.rows ≡ rows_held of.queues = let e = ap count front in omega (arith, e, others.rows_behind_is, rows_split of ok full c.args.stream here) in
    let taken_out_lem : out (says none (message_held c.in_ok-hand.hand)) c.args.k c.in_ok-hand.hand.size (rows_of frags_most c.take_among.new.table) c.take_among.new.pool c.take_among.new.buffer ≡ taken_out (eqb c.at-own.result.finished 0) c.args.from c.args.k (fragments of) of.rows of.pool c.args.buffer.now = c.in_ok-hand.ensures ∙ ap (λ (n : ℕ). taken_out (eqb c.at-own.result.finished 0) c.args.from c.args.k (cut (take n of.rows) of.pool) of.rows of.pool c.args.buffer.now) all-rows in
    comes_is of ok full c.args.stream here c.args.buffer.now more turned.from_is many kind taken_out_lem (held_comes c.in_ok-hand.hand) (c.without.ensures ∙ ap (λ (q : Counts). without_message q c.args.k c.in_ok-hand.hand.size c.in_ok-hand.hand.ssn) c.at-own.ensures) c.put_at.ensures
