-- `streams_look::applicable_forward_tsn_for_ordered_bounded` meets its contract: a skip finds as much of a queue that has others before it as of its own.
use mathlib.Core.Path.{◌≡◌, sym, ◌∙◌}
use mathlib.Core.Bool.{false}
use mathlib.Core.Option as option
use Prim.Native.Nat.{◌*◌, ◌<◌}
use native.Mathlib.Omega.{arith}
use borrow.Author.Rules.{rules}
use lib.ListN.{length}
use Rattle.table.proofs.Columns.{rows_long}
use Rattle.reassembly_state.specs.Limits.{frags_most}
use Rattle.reassembly_applicable.specs.Applicable.{found_in, applies}
use Rattle.streams_model.specs.Limits.{streams_most}
use Rattle.streams_model.specs.State.{state_of, unsound, own, applicable}
use Rattle.streams_model.proofs.Laws.{Sound, sound, bytes_bounded}
use Rattle.streams_look.proofs.Looks.{Finds, applicable_found, look_unsound, look_no_stream, look_at, front_few, applies-own}
use Rattle.streams_look.proofs.applicable_forward_tsn_for_ordered_bounded.Goals as goal

pub returns-then-unsound : goal.returns-then-unsound
unfolding found_in
returns-then-unsound c =
    let of = state_of c.args.streams c.args.table.now c.args.pool.now in
    let finds : let a = c.args in Finds (found_in option.none) (found_in (applies (own of a.stream) a.last_ssn a.new_cumulative_tsn a.peer_last_tsn)) of a.stream (applicable of a.stream a.last_ssn a.new_cumulative_tsn a.peer_last_tsn) = applicable_found of c.args.stream c.args.last_ssn c.args.new_cumulative_tsn c.args.peer_last_tsn in
    look_unsound finds (sym c.unsound.ensures ∙ c.if-unsound.true)

pub returns-then-number-ge-STREAMS : goal.returns-then-number-ge-STREAMS
unfolding found_in
returns-then-number-ge-STREAMS c =
    let of = state_of c.args.streams c.args.table.now c.args.pool.now in
    let finds : let a = c.args in Finds (found_in option.none) (found_in (applies (own of a.stream) a.last_ssn a.new_cumulative_tsn a.peer_last_tsn)) of a.stream (applicable of a.stream a.last_ssn a.new_cumulative_tsn a.peer_last_tsn) = applicable_found of c.args.stream c.args.last_ssn c.args.new_cumulative_tsn c.args.peer_last_tsn in
    let safe : unsound of ≡ false = sym c.unsound.ensures ∙ c.if-unsound.false in
    look_no_stream finds safe (omega (arith, c.if-number-ge-STREAMS.true))

pub among_front-place-requires : goal.among_front-place-requires
among_front-place-requires c =
    let here : c.args.stream < streams_most = omega (arith, c.if-number-ge-STREAMS.false) in
    let of = state_of c.args.streams c.args.table.now c.args.pool.now in
    let safe : unsound of ≡ false = sym c.unsound.ensures ∙ c.if-unsound.false in
    let ok : Sound of = sound of safe in
    record {
      stream_lt_streams_most = here;
      streams_bound = ok.few;
      streams_bound_2 = bytes_bounded of ok;
    }

pub applies-requires : goal.applies-requires
applies-requires c =
    let sized : length c.args.table.now ≡ 4 * frags_most = search rules in
    let of = state_of c.args.streams c.args.table.now c.args.pool.now in
    let safe : unsound of ≡ false = sym c.unsound.ensures ∙ c.if-unsound.false in
    let ok : Sound of = sound of safe in
    let full : length of.rows ≡ frags_most = rows_long frags_most c.args.table.now sized in
    let here : c.args.stream < streams_most = omega (arith, c.if-number-ge-STREAMS.false) in
    record {
      table_len = sized;
      counts_bound = front_few of ok full c.args.stream here c.among_front-place.ensures.queue_value;
    }

pub returns : goal.returns
returns c =
    let of = state_of c.args.streams c.args.table.now c.args.pool.now in
    let finds : let a = c.args in Finds (found_in option.none) (found_in (applies (own of a.stream) a.last_ssn a.new_cumulative_tsn a.peer_last_tsn)) of a.stream (applicable of a.stream a.last_ssn a.new_cumulative_tsn a.peer_last_tsn) = applicable_found of c.args.stream c.args.last_ssn c.args.new_cumulative_tsn c.args.peer_last_tsn in
    let safe : unsound of ≡ false = sym c.unsound.ensures ∙ c.if-unsound.false in
    let here : c.args.stream < streams_most = omega (arith, c.if-number-ge-STREAMS.false) in
    let ok : Sound of = sound of safe in
    let sized : length c.args.table.now ≡ 4 * frags_most = search rules in
    let full : length of.rows ≡ frags_most = rows_long frags_most c.args.table.now sized in
    look_at finds safe here
    (applies-own of ok full c.args.stream here c.among_front-place.ensures.queue_value c.args.last_ssn c.args.new_cumulative_tsn c.args.peer_last_tsn (c.applies.ensures c.args.pool.now))
