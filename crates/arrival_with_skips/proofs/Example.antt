-- Runs with skips that meet the premises, over the plan of arrival's example: ordered messages `empty` (number 0) and `three` (number 1), unordered
-- ones `two` (TSNs over the wrap) and `one`. Skips lose `empty` and `two`; `three`, though the skip reaches it, and `one` come.
-- Assumes nothing.
use mathlib.Core.Path.{◌≡◌, refl, sym, ap, ◌∙◌}
use mathlib.Core.Bool.{false, true≢false}
use mathlib.Core.List.{List, [], ◌∷◌, ◌++◌, map}
use Prim.Native.Nat.{ℕ, ◌*◌, ◌≤◌}
use native.Mathlib.Omega.{arith}
use lib.ListN.{length}
use Rattle.wire_model.specs.Refusal.{none, says}
use Rattle.serial_model.specs.Serial.{ahead, distance, before}
use Rattle.data_fields.specs.Fields.{data_flags, data_sent}
use Rattle.payload_identifier.specs.Identifier.{identifier_name}
use Rattle.moves_model.specs.Lists.{slice, gone}
use Rattle.fragments.specs.Frag.{Frag}
use Rattle.fragments.specs.Words.{size, joined, any, while, past, find, placed, concat}
use Rattle.fragment_sets.specs.Sets as sets
use Rattle.fragment_sets.specs.Sets.{set_of, rises, complete, joins, grown_set, stored, set_up_to, kept_sets, skipped}
use Rattle.loose_fragments.specs.Loose.{runs, run, reach, starts_by, scan}
use Rattle.reassembly_state.specs.Limits.{frags_most, bytes_most}
use Rattle.reassembly_state.specs.Model.{Queue, queue, held, room_for, keep_ordered, push_ordered, move_run, keep_loose, push_unordered, push, ready_set, moved_on, first_ssn, first_ppi, finished_turn, ordered_turn, turn, readable, skip_ordered, skip_unordered}
use Rattle.reassembly_state.specs.State.{State, fragments, fragment_of, is_readable, num_bytes}
use Rattle.reassembly_queue.specs.Queue.{state_of, fresh}
use Rattle.reassembly_state.proofs.Laws.{held-view}
use Rattle.reassembly_theorems.proofs.Stays.{bytes-told}
use Rattle.arrival_plan.specs.Plan.{tsn_at, Order, none_left, one_of, starts}
use Rattle.arrival.specs.Calls.{Chunk, chunks_of, message}
use Rattle.arrival_plan.proofs.Maps.{Each, each_order}
use Rattle.arrival.proofs.Planned.{Of, plan_stream}
use Rattle.arrival.proofs.Bridge.{readable-is, told, fresh_holds}
use Rattle.arrival.proofs.Example.{empty_0, three_0, three_1, three_2, three, two_0, two_1, one_0, one, os, us, plan, buffer}
use Rattle.arrival_with_skips.specs.Skips.{Call, Push, Take, SkipOrdered, SkipUnordered, ran, out, AtEach, pushes, Roomy, Long, Named, AllInArc, AllNeedless, piece, Run, Arrived, Arrival}
use Rattle.skips_plan.proofs.Runs as model
use Rattle.skips_plan.proofs.Each.{each_parts}
use Rattle.arrival_with_skips.proofs.Walk.{events, Walked, follow, Long_on, back}

-- ── the calls ──

-- the first chunk of `two` is dropped, its second comes later and stays; `three` is whole when the skip passes it; the one chunk of `empty` comes too late
abbrev pub calls : List Call
calls =
    Push three_2 ∷ Push two_0 ∷ Push three_0 ∷ SkipUnordered 4294967295 ∷ Push three_1 ∷ SkipOrdered 1 ∷ Push empty_0 ∷ Push two_1 ∷ Take buffer ∷ Push one_0 ∷ Take buffer
    ∷ Take [] ∷ []

once : Order Chunk (pushes calls ++ []) (chunks_of os ++ chunks_of us)
once =
    one_of (empty_0 ∷ three_0 ∷ three_1 ∷ []) three_2 (one_0 ∷ two_0 ∷ two_1 ∷ [])
    (one_of (empty_0 ∷ three_0 ∷ three_1 ∷ one_0 ∷ []) two_0 (two_1 ∷ [])
    (one_of (empty_0 ∷ []) three_0 (three_1 ∷ one_0 ∷ two_1 ∷ [])
    (one_of (empty_0 ∷ []) three_1 (one_0 ∷ two_1 ∷ [])
    (one_of [] empty_0 (one_0 ∷ two_1 ∷ []) (one_of (one_0 ∷ []) two_1 [] (one_of [] one_0 [] none_left))))))

-- and with chunks that do not come, since their messages are given up
abbrev pub fewer : List Call
fewer = Push three_2 ∷ Push three_0 ∷ Push three_1 ∷ SkipUnordered 4294967295 ∷ SkipOrdered 1 ∷ Push two_1 ∷ Take buffer ∷ Push one_0 ∷ Take buffer ∷ []

abbrev pub never : List Chunk
never = empty_0 ∷ two_0 ∷ []

once_fewer : Order Chunk (pushes fewer ++ never) (chunks_of os ++ chunks_of us)
once_fewer =
    one_of (empty_0 ∷ three_0 ∷ three_1 ∷ []) three_2 (one_0 ∷ two_0 ∷ two_1 ∷ [])
    (one_of (empty_0 ∷ []) three_0 (three_1 ∷ one_0 ∷ two_0 ∷ two_1 ∷ [])
    (one_of (empty_0 ∷ []) three_1 (one_0 ∷ two_0 ∷ two_1 ∷ [])
    (one_of (empty_0 ∷ one_0 ∷ two_0 ∷ []) two_1 []
    (one_of (empty_0 ∷ []) one_0 (two_0 ∷ []) (one_of [] empty_0 (two_0 ∷ []) (one_of [] two_0 [] none_left))))))

pub all_needless : AllNeedless fewer never
unfolding before distance ahead
all_needless = (omega arith, ((λ u. true≢false (sym u.0)), tt))

-- the SSN 1 and the TSN at place 1 of the arc
named : Named os (1 ∷ [])
named = (omega arith, tt)

in_arc : AllInArc 4294967294 (4294967295 ∷ [])
unfolding tsn_at
in_arc = (record { place = 1; is = refl; arc = omega arith }, tt)

-- ── on the model, computed: there is room, buffers are long enough, the queue at the end, the messages ──

abbrev begins : Queue
begins = starts 7 3

record Computed (cs : List Call) : Type 0 where
  roomy : model.AtEach model.Room begins (events cs)
  long : Long_on begins cs
  last : model.final begins (events cs) ≡ queue 7 2 3 [] (piece two_1 ∷ []) []
  come : map told (model.out begins (events cs)) ≡ message 1 three ∷ message 0 one ∷ []

computed : Computed calls × Computed fewer
unfolding push push_unordered keep_loose move_run push_ordered keep_ordered stored grown_set joins placed any complete rises set_of while past size joined reach run runs find scan starts_by ahead distance before slice gone turn finished_turn ordered_turn ready_set moved_on readable first_ssn first_ppi room_for fragment_of data_flags data_sent identifier_name skip_ordered skip_unordered skipped concat kept_sets set_up_to sets.sets sets.ahead
computed = (
  record {
    roomy = (refl, (refl, (refl, (tt, (refl, (tt, (refl, (refl, (tt, (refl, (tt, (tt, tt))))))))))));
    long = (omega arith, (omega arith, (omega arith, tt)));
    last = refl;
    come = refl;
  },
  record {
    roomy = (refl, (refl, (refl, (tt, (tt, (refl, (tt, (refl, (tt, tt)))))))));
    long = (omega arith, (omega arith, tt));
    last = refl;
    come = refl;
  },
)

-- ── of the calls, on any table and pool of the lengths ──

module _ (ws pool : List ℕ) (w : length ws ≡ 4 * frags_most) (p : bytes_most ≤ length pool) where
  abbrev start : State
  start = state_of (fresh 7 3) ws pool

  module _ (cs : List Call) (left : List Chunk) (o : Order Chunk (pushes cs ++ left) (chunks_of os ++ chunks_of us)) (c : Computed cs) where
    of : Each (Of 7) (pushes cs)
    of = (each_parts (Of 7) (pushes cs) left (each_order (Of 7) o (plan_stream 7 4294967294 3 plan))).0

    premises : AtEach Roomy start cs × AtEach Long start cs
    premises = back (fresh_holds 7 3 ws pool w p) cs of c.roomy c.long

    walked : Walked start begins cs
    walked = follow (fresh_holds 7 3 ws pool w p) cs of premises.0 premises.1

    unreadable : is_readable (ran start cs) ≡ says none false
    unfolding readable turn ordered_turn ready_set
    unreadable = readable-is walked.holds ∙ ap (λ (q : Queue). says none (readable q)) c.last

  pub meets : Run 4294967294 os us start calls []
  meets = let k = premises calls [] once computed.0 in record { once = once; room = k.0; long = k.1; named = named; in_arc = in_arc }

  pub meets_fewer : Run 4294967294 os us start fewer never
  meets_fewer = let k = premises fewer never once_fewer computed.1 in record { once = once_fewer; room = k.0; long = k.1; named = named; in_arc = in_arc }

  pub until : is_readable (ran start calls) ≡ says none false
  until = unreadable calls [] once computed.0

  pub until_fewer : is_readable (ran start fewer) ≡ says none false
  until_fewer = unreadable fewer never once_fewer computed.1

  -- two came
  pub two-came : out start calls ≡ message 1 three ∷ message 0 one ∷ []
  two-came = (walked calls [] once computed.0).came ∙ computed.0.come

  -- a piece of `two` stays, and the byte count is its one byte
  pub one-stays : fragments (ran start calls) ≡ piece two_1 ∷ []
  one-stays = sym (held-view (ran start calls)) ∙ ap (λ (q : Queue). held q) ((walked calls [] once computed.0).holds.seen ∙ computed.0.last)

  pub one_byte : num_bytes (ran start calls) ≡ says none 1
  unfolding size fragment_of
  one_byte = bytes-told (ran start calls) (walked calls [] once computed.0).holds.sound ∙ ap (λ (l : List Frag). says none (size l)) one-stays

  -- as the theorem says
  pub arrived : Arrival → Arrived os us start calls
  arrived arrival = arrival 7 4294967294 3 os us plan ws pool w p calls [] meets tt until

  pub arrived-fewer : Arrival → Arrived os us start fewer
  arrived-fewer arrival = arrival 7 4294967294 3 os us plan ws pool w p fewer never meets_fewer all_needless until_fewer
