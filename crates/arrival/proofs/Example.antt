-- A plan that meets the premises: four messages, ordered and unordered, cut and whole, over the wrap of the TSNs, their chunks out of order.
-- Assumes nothing.
use mathlib.Core.Path.{◌≡◌, refl, ap, ◌∙◌}
use mathlib.Core.Bool.{Bool, true, false}
use mathlib.Core.List.{List, [], ◌∷◌, ◌++◌, map}
use Prim.Native.Nat.{ℕ, ◌*◌, ◌≤◌}
use native.Mathlib.Omega.{arith}
use lib.ListN.{length}
use Rattle.wire_model.specs.Refusal.{none, says}
use Rattle.serial_model.specs.Serial.{ahead, distance, before}
use Rattle.data_fields.specs.Fields.{data_flags, data_sent}
use Rattle.moves_model.specs.Lists.{slice, gone}
use Rattle.fragments.specs.Words.{size, joined, any, while, past, find, placed}
use Rattle.fragment_sets.specs.Sets.{set_of, rises, complete, joins, grown_set, stored}
use Rattle.loose_fragments.specs.Loose.{runs, run, reach, starts_by, scan}
use Rattle.reassembly_state.specs.Limits.{frags_most, bytes_most}
use Rattle.reassembly_state.specs.Model.{Queue, queue, room_for, keep_ordered, push_ordered, move_run, keep_loose, push_unordered, push, ready_set, moved_on, first_ssn, first_ppi, finished_turn, ordered_turn, turn, readable}
use Rattle.reassembly_state.specs.State.{State, fragment_of, is_readable}
use Rattle.reassembly_queue.specs.Queue.{state_of, fresh}
use Rattle.arrival_plan.specs.Plan as model
use Rattle.arrival_plan.specs.Plan.{tsn_at, Order, none_left, one_of}
use Rattle.arrival.specs.Calls.{Chunk, Sent, Loose, Number, Part, chunks_of, Plan, Call, Push, Take, pushes, ran, message, out, Run, Arrived, Arrival}
use Rattle.arrival_plan.proofs.Maps.{Each, each_order}
use Rattle.arrival.proofs.Planned.{Of, plan_stream}
use Rattle.arrival.proofs.Bridge.{readable-is, told, events, Walked, walk, fresh_holds, Long_on, back}

-- ── the plan ──

-- a chunk of stream 7
abbrev pub chunk : Bool → Bool → Bool → ℕ → ℕ → ℕ → List ℕ → Chunk
chunk u b e tsn ssn ppi bytes =
    record {
      fields = record {
        unordered = u;
        beginning_fragment = b;
        ending_fragment = e;
        immediate_sack = false;
        tsn = tsn;
        stream_identifier = 7;
        stream_sequence_number = ssn;
        payload_type = ppi;
      };
      bytes = bytes;
    }

-- SSN 0, whole and empty
abbrev pub empty_0 : Chunk
empty_0 = chunk false true true 4294967294 0 56 []

abbrev pub empty : Sent
empty = record { ppi = 56; first = 0; chunks = empty_0 ∷ [] }

-- SSN 1, in three, with an identifier that has no name
abbrev pub three_0 : Chunk
three_0 = chunk false true false 1 1 7 (67 ∷ [])

abbrev pub three_1 : Chunk
three_1 = chunk false false false 2 1 7 (68 ∷ [])

abbrev pub three_2 : Chunk
three_2 = chunk false false true 3 1 7 (69 ∷ [])

abbrev pub three : Sent
three = record { ppi = 7; first = 3; chunks = three_0 ∷ three_1 ∷ three_2 ∷ [] }

-- unordered, in two, over the wrap; its SSNs say nothing
abbrev pub two_0 : Chunk
two_0 = chunk true true false 4294967295 8 4294967295 (65 ∷ [])

abbrev pub two_1 : Chunk
two_1 = chunk true false true 0 9 4294967295 (66 ∷ [])

abbrev pub two : Sent
two = record { ppi = 4294967295; first = 1; chunks = two_0 ∷ two_1 ∷ [] }

-- unordered, whole
abbrev pub one_0 : Chunk
one_0 = chunk true true true 4 0 50 (70 ∷ 71 ∷ [])

abbrev pub one : Sent
one = record { ppi = 50; first = 6; chunks = one_0 ∷ [] }

abbrev pub os : List Sent
os = empty ∷ three ∷ []

abbrev pub us : List Sent
us = one ∷ two ∷ []

-- each chunk bears what its message says
numbered : (o tsn ssn ppi : ℕ) (b e : Bool) (bytes : List ℕ) → tsn ≡ tsn_at 4294967294 o
    → Part 7 4294967294 (Number ssn) ppi o b e (chunk false b e tsn ssn ppi bytes)
numbered o tsn ssn ppi b e bytes h =
    record { stream = refl; tsn = h; beginning = refl; ending = refl; identifier = refl; bears = (refl, refl) }

loose : (o tsn ssn ppi : ℕ) (b e : Bool) (bytes : List ℕ) → tsn ≡ tsn_at 4294967294 o
    → Part 7 4294967294 Loose ppi o b e (chunk true b e tsn ssn ppi bytes)
loose o tsn ssn ppi b e bytes h = record { stream = refl; tsn = h; beginning = refl; ending = refl; identifier = refl; bears = refl }

pub plan : Plan 7 4294967294 3 os us
unfolding tsn_at
plan =
    record {
      few = omega arith;
      ordered = (
        record { small = omega arith; cut = (numbered 0 _ _ _ _ _ _ refl, tt); arc = omega arith },
        (
          record {
            small = omega arith;
            cut = (numbered 3 _ _ _ _ _ _ refl, (numbered 4 _ _ _ _ _ _ refl, (numbered 5 _ _ _ _ _ _ refl, tt)));
            arc = omega arith;
          },
          tt,
        ),
      );
      unordered = (
        record { small = omega arith; cut = (loose 6 _ _ _ _ _ _ refl, tt); arc = omega arith },
        (record { small = omega arith; cut = (loose 1 _ _ _ _ _ _ refl, (loose 2 _ _ _ _ _ _ refl, tt)); arc = omega arith }, tt),
      );
      distinct = ((λ e. absurd (omega arith), (λ e. absurd (omega arith), tt)), ((λ e. absurd (omega arith), tt), (tt, tt)));
    }

-- ── the calls: the last chunk first, takes between, three at the end ──

abbrev pub buffer : List ℕ
buffer = 0 ∷ 0 ∷ 0 ∷ []

abbrev pub calls : List Call
calls =
    Push three_2 ∷ Push two_1 ∷ Push three_0 ∷ Take [] ∷ Push one_0 ∷ Push two_0 ∷ Push three_1 ∷ Take buffer ∷ Take buffer ∷ Push empty_0 ∷ Take [] ∷ Take buffer ∷ Take []
    ∷ []

once : Order Chunk (pushes calls) (chunks_of os ++ chunks_of us)
once =
    one_of (empty_0 ∷ three_0 ∷ three_1 ∷ []) three_2 (one_0 ∷ two_0 ∷ two_1 ∷ [])
    (one_of (empty_0 ∷ three_0 ∷ three_1 ∷ one_0 ∷ two_0 ∷ []) two_1 []
    (one_of (empty_0 ∷ []) three_0 (three_1 ∷ one_0 ∷ two_0 ∷ [])
    (one_of (empty_0 ∷ three_1 ∷ []) one_0 (two_0 ∷ [])
    (one_of (empty_0 ∷ three_1 ∷ []) two_0 [] (one_of (empty_0 ∷ []) three_1 [] (one_of [] empty_0 [] none_left))))))

-- ── on the model, computed: there is room, buffers are long enough, the queue at the end, the messages ──

abbrev begins : Queue
begins = model.starts 7 3

computed : model.Roomy begins (events calls) × Long_on begins calls × (model.final begins (events calls) ≡ queue 7 2 3 [] [] [])
    × (map told (model.out begins (events calls)) ≡ message 0 one ∷ message 0 two ∷ message 0 empty ∷ message 1 three ∷ [])
unfolding push push_unordered keep_loose move_run push_ordered keep_ordered stored grown_set joins placed any complete rises set_of while past size joined reach run runs find scan starts_by ahead distance before slice gone turn finished_turn ordered_turn ready_set moved_on readable first_ssn first_ppi room_for fragment_of data_flags data_sent
computed = (
  (refl, (refl, (refl, (refl, (refl, (refl, (refl, tt))))))),
  (omega arith, (omega arith, (omega arith, (omega arith, (omega arith, (omega arith, tt)))))),
  refl,
  refl,
)

-- ── of the calls, on any table and pool of the lengths ──

module _ (ws pool : List ℕ) (w : length ws ≡ 4 * frags_most) (p : bytes_most ≤ length pool) where
  abbrev start : State
  start = state_of (fresh 7 3) ws pool

  of : Each (Of 7) (pushes calls)
  of = each_order (Of 7) once (plan_stream 7 4294967294 3 plan)

  pub meets : Run os us start calls
  meets = let k = back (fresh_holds 7 3 ws pool w p) calls of computed.0 computed.1 in record { once = once; room = k.0; long = k.1 }

  walked : Walked start begins calls
  walked = walk (fresh_holds 7 3 ws pool w p) calls of meets.room meets.long

  pub until : is_readable (ran start calls) ≡ says none false
  unfolding readable turn ordered_turn ready_set
  until = readable-is walked.holds ∙ ap (λ (q : Queue). says none (readable q)) computed.2

  -- an unordered message comes as soon as it is whole, an ordered one in its turn
  pub four : out start calls ≡ message 0 one ∷ message 0 two ∷ message 0 empty ∷ message 1 three ∷ []
  four = walked.came ∙ computed.3

  -- as the theorem says
  pub arrived : Arrival → Arrived os us start calls
  arrived arrival = arrival 7 4294967294 3 os us plan ws pool w p calls meets until
