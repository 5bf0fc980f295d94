-- A plan, to show that there are some: two ordered messages, the second of three chunks, and an unordered one of two between them; TSNs from
-- 2 ^ 32 - 2 on, so that they wrap. And a run of it in which the last chunk comes first.
-- Assumes nothing.
use mathlib.Core.Path.{◌≡◌, refl}
use mathlib.Core.Bool.{Bool, true, false, cond}
use mathlib.Core.List.{List, [], ◌∷◌}
use Prim.Native.Nat.{ℕ, ◌+◌}
use native.Mathlib.Omega.{arith}
use Rattle.serial_model.specs.Serial.{ahead, distance, before}
use Rattle.moves_model.specs.Lists.{slice, gone}
use Rattle.fragments.specs.Frag.{Frag}
use Rattle.fragments.specs.Words.{size, joined, any, while, past, find, placed}
use Rattle.fragment_sets.specs.Sets.{set_of, rises, complete, joins, grown_set, stored}
use Rattle.loose_fragments.specs.Loose.{runs, run, reach, starts_by, scan}
use Rattle.reassembly_state.specs.Model.{queue, room_for, keep_ordered, push_ordered, move_run, keep_loose, push_unordered, push, ready_set, moved_on, first_ssn, first_ppi, ordered_turn, finished_turn, turn, readable}
use Rattle.arrival_plan.specs.Plan.{Msg, tsn_at, Plan, Carried, chunk, chunks_of, Event, Push, Take, pushes, final, out, Order, none_left, one_of, Came, starts, Unrefused}
use Rattle.arrival_plan.proofs.Whole.{arrival, unrefused}

-- of stream 7, with identifier 51
abbrev frag : ℕ → ℕ → Bool → Bool → List ℕ → Frag
frag t s b e l = record { flags = cond b 2 0 + cond e 1 0; tsn = t; id = 458752 + s; ppi = 51; bytes = l }

abbrev os : List Msg
os =
    record { first = 0; ppi = 51; frags = frag 4294967294 0 true true [] ∷ [] }
    ∷ record { first = 3; ppi = 51; frags = frag 1 1 true false (67 ∷ []) ∷ frag 2 1 false false (68 ∷ []) ∷ frag 3 1 false true (69 ∷ []) ∷ [] } ∷ []

abbrev us : List Msg
us = record { first = 1; ppi = 51; frags = frag 4294967295 8 true false (65 ∷ []) ∷ frag 0 9 false true (66 ∷ []) ∷ [] } ∷ []

abbrev calls : List Event
calls =
    Push (chunk false (frag 3 1 false true (69 ∷ []))) ∷ Push (chunk true (frag 0 9 false true (66 ∷ []))) ∷ Push (chunk false (frag 1 1 true false (67 ∷ []))) ∷ Take
    ∷ Push (chunk true (frag 4294967295 8 true false (65 ∷ []))) ∷ Push (chunk false (frag 2 1 false false (68 ∷ []))) ∷ Take ∷ Take
    ∷ Push (chunk false (frag 4294967294 0 true true [])) ∷ Take ∷ Take ∷ Take ∷ []

small_plan : Plan 4294967294 3 os us
unfolding tsn_at size
small_plan =
    record {
      few = omega arith;
      ordered = (
        record { cut = (record { tsn = refl; ppi = refl; begin = refl; end = refl }, tt); arc = omega arith; small = omega arith },
        (refl, tt),
        (
          record {
            cut = (
              record { tsn = refl; ppi = refl; begin = refl; end = refl },
              (record { tsn = refl; ppi = refl; begin = refl; end = refl }, (record { tsn = refl; ppi = refl; begin = refl; end = refl }, tt)),
            );
            arc = omega arith;
            small = omega arith;
          },
          (refl, (refl, (refl, tt))),
          tt,
        ),
      );
      unordered = (
        record {
          cut = (record { tsn = refl; ppi = refl; begin = refl; end = refl }, (record { tsn = refl; ppi = refl; begin = refl; end = refl }, tt));
          arc = omega arith;
          small = omega arith;
        },
        tt,
        tt,
      );
    }

any_order : Order Carried (pushes calls) (chunks_of os us)
any_order =
    let c : Carried = chunk false (frag 4294967294 0 true true []) in
    let d : Carried = chunk false (frag 1 1 true false (67 ∷ [])) in
    let e : Carried = chunk false (frag 2 1 false false (68 ∷ [])) in
    let f : Carried = chunk false (frag 3 1 false true (69 ∷ [])) in
    let g : Carried = chunk true (frag 4294967295 8 true false (65 ∷ [])) in
    let h : Carried = chunk true (frag 0 9 false true (66 ∷ [])) in
    one_of (c ∷ d ∷ e ∷ []) f (g ∷ h ∷ [])
    (one_of (c ∷ d ∷ e ∷ g ∷ []) h [] (one_of (c ∷ []) d (e ∷ g ∷ []) (one_of (c ∷ e ∷ []) g [] (one_of (c ∷ []) e [] (one_of [] c [] none_left)))))

small_run : Came os us (out (starts 7 3) calls) (final (starts 7 3) calls)
unfolding push push_ordered push_unordered keep_ordered keep_loose move_run room_for reach scan starts_by stored grown_set set_of while past any placed joins complete rises size find run runs turn finished_turn ordered_turn ready_set moved_on readable slice gone before distance ahead
small_run = arrival 7 4294967294 3 os us small_plan calls any_order (refl, (refl, (refl, (refl, (refl, (refl, tt)))))) refl

small_unrefused : Unrefused (starts 7 3) calls
unfolding push push_ordered push_unordered keep_ordered keep_loose move_run room_for reach scan starts_by stored grown_set set_of while past any placed joins complete rises size find run runs turn finished_turn ordered_turn ready_set moved_on readable slice gone before distance ahead
small_unrefused = unrefused 7 4294967294 3 os us small_plan calls any_order (refl, (refl, (refl, (refl, (refl, (refl, tt))))))

-- what came out, and what is left
small_out : out (starts 7 3) calls ≡ record { ssn = 0; ppi = 51; bytes = 65 ∷ 66 ∷ [] } ∷ record { ssn = 0; ppi = 51; bytes = [] } ∷ record { ssn = 1; ppi = 51; bytes = 67 ∷ 68 ∷ 69 ∷ [] } ∷ []
unfolding push push_ordered push_unordered keep_ordered keep_loose move_run room_for reach scan starts_by stored grown_set set_of while past any placed joins complete rises size joined find run runs turn finished_turn ordered_turn ready_set moved_on first_ssn first_ppi readable slice gone before distance ahead
small_out = refl

small_empty : final (starts 7 3) calls ≡ queue 7 2 3 [] [] []
unfolding push push_ordered push_unordered keep_ordered keep_loose move_run room_for reach scan starts_by stored grown_set set_of while past any placed joins complete rises size find run runs turn finished_turn ordered_turn ready_set moved_on readable slice gone before distance ahead
small_empty = refl
