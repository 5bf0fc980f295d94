-- Runs that meet the premises, so that no theorem is empty: on stream 7 the four messages of crate `arrival`'s example, on the others anything.
-- Assumes nothing.
use mathlib.Core.Path.{◌≡◌, refl, sym, ap, subst, ◌∙◌}
use mathlib.Core.Bool.{false}
use mathlib.Core.List.{List, [], ◌∷◌, ◌++◌, map}
use Prim.Native.Nat.{ℕ}
use native.Mathlib.Omega.{arith}
use lib.ListN.{length}
use Rattle.wire_model.specs.BigEndian.{over}
use Rattle.wire_model.specs.Refusal.{none, says}
use Rattle.serial_model.specs.Serial.{ahead, distance, before}
use Rattle.data_fields.specs.Fields.{data_flags, data_sent}
use Rattle.moves_model.specs.Lists.{slice, gone}
use Rattle.fragments.specs.Words.{size, joined, any, while, past, find, placed}
use Rattle.fragment_sets.specs.Sets.{set_of, rises, complete, joins, grown_set, stored}
use Rattle.loose_fragments.specs.Loose.{runs, run, reach, starts_by, scan}
use Rattle.reassembly_state.specs.Model.{Queue, queue, keep_ordered, push_ordered, move_run, keep_loose, push_unordered, push, ready_set, moved_on, first_ssn, first_ppi, finished_turn, ordered_turn, turn, readable, message_of, taken}
use Rattle.reassembly_state.specs.State.{fragment_of}
use Rattle.streams_model.specs.State.{State, is_readable}
use Rattle.arrival_plan.specs.Plan.{Order}
use Rattle.arrival.specs.Calls.{Chunk, chunks_of, message}
use Rattle.arrival.proofs.Example.{three_0, three_1, three_2, two_0, two_1, one_0, empty_0, empty, three, two, one, os, us, plan, buffer, meets}
use Rattle.streams_theorems.specs.Runs.{Act, Push, Take, IsReadable, NumBytes, SkipOrdered, SkipUnordered, SkipBounded, Call, start, ran, calls_on, answers_on, EachOn, Roomy, OnItsOwn}
use Rattle.streams_theorems.specs.Alone.{Lent, SameOn}
use Rattle.streams_theorems.specs.Arrives.{NoSkip, pushed, Long, came_in, RunOn, ArrivedOn}
use Rattle.streams_theorems.proofs.Stays.{readable-is}
use Rattle.streams_theorems.proofs.Follow.{ran_on, told_on, Each, Followed}
use Rattle.streams_theorems.proofs.Alone.{Small, own_followed, isolated}
use Rattle.streams_theorems.proofs.Arrives.{arrives}
use Rattle.streams_theorems.proofs.Own.{Mine, on-own}

-- ── the calls on stream 7: the last chunk first, takes between, a look, three takes at the end ──

abbrev pub acts : List Act
acts =
    Push three_2 ∷ Push two_1 ∷ Push three_0 ∷ Take [] ∷ Push one_0 ∷ Push two_0 ∷ NumBytes ∷ Push three_1 ∷ Take buffer ∷ Take buffer ∷ Push empty_0 ∷ Take [] ∷ Take buffer ∷ Take []
    ∷ []

abbrev begins : Queue
begins = queue 7 0 3 [] [] []

-- on the model, computed: each push finds room of the stream's own, each buffer is long enough, the queue at the end, the messages
computed : Each Mine begins acts × (ran_on begins acts ≡ queue 7 2 3 [] [] [])
    × (came_in (told_on begins acts) ≡ message 0 one ∷ message 0 two ∷ message 0 empty ∷ message 1 three ∷ [])
unfolding push push_unordered keep_loose move_run push_ordered keep_ordered stored grown_set joins placed any complete rises set_of while past size joined reach run runs find scan starts_by ahead distance before slice gone turn finished_turn ordered_turn ready_set moved_on readable first_ssn first_ppi message_of taken fragment_of data_flags data_sent over
computed = (
  (record { frags = omega arith; bytes = omega arith }, (record { frags = omega arith; bytes = omega arith }, (record { frags = omega arith; bytes = omega arith }, (omega arith, (record { frags = omega arith; bytes = omega arith }, (record { frags = omega arith; bytes = omega arith }, (tt, (record { frags = omega arith; bytes = omega arith }, (omega arith, (omega arith, (record { frags = omega arith; bytes = omega arith }, (omega arith, (omega arith, (omega arith, tt)))))))))))))),
  refl,
  refl,
)

-- ── of the calls, whatever is called on the others, on any table and pool of the lengths ──

module _ (ws pool : List ℕ) (lent : Lent ws pool) (calls : List Call) (on-7 : calls_on 7 calls ≡ acts) where
  abbrev s : State
  s = start 3 ws pool

  pub fits : EachOn 7 (Roomy 7) s calls × (EachOn 7 (Long 7) s calls × EachOn 7 (OnItsOwn 7) s calls)
  fits = on-own 3 7 (omega arith) ws pool lent calls (subst (Each Mine begins) (sym on-7) computed.0)

  pub runs_on : RunOn 7 os us s calls
  runs_on =
      record {
        once = subst (λ (l : List Act). Order Chunk (pushed l) (chunks_of os ++ chunks_of us)) (sym on-7) (meets ws pool lent.words lent.bytes).once;
        no_skip = subst NoSkip (sym on-7) tt;
        room = fits.0;
        long = fits.1.0;
      }

  followed : Followed (length pool) 7 Small s begins calls
  followed = own_followed 3 7 (omega arith) ws pool lent calls fits.1.1

  pub until : is_readable (ran s calls) 7 ≡ says none false
  unfolding readable turn ordered_turn ready_set
  until = readable-is followed.holds 7 (omega arith) ∙ ap (λ (q : Queue). says none (readable q)) (followed.is ∙ ap (ran_on begins) on-7 ∙ computed.1)

  -- an unordered message comes as soon as it is whole, an ordered one in its turn
  pub four : came_in (answers_on 7 s calls) ≡ message 0 one ∷ message 0 two ∷ message 0 empty ∷ message 1 three ∷ []
  four = ap came_in (followed.answers ∙ ap (told_on begins) on-7) ∙ computed.2

  -- as demand 3 says
  pub arrived : ArrivedOn 7 os us s calls
  arrived = arrives 3 7 4294967294 (omega arith) os us plan ws pool lent calls runs_on until

  -- and with any other calls on the others the same
  pub same : (ws' pool' : List ℕ) → Lent ws' pool' → (calls' : List Call) → calls_on 7 calls' ≡ acts → SameOn 7 s (start 3 ws' pool') calls calls'
  same ws' pool' lent' calls' on-7' = isolated 3 7 (omega arith) ws pool lent ws' pool' lent' calls calls' (on-7 ∙ sym on-7') fits.1.1

-- ── two such runs: stream 7 between calls on others and on no stream, and stream 7 by itself ──

abbrev on : ℕ → Act → Call
on k a = record { stream = k; act = a }

abbrev pub calls : List Call
calls =
    on 0 (Push one_0) ∷ on 7 (Push three_2) ∷ on 7 (Push two_1) ∷ on 3 (SkipOrdered 9) ∷ on 7 (Push three_0) ∷ on 7 (Take []) ∷ on 7 (Push one_0) ∷ on 8 (Push one_0) ∷ on 7 (Push two_0)
    ∷ on 7 NumBytes ∷ on 1 NumBytes ∷ on 7 (Push three_1) ∷ on 7 (Take buffer) ∷ on 7 (Take buffer) ∷ on 6 (SkipUnordered 4) ∷ on 7 (Push empty_0) ∷ on 2 (Take buffer) ∷ on 7 (Take [])
    ∷ on 7 (Take buffer) ∷ on 5 (SkipBounded 1 2) ∷ on 7 (Take []) ∷ on 9 IsReadable ∷ []

pub its-calls : calls_on 7 calls ≡ acts
its-calls = refl

pub by_itself : calls_on 7 (map (on 7) acts) ≡ acts
by_itself = refl
