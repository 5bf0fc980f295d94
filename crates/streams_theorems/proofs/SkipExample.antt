-- Runs that meet the premises of the guarantee with skips: on stream 7 those of crate `arrival_with_skips`'s example whose given up chunks do not
-- come, on the others anything.
-- Assumes nothing.
use mathlib.Core.Path.{◌≡◌, refl, sym, ap, subst, ◌∙◌}
use mathlib.Core.Bool.{false}
use mathlib.Core.List.{List, [], ◌∷◌, ◌++◌}
use Prim.Native.Nat.{ℕ}
use native.Mathlib.Omega.{arith}
use lib.ListN.{length}
use Rattle.wire_model.specs.BigEndian.{over}
use Rattle.wire_model.specs.Refusal.{none, says}
use Rattle.serial_model.specs.Serial.{ahead, distance, before}
use Rattle.data_fields.specs.Fields.{data_flags, data_sent}
use Rattle.moves_model.specs.Lists.{slice, gone}
use Rattle.fragments.specs.Words.{size, joined, any, while, past, find, placed, concat}
use Rattle.fragment_sets.specs.Sets as sets
use Rattle.fragment_sets.specs.Sets.{set_of, rises, complete, joins, grown_set, stored, kept_sets, set_up_to, skipped}
use Rattle.loose_fragments.specs.Loose.{runs, run, reach, starts_by, scan}
use Rattle.reassembly_state.specs.Model.{Queue, queue, keep_ordered, push_ordered, move_run, keep_loose, push_unordered, push, ready_set, moved_on, first_ssn, first_ppi, finished_turn, ordered_turn, turn, readable, message_of, taken, skip_ordered, skip_unordered}
use Rattle.reassembly_state.specs.State.{fragment_of}
use Rattle.streams_model.specs.State.{State, is_readable}
use Rattle.arrival_plan.specs.Plan.{Order}
use Rattle.arrival.specs.Calls.{Chunk, chunks_of, message}
use Rattle.arrival.proofs.Example.{three_0, three_1, three_2, three, two_1, one_0, one, os, us, plan, buffer}
use Rattle.arrival_with_skips.specs.Skips.{pushes, ssns, tsns, Named, AllInArc, AllNeedless, piece}
use Rattle.arrival_with_skips.proofs.Example.{never, all_needless, meets_fewer}
use Rattle.streams_theorems.specs.Runs.{Act, Push, Take, IsReadable, SkipOrdered, SkipUnordered, Call, start, ran, calls_on, answers_on, EachOn, Roomy, OnItsOwn}
use Rattle.streams_theorems.specs.Alone.{Lent}
use Rattle.streams_theorems.specs.Arrives.{Long, came_in}
use Rattle.streams_theorems.specs.Skips.{Unbounded, asked, RunOn, ArrivedOn}
use Rattle.streams_theorems.proofs.Stays.{readable-is}
use Rattle.streams_theorems.proofs.Follow.{ran_on, told_on, Each, Followed}
use Rattle.streams_theorems.proofs.Alone.{Small, own_followed}
use Rattle.streams_theorems.proofs.Skips.{arrives}
use Rattle.streams_theorems.proofs.Own.{Mine, on-own}

abbrev pub acts : List Act
acts =
    Push three_2 ∷ Push three_0 ∷ Push three_1 ∷ SkipUnordered 4294967295 ∷ SkipOrdered 1 ∷ IsReadable ∷ Push two_1 ∷ Take buffer ∷ Push one_0 ∷ Take buffer ∷ []

abbrev begins : Queue
begins = queue 7 0 3 [] [] []

-- on the model, computed: each push finds room of the stream's own, each buffer is long enough, the queue at the end, the messages
computed : Each Mine begins acts × (ran_on begins acts ≡ queue 7 2 3 [] (piece two_1 ∷ []) []) × (came_in (told_on begins acts) ≡ message 1 three ∷ message 0 one ∷ [])
unfolding push push_unordered keep_loose move_run push_ordered keep_ordered stored grown_set joins placed any complete rises set_of while past size joined reach run runs find scan starts_by ahead distance before slice gone turn finished_turn ordered_turn ready_set moved_on readable first_ssn first_ppi message_of taken fragment_of data_flags data_sent over skip_ordered skip_unordered skipped concat kept_sets set_up_to sets.sets sets.ahead
computed = (
  (record { frags = omega arith; bytes = omega arith }, (record { frags = omega arith; bytes = omega arith }, (record { frags = omega arith; bytes = omega arith }, (tt, (tt, (tt, (record { frags = omega arith; bytes = omega arith }, (omega arith, (record { frags = omega arith; bytes = omega arith }, (omega arith, tt)))))))))),
  refl,
  refl,
)

module _ (ws pool : List ℕ) (lent : Lent ws pool) (calls : List Call) (on-7 : calls_on 7 calls ≡ acts) where
  abbrev s : State
  s = start 3 ws pool

  fits : EachOn 7 (Roomy 7) s calls × (EachOn 7 (Long 7) s calls × EachOn 7 (OnItsOwn 7) s calls)
  fits = on-own 3 7 (omega arith) ws pool lent calls (subst (Each Mine begins) (sym on-7) computed.0)

  pub runs_on : RunOn 7 4294967294 os us s calls never
  runs_on =
      let alone = meets_fewer ws pool lent.words lent.bytes in
      record {
        once = subst (λ (l : List Act). Order Chunk (pushes (asked l) ++ never) (chunks_of os ++ chunks_of us)) (sym on-7) alone.once;
        unbounded = subst Unbounded (sym on-7) tt;
        room = fits.0;
        long = fits.1.0;
        named = subst (λ (l : List Act). Named os (ssns (asked l))) (sym on-7) alone.named;
        in_arc = subst (λ (l : List Act). AllInArc 4294967294 (tsns (asked l))) (sym on-7) alone.in_arc;
      }

  followed : Followed (length pool) 7 Small s begins calls
  followed = own_followed 3 7 (omega arith) ws pool lent calls fits.1.1

  pub until : is_readable (ran s calls) 7 ≡ says none false
  unfolding readable turn ordered_turn ready_set
  until = readable-is followed.holds 7 (omega arith) ∙ ap (λ (q : Queue). says none (readable q)) (followed.is ∙ ap (ran_on begins) on-7 ∙ computed.1)

  -- two came
  pub two-came : came_in (answers_on 7 s calls) ≡ message 1 three ∷ message 0 one ∷ []
  two-came = ap came_in (followed.answers ∙ ap (told_on begins) on-7) ∙ computed.2

  -- as the guarantee says
  pub arrived : ArrivedOn 7 os us s calls
  arrived = arrives 3 7 4294967294 (omega arith) os us plan ws pool lent calls never runs_on (subst (λ (l : List Act). AllNeedless (asked l) never) (sym on-7) all_needless) until
