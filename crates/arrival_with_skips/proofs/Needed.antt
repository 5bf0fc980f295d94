-- What the premises on skips are for: runs each of which breaks one of them alone, and for which what the theorem says is false. For the others, see arrival.
-- Assumes nothing.
use mathlib.Core.Path.{◌≡◌, refl, sym, ap, ◌∙◌}
use mathlib.Core.List.{List, [], ◌∷◌, ◌++◌, map}
use Prim.Native.Nat.{ℕ, ◌+◌, ◌*◌, ◌≤◌}
use native.Mathlib.Omega.{arith}
use lib.ListN.{length, length-append, length-map}
use Rattle.serial_model.specs.Serial.{ahead, distance, before}
use Rattle.data_fields.specs.Fields.{data_flags, data_sent}
use Rattle.moves_model.specs.Lists.{slice, gone}
use Rattle.fragments.specs.Frag.{Frag}
use Rattle.fragments.specs.Words.{size, any, while, past, find, placed, concat}
use Rattle.fragment_sets.specs.Sets as sets
use Rattle.fragment_sets.specs.Sets.{set_of, rises, complete, joins, grown_set, stored, set_up_to, kept_sets, skipped}
use Rattle.loose_fragments.specs.Loose.{runs, run, reach, starts_by, scan}
use Rattle.reassembly_state.specs.Limits.{frags_most, bytes_most}
use Rattle.reassembly_state.specs.Model.{Queue, held, room_for, keep_ordered, push_ordered, move_run, keep_loose, push_unordered, push, ready_set, moved_on, finished_turn, ordered_turn, turn, readable, skip_ordered, skip_unordered}
use Rattle.reassembly_state.specs.State.{State, fragments, fragment_of}
use Rattle.reassembly_queue.specs.Queue.{state_of, fresh}
use Rattle.reassembly_state.proofs.Laws.{held-view}
use Rattle.arrival_plan.specs.Plan.{starts, Order}
use Rattle.arrival.specs.Calls.{Sent, chunks_of, Came, message, in_order}
use Rattle.arrival_plan.proofs.Maps.{order_length, merge_length, Each}
use Rattle.arrival.proofs.Planned.{Of}
use Rattle.arrival.proofs.Bridge.{told, fresh_holds}
use Rattle.arrival.proofs.Example.{empty_0, three_0, three_1, three_2, two_0, two_1, two, os, buffer}
use Rattle.arrival_with_skips.specs.Skips.{Call, Push, Take, SkipOrdered, SkipUnordered, ran, out, pushes, Untouched, Touched, Arrived}
use Rattle.skips_plan.proofs.Each.{each_back}
use Rattle.skips_plan.proofs.Runs as model
use Rattle.arrival_with_skips.proofs.Walk.{events, Walked, follow, Long_on, back}

-- ── the runs ──

-- "an SSN of the plan": 32,768 is none; number 1 is 2^15 from the expected number then, so that its late chunks are stored, and stay
abbrev past_the_plan : List Call
past_the_plan = Push empty_0 ∷ Take buffer ∷ Push three_0 ∷ SkipOrdered 32768 ∷ Push three_1 ∷ Push three_2 ∷ Take buffer ∷ []

-- "a TSN in the same arc": the second is not; it drops a chunk whose TSN is after the first, though neither of the two is after the other
abbrev outside : List ℕ
outside = 4294967294 ∷ 2147483647 ∷ []

abbrev past_the_arc : List Call
past_the_arc = Push two_0 ∷ SkipUnordered 4294967294 ∷ SkipUnordered 2147483647 ∷ Push two_1 ∷ Take buffer ∷ []

-- a chunk of number 0 does not come, and no skip makes it needless: number 1 is not taken
abbrev one-waits : List Call
one-waits = Push three_0 ∷ Push three_1 ∷ Push three_2 ∷ Take buffer ∷ []

-- on the model: so many messages come, so many fragments stay
record Shows (calls : List Call) (m n : ℕ) : Type 0 where
  of : Each (Of 7) (pushes calls)
  roomy : model.AtEach model.Room (starts 7 3) (events calls)
  long : Long_on (starts 7 3) calls
  comes : length (model.out (starts 7 3) (events calls)) ≡ m
  stay : length (held (model.final (starts 7 3) (events calls))) ≡ n

computed : Shows past_the_plan 1 2 × Shows past_the_arc 0 1 × Shows one-waits 0 3
unfolding push push_unordered keep_loose move_run push_ordered keep_ordered stored grown_set joins placed any complete rises set_of while past size reach run runs find scan starts_by ahead distance before slice gone turn finished_turn ordered_turn ready_set moved_on readable room_for fragment_of data_flags data_sent skip_ordered skip_unordered skipped concat kept_sets set_up_to sets.sets sets.ahead
computed = (
  record {
    of = (refl, (refl, (refl, (refl, tt))));
    roomy = (refl, (tt, (refl, (tt, (refl, (refl, (tt, tt)))))));
    long = (omega arith, (omega arith, tt));
    comes = refl;
    stay = refl;
  },
  record { of = (refl, (refl, tt)); roomy = (refl, (tt, (tt, (refl, (tt, tt))))); long = (omega arith, tt); comes = refl; stay = refl },
  record { of = (refl, (refl, (refl, tt))); roomy = (refl, (refl, (refl, (tt, tt)))); long = (omega arith, tt); comes = refl; stay = refl },
)

-- ── of the calls, on any table and pool of the lengths ──

untouched : Untouched outside two.chunks
unfolding before distance ahead
untouched = (refl, (refl, tt))

touched_each : (l : List ℕ) (ms : List Sent) → Touched l ms → Each (λ (m : Sent). Untouched l m.chunks → ⊥) ms
touched_each l [] h = tt
touched_each l (m ∷ ms) h = (h.0, touched_each l ms h.1)

-- no message: no chunk
none : (ms : List Sent) → length ms ≡ 0 → length (chunks_of ms) ≡ 0
none [] e = refl
none (m ∷ ms) e = absurd (omega arith)

module _ (ws pool : List ℕ) (w : length ws ≡ 4 * frags_most) (p : bytes_most ≤ length pool) where
  abbrev start : State
  start = state_of (fresh 7 3) ws pool

  module _ {calls : List Call} {m n : ℕ} (h : Shows calls m n) where
    walked : Walked start (starts 7 3) calls
    walked =
        let f = fresh_holds 7 3 ws pool w p in
        let k = back f calls h.of h.roomy h.long in
        follow f calls h.of k.0 k.1

    come : length (out start calls) ≡ m
    come = ap (λ (l : List Came). length l) walked.came ∙ length-map (model.out (starts 7 3) (events calls)) told ∙ h.comes

    stay : length (fragments (ran start calls)) ≡ n
    stay = ap (λ (l : List Frag). length l) (sym (held-view (ran start calls))) ∙ ap (λ (q : Queue). length (held q)) walked.holds.seen ∙ h.stay

  pub of_the_plan : Arrived os [] start past_the_plan → ⊥
  of_the_plan a =
      let none-gone = order_length a.taken.unnumbered in
      let pieces = merge_length a.parted in
      let no_Chunk = none a.taken.gone (omega (arith, length-append a.taken.loose a.taken.gone)) in
      let two-stay = sym (stay computed.0) ∙ ap (λ (l : List Frag). length l) a.held ∙ length-map a.pieces _ in
      absurd (omega arith)

  pub in_the_arc : Arrived [] (two ∷ []) start past_the_arc → ⊥
  in_the_arc a = go a.taken.loose a.taken.unnumbered (length a.taken.came) (sym (come computed.1) ∙ merge_length a.taken.merged)
    where
      go : (loose : List Sent) → Order Sent (loose ++ a.taken.gone) (two ∷ []) → (k : ℕ) → 0 ≡ k + length (map (message 0) loose) → ⊥
      go [] o k e = (each_back (λ (m : Sent). Untouched outside m.chunks → ⊥) o (touched_each outside a.taken.gone a.touched)).0 untouched
      go (m ∷ loose) o k e = absurd (omega arith)

  pub all_but_needless : Arrived os [] start one-waits → ⊥
  all_but_needless a =
      let e = sym (come computed.2) ∙ merge_length a.taken.merged in
      let f = ap (λ (l : List Came). length l) a.behind ∙ length-append a.early (in_order 0 os) in
      absurd (omega arith)
