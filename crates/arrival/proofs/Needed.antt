-- What the premises are for: runs each of which breaks one of them alone, and for which what the theorem says is false.
-- Assumes nothing.
use mathlib.Core.Path.{◌≡◌, refl, sym, ap, ◌∙◌}
use mathlib.Core.Bool.{Bool, true, false}
use mathlib.Core.List.{List, [], ◌∷◌}
use Prim.Native.Nat.{ℕ, suc, ◌+◌, ◌-◌, ◌*◌, ◌≤◌}
use native.Mathlib.Omega.{arith}
use lib.ListN.{length, length-map}
use Rattle.wire_model.specs.Refusal.{Refusal, none, refuse, Told, says}
use Rattle.serial_model.specs.Serial.{ahead, distance, before}
use Rattle.data_fields.specs.Fields.{data_flags, data_sent}
use Rattle.moves_model.specs.Lists.{slice, gone}
use Rattle.fragments.specs.Frag.{Frag}
use Rattle.fragments.specs.Words.{size, any, while, past, find, placed}
use Rattle.fragment_sets.specs.Sets.{set_of, rises, complete, joins, grown_set, stored}
use Rattle.loose_fragments.specs.Loose.{runs, run, reach, starts_by, scan}
use Rattle.reassembly_state.specs.Limits.{frags_most, bytes_most}
use Rattle.reassembly_state.specs.Model.{Queue, held, room_for, keep_ordered, push_ordered, move_run, keep_loose, push_unordered, push, ready_set, moved_on, first_ssn, finished_turn, ordered_turn, turn, readable, message_of, taken}
use Rattle.reassembly_state.specs.State.{State, fragment_of, unsound, pushed, Read, lay_taken, read}
use Rattle.reassembly_queue.specs.Queue.{state_of, fresh}
use Rattle.reassembly_state.proofs.Laws.{held-view}
use Rattle.arrival_plan.specs.Plan as model
use Rattle.arrival_plan.specs.Plan.{Merge, neither, left, right}
use Rattle.arrival.specs.Calls.{Chunk, Sent, Call, Push, Take, pushes, after_push, ran, Came, given, message, in_order, out, Arrived}
use Rattle.arrival_plan.proofs.Maps.{order_length, merge_length, Each}
use Rattle.arrival.proofs.Planned.{Of, frag_of, piece_of}
use Rattle.arrival.proofs.Bridge.{push_holds, push-told, read_is, told, events, Walked, walk, fresh_holds, Long_on, back}
use Rattle.arrival.proofs.Example.{chunk}

-- ── the theorem counts: as many messages come as were sent, and none are left ──

in_order-length : (n : ℕ) (ms : List Sent) → length (in_order n ms) ≡ length ms
in_order-length n [] = refl
in_order-length n (m ∷ ms) = ap suc (in_order-length (suc n) ms)

arrived-count : {os us : List Sent} {s : State} {calls : List Call} → Arrived os us s calls → length (out s calls) ≡ length os + length us
arrived-count {os} {us} a =
    merge_length a.merged ∙ rw (in_order-length 0 os, order_length a.some_order, length-map us (message 0))

-- ── runs with room and long buffers, on the model: so many messages come, so many fragments stay ──

record Shows (max : ℕ) (calls : List Call) (m n : ℕ) : Type 0 where
  of : Each (Of 7) (pushes calls)
  roomy : model.Roomy (model.starts 7 max) (events calls)
  long : Long_on (model.starts 7 max) calls
  comes : length (model.out (model.starts 7 max) (events calls)) ≡ m
  stay : length (held (model.final (model.starts 7 max) (events calls))) ≡ n

-- chunks of one byte: unordered ones by B, E and TSN, whole ordered ones by SSN and TSN
abbrev loose : Bool → Bool → ℕ → Chunk
loose b e tsn = chunk true b e tsn 0 53 (65 ∷ [])

abbrev numbered : ℕ → ℕ → Chunk
numbered ssn tsn = chunk false true true tsn ssn 53 (65 ∷ [])

abbrev sent : ℕ → List Chunk → Sent
sent first cs = record { ppi = 53; first = first; chunks = cs }

abbrev buffer : List ℕ
buffer = 0 ∷ 0 ∷ 0 ∷ []

abbrev take : Call
take = Take buffer

-- "TSNs are distinct": TSN 1 is in two messages; the second is taken for the first
abbrev twice : List Call
twice = Push (loose true false 1) ∷ Push (loose true true 1) ∷ Push (loose false true 2) ∷ take ∷ take ∷ []

-- "Each chunk comes once": it comes twice, and so does its message
abbrev again : List Call
again = Push (loose true true 1) ∷ Push (loose true true 1) ∷ take ∷ take ∷ []

-- "the first alone marked beginning": so is the second, and the first stays
abbrev two_beginnings : List Call
two_beginnings = Push (loose true false 1) ∷ Push (loose true false 2) ∷ Push (loose false true 3) ∷ take ∷ take ∷ []

-- "consecutive TSNs": 2 is left out
abbrev a_gap : List Call
a_gap = Push (loose true false 1) ∷ Push (loose false true 3) ∷ take ∷ []

-- "numbered on from 0": from 1
abbrev from_one : List Call
from_one = Push (numbered 1 1) ∷ take ∷ []

-- "in one arc shorter than 2^31": three messages lie around the circle, and what is held is never side by side
abbrev around : List Call
around =
    Push (loose true false 0) ∷ Push (loose true false 2147483647) ∷ Push (loose true false 2147483650) ∷ Push (loose false true 1) ∷ Push (loose false true 2147483648)
    ∷ Push (loose false true 2147483651) ∷ take ∷ take ∷ take ∷ []

computed : Shows 3 twice 1 0 × Shows 3 again 2 0 × Shows 3 two_beginnings 1 1 × Shows 3 a_gap 0 2 × Shows 3 from_one 0 1 × Shows 3 around 0 6
unfolding push push_unordered keep_loose move_run push_ordered keep_ordered stored grown_set joins placed any complete rises set_of while past size reach run runs find scan starts_by ahead distance before slice gone turn finished_turn ordered_turn ready_set moved_on readable room_for fragment_of data_flags data_sent
computed = (
  record { of = (refl, (refl, (refl, tt))); roomy = (refl, (refl, (refl, tt))); long = (omega arith, (omega arith, tt)); comes = refl; stay = refl },
  record { of = (refl, (refl, tt)); roomy = (refl, (refl, tt)); long = (omega arith, (omega arith, tt)); comes = refl; stay = refl },
  record { of = (refl, (refl, (refl, tt))); roomy = (refl, (refl, (refl, tt))); long = (omega arith, (omega arith, tt)); comes = refl; stay = refl },
  record { of = (refl, (refl, tt)); roomy = (refl, (refl, tt)); long = (omega arith, tt); comes = refl; stay = refl },
  record { of = (refl, tt); roomy = (refl, tt); long = (omega arith, tt); comes = refl; stay = refl },
  record {
    of = (refl, (refl, (refl, (refl, (refl, (refl, tt))))));
    roomy = (refl, (refl, (refl, (refl, (refl, (refl, tt))))));
    long = (omega arith, (omega arith, (omega arith, tt)));
    comes = refl;
    stay = refl;
  },
)

-- ── refusals ──

abbrev number : Refusal → ℕ
number none = 0
number (refuse k) = suc k

refused : (k : ℕ) {r : Refusal} → r ≡ refuse k → r ≡ none → ⊥
refused k e f = let z : suc k ≡ 0 = ap number (sym e ∙ f) in absurd (omega arith)

no_room : (bytes : List ℕ) → length bytes ≡ bytes_most + 1
    → (push (room_for (model.starts 7 (bytes_most + 1)) (frag_of (chunk true true true 1 0 53 bytes))) (model.starts 7 (bytes_most + 1)) 7 true (frag_of (chunk true true true 1 0 53 bytes))).told
    ≡ says (refuse 8) false
unfolding push push_unordered reach run any room_for size fragment_of data_flags
no_room bytes e = rw e

too_short : (taken (model.after_push (model.starts 7 3) (piece_of (loose true true 1))) []).told.refusal ≡ refuse 10
unfolding taken push push_unordered keep_loose move_run placed any reach run runs find scan starts_by slice gone turn finished_turn readable size while room_for fragment_of data_flags data_sent
too_short = refl

unsound_pool : (ws pool : List ℕ) → length pool ≡ bytes_most - 1 → (pushed (state_of (fresh 7 3) ws pool) (loose true true 1).fields (loose true true 1).bytes).told.refusal ≡ refuse 0
unfolding pushed unsound
unsound_pool ws pool e = rw e

-- ── the first that comes ──

-- its SSN
abbrev leading : List Came → ℕ
leading [] = 0
leading (c ∷ cs) = c.told.ssn

merge_leading : {l r m : List Came} → Merge Came l r m → length r ≡ 0 → leading m ≡ leading l
merge_leading neither e = refl
merge_leading (left g) e = refl
merge_leading (right g) e = absurd (omega arith)

-- number 32,768, half the circle from 0: neither is before the other, so it is kept, and is not after the expected one
abbrev last : Chunk
last = numbered 32768 32768

last_leads : (s : State) (ms : List Came) → leading (given (lay_taken s (taken (model.after_push (model.starts 7 3) (piece_of last)) buffer)) ms) ≡ 32768
unfolding taken message_of push push_ordered keep_ordered stored grown_set joins set_of while past size any placed complete rises ahead distance before turn ordered_turn first_ssn ready_set readable room_for fragment_of data_flags data_sent
last_leads s ms = refl

-- ── of the calls, on any table and pool of the lengths ──

module _ (ws pool : List ℕ) (w : length ws ≡ 4 * frags_most) (p : bytes_most ≤ length pool) where
  abbrev start : ℕ → State
  start max = state_of (fresh 7 max) ws pool

  module _ {max : ℕ} {calls : List Call} {m n : ℕ} (h : Shows max calls m n) {os us : List Sent} (a : Arrived os us (start max) calls) where
    walked : Walked (start max) (model.starts 7 max) calls
    walked =
        let f = fresh_holds 7 max ws pool w p in
        let k = back f calls h.of h.roomy h.long in
        walk f calls h.of k.0 k.1

    all_come : m ≡ length os + length us
    all_come =
        sym h.comes ∙ sym (length-map (model.out (model.starts 7 max) (events calls)) told) ∙ ap (λ (l : List Came). length l) (sym walked.came) ∙ arrived-count a

    none_stay : n ≡ 0
    none_stay =
        sym h.stay ∙ ap (λ (q : Queue). length (held q)) (sym walked.holds.seen) ∙ ap (λ (l : List Frag). length l) (held-view (ran (start max) calls) ∙ a.nothing-held)

  pub tsns_distinct : Arrived [] (sent 0 (loose true false 1 ∷ loose false true 2 ∷ []) ∷ sent 0 (loose true true 1 ∷ []) ∷ []) (start 3) twice → ⊥
  tsns_distinct a = let k = all_come computed.0 a in absurd (omega arith)

  pub once_each : Arrived [] (sent 0 (loose true true 1 ∷ []) ∷ []) (start 3) again → ⊥
  once_each a = let k = all_come computed.1 a in absurd (omega arith)

  pub one_beginning : Arrived [] (sent 0 (loose true false 1 ∷ loose true false 2 ∷ loose false true 3 ∷ []) ∷ []) (start 3) two_beginnings → ⊥
  one_beginning a = let k = none_stay computed.2 a in absurd (omega arith)

  pub consecutive : Arrived [] (sent 0 (loose true false 1 ∷ loose false true 3 ∷ []) ∷ []) (start 3) a_gap → ⊥
  consecutive a = let k = none_stay computed.3 a in absurd (omega arith)

  pub from_zero : Arrived (sent 0 (numbered 1 1 ∷ []) ∷ []) [] (start 3) from_one → ⊥
  from_zero a = let k = none_stay computed.4 a in absurd (omega arith)

  pub one-arc : Arrived []
      (sent 0 (loose true false 0 ∷ loose false true 1 ∷ []) ∷ sent 2147483647 (loose true false 2147483647 ∷ loose false true 2147483648 ∷ [])
      ∷ sent 2147483650 (loose true false 2147483650 ∷ loose false true 2147483651 ∷ []) ∷ [])
      (start 3) around → ⊥
  one-arc a = let k = none_stay computed.5 a in absurd (omega arith)

  -- "Ordered messages, at most 32,767": 32,769 of them, numbers 0 to 32,768, each one byte in one chunk, its TSN its number;
  -- the chunk of number 32,768 comes first, and is taken before number 0, whatever calls follow
  pub few_ordered : (m : Sent) (ms : List Sent) (calls : List Call) → Arrived (m ∷ ms) [] (start 3) (Push last ∷ take ∷ calls) → ⊥
  few_ordered m ms calls a =
      let h = push_holds (fresh_holds 7 3 ws pool w p) last refl in
      let s : State = after_push (start 3) last in
      let later : List Came = out (read s buffer).state calls in
      let e = ap (λ (r : Read). leading (given r later)) (read_is h buffer) ∙ last_leads s later in
      let z : ◌≡◌ {A = ℕ} 32768 0 = sym e ∙ merge_leading a.merged (order_length a.some_order) in
      absurd (omega arith)

  -- ── calls that are refused ──

  -- "none over the size limit": a byte, where none is allowed
  pub size-limit : Arrived [] (sent 0 (loose true true 1 ∷ []) ∷ []) (start 0) (Push (loose true true 1) ∷ []) → ⊥
  unfolding push push_unordered reach run fragment_of data_flags
  size-limit a = refused 6 (ap (λ (t : Told Bool). t.refusal) (push-told (fresh_holds 7 0 ws pool w p) (loose true true 1) refl)) a.unrefused.0

  -- "room never exceeded": a byte more than there is room for
  pub room : (bytes : List ℕ) → length bytes ≡ bytes_most + 1
      → Arrived [] (sent 0 (chunk true true true 1 0 53 bytes ∷ []) ∷ []) (start (bytes_most + 1)) (Push (chunk true true true 1 0 53 bytes) ∷ []) → ⊥
  room bytes e a =
      let c : Chunk = chunk true true true 1 0 53 bytes in
      refused 8 (ap (λ (t : Told Bool). t.refusal) (push-told (fresh_holds 7 (bytes_most + 1) ws pool w p) c refl ∙ no_room bytes e)) a.unrefused.0

  -- "take buffers long enough": an empty one for a byte
  pub long_buffers : Arrived [] (sent 0 (loose true true 1 ∷ []) ∷ []) (start 3) (Push (loose true true 1) ∷ Take [] ∷ take ∷ []) → ⊥
  long_buffers a =
      let h = push_holds (fresh_holds 7 3 ws pool w p) (loose true true 1) refl in
      refused 10 (ap (λ (r : Read). r.told.refusal) (read_is h []) ∙ too_short) a.unrefused.1.0

-- "the pool at its full limit": a byte less
pub full_pool : (ws pool : List ℕ) → length pool ≡ bytes_most - 1 → Arrived [] (sent 0 (loose true true 1 ∷ []) ∷ []) (state_of (fresh 7 3) ws pool) (Push (loose true true 1) ∷ []) → ⊥
full_pool ws pool e a = refused 0 (unsound_pool ws pool e) a.unrefused.0
