-- Arrival order does not matter, of the calls: they do what the model's run does, for which it is proved.
-- Assumes nothing.
use mathlib.Core.Path.{◌≡◌, refl, sym, ap, ◌∙◌}
use mathlib.Core.Bool.{Bool, false}
use mathlib.Core.List.{List, [], ◌∷◌, ◌++◌, map}
use Prim.Native.Nat.{ℕ, suc, ◌*◌, ◌≤◌}
use native.Mathlib.Omega.{arith}
use lib.ListN.{length}
use Rattle.wire_model.specs.Refusal.{none, Told, says}
use Rattle.fragments.specs.Words.{size}
use Rattle.reassembly_state.specs.Limits.{frags_most, bytes_most}
use Rattle.reassembly_state.specs.Model.{Queue, held, readable}
use Rattle.reassembly_state.specs.State.{read, State, fragments, is_readable}
use Rattle.reassembly_queue.specs.Queue.{state_of, fresh}
use Rattle.reassembly_state.proofs.Laws.{held-view}
use Rattle.reassembly_theorems.proofs.Stays.{bytes-told}
use Rattle.reassembly_theorems.proofs.Readable.{unreadable_nothing}
use Rattle.arrival_plan.specs.Plan as model
use Rattle.arrival.specs.Calls.{Chunk, Sent, Plan, Call, Push, Take, pushes, after_push, ran, Roomy, Long, message, in_order, Run, Arrived, Arrival, Arrival_then_takes}
use Rattle.arrival_plan.proofs.Maps.{Each, order_map, merge_map, each_order}
use Rattle.arrival.proofs.Planned.{piece_of, cut_of, joined_bytes, Of, planned, plan_pieces, plan_stream}
use Rattle.arrival.proofs.Bridge.{readable-is, told, events, event_pushes, Walked, walk, fresh_holds}

-- ── the messages, as they are told ──

told-message : (n : ℕ) (m : Sent) → told (model.message n (cut_of m)) ≡ message n m
told-message n m = rw (joined_bytes m.chunks)

pub told_in_order : (n : ℕ) (ms : List Sent) → map told (model.in_order n (map cut_of ms)) ≡ in_order n ms
told_in_order n [] = refl
told_in_order n (m ∷ ms) = rw (told-message n m, told_in_order (suc n) ms)

pub told-loose : (ms : List Sent) → map told (map (model.message 0) (map cut_of ms)) ≡ map (message 0) ms
told-loose [] = refl
told-loose (m ∷ ms) = rw (told-message 0 m, told-loose ms)

-- ── takes at the end ──

pushes-takes : (cs : List Call) (bs : List (List ℕ)) → pushes (cs ++ map Take bs) ≡ pushes cs
pushes-takes [] [] = refl
pushes-takes [] (b ∷ bs) = pushes-takes [] bs
pushes-takes (Push c ∷ cs) bs = ap (λ (l : List Chunk). c ∷ l) (pushes-takes cs bs)
pushes-takes (Take b ∷ cs) bs = pushes-takes cs bs

final-takes : (q : Queue) (cs : List Call) (bs : List (List ℕ)) → model.final q (events (cs ++ map Take bs)) ≡ model.final (model.final q (events cs)) (model.takes (length bs))
final-takes q [] [] = refl
final-takes q [] (b ∷ bs) = final-takes (model.after_take q) [] bs
final-takes q (Push c ∷ cs) bs = final-takes (model.after_push q (piece_of c)) cs bs
final-takes q (Take b ∷ cs) bs = final-takes (model.after_take q) cs bs

-- what holds of a run holds of its front
roomy-front : (s : State) (cs ds : List Call) → Roomy s (cs ++ ds) → Roomy s cs
roomy-front s [] ds r = tt
roomy-front s (Push c ∷ cs) ds r = (r.0, roomy-front (after_push s c) cs ds r.1)
roomy-front s (Take b ∷ cs) ds r = roomy-front (read s b).state cs ds r

long-front : (s : State) (cs ds : List Call) → Long s (cs ++ ds) → Long s cs
long-front s [] ds l = tt
long-front s (Push c ∷ cs) ds l = long-front (after_push s c) cs ds l
long-front s (Take b ∷ cs) ds l = (l.0, long-front (read s b).state cs ds l.1)

-- ── the theorem ──

-- on the model no push of a plan's chunks is refused
abbrev pub Never_refused : Type 0
Never_refused =
    (si base max : ℕ) (os us : List model.Msg) → model.Plan base max os us
    → (es : List model.Event) → model.Order model.Carried (model.pushes es) (model.chunks_of os us)
    → model.Roomy (model.starts si max) es
    → model.Unrefused (model.starts si max) es

module _ (si base max : ℕ) (os us : List Sent) (plan : Plan si base max os us) (ws pool : List ℕ) (w : length ws ≡ 4 * frags_most) (p : bytes_most ≤ length pool) where
  abbrev start : State
  start = state_of (fresh si max) ws pool

  abbrev begins : Queue
  begins = model.starts si max

  walked : (cs : List Call) → Each (Of si) (pushes cs) → Roomy start cs → Long start cs → Walked start begins cs
  walked cs o r l = walk (fresh_holds si max ws pool w p) cs o r l

  module _ (cs : List Call) (run : Run os us start cs) where
    of : Each (Of si) (pushes cs)
    of = each_order (Of si) run.once (plan_stream si base max plan)

    here : Walked start begins cs
    here = walked cs of run.room run.long

    once : model.Order model.Carried (model.pushes (events cs)) (model.chunks_of (map cut_of os) (map cut_of us))
    once = rw (event_pushes cs, ← (plan_pieces si base max plan)) (order_map piece_of run.once)

    module _ (arrival : model.Arrival) (never : Never_refused) (until : is_readable (ran start cs) ≡ says none false) where
      unreadable : readable (model.final begins (events cs)) ≡ false
      unreadable = ap (λ (t : Told Bool). t.values) (sym (readable-is here.holds) ∙ until)

      came : model.Came (map cut_of os) (map cut_of us) (model.out begins (events cs)) (model.final begins (events cs))
      came = arrival si base max (map cut_of os) (map cut_of us) (planned si base max plan) (events cs) once here.roomy unreadable

      empty : fragments (ran start cs) ≡ []
      empty = sym (held-view (ran start cs)) ∙ ap (λ (q : Queue). held q) here.holds.seen ∙ came.nothing-held

      arrived : Arrived os us start cs
      unfolding size
      arrived =
          record {
            loose = map told came.loose;
            some_order = rw (told-loose us) at (order_map told came.some_order);
            merged = rw (here.came, ← (told_in_order 0 os)) (merge_map told came.merged);
            nothing-held = empty;
            no_bytes = bytes-told (ran start cs) here.holds.sound ∙ ap (λ (l : List _). says none (size l)) empty;
            unrefused = here.answered (never si base max (map cut_of os) (map cut_of us) (planned si base max plan) (events cs) once here.roomy);
            no_more = λ buffer. unreadable_nothing (ran start cs) here.holds.sound buffer here.holds.rows until;
          }

module _ (arrival : model.Arrival) (never : Never_refused) where
  pub arrival-of-calls : Arrival
  arrival-of-calls si base max os us plan ws pool w p cs run until = arrived si base max os us plan ws pool w p cs run arrival never until

  -- the queue holds at most 512 fragments, and as many takes as it holds are enough
  pub calls_then_takes : model.Drained → Arrival_then_takes
  calls_then_takes drained si base max os us plan ws pool w p cs bs many run =
      let s : State = state_of (fresh si max) ws pool in
      let ds : List Call = cs ++ map Take bs in
      let whole = here si base max os us plan ws pool w p ds run in
      let o = rw (pushes-takes cs bs) at (of si base max os us plan ws pool w p ds run) in
      let front = walked si base max os us plan ws pool w p cs o (roomy-front s cs (map Take bs) run.room) (long-front s cs (map Take bs) run.long) in
      let q : Queue = model.final (model.starts si max) (events cs) in
      let done = ap readable (final-takes (model.starts si max) cs bs) ∙ drained q (length bs) (omega (arith, front.holds.good.few, many)) in
      arrived si base max os us plan ws pool w p ds run arrival never (readable-is whole.holds ∙ ap (says none) done)
