-- The guarantee with skips, of the calls: they do what the model's run does, for which it is proved.
-- Assumes nothing.
use mathlib.Core.Path.{◌≡◌, refl, sym, ap, subst, ◌∙◌}
use mathlib.Core.Bool.{Bool, false}
use mathlib.Core.List.{List, [], ◌∷◌, ◌++◌, map}
use Prim.Native.Nat.{ℕ, suc, ◌+◌, ◌*◌, ◌<◌, ◌≤◌}
use native.Mathlib.Omega.{arith}
use lib.ListN.{length, take, drop, length-map, take-append-drop}
use lib.Seq.{length-take-le}
use Rattle.wire_model.specs.Refusal.{none, Told, says}
use Rattle.table.proofs.Columns.{map-take, map-drop}
use Rattle.fragments.specs.Frag.{Frag}
use Rattle.fragments.specs.Words.{size}
use Rattle.fragments.proofs.Pool.{joined_length}
use Rattle.reassembly_state.specs.Limits.{frags_most, bytes_most}
use Rattle.reassembly_state.specs.Model.{Queue, held, readable, skip_ordered, skip_unordered}
use Rattle.reassembly_state.specs.State.{State, fragments, is_readable}
use Rattle.reassembly_queue.specs.Queue.{state_of, fresh}
use Rattle.reassembly_state.proofs.Laws.{held-view}
use Rattle.reassembly_theorems.proofs.Stays.{bytes-told}
use Rattle.reassembly_theorems.proofs.Readable.{unreadable_nothing}
use Rattle.arrival_plan.specs.Plan as model
use Rattle.arrival_plan.specs.Plan.{Order, Merge}
use Rattle.arrival.specs.Calls.{Chunk, Sent, Loose, Whole, Unordered, bytes_of, chunks_of, Plan, Came, message, in_order}
use Rattle.arrival_plan.proofs.Maps.{map-append, order_map, merge_map, Each, each_order}
use Rattle.arrival.proofs.Planned.{frag_of, cut_of, piece_of, joined_bytes, Of, planned, plan_pieces, plan_stream}
use Rattle.arrival_plan.proofs.Drains.{drains}
use Rattle.arrival.proofs.Bridge.{readable-is, told, fresh_holds}
use Rattle.arrival.proofs.Calls.{told_in_order, told-loose}
use Rattle.arrival_with_skips.specs.Skips.{Call, Push, Take, SkipOrdered, SkipUnordered, left, ran, out, AtEach, pushes, ssns, tsns, Roomy, Long, up_to, Touched, AllNeedless, Taken, piece, Run, Arrived, Always, Arrival, Arrival_then_takes}
use Rattle.skips_plan.proofs.Each.{each_parts, each_weaker, each_unmap}
use Rattle.skips_plan.proofs.Runs as runs
use Rattle.skips_plan.proofs.Runs.{Frame, End, Passed, Outcome}
use Rattle.skips_plan.proofs.Guarantee.{guarantee}
use Rattle.arrival_with_skips.proofs.Walk.{events, event_pushes, Walked, follow}
use Rattle.skips_plan.proofs.Lifts.{Two, two, Unmapped, order_unmap, Unmerged, merge_unmap, merge_on, Left, left_out, Parts, parts}
use Rattle.arrival_with_skips.proofs.Highest.{numbers_bound, numbers_known, places_up_to, places_bound, places_arc, touched_all, within, reaches, needless}

-- ── messages and their chunks ──

frags-chunks : (ms : List Sent) → model.frags_of (map cut_of ms) ≡ map frag_of (chunks_of ms)
frags-chunks [] = refl
frags-chunks (m ∷ ms) = ap (λ (l : List Frag). map frag_of m.chunks ++ l) (frags-chunks ms) ∙ sym (map-append frag_of m.chunks (chunks_of ms))

in_order-append : (n : ℕ) (a b : List Sent) → in_order n (a ++ b) ≡ in_order n a ++ in_order (n + length a) b
in_order-append n [] b = let e : n + 0 ≡ n = omega arith in rw e
in_order-append n (m ∷ a) b = let e : n + suc (length a) ≡ suc n + length a = omega arith in rw e (ap (λ (l : List Came). message n m ∷ l) (in_order-append (suc n) a b))

pieces-size : (cs : List Chunk) → size (map frag_of cs) ≡ length (bytes_of cs)
pieces-size cs = sym (joined_length (map frag_of cs)) ∙ ap length (joined_bytes cs)

each_whole : (si base max : ℕ) (us : List Sent) → Unordered si base max us → Each (Whole si base max Loose) us
each_whole si base max [] u = tt
each_whole si base max (m ∷ us) u = (u.0, each_whole si base max us u.1)

-- ── a run ──

module _ (si base max : ℕ) (os us : List Sent) (plan : Plan si base max os us) (ws pool : List ℕ) (w : length ws ≡ 4 * frags_most) (p : bytes_most ≤ length pool) where
  abbrev pub start : State
  start = state_of (fresh si max) ws pool

  abbrev pub begins : Queue
  begins = model.starts si max

  pub walked : (cs : List Call) → Each (Of si) (pushes cs) → AtEach Roomy start cs → AtEach Long start cs → Walked start begins cs
  walked cs o r l = follow (fresh_holds si max ws pool w p) cs o r l

  module _ (cs : List Call) (never : List Chunk) (run : Run base os us start cs never) where
    pub of : Each (Of si) (pushes cs)
    of = (each_parts (Of si) (pushes cs) never (each_order (Of si) run.once (plan_stream si base max plan))).0

    pub here : Walked start begins cs
    here = walked cs of run.room run.long

    once : Order model.Carried (runs.pushes (events cs) ++ map piece_of never) (model.chunks_of (map cut_of os) (map cut_of us))
    once = rw (event_pushes cs, ← (map-append piece_of (pushes cs) never), ← (plan_pieces si base max plan)) (order_map piece_of run.once)

    -- skips go so far
    abbrev frame : Frame
    frame =
        record {
          si = si;
          base = base;
          max = max;
          numbers = up_to cs;
          places = places_up_to base (tsns cs) run.in_arc;
          arc = places_arc base (tsns cs) run.in_arc;
          never = map piece_of never;
        }

    known : up_to cs ≤ length os
    known = numbers_known os (ssns cs) run.named

    abbrev last : Queue
    last = runs.final begins (events cs)

    result : runs.AtEach runs.Quiet begins (events cs) × Outcome frame (End frame last) (model.in_order 0 (map cut_of os)) (map cut_of us) (runs.out begins (events cs)) last
    result =
        guarantee frame (map cut_of os) (map cut_of us) (planned si base max plan) (rw (length-map os cut_of) known) (events cs)
        (within frame cs (numbers_bound (ssns cs)) (places_bound base (tsns cs) run.in_arc)) (reaches frame cs (omega arith)) once here.roomy

    abbrev outcome : Outcome frame (End frame last) (model.in_order 0 (map cut_of os)) (map cut_of us) (runs.out begins (events cs)) last
    outcome = result.1

    -- the unordered messages
    listed : Unmapped cut_of (outcome.here ++ outcome.gone) us
    listed = order_unmap cut_of outcome.split us refl

    shared : Two cut_of outcome.here outcome.gone listed.list
    shared = two cut_of outcome.here outcome.gone listed.list listed.is

    unnumbered : Order Sent (shared.first ++ shared.second) us
    unnumbered = subst (λ (l : List Sent). Order Sent l us) shared.is listed.order

    loose-told : map told (map (model.message 0) outcome.here) ≡ map (message 0) shared.first
    loose-told = ap (λ (l : List model.Msg). map told (map (model.message 0) l)) shared.first-is ∙ told-loose shared.first

    merged : (l : List Came) → map told outcome.taken ≡ l → Merge Came l (map (message 0) shared.first) (out start cs)
    merged l e = rw (here.came, ← e, ← loose-told) (merge_map told outcome.merged)

    -- ── at any time ──

    rest : Left (Passed frame (End frame last)) outcome.taken (model.in_order 0 (map cut_of os))
    rest = left_out outcome.picked

    pub takes : Taken os us start cs
    takes =
        record {
          came = map told outcome.taken;
          lost = map told rest.others;
          numbered = rw (told_in_order 0 os) at (merge_map told rest.merge);
          loose = shared.first;
          gone = shared.second;
          unnumbered = unnumbered;
          merged = merged (map told outcome.taken) refl;
          unrefused = here.answered result.0;
        }

    -- ── once taking ends ──

    module _ (needs : AllNeedless cs never) (until : is_readable (ran start cs) ≡ says none false) where
      end : End frame last
      end = (
        needless frame cs run.in_arc refl (omega (arith, known, plan.few)) refl never needs,
        ap (λ (t : Told Bool). t.values) (sym (readable-is here.holds) ∙ until),
      )

      -- the ordered messages
      abbrev n : ℕ
      n = up_to cs

      sorts : Parts n 0 (map cut_of os) outcome.taken
      sorts = parts (Passed frame (End frame last)) n (λ m h. h end) n 0 (map cut_of os) (omega arith) outcome.picked

      later : map told (model.in_order (0 + n) (drop n (map cut_of os))) ≡ in_order n (drop n os)
      later = let e : 0 + n ≡ n = omega arith in rw (e, ← (map-drop cut_of n os)) (told_in_order n (drop n os))

      taken-told : map told outcome.taken ≡ map told sorts.some ++ in_order n (drop n os)
      taken-told =
          ap (λ (l : List model.Message). map told l) sorts.is ∙ map-append told sorts.some (model.in_order (0 + n) (drop n (map cut_of os)))
          ∙ ap (λ (l : List Came). map told sorts.some ++ l) later

      numbered : Merge Came (map told sorts.some) (map told sorts.others) (in_order 0 (take n os))
      numbered = rw (← (map-take cut_of n os), told_in_order 0 (take n os)) at (merge_map told sorts.parted)

      -- the unordered ones that did not come
      touched : Touched (tsns cs) shared.second
      touched =
          touched_all base si max (tsns cs) run.in_arc shared.second
          (each_parts (Whole si base max Loose) shared.first shared.second (each_order (Whole si base max Loose) unnumbered (each_whole si base max us plan.unordered))).1
          (each_weaker (λ (m : Sent). End frame last → m.first < frame.places) (λ (m : Sent). m.first < frame.places) (λ m h. h end) shared.second
          (each_unmap (λ (m : model.Msg). End frame last → m.first < frame.places) cut_of shared.second
          (subst (λ (l : List model.Msg). Each (λ (m : model.Msg). End frame last → m.first < frame.places) l) shared.second_is outcome.touched)))

      -- what is held
      cut : Unmerged frag_of (held last) (outcome.pieces end).others (chunks_of shared.second)
      cut =
          merge_unmap frag_of (outcome.pieces end).parted (chunks_of shared.second)
          (ap (λ (l : List model.Msg). model.frags_of l) shared.second_is ∙ frags-chunks shared.second)

      pieces-held : fragments (ran start cs) ≡ map piece cut.first
      pieces-held = sym (held-view (ran start cs)) ∙ ap (λ (q : Queue). held q) here.holds.seen ∙ cut.first-is

      -- number by number, those up to the highest skipped SSN and those after it are all
      both : in_order 0 (take n os) ++ in_order n (drop n os) ≡ in_order 0 os
      both =
          let e : 0 + length (take n os) ≡ n = omega (arith, length-take-le n os known) in
          ap (λ (k : ℕ). in_order 0 (take n os) ++ in_order k (drop n os)) (sym e) ∙ sym (in_order-append 0 (take n os) (drop n os)) ∙ ap (λ (l : List Sent). in_order 0 l) (take-append-drop n os)

      all-taken : Taken os us start cs
      all-taken =
          record {
            came = map told sorts.some ++ in_order n (drop n os);
            lost = map told sorts.others;
            numbered = rw both at (merge_on (in_order n (drop n os)) numbered);
            loose = shared.first;
            gone = shared.second;
            unnumbered = unnumbered;
            merged = merged (map told sorts.some ++ in_order n (drop n os)) taken-told;
            unrefused = here.answered result.0;
          }

      pub arrives : Arrived os us start cs
      unfolding all-taken
      arrives =
          record {
            taken = all-taken;
            early = map told sorts.some;
            numbered = numbered;
            behind = refl;
            touched = touched;
            pieces = cut.first;
            others = cut.second;
            parted = cut.merge;
            held = pieces-held;
            bytes = bytes-told (ran start cs) here.holds.sound ∙ ap (λ (l : List Frag). says none (size l)) pieces-held ∙ ap (says none) (pieces-size cut.first);
            no_more = λ buffer. unreadable_nothing (ran start cs) here.holds.sound buffer here.holds.rows until;
          }

pub always_of_calls : Always
always_of_calls si base max os us plan ws pool w p cs never run = takes si base max os us plan ws pool w p cs never run

pub arrival-of-calls : Arrival
arrival-of-calls si base max os us plan ws pool w p cs never run needs until = arrives si base max os us plan ws pool w p cs never run needs until

-- ── takes at the end ──

pushes-takes : (cs : List Call) (bs : List (List ℕ)) → pushes (cs ++ map Take bs) ≡ pushes cs
pushes-takes [] [] = refl
pushes-takes [] (b ∷ bs) = pushes-takes [] bs
pushes-takes (Push c ∷ cs) bs = ap (λ (l : List Chunk). c ∷ l) (pushes-takes cs bs)
pushes-takes (Take b ∷ cs) bs = pushes-takes cs bs
pushes-takes (SkipOrdered k ∷ cs) bs = pushes-takes cs bs
pushes-takes (SkipUnordered k ∷ cs) bs = pushes-takes cs bs

final-takes : (q : Queue) (cs : List Call) (bs : List (List ℕ)) → runs.final q (events (cs ++ map Take bs)) ≡ model.final (runs.final q (events cs)) (model.takes (length bs))
final-takes q [] [] = refl
final-takes q [] (b ∷ bs) = final-takes (model.after_take q) [] bs
final-takes q (Push c ∷ cs) bs = final-takes (model.after_push q (piece_of c)) cs bs
final-takes q (Take b ∷ cs) bs = final-takes (model.after_take q) cs bs
final-takes q (SkipOrdered k ∷ cs) bs = final-takes (skip_ordered q k) cs bs
final-takes q (SkipUnordered k ∷ cs) bs = final-takes (skip_unordered q k) cs bs

-- what holds at each call of a run holds at each of its front
front : (P : State → Call → Type 0) (s : State) (cs ds : List Call) → AtEach P s (cs ++ ds) → AtEach P s cs
front P s [] ds h = tt
front P s (c ∷ cs) ds h = (h.0, front P (left s c) cs ds h.1)

-- the queue holds no more fragments than its table has records, and as many takes as it holds are enough
pub calls_then_takes : Arrival_then_takes
calls_then_takes si base max os us plan ws pool w p cs bs many never run needs =
    let s : State = state_of (fresh si max) ws pool in
    let ds : List Call = cs ++ map Take bs in
    let whole = here si base max os us plan ws pool w p ds never run in
    let o = rw (pushes-takes cs bs) at (of si base max os us plan ws pool w p ds never run) in
    let first = walked si base max os us plan ws pool w p cs o (front Roomy s cs (map Take bs) run.room) (front Long s cs (map Take bs) run.long) in
    let q : Queue = runs.final (model.starts si max) (events cs) in
    let done = ap readable (final-takes (model.starts si max) cs bs) ∙ drains q (length bs) (omega (arith, first.holds.good.few, many)) in
    arrives si base max os us plan ws pool w p ds never run needs (readable-is whole.holds ∙ ap (says none) done)
