-- A push, wherever its chunk stands among those that are still to come.
-- Assumes nothing.
use mathlib.Core.Path.{◌≡◌, sym, ap, subst, ◌∙◌}
use mathlib.Core.Bool.{true, false}
use mathlib.Core.List.{List, [], ◌∷◌, ◌++◌, append_assoc, nil≢cons}
use mathlib.Core.Logic.{◌⊎◌, inl, inr}
use lib.ListN.{length}
use Rattle.fragments.specs.Frag.{Frag}
use Rattle.arrival_plan.specs.Plan.{Msg, Carried, chunk, Order}
use Rattle.arrival_plan.proofs.Shape.{Done}
use Rattle.arrival_plan.proofs.Locate.{Picked, order_cons, At, chunks, at-chunks}
use Rattle.arrival_plan.proofs.Sorts.{In-first, In-second, which}
use Rattle.arrival_plan.proofs.Maps.{Each}
use Rattle.skips_plan.proofs.Each.{each_at}
use Rattle.skips_plan.proofs.Fates.{marks, done-pending, Item, item, msgs, all, In, find_in, In-fates, find_fate}
use Rattle.skips_plan.proofs.Runs.{Event, Push, pushes, Frame, Far, Past, whole, over, waits, Settled, due, late, state, ahead, Sound, Good, Runs}
use Rattle.skips_plan.proofs.Pushed.{was, is, away, push-set, push-old, push-loose}

-- a message with a chunk that is still to come
its-was : (p : Item) (f : Frag) {r : List Frag} (i : In-fates p.fates f r) → p ≡ was p.first p.ppi i.u f i.v
its-was p f i = λ j. item p.first p.ppi (i.is j)

-- all of it is held: nothing of it is to come
none_late : (p : Item) (x : List Frag) (f : Frag) (y : List Frag) → Done (marks p.fates) → due p ≡ x ++ f ∷ y → ⊥
none_late p [] f y d e = nil≢cons (sym (done-pending p.fates d) ∙ e)
none_late p (z ∷ x) f y d e = nil≢cons (sym (done-pending p.fates d) ∙ e)

module _ (c : Frame) (es : List Event) (ih : Runs c es) (early : List Past) (os us : List Item) (fin : List Msg) (s : Sound c early os us fin)
    (far : Far c (length early) es) where
  abbrev Pushing : Carried → Type 0
  Pushing k = Good c (Push k ∷ es) (waits 0 early) (length early) (msgs os) (msgs us) fin (state c early os us fin)

  in_early : (f : Frag) (r : List Frag) → In late early f r → Order Carried (pushes es ++ c.never) (chunks (r ++ all due os) (all due us)) → Pushing (chunk false f)
  in_early f r w k = go w.it w.is w.has w.rest
    where
      go : (x : Past) → early ≡ w.a ++ x ∷ w.b → late x ≡ w.x ++ f ∷ w.y → ((z : Past) → late z ≡ w.x ++ w.y → all late (w.a ++ z ∷ w.b) ≡ r) → Pushing (chunk false f)
      go (whole p) e h rest =
          absurd (none_late p w.x f w.y (each_at Settled w.a (whole p) w.b (subst (λ (l : List Past). Each Settled l) e s.settled)) h)
      go (over p) e h rest =
          let i = find_fate p.fates w.x f w.y h in
          let q = e ∙ ap (λ (z : Item). w.a ++ over z ∷ w.b) (its-was p f i) in
          subst (λ (l : List Past). Good c (Push (chunk false f) ∷ es) (waits 0 l) (length l) (msgs os) (msgs us) fin (state c l os us fin)) (sym q)
          (push-old c es ih p.first p.ppi i.u f i.v us fin w.a w.b os (subst (λ (l : List Past). Sound c l os us fin) q s)
          (subst (λ (l : List Past). Far c (length l) es) q far)
          (subst (λ (l : List Frag). Order Carried (pushes es ++ c.never) (chunks (l ++ all due os) (all due us))) (sym (rest (over (away p.first p.ppi i.u f i.v)) i.away-rest)) k))

  in_os : (f : Frag) (r : List Frag) → In due os f r → Order Carried (pushes es ++ c.never) (chunks (all late early ++ r) (all due us)) → Pushing (chunk false f)
  in_os f r w k =
      let p = w.it in
      let i = find_fate p.fates w.x f w.y w.has in
      let q = w.is ∙ ap (λ (z : Item). w.a ++ z ∷ w.b) (its-was p f i) in
      subst (λ (l : List Item). Good c (Push (chunk false f) ∷ es) (waits 0 early) (length early) (msgs l) (msgs us) fin (state c early l us fin)) (sym q)
      (push-set c es ih p.first p.ppi i.u f i.v us fin early w.a w.b (subst (λ (l : List Item). Sound c early l us fin) q s) far
      (subst (λ (l : List Frag). Order Carried (pushes es ++ c.never) (chunks (all late early ++ l) (all due us))) (sym (w.rest (is p.first p.ppi i.u f i.v) i.came-rest)) k))

  in_us : (f : Frag) (r : List Frag) → In due us f r → Order Carried (pushes es ++ c.never) (chunks (all late early ++ all due os) r) → Pushing (chunk true f)
  in_us f r w k =
      let p = w.it in
      let i = find_fate p.fates w.x f w.y w.has in
      let q = w.is ∙ ap (λ (z : Item). w.a ++ z ∷ w.b) (its-was p f i) in
      subst (λ (l : List Item). Good c (Push (chunk true f) ∷ es) (waits 0 early) (length early) (msgs os) (msgs l) fin (state c early os l fin)) (sym q)
      (push-loose c es ih p.first p.ppi i.u f i.v early os fin w.a w.b (subst (λ (l : List Item). Sound c early os l fin) q s) far
      (subst (λ (l : List Frag). Order Carried (pushes es ++ c.never) (chunks (all late early ++ all due os) l)) (sym (w.rest (is p.first p.ppi i.u f i.v) i.came-rest)) k))

  -- an ordered one is of a message before the expected number, or of another
  in_ordered : (x : List Frag) (f : Frag) (y : List Frag) → Order Carried (pushes es ++ c.never) (chunks (x ++ y) (all due us))
      → In-first x f y (all late early) (all due os) ⊎ In-second x f y (all late early) (all due os) → Pushing (chunk false f)
  in_ordered x f y k (inl h) =
      in_early f (x ++ h.rest) (find_in late early x f h.rest (sym h.is))
      (subst (λ (l : List Frag). Order Carried (pushes es ++ c.never) (chunks l (all due us))) (ap (λ (l : List Frag). x ++ l) h.others ∙ sym (append_assoc x h.rest (all due os))) k)
  in_ordered x f y k (inr h) =
      in_os f (h.front ++ y) (find_in due os h.front f y (sym h.others))
      (subst (λ (l : List Frag). Order Carried (pushes es ++ c.never) (chunks l (all due us))) (ap (λ (l : List Frag). l ++ y) h.is ∙ append_assoc (all late early) h.front y) k)

  at_push : (k : Carried) → Picked Carried k (pushes es ++ c.never) (ahead early os us) → Pushing k
  at_push k o = go (at-chunks (all late early ++ all due os) (all due us) o.front k o.back o.is)
    where
      go : At (chunk false) k (all late early ++ all due os) (λ (r : List Frag). chunks r (all due us)) (o.front ++ o.back)
          ⊎ At (chunk true) k (all due us) (λ (r : List Frag). chunks (all late early ++ all due os) r) (o.front ++ o.back)
          → Pushing k
      go (inl h) =
          subst Pushing (sym h.chunk-is)
          (in_ordered h.front h.it h.back (subst (λ (l : List Carried). Order Carried (pushes es ++ c.never) l) h.others_are o.others)
          (which h.front h.it h.back (all late early) (all due os) (sym h.is)))
      go (inr h) =
          subst Pushing (sym h.chunk-is)
          (in_us h.it (h.front ++ h.back) (find_in due us h.front h.it h.back (sym h.is)) (subst (λ (l : List Carried). Order Carried (pushes es ++ c.never) l) h.others_are o.others))

pub push_step : (c : Frame) (k : Carried) (es : List Event) → Runs c es → Runs c (Push k ∷ es)
push_step c k es ih early os us fin s far o = at_push c es ih early os us fin s far k (order_cons o)
