-- A call of a queue that has others' fragments in its first and last lists does to its own what it would do alone.
-- Assumes nothing.
use mathlib.Core.Path.{◌≡◌, refl, sym, ap, ◌∙◌}
use mathlib.Core.Bool.{Bool, true, false, cond}
use mathlib.Core.List.{List, append_assoc}
use Prim.Native.Nat.{ℕ, ◌+◌}
use lib.Dec.{ltb}
use lib.ListN.{length, drop}
use lib.Seq.{drop-append_seam}
use Rattle.wire_model.specs.Refusal.{none, refuse, Told, says}
use Rattle.serial_model.specs.Serial.{before}
use Rattle.moves_model.specs.Lists.{slice}
use Rattle.fragments.specs.Frag.{Frag, ssn_of, has_tsn, tsn_before}
use Rattle.fragments.specs.Words.{size, any, placed}
use Rattle.fragment_sets.specs.Sets.{set_of}
use Rattle.loose_fragments.specs.Loose.{reach, scanned}
use Rattle.loose_fragments.specs.declared.Span.{Span}
use Rattle.reassembly_state.specs.Model.{Queue, queue, Given, gives, keep_ordered, push_ordered, move_run, keep_loose, push_unordered, skip_ordered, skip_unordered}
use Rattle.set_reach.specs.Bounded.{skip_bounded}
use Rattle.set_reach.specs.Applicable.{applies_whole, applies}
use Rattle.streams_model.specs.Among.{amongst, up_to}

-- what a call gives, with others before and behind
abbrev pub amid : List Frag → List Frag → Given Bool → Given Bool
amid P R g = gives g.told (amongst P R g.queue)

abbrev pub behind : List Frag → Given Bool → Given Bool
behind P g = gives g.told (up_to P g.queue)

-- a choice of what is given
chosen : {A B : Type 0} (f : A → B) (b : Bool) (x y : A) → cond b (f x) (f y) ≡ f (cond b x y)
chosen f true x y = refl
chosen f false x y = refl

-- of three questions, one after the other, and of four
chosen_three : {A B : Type 0} (f : A → B) (a b c : Bool) (x y z w : A) → cond a (f x) (cond b (f y) (cond c (f z) (f w))) ≡ f (cond a x (cond b y (cond c z w)))
chosen_three f true b c x y z w = refl
chosen_three f false true c x y z w = refl
chosen_three f false false c x y z w = chosen f c z w

chosen_four : {A B : Type 0} (f : A → B) (a b c d : Bool) (x y z w v : A) → cond a (f x) (cond b (f y) (cond c (f z) (cond d (f w) (f v)))) ≡ f (cond a x (cond b y (cond c z (cond d w v))))
chosen_four f true b c d x y z w v = refl
chosen_four f false b c d x y z w v = chosen_three f b c d y z w v

module _ (P R : List Frag) (m : Queue) where
  moved-amid : (l : List Frag) (s : Span) → move_run (amongst P R m) l s ≡ amid P R (move_run m l s)
  unfolding move_run
  moved-amid l s = rw (append_assoc P m.finished (slice s.from s.to l)) (chosen (amid P R) (ltb s.from s.to) _ _)

  kept-amid : (f : Frag) → keep_loose (amongst P R m) f ≡ amid P R (keep_loose m f)
  unfolding keep_loose
  kept-amid f = let l = placed (tsn_before f.tsn) f m.unordered in moved-amid l (scanned l)

  pub unordered-amid : (room : Bool) (f : Frag) → push_unordered room (amongst P R m) f ≡ amid P R (push_unordered room m f)
  unfolding push_unordered
  unordered-amid room f =
      rw (kept-amid f)
      (chosen_three (amid P R) (ltb m.max (reach f m.unordered)) (any (has_tsn f.tsn) m.unordered) room
      (gives (says (refuse 6) false) m) (gives (says none false) m) (keep_loose m f) (gives (says (refuse 8) false) m))

  pub skip_unordered-amid : (t : ℕ) → skip_unordered (amongst P R m) t ≡ amongst P R (skip_unordered m t)
  unfolding skip_unordered
  skip_unordered-amid t = refl

module _ (P : List Frag) (m : Queue) where
  pub ordered-behind : (room : Bool) (f : Frag) → push_ordered room (up_to P m) f ≡ behind P (push_ordered room m f)
  unfolding push_ordered keep_ordered
  ordered-behind room f =
      chosen_four (behind P) (ltb m.max (size (set_of (ssn_of f) m.ordered) + length f.bytes)) (before 16 (ssn_of f) m.next)
      (any (has_tsn f.tsn) (set_of (ssn_of f) m.ordered)) room
      (gives (says (refuse 6) false) m) (gives (says none false) m) (gives (says none false) m) (keep_ordered m f) (gives (says (refuse 8) false) m)

  pub keep_behind : (f : Frag) → keep_ordered (up_to P m) f ≡ behind P (keep_ordered m f)
  unfolding keep_ordered
  keep_behind f = refl

  pub skip_ordered-behind : (s : ℕ) → skip_ordered (up_to P m) s ≡ up_to P (skip_ordered m s)
  unfolding skip_ordered
  skip_ordered-behind s = refl

  pub skip_bounded-behind : (s t : ℕ) → skip_bounded (up_to P m) s t ≡ up_to P (skip_bounded m s t)
  unfolding skip_bounded
  skip_bounded-behind s t = refl

  pub applies-behind : (s t p : ℕ) → applies (up_to P m) s t p ≡ applies m s t p
  unfolding applies applies_whole
  applies-behind s t p = refl

  -- the others taken away again
  abbrev back : Given Bool → Given Bool
  back g =
      let q = g.queue in
      gives g.told (queue q.si q.next q.max (drop (length P) q.finished) q.unordered q.ordered)

  back-behind : (g : Given Bool) → back (behind P g) ≡ g
  back-behind g = rw (drop-append_seam P g.queue.finished)

  -- what a push beside others is told and keeps, it is told and keeps alone
  pub ordered_alone : (room keep : Bool) (f : Frag) (t : Told Bool) → push_ordered room (up_to P m) f ≡ cond keep (keep_ordered (up_to P m) f) (gives t (up_to P m))
      → push_ordered room m f ≡ cond keep (keep_ordered m f) (gives t m)
  ordered_alone room keep f t e =
      let beside : behind P (push_ordered room m f) ≡ behind P (cond keep (keep_ordered m f) (gives t m)) =
      sym (ordered-behind room f) ∙ e ∙ rw (keep_behind f) (chosen (behind P) keep (keep_ordered m f) (gives t m)) in
      sym (back-behind (push_ordered room m f)) ∙ ap back beside ∙ back-behind (cond keep (keep_ordered m f) (gives t m))
