-- The unordered list, as the messages of which a fragment is due; and what a push of a due chunk makes of it.
-- Assumes nothing.
use mathlib.Core.Path.{◌≡◌, refl, sym, ap, ◌∙◌}
use mathlib.Core.Bool.{true, false}
use mathlib.Core.List.{List, [], ◌∷◌, ◌++◌, map, append_assoc, append-nil}
use Prim.Native.Nat.{ℕ, suc, ◌+◌, ◌^◌, ◌<◌, ◌≤◌}
use native.Mathlib.Omega.{arith}
use lib.ListN.{length, length-append}
use borrow.Author.Tests.{le-ltb}
use Rattle.fragments.specs.Frag.{Frag, has_tsn, tsn_before}
use Rattle.fragments.specs.Words.{any, placed}
use Rattle.loose_fragments.specs.Loose.{reach}
use Rattle.reassembly_state.specs.Model.{queue, room_for}
use Rattle.arrival_plan.specs.Plan.{Msg, Cut, Whole, chunk}
use Rattle.arrival_plan.proofs.Lists.{Is, is-append, any_none, placed_at}
use Rattle.arrival_plan.proofs.Shape.{Mark, came, due, all_of, arrived, missing, Done, Open, all_append, arrived-append, length-all, Within, within_append, wider, below, above, places_within, places_cut, around, split}
use Rattle.arrival_plan.proofs.Scans.{Scan, nothing, found, seek, passed, passed-nothing, passed_found, passed-append, seek_open, seek-done}
use Rattle.arrival_plan.proofs.Runs.{reach_small}
use Rattle.arrival_plan.proofs.Pushes.{Enters, loose-stays, loose_moves}

-- ── a message under way ──

pub record Part : Type 0 where
  pub first : ℕ
  pub ppi : ℕ
  pub marks : List Mark

abbrev pub part : ℕ → ℕ → List Mark → Part
part o i l = record { first = o; ppi = i; marks = l }

abbrev msg-of : ℕ → ℕ → List Frag → Msg
msg-of o i l = record { first = o; ppi = i; frags = l }

abbrev pub msg : Part → Msg
msg p = record { first = p.first; ppi = p.ppi; frags = all_of p.marks }

abbrev pub held_of : List Part → List Frag
held_of [] = []
held_of (p ∷ ps) = arrived p.marks ++ held_of ps

abbrev pub missing-of : List Part → List Frag
missing-of [] = []
missing-of (p ∷ ps) = missing p.marks ++ missing-of ps

abbrev pub Opens : List Part → Type 0
Opens [] = Unit {0}
Opens (p ∷ ps) = Open p.marks × Opens ps

pub held-append : (a b : List Part) → held_of (a ++ b) ≡ held_of a ++ held_of b
held-append [] b = refl
held-append (p ∷ a) b = ap (λ (l : List Frag). arrived p.marks ++ l) (held-append a b) ∙ sym (append_assoc (arrived p.marks) (held_of a) (held_of b))

pub opens_append : (a b : List Part) → Opens a → Opens b → Opens (a ++ b)
opens_append [] b h k = k
opens_append (p ∷ a) b h k = (h.0, opens_append a b h.1 k)

pub opens_split : (a : List Part) (p : Part) (b : List Part) → Opens (a ++ p ∷ b) → Opens a × Opens b
opens_split [] p b h = (tt, h.1)
opens_split (x ∷ a) p b h = let s = opens_split a p b h.1 in ((h.0, s.0), s.1)

-- a chunk that came is of the same message
same-frags : (u : List Mark) (f : Frag) (v : List Mark) → all_of (u ++ came f ∷ v) ≡ all_of (u ++ due f ∷ v)
same-frags u f v = all_append u (came f ∷ v) ∙ sym (all_append u (due f ∷ v))

pub same-msgs : (o i : ℕ) (u : List Mark) (f : Frag) (v : List Mark) (a b : List Part)
    → map msg (a ++ part o i (u ++ came f ∷ v) ∷ b) ≡ map msg (a ++ part o i (u ++ due f ∷ v) ∷ b)
same-msgs o i u f v [] b = ap (λ (l : List Frag). msg-of o i l ∷ map msg b) (same-frags u f v)
same-msgs o i u f v (p ∷ a) b = ap (λ (l : List Msg). msg p ∷ l) (same-msgs o i u f v a b)

-- ── places in the arc ──

-- unordered messages, listed as they lie in the arc: from place o on, and none shares a TSN with another
abbrev pub Listed : ℕ → ℕ → ℕ → List Msg → Type 0
Listed base max o [] = Unit {0}
Listed base max o (m ∷ ms) = Whole base max m × (o ≤ m.first) × Listed base max (m.first + length m.frags) ms

module _ (base max : ℕ) where
  pub uno_within : (o : ℕ) (l : List Part) → Listed base max o (map msg l) → Within base o (2 ^ 31) (held_of l)
  uno_within o [] h = tt
  uno_within o (p ∷ l) h =
      let e = length-all p.marks in
      let w = places_within base p.first p.marks (places_cut base p.ppi p.first p.marks h.0.cut) in
      within_append base o (2 ^ 31) (arrived p.marks) (held_of l)
      (wider base p.first (p.first + length p.marks) o (2 ^ 31) (arrived p.marks) h.1 (omega (arith, h.0.arc)) w)
      (wider base (p.first + length (all_of p.marks)) (2 ^ 31) o (2 ^ 31) (held_of l) (omega (arith, h.1)) (omega arith) (uno_within (p.first + length (all_of p.marks)) l h.2))

  uno_lower : (o c : ℕ) (l : List Msg) → c ≤ o → Listed base max o l → Listed base max c l
  uno_lower o c [] k h = tt
  uno_lower o c (m ∷ l) k h = (h.0, omega (arith, h.1), h.2)

  record Amid (o : ℕ) (a : List Part) (p : Part) (b : List Part) : Type 0 where
    whole : Whole base max (msg p)
    low : o ≤ p.first
    left : Within base o p.first (held_of a)
    right : Within base (p.first + length p.marks) (2 ^ 31) (held_of b)
    rest : Listed base max o (map msg (a ++ b))

  amid : (o : ℕ) (a : List Part) (p : Part) (b : List Part) → Listed base max o (map msg (a ++ p ∷ b)) → Amid o a p b
  amid o [] p b h =
      record {
        whole = h.0;
        low = h.1;
        left = tt;
        right = rw (length-all p.marks) at (uno_within (p.first + length (all_of p.marks)) b h.2);
        rest = uno_lower (p.first + length (all_of p.marks)) o (map msg b) (omega (arith, h.1)) h.2;
      }
  amid o (x ∷ a) p b h =
      let i = amid (x.first + length (all_of x.marks)) a p b h.2 in
      let e = length-all x.marks in
      let w = places_within base x.first x.marks (places_cut base x.ppi x.first x.marks h.0.cut) in
      record {
        whole = i.whole;
        low = omega (arith, h.1, i.low);
        left = within_append base o p.first (arrived x.marks) (held_of a)
            (wider base x.first (x.first + length x.marks) o p.first (arrived x.marks) h.1 (omega (arith, i.low)) w)
            (wider base (x.first + length (all_of x.marks)) p.first o p.first (held_of a) (omega (arith, h.1)) (omega arith) i.left);
        right = i.right;
        rest = (h.0, h.1, i.rest);
      }

  -- ── the seek over messages ──

  seek-over : (o : ℕ) (a q : List Part) → Listed base max o (map msg (a ++ q)) → Opens a → seek (held_of (a ++ q)) ≡ passed (held_of a) (seek (held_of q))
  seek-over o [] q h k = refl
  seek-over o (p ∷ a) q h k =
      let e = length-all p.marks in
      seek_open base p.ppi (held_of (a ++ q)) (p.first + length (all_of p.marks)) h.0.arc p.first p.marks h.0.cut (omega arith)
      (uno_within (p.first + length (all_of p.marks)) (a ++ q) h.2) k.0
      ∙ ap (λ (s : Scan). passed (arrived p.marks) s) (seek-over (p.first + length (all_of p.marks)) a q h.2 k.1)
      ∙ sym (passed-append (arrived p.marks) (held_of a) (seek (held_of q)))

  seek-nothing : (o : ℕ) (l : List Part) → Listed base max o (map msg l) → Opens l → seek (held_of l) ≡ nothing
  seek-nothing o l h k =
      let e = append-nil l in
      let g : Listed base max o (map msg (l ++ [])) = rw e h in
      (rw e at (seek-over o l [] g k)) ∙ passed-nothing (held_of l)

  seek_found : (o : ℕ) (a : List Part) (p : Part) (b : List Part) → Listed base max o (map msg (a ++ p ∷ b)) → Opens a → Done p.marks
      → seek (held_of (a ++ p ∷ b)) ≡ found (held_of a) (arrived p.marks) (held_of b)
  seek_found o a p b h k d =
      seek-over o a (p ∷ b) h k
      ∙ ap (λ (s : Scan). passed (held_of a) s) (seek-done base p.ppi (held_of b) p.first p.marks (amid o a p b h).whole.cut d)
      ∙ passed_found (held_of a) (arrived p.marks) (held_of b)

-- ── the push ──

-- a list with something put in
regroup : (a u v b : List Frag) → a ++ ((u ++ v) ++ b) ≡ (a ++ u) ++ (v ++ b)
regroup a u v b = simp append_assoc

module _ (a : List Part) (o i : ℕ) (u : List Mark) (f : Frag) (v : List Mark) (b : List Part) where
  abbrev pub was : List Part
  was = a ++ part o i (u ++ due f ∷ v) ∷ b

  abbrev pub is : List Part
  is = a ++ part o i (u ++ came f ∷ v) ∷ b

  was-held : held_of was ≡ (held_of a ++ arrived u) ++ (arrived v ++ held_of b)
  was-held = held-append a (part o i (u ++ due f ∷ v) ∷ b) ∙ rw (arrived-append u (due f ∷ v)) (regroup (held_of a) (arrived u) (arrived v) (held_of b))

  is_held : held_of is ≡ (held_of a ++ arrived u) ++ f ∷ (arrived v ++ held_of b)
  is_held = held-append a (part o i (u ++ came f ∷ v) ∷ b) ∙ rw (arrived-append u (came f ∷ v)) (regroup (held_of a) (arrived u) (f ∷ arrived v) (held_of b))

  one-came : 0 < length (arrived (u ++ came f ∷ v))
  one-came = rw (arrived-append u (came f ∷ v), length-append) (omega arith)

  module _ (base max : ℕ) (h : Listed base max 0 (map msg was)) where
    -- without the message
    pub without : Listed base max 0 (map msg (a ++ b))
    without = (amid base max 0 a (part o i (u ++ due f ∷ v)) b h).rest

    pub its-cut : Cut base o i (all_of (u ++ came f ∷ v))
    its-cut = rw (same-frags u f v) (amid base max 0 a (part o i (u ++ due f ∷ v)) b h).whole.cut

    pub is-listed : Listed base max 0 (map msg is)
    is-listed = rw (same-msgs o i u f v a b) h

    sides : (Is (tsn_before f.tsn) true (held_of a ++ arrived u) × Is (has_tsn f.tsn) false (held_of a ++ arrived u))
        × (Is (tsn_before f.tsn) false (arrived v ++ held_of b) × Is (has_tsn f.tsn) false (arrived v ++ held_of b))
    sides =
        let m = amid base max 0 a (part o i (u ++ due f ∷ v)) b h in
        let s = split base i o u f v m.whole.cut in
        let w = around base i o u f v m.whole.cut in
        let e = length-all (u ++ due f ∷ v) in
        let g = length-append u (due f ∷ v) in
        let wa = within_append base 0 (o + length u) (held_of a) (arrived u) (wider base 0 o 0 (o + length u) (held_of a) (omega arith) (omega arith) m.left) (wider base o (o + length u) 0 (o + length u) (arrived u) (omega arith) (omega arith) w.0) in
        let wb = within_append base (suc (o + length u)) (2 ^ 31) (arrived v) (held_of b)
        (wider base (suc (o + length u)) (suc (o + length u) + length v) (suc (o + length u)) (2 ^ 31) (arrived v) (omega arith) (omega (arith, m.whole.arc)) w.1)
        (wider base (o + length (u ++ due f ∷ v)) (2 ^ 31) (suc (o + length u)) (2 ^ 31) (held_of b) (omega arith) (omega arith) m.right) in (
          rw s.0 (below base 0 (o + length u) (o + length u) (held_of a ++ arrived u) (omega arith) (omega (arith, m.whole.arc)) wa),
          rw s.0 (above base (suc (o + length u)) (2 ^ 31) (o + length u) (arrived v ++ held_of b) (omega arith) (omega arith) wb),
        )

    place-loose : placed (tsn_before f.tsn) f (held_of was) ≡ held_of is
    place-loose =
        ap (λ (l : List Frag). placed (tsn_before f.tsn) f l) was-held
        ∙ placed_at (tsn_before f.tsn) f (held_of a ++ arrived u) (arrived v ++ held_of b) sides.0.0 sides.1.0
        ∙ sym is_held

    new-loose : any (has_tsn f.tsn) (held_of was) ≡ false
    new-loose =
        ap (λ (l : List Frag). any (has_tsn f.tsn) l) was-held
        ∙ any_none (has_tsn f.tsn) ((held_of a ++ arrived u) ++ (arrived v ++ held_of b))
        (is-append (has_tsn f.tsn) false (held_of a ++ arrived u) (arrived v ++ held_of b) sides.0.1 sides.1.1)

    fits_loose : reach f (held_of was) ≤ max
    fits_loose =
        let m = amid base max 0 a (part o i (u ++ due f ∷ v)) b h in
        let e = length-all (u ++ due f ∷ v) in
        let r = reach_small base i o u f v (held_of a) (held_of b) m.whole.cut (omega (arith, m.whole.arc)) m.left m.right in
        rw (held-append a (part o i (u ++ due f ∷ v) ∷ b)) (omega (arith, r, m.whole.small))

    module _ (si n : ℕ) (fin ord : List Frag) (r : room_for (queue si n max fin (held_of was) ord) f ≡ true) where
      -- a fragment is still due
      pub loose_open : Opens is → Enters (queue si n max fin (held_of was) ord) (chunk true f) (queue si n max fin (held_of is) ord)
      loose_open k =
          loose-stays (queue si n max fin (held_of was) ord) f (held_of is) (le-ltb max (reach f (held_of was)) fits_loose) new-loose r place-loose
          (seek-nothing base max 0 is is-listed k)

      -- it was the last
      pub loose-done : Opens a → Done (u ++ came f ∷ v)
          → Enters (queue si n max fin (held_of was) ord) (chunk true f) (queue si n max (fin ++ arrived (u ++ came f ∷ v)) (held_of (a ++ b)) ord)
      loose-done k d =
          rw (held-append a b)
          (loose_moves (queue si n max fin (held_of was) ord) f (held_of is) (le-ltb max (reach f (held_of was)) fits_loose) new-loose r place-loose
          (held_of a) (arrived (u ++ came f ∷ v)) (held_of b) (held-append a (part o i (u ++ came f ∷ v) ∷ b)) one-came
          (seek_found base max 0 a (part o i (u ++ came f ∷ v)) b is-listed k d))
