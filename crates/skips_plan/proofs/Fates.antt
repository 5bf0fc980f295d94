-- A message of which some fragments are held, others are still to come, and others are lost: dropped, turned away, or taken.
-- Assumes nothing.
use mathlib.Core.Path.{◌≡◌, refl, sym, ap, ◌∙◌}
use mathlib.Core.List.{List, [], ◌∷◌, ◌++◌, map, append_assoc, nil≢cons, head-eq_of_cons-eq, tail-eq_of_cons-eq}
use mathlib.Core.Logic.{◌⊎◌, inl, inr}
use Prim.Native.Nat.{ℕ, suc}
use lib.ListN.{length}
use Rattle.fragments.specs.Frag.{Frag}
use Rattle.arrival_plan.specs.Plan.{Msg}
use Rattle.arrival_plan.proofs.Shape.{Mark, came, due, all_of, arrived, Done, Open}
use Rattle.arrival_plan.proofs.Loose.{Part, part, msg}
use Rattle.arrival_plan.proofs.Sorts.{In-first, In-second, which}

pub data Fate : Type 0 where
  held : Frag → Fate
  coming : Frag → Fate
  lost : Frag → Fate

-- lost is as good as due, as far as what is held goes
abbrev pub marks : List Fate → List Mark
marks [] = []
marks (held x ∷ l) = came x ∷ marks l
marks (coming x ∷ l) = due x ∷ marks l
marks (lost x ∷ l) = due x ∷ marks l

abbrev pub pending : List Fate → List Frag
pending [] = []
pending (held x ∷ l) = pending l
pending (coming x ∷ l) = x ∷ pending l
pending (lost x ∷ l) = pending l

-- none is lost; none is held
abbrev pub Safe : List Fate → Type 0
Safe [] = Unit {0}
Safe (held x ∷ l) = Safe l
Safe (coming x ∷ l) = Safe l
Safe (lost x ∷ l) = ⊥

abbrev pub Bare : List Fate → Type 0
Bare [] = Unit {0}
Bare (held x ∷ l) = ⊥
Bare (coming x ∷ l) = Bare l
Bare (lost x ∷ l) = Bare l

pub bare-arrived : (l : List Fate) → Bare l → arrived (marks l) ≡ []
bare-arrived [] h = refl
bare-arrived (held x ∷ l) h = absurd h
bare-arrived (coming x ∷ l) h = bare-arrived l h
bare-arrived (lost x ∷ l) h = bare-arrived l h

pub done-pending : (l : List Fate) → Done (marks l) → pending l ≡ []
done-pending [] h = refl
done-pending (held x ∷ l) h = done-pending l h
done-pending (coming x ∷ l) h = absurd h
done-pending (lost x ∷ l) h = absurd h

-- nothing is to come, and nothing is lost: all came
pub safe_done : (l : List Fate) → Safe l → pending l ≡ [] → Done (marks l)
safe_done [] s e = tt
safe_done (held x ∷ l) s e = safe_done l s e
safe_done (coming x ∷ l) s e = absurd (nil≢cons (sym e))
safe_done (lost x ∷ l) s e = absurd s

pub safe_open : (l : List Fate) → Open (marks l) → pending l ≡ [] → Safe l → ⊥
safe_open [] o e s = o
safe_open (held x ∷ l) o e s = safe_open l o e s
safe_open (coming x ∷ l) o e s = nil≢cons (sym e)
safe_open (lost x ∷ l) o e s = s

pub marks-append : (u v : List Fate) → marks (u ++ v) ≡ marks u ++ marks v
marks-append [] v = refl
marks-append (held x ∷ u) v = ap (λ (l : List Mark). came x ∷ l) (marks-append u v)
marks-append (coming x ∷ u) v = ap (λ (l : List Mark). due x ∷ l) (marks-append u v)
marks-append (lost x ∷ u) v = ap (λ (l : List Mark). due x ∷ l) (marks-append u v)

pub length-marks : (l : List Fate) → length (marks l) ≡ length l
length-marks [] = refl
length-marks (held x ∷ l) = ap suc (length-marks l)
length-marks (coming x ∷ l) = ap suc (length-marks l)
length-marks (lost x ∷ l) = ap suc (length-marks l)

pub safe_came : (u : List Fate) (f : Frag) (v : List Fate) → Safe (u ++ coming f ∷ v) → Safe (u ++ held f ∷ v)
safe_came [] f v s = s
safe_came (held x ∷ u) f v s = safe_came u f v s
safe_came (coming x ∷ u) f v s = safe_came u f v s
safe_came (lost x ∷ u) f v s = s

pub bare-away : (u : List Fate) (f : Frag) (v : List Fate) → Bare (u ++ coming f ∷ v) → Bare (u ++ lost f ∷ v)
bare-away [] f v s = s
bare-away (held x ∷ u) f v s = s
bare-away (coming x ∷ u) f v s = bare-away u f v s
bare-away (lost x ∷ u) f v s = bare-away u f v s

-- what is held is let go
abbrev pub emptied : List Fate → List Fate
emptied [] = []
emptied (held x ∷ l) = lost x ∷ emptied l
emptied (coming x ∷ l) = coming x ∷ emptied l
emptied (lost x ∷ l) = lost x ∷ emptied l

pub emptied-bare : (l : List Fate) → Bare (emptied l)
emptied-bare [] = tt
emptied-bare (held x ∷ l) = emptied-bare l
emptied-bare (coming x ∷ l) = emptied-bare l
emptied-bare (lost x ∷ l) = emptied-bare l

pub emptied-pending : (l : List Fate) → pending (emptied l) ≡ pending l
emptied-pending [] = refl
emptied-pending (held x ∷ l) = emptied-pending l
emptied-pending (coming x ∷ l) = ap (λ (r : List Frag). x ∷ r) (emptied-pending l)
emptied-pending (lost x ∷ l) = emptied-pending l

pub emptied-all : (l : List Fate) → all_of (marks (emptied l)) ≡ all_of (marks l)
emptied-all [] = refl
emptied-all (held x ∷ l) = ap (λ (r : List Frag). x ∷ r) (emptied-all l)
emptied-all (coming x ∷ l) = ap (λ (r : List Frag). x ∷ r) (emptied-all l)
emptied-all (lost x ∷ l) = ap (λ (r : List Frag). x ∷ r) (emptied-all l)

-- ── messages ──

pub record Item : Type 0 where
  pub first : ℕ
  pub ppi : ℕ
  pub fates : List Fate

abbrev pub item : ℕ → ℕ → List Fate → Item
item o i l = record { first = o; ppi = i; fates = l }

abbrev pub part_of : Item → Part
part_of p = part p.first p.ppi (marks p.fates)

abbrev pub parts : List Item → List Part
parts l = map part_of l

abbrev pub msg-of : Item → Msg
msg-of p = msg (part_of p)

abbrev pub msgs : List Item → List Msg
msgs l = map msg (parts l)

-- ── where a chunk that is still to come stands ──

module _ {A : Type 0} (g : A → List Frag) where
  -- all that they have
  abbrev pub all : List A → List Frag
  all [] = []
  all (x ∷ xs) = g x ++ all xs

  pub all_append : (a b : List A) → all (a ++ b) ≡ all a ++ all b
  all_append [] b = refl
  all_append (x ∷ a) b = ap (λ (l : List Frag). g x ++ l) (all_append a b) ∙ sym (append_assoc (g x) (all a) (all b))

  -- one of them has f, between x and y; the others have what they have
  pub record In (l : List A) (f : Frag) (others : List Frag) : Type 0 where
    pub a : List A
    pub it : A
    pub b : List A
    pub x : List Frag
    pub y : List Frag
    pub is : l ≡ a ++ it ∷ b
    pub has : g it ≡ x ++ f ∷ y
    pub rest : (k : A) → g k ≡ x ++ y → all (a ++ k ∷ b) ≡ others

  pub find_in : (l : List A) (x : List Frag) (f : Frag) (y : List Frag) → x ++ f ∷ y ≡ all l → In l f (x ++ y)
  find_in [] [] f y e = absurd (nil≢cons (sym e))
  find_in [] (z ∷ x) f y e = absurd (nil≢cons (sym e))
  find_in (p ∷ l) x f y e = go (find_in l) (which x f y (g p) (all l) e)
    where
      go : ((x : List Frag) (f : Frag) (y : List Frag) → x ++ f ∷ y ≡ all l → In l f (x ++ y)) → In-first x f y (g p) (all l) ⊎ In-second x f y (g p) (all l) → In (p ∷ l) f (x ++ y)
      go ih (inl h) =
          record {
            a = [];
            it = p;
            b = l;
            x = x;
            y = h.rest;
            is = refl;
            has = h.is;
            rest = λ k e. ap (λ (r : List Frag). r ++ all l) e ∙ append_assoc x h.rest (all l) ∙ ap (λ (r : List Frag). x ++ r) (sym h.others);
          }
      go ih (inr h) =
          let i = ih h.front f y (sym h.others) in
          record {
            a = p ∷ i.a;
            it = i.it;
            b = i.b;
            x = i.x;
            y = i.y;
            is = ap (λ (r : List A). p ∷ r) i.is;
            has = i.has;
            rest = λ k e. ap (λ (r : List Frag). g p ++ r) (i.rest k e) ∙ sym (append_assoc (g p) h.front y) ∙ ap (λ (r : List Frag). r ++ y) (sym h.is);
          }

-- in one message
pub record In-fates (l : List Fate) (f : Frag) (others : List Frag) : Type 0 where
  pub u : List Fate
  pub v : List Fate
  pub is : l ≡ u ++ coming f ∷ v
  pub came-rest : pending (u ++ held f ∷ v) ≡ others
  pub away-rest : pending (u ++ lost f ∷ v) ≡ others

pub find_fate : (l : List Fate) (x : List Frag) (f : Frag) (y : List Frag) → pending l ≡ x ++ f ∷ y → In-fates l f (x ++ y)
find_fate [] [] f y e = absurd (nil≢cons e)
find_fate [] (z ∷ x) f y e = absurd (nil≢cons e)
find_fate (held w ∷ l) x f y e =
    let i = find_fate l x f y e in
    record { u = held w ∷ i.u; v = i.v; is = ap (λ (r : List Fate). held w ∷ r) i.is; came-rest = i.came-rest; away-rest = i.away-rest }
find_fate (lost w ∷ l) x f y e =
    let i = find_fate l x f y e in
    record { u = lost w ∷ i.u; v = i.v; is = ap (λ (r : List Fate). lost w ∷ r) i.is; came-rest = i.came-rest; away-rest = i.away-rest }
find_fate (coming w ∷ l) [] f y e =
    record { u = []; v = l; is = ap (λ (k : Frag). coming k ∷ l) (head-eq_of_cons-eq e); came-rest = tail-eq_of_cons-eq e; away-rest = tail-eq_of_cons-eq e }
find_fate (coming w ∷ l) (z ∷ x) f y e =
    let i = find_fate l x f y (tail-eq_of_cons-eq e) in
    record {
      u = coming w ∷ i.u;
      v = i.v;
      is = ap (λ (r : List Fate). coming w ∷ r) i.is;
      came-rest = λ j. ◌∷◌ (head-eq_of_cons-eq e j) (i.came-rest j);
      away-rest = λ j. ◌∷◌ (head-eq_of_cons-eq e j) (i.away-rest j);
    }
