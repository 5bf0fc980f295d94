-- On document 01's domain the skip and how far it applies are what the conditions say, and nothing else is.
-- Assumes nothing.
use mathlib.Core.Path.{◌≡◌, refl, sym, ap, ◌∙◌}
use mathlib.Core.Bool.{Bool, true, false, ◌||◌, cond, true≢false}
use mathlib.Core.Logic.{◌⊎◌, inl, inr, ⊎_elim}
use mathlib.Core.List.{List, Memᴰ}
use mathlib.Core.Option as option
use mathlib.Core.Option.{Option, some}
use Prim.Native.Nat.{ℕ}
use Rattle.wire_model.specs.Refusal.{none, says}
use Rattle.serial_model.specs.Serial.{before, at_or_before}
use Rattle.fragments.specs.Frag.{Frag}
use Rattle.fragment_sets.specs.Sets.{sets}
use Rattle.set_reach.specs.Kept.{set_ssn, some_set, ssns_of, lower, higher, lowest, highest}
use Rattle.reassembly_state.specs.Model.{Queue, queue}
use Rattle.reassembly_state.specs.State.{State, unsound, view, lay, after}
use Rattle.reassembly_bounded.specs.Bounded.{held_back, limit, moved_to, skip_bounded, forward_bounded}
use Rattle.reassembly_applicable.specs.Applicable.{settles, tsns_from, is_up_to, resolved, applies_whole, ends_part, applies, found_in, applicable}
use Rattle.bounded_theorems.specs.Conditions.{OnArc, Domain, Best, SsnOf, TsnFrom, NoSuch, Limit, Skips, Whole, Part, Applies}
use Rattle.bounded_theorems.proofs.Best.{lower_ranked, higher_ranked, best_one, kept_best}
use Rattle.bounded_theorems.proofs.Held.{set-of, ssns_are, some_in, some_of, tsns_are}

module _ (l : List Frag) (d : Domain l) where
  ssn-on : (p : List Frag → Bool) (n : ℕ) → SsnOf p l n → OnArc 15 d.ssn_base n
  ssn-on p n o = let x = set-of l o.0 o.1 in rw (← o.3, x.2) (d.ssns x.0 x.1)

  tsn-on : (s n : ℕ) → TsnFrom s l n → OnArc 31 d.tsn_base n
  tsn-on s n o = rw (← o.3) (d.tsns o.0 o.1)

  -- the lowest and the highest SSN of the sets that do, the lowest TSN: what a pass keeps
  abbrev Kept : (ℕ → ℕ → Bool) → (ℕ → Type 0) → Option ℕ → Type 0
  Kept better Is o = ((n : ℕ) × Best better Is n × ◌≡◌ {A = Option ℕ} o (some n)) ⊎ (NoSuch Is × ◌≡◌ {A = Option ℕ} o option.none)

  lowest-ssn : (p : List Frag → Bool) → Kept (lower 16) (SsnOf p l) (lowest 16 (ssns_of p (sets l)))
  lowest-ssn p = kept_best (lower_ranked 15 d.ssn_base d.ssn_fits) (ssn-on p) (ssns_of p (sets l)) (ssns_are p l)

  highest-ssn : (p : List Frag → Bool) → Kept (higher 16) (SsnOf p l) (highest 16 (ssns_of p (sets l)))
  highest-ssn p = kept_best (higher_ranked 15 d.ssn_base d.ssn_fits) (ssn-on p) (ssns_of p (sets l)) (ssns_are p l)

  lowest-tsn : (s : ℕ) → Kept (lower 32) (TsnFrom s l) (lowest 32 (tsns_from s l))
  lowest-tsn s = kept_best (lower_ranked 31 d.tsn_base d.tsn_fits) (tsn-on s) (tsns_from s l) (tsns_are s l)

  -- ── the limit ──

  module _ (s t : ℕ) where
    limit_is : Limit s t l (limit s t l)
    unfolding limit
    limit_is = ⊎_elim (λ h. inl (rw h.2 h.1)) (λ h. inr (h.0, rw h.1)) (lowest-ssn (held_back s t))

    limit-one : (n : ℕ) → Limit s t l n → n ≡ limit s t l
    limit-one n h =
        ⊎_elim
        (λ b. ⊎_elim (λ c. best_one (lower_ranked 15 d.ssn_base d.ssn_fits) (ssn-on (held_back s t)) n (limit s t l) b c) (λ c. absurd (c.0 n b.0)) limit_is)
        (λ b. ⊎_elim (λ c. absurd (b.0 (limit s t l) c.0)) (λ c. b.1 ∙ sym c.1) limit_is)
        h

-- ── the skip ──

module _ (q : Queue) (d : Domain q.ordered) (s t : ℕ) where
  -- the skip meets the conditions ..
  pub skip_meets : Skips q s t (skip_bounded q s t)
  unfolding skip_bounded
  skip_meets =
      record {
        si = refl;
        max = refl;
        finished = refl;
        unordered = refl;
        ordered = refl;
        limit = limit s t q.ordered;
        limited = limit_is q.ordered d s t;
        expected = refl;
      }

  -- .. and whatever meets them is what it leaves
  pub skip_only : (q' : Queue) → Skips q s t q' → q' ≡ skip_bounded q s t
  unfolding skip_bounded
  skip_only q' k =
      same k.si (k.expected ∙ ap (moved_to q.next) (limit-one q.ordered d s t k.limit k.limited)) k.max k.finished k.unordered k.ordered
    where
      same : {a a' b b' c c' : ℕ} {f f' u u' o o' : List Frag} → a ≡ a' → b ≡ b' → c ≡ c' → f ≡ f' → u ≡ u' → o ≡ o' → queue a b c f u o ≡ queue a' b' c' f' u' o'
      same e g h i j k = cc

  -- "The first must not carry the expected SSN past a set that the cumulative point does not reach."
  pub not_past : (l : List Frag) → Memᴰ l (sets q.ordered) → held_back s t l ≡ true → before 16 (set_ssn l) q.next ≡ false → before 16 (set_ssn l) (skip_bounded q s t).next ≡ false
  unfolding skip_bounded moved_to
  not_past l i h b = go (before 16 q.next (limit s t q.ordered))
    where
      at : before 16 (set_ssn l) (limit s t q.ordered) ≡ false
      at = ⊎_elim (λ c. c.1 (set_ssn l) (l, i, h, refl)) (λ c. absurd (c.0 (set_ssn l) (l, i, h, refl))) (limit_is q.ordered d s t)

      go : (c : Bool) → before 16 (set_ssn l) (cond c (limit s t q.ordered) q.next) ≡ false
      go true = at
      go false = b

-- the call on a sound queue
pub bounded_is : (u : State) → unsound u ≡ false → Domain (view u).ordered → (s t : ℕ) (q' : Queue) → Skips (view u) s t q' → forward_bounded u s t ≡ after (says none true) (lay q' u)
unfolding forward_bounded
bounded_is u e d s t q' k = rw (e, skip_only (view u) d s t q' k)

-- ── how far it applies ──

module _ (q : Queue) (d : Domain q.ordered) (s t p : ℕ) where
  abbrev all : Bool
  all = applies_whole q s t p

  resolved_in : resolved s p q.ordered ≡ true → (n : ℕ) × Best (lower 32) (TsnFrom s q.ordered) n × (at_or_before 32 n p ≡ true)
  unfolding is_up_to
  resolved_in e = ⊎_elim (λ h. (h.0, h.1, rw h.2 at e)) (λ h. absurd (true≢false (sym (rw h.1 at e)))) (lowest-tsn q.ordered d s)

  resolved-of : (n : ℕ) → Best (lower 32) (TsnFrom s q.ordered) n → at_or_before 32 n p ≡ true → resolved s p q.ordered ≡ true
  unfolding is_up_to
  resolved-of n b e =
      ⊎_elim
      (λ h. rw h.2 (rw (best_one (lower_ranked 31 d.tsn_base d.tsn_fits) (tsn-on q.ordered d s) n h.0 b h.1) at e))
      (λ h. absurd (h.0 n b.0))
      (lowest-tsn q.ordered d s)

  whole_in : applies_whole q s t p ≡ true → Whole q s t p
  unfolding applies_whole
  whole_in e = go (before 16 s q.next) (some_set (settles q.next s t) (sets q.ordered)) refl refl e
    where
      go : (a b : Bool) → before 16 s q.next ≡ a → some_set (settles q.next s t) (sets q.ordered) ≡ b → a || (b || resolved s p q.ordered) ≡ true → Whole q s t p
      go true b f g e = inl f
      go false true f g e = inr (inl (some_in (settles q.next s t) (sets q.ordered) g))
      go false false f g e = inr (inr (resolved_in e))

  whole_of : applies_whole q s t p ≡ false → Whole q s t p → ⊥
  unfolding applies_whole
  whole_of e w = go (before 16 s q.next) (some_set (settles q.next s t) (sets q.ordered)) refl refl e
    where
      go : (a b : Bool) → before 16 s q.next ≡ a → some_set (settles q.next s t) (sets q.ordered) ≡ b → a || (b || resolved s p q.ordered) ≡ false → ⊥
      go true b f g e = true≢false e
      go false true f g e = true≢false e
      go false false f g e =
          ⊎_elim (λ h. true≢false (sym h ∙ f))
          (λ r. ⊎_elim (λ h. some_of (settles q.next s t) (sets q.ordered) g h.0 h.1 h.2) (λ h. true≢false (sym (resolved-of h.0 h.1 h.2) ∙ e)) r)
          w

  part-is : Part q s t p (highest 16 (ssns_of (ends_part q.next s t p) (sets q.ordered)))
  part-is = highest-ssn q.ordered d (ends_part q.next s t p)

  part-one : (o : Option ℕ) → Part q s t p o → o ≡ highest 16 (ssns_of (ends_part q.next s t p) (sets q.ordered))
  part-one o h =
      ⊎_elim
      (λ b. ⊎_elim
      (λ c. b.2 ∙ ap some (best_one (higher_ranked 15 d.ssn_base d.ssn_fits) (ssn-on q.ordered d (ends_part q.next s t p)) b.0 c.0 b.1 c.1) ∙ sym c.2)
      (λ c. absurd (c.0 b.0 b.1.0))
      part-is)
      (λ b. ⊎_elim (λ c. absurd (b.0 c.0 c.1.0)) (λ c. b.1 ∙ sym c.1) part-is)
      h

  -- the answer meets the conditions ..
  pub applies_meets : Applies q s t p (applies q s t p)
  unfolding applies
  applies_meets = go (applies_whole q s t p) refl
    where
      go : (b : Bool) → applies_whole q s t p ≡ b → Applies q s t p (cond b (some s) (highest 16 (ssns_of (ends_part q.next s t p) (sets q.ordered))))
      go true e = inl (whole_in e, refl)
      go false e = inr (whole_of e, part-is)

  -- .. and no other answer does
  pub applies_only : (o : Option ℕ) → Applies q s t p o → o ≡ applies q s t p
  unfolding applies
  applies_only o h = go (applies_whole q s t p) refl
    where
      go : (b : Bool) → applies_whole q s t p ≡ b → o ≡ cond b (some s) (highest 16 (ssns_of (ends_part q.next s t p) (sets q.ordered)))
      go true e = ⊎_elim (λ a. a.1) (λ a. absurd (a.0 (whole_in e))) h
      go false e = ⊎_elim (λ a. absurd (whole_of e a.0)) (λ a. part-one o a.1) h

-- the call on a sound queue
pub applicable-is : (u : State) → unsound u ≡ false → Domain (view u).ordered → (s t p : ℕ) (o : Option ℕ) → Applies (view u) s t p o → applicable u s t p ≡ says none (found_in o)
unfolding applicable
applicable-is u e d s t p o h = rw (e, applies_only (view u) d s t p o h)
