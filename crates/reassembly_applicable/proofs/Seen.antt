-- What is asked of the sets of a queue is seen in their rows; and what the tests make of the answer.
-- Assumes nothing.
use mathlib.Core.Path.{◌≡◌, refl, sym, ap, ◌∙◌}
use mathlib.Core.Bool.{true, false, ◌||◌}
use mathlib.Core.List.{List, [], ◌∷◌, map}
use mathlib.Core.Option.{Option, some}
use Prim.Native.Nat.{ℕ, ◌≤◌}
use lib.ListN.{length}
use Rattle.wire_model.specs.Refusal.{none, Told, says}
use Rattle.serial_model.specs.Serial.{before}
use Rattle.fragments.specs.Frag.{Frag, bare}
use Rattle.fragment_sets.specs.Sets.{sets}
use Rattle.set_reach.specs.Kept.{some_set, ssns_of, highest}
use Rattle.set_reach.proofs.Blind.{Blind, blind_cut, ssn_blind, reached_blind, some-set_blind, ssns_blind}
use Rattle.reassembly_state.specs.Limits.{frags_most}
use Rattle.reassembly_state.specs.State.{State, count, view}
use Rattle.reassembly_state.specs.Rows.{ordered_rows}
use Rattle.reassembly_state.proofs.Laws.{ordered-cut, view-next}
use Rattle.set_reach.specs.Applicable.{settles, tsns_from, resolved, applies_whole, first_up_to, ends_part, applies, Found, found_in}

settles_blind : (expected s t : ℕ) → Blind (settles expected s t)
settles_blind expected s t l = rw (ssn_blind l, reached_blind t l)

first_blind : (p : ℕ) → Blind (first_up_to p)
unfolding first_up_to
first_blind p [] = refl
first_blind p (x ∷ xs) = refl

ends_blind : (expected s t p : ℕ) → Blind (ends_part expected s t p)
ends_blind expected s t p l = rw (ssn_blind l, reached_blind t l, first_blind p l)

tsns_blind : (s : ℕ) → Blind (tsns_from s)
unfolding tsns_from
tsns_blind s [] = refl
tsns_blind s (x ∷ xs) = rw (tsns_blind s xs)

resolved_blind : (s p : ℕ) → Blind (resolved s p)
resolved_blind s p l = rw (tsns_blind s l)

module _ (q : State) (few : count q.queue ≤ frags_most) (full : length q.rows ≡ frags_most) (s t p : ℕ) where
  abbrev expected : ℕ
  expected = q.queue.next_ssn

  -- what looks at no byte of the ordered sets is seen in their rows
  seen : {A : Type 0} {f : List Frag → A} → Blind f → f (map bare (ordered_rows q)) ≡ f (view q).ordered
  seen {f = f} b = sym (ap f (ordered-cut q few full) ∙ blind_cut b (ordered_rows q) _)

  abbrev Answers : Option ℕ → Type 0
  Answers o = says none (found_in o) ≡ says none (found_in (applies (view q) s t p))

  whole_is : applies_whole (view q) s t p ≡ (before 16 s expected || (some_set (settles expected s t) (sets (view q).ordered) || resolved s p (view q).ordered))
  unfolding applies_whole
  whole_is = rw (view-next q)

  all-of_it : applies_whole (view q) s t p ≡ true → Answers (some s)
  unfolding applies
  all-of_it w = rw w

  part-of_it : applies_whole (view q) s t p ≡ false → highest 16 (ssns_of (ends_part expected s t p) (sets (map bare (ordered_rows q)))) ≡ applies (view q) s t p
  unfolding applies
  part-of_it w = rw (w, view-next q) (ap (highest 16) (seen (ssns_blind (ends_part expected s t p) (ends_blind expected s t p))))

  -- the expected SSN is after s
  pub after_it : before 16 s q.queue.next_ssn ≡ true → says none (found_in (some s)) ≡ says none (found_in (applies (view q) s t p))
  after_it a = all-of_it (whole_is ∙ rw a)

  module _ (a : before 16 s q.queue.next_ssn ≡ false) where
    pub settled_it : true ≡ some_set (settles q.queue.next_ssn s t) (sets (map bare (ordered_rows q))) → says none (found_in (some s)) ≡ says none (found_in (applies (view q) s t p))
    settled_it b = all-of_it (whole_is ∙ rw (a, sym (b ∙ seen (some-set_blind (settles expected s t) (settles_blind expected s t)))))

    module _ (b : false ≡ some_set (settles q.queue.next_ssn s t) (sets (map bare (ordered_rows q)))) where
      unsettled : some_set (settles expected s t) (sets (view q).ordered) ≡ false
      unsettled = sym (b ∙ seen (some-set_blind (settles expected s t) (settles_blind expected s t)))

      pub resolved_it : true ≡ resolved s p (map bare (ordered_rows q)) → says none (found_in (some s)) ≡ says none (found_in (applies (view q) s t p))
      resolved_it c = all-of_it (whole_is ∙ rw (a, unsettled, sym (c ∙ seen (resolved_blind s p))))

      pub part_it : false ≡ resolved s p (map bare (ordered_rows q)) → {r : Told Found}
          → r ≡ says none (found_in (highest 16 (ssns_of (ends_part q.queue.next_ssn s t p) (sets (map bare (ordered_rows q)))))) → r ≡ says none (found_in (applies (view q) s t p))
      part_it c e = e ∙ ap (λ (o : Option ℕ). says none (found_in o)) (part-of_it (whole_is ∙ rw (a, unsettled, sym (c ∙ seen (resolved_blind s p)))))
