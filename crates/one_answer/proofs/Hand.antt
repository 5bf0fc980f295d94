-- No second outcome of a call on the message in hand fits its promise: the answer, the message and the bytes of the buffer that is written are fixed.
-- The buffer that holds the message is only lent to be read: it is at exit what it was, by its loan, and is no part of an outcome.
-- Assumes nothing.
use mathlib.Core.Path.{◌≡◌, refl, sym, ap, ◌∙◌}
use mathlib.Core.List.{List}
use Prim.Native.Nat.{ℕ}
use Rattle.wire_model.specs.Refusal.{Written, written}
use Rattle.std.specs.Prelude.{Bool, Result, Option}
use Rattle.refusal.specs.declared.Refusal.{Refusal}
use Rattle.refusal.specs.Told.{flag_told, count_told}
use Rattle.chunks.specs.Message.{piece_told, size, is_empty, whole_read, After, after, next_piece}
use Rattle.chunks.specs.declared.Chunks.{Chunks}
use Rattle.chunks.specs.declared.Part.{Part}
use Rattle.one_answer.proofs.Only.{Only, both}
use Rattle.one_answer.proofs.Told.{flag_one, count-one, piece-one}

-- what a whole read gives, and the bytes of the buffer that it wrote at exit
pub record Left : Type 0 where
  pub gives : Result ℕ Refusal
  pub out : List ℕ

module _ (self : Chunks) (buffer : List ℕ) where
  pub hand_len_one : Only (λ (r : Result ℕ Refusal). count_told r ≡ size self buffer)
  hand_len_one = count-one

  pub hand_is_empty_one : Only (λ (r : Result Bool Refusal). flag_told r ≡ is_empty self buffer)
  hand_is_empty_one = flag_one

  pub hand_read_one : (out : List ℕ) → Only (λ (o : Left). written (count_told o.gives) o.out ≡ whole_read self buffer out)
  hand_read_one out r s p q =
      let e : written (count_told r.gives) r.out ≡ written (count_told s.gives) s.out = p ∙ sym q in
      both (λ (n : Result ℕ Refusal) (l : List ℕ). record { gives = n; out = l }) (count-one r.gives s.gives (ap (λ (x : Written). x.count) e) refl) (ap (λ (x : Written). x.out) e)

  pub hand_next_one : (most : ℕ) → Only (λ (o : Result (Option Part) Refusal × Chunks). after (piece_told o.0) o.1 ≡ next_piece self buffer most)
  hand_next_one most r s p q =
      let e : after (piece_told r.0) r.1 ≡ after (piece_told s.0) s.1 = p ∙ sym q in
      both (λ (a : Result (Option Part) Refusal) (m : Chunks). (a, m)) (piece-one r.0 s.0 (ap (λ (x : After). x.told) e) refl) (ap (λ (x : After). x.message) e)
