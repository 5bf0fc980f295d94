-- What a take of reassembly, and a call on the message in hand, leave beside their result.
-- Assumes nothing.
use mathlib.Core.Path.{◌≡◌, refl, sym, ap, ◌∙◌}
use mathlib.Core.Bool.{Bool, true, false, cond}
use mathlib.Core.List.{List}
use Prim.Native.Nat.{ℕ}
use Rattle.wire_model.specs.Refusal.{Told}
use Rattle.chunks.specs.Message as hand
use Rattle.chunks.specs.declared.Chunks.{Chunks}
use Rattle.reassembly_state.specs.State as fragments
use Rattle.reassembly_queue.specs.Queue.{state_of}
use Rattle.reassembly_state.specs.Model.{Message}
use Rattle.reassembly_queue.specs.declared.ReassemblyQueue.{ReassemblyQueue}
use Rattle.sctp_receive_model.specs.States.{hand_from}

-- equal answers and equal counts, over the same words and bytes, are the same outcome of a take
pub reads-left : {t u : Told Message} {p q : ReassemblyQueue} (ws pool buffer : List ℕ) → t ≡ u → p ≡ q → fragments.reads t (state_of p ws pool) buffer ≡ fragments.reads u (state_of q ws pool) buffer
reads-left {t} {u} {p} {q} ws pool buffer e f = ap (λ (x : ReassemblyQueue). fragments.reads t (state_of x ws pool) buffer) f ∙ ap (λ (x : Told Message). fragments.reads x (state_of q ws pool) buffer) e

-- a piece leaves the message's SSN and identifier as they were
pub hand_kept : (size position : ℕ) (given : Bool) (buffer : List ℕ) (most : ℕ) → (let m = (hand.next_piece (hand_from size position given) buffer most).message in hand_from m.size m.position m.given ≡ m)
unfolding hand.next_piece hand.moved
hand_kept size position given buffer most = cases (hand.unsound (hand_from size position given) buffer) (hand.finished (hand_from size position given)) _ _ _ _
  where
    cases : (x y : Bool) (s t u : Told hand.Place) (n : ℕ) → (let h = hand_from size position given in let m = (cond x (hand.after s h) (cond y (hand.after t h) (hand.after u (hand.moved h n)))).message in hand_from m.size m.position m.given ≡ m)
    cases true y s t u n = refl
    cases false true s t u n = refl
    cases false false s t u n = refl

-- so that size, position and whether the one piece was given are the whole of what it leaves
pub hand_left : (size position : ℕ) (given : Bool) (buffer : List ℕ) (most : ℕ) {t u : Told hand.Place} {m : Chunks} → t ≡ u → hand.after u m ≡ hand.next_piece (hand_from size position given) buffer most → hand.after t (hand_from m.size m.position m.given) ≡ hand.next_piece (hand_from size position given) buffer most
hand_left size position given buffer most {t} {u} {m} e f =
    let q = ap (λ (x : hand.After). x.message) f in
    ap (λ (x : Chunks). hand.after t (hand_from x.size x.position x.given)) q
    ∙ ap (hand.after t) (hand_kept size position given buffer most)
    ∙ ap (hand.after t) (sym q)
    ∙ ap (λ (x : Told hand.Place). hand.after x m) e
    ∙ f
