-- One outcome for a call of the C interface: what its outcomes are, and the lemmas that every line of the list applies.
-- Assumes nothing.
use mathlib.Core.Path.{◌≡◌, refl, sym, ap, ◌∙◌}
use mathlib.Core.Bool.{Bool, true, false}
use mathlib.Core.List.{List}
use Prim.Native.Nat.{ℕ}
use lib.Dec.{eqb}
use lib.IntN.{ℤ, pos, negsuc}
use mir.Syntax.{w32}
use mir.Val.{SFits}
use Rattle.wire_model.specs.Refusal.{Told, Written, written}
use Rattle.payload_model.specs.Queue as tsns
use Rattle.payload_queue.specs.Queue.{queue_of}
use Rattle.payload_queue.specs.declared.PayloadQueue.{PayloadQueue}
use Rattle.reassembly_state.specs.State as fragments
use Rattle.reassembly_queue.specs.Queue.{state_of}
use Rattle.reassembly_queue.specs.declared.ReassemblyQueue.{ReassemblyQueue}
use Rattle.sctp_receive_result.specs.Result.{refusal_of, told, done}
use Rattle.sctp_receive_result.specs.Facts.{result_one}
use Rattle.one_answer.proofs.Only.{Only, both}
use Rattle.one_answer.proofs.States.{TsnWords, tsn_struct_one, tsn-words-one, FragmentWords, rq_struct_one, rq_words_one, rq_pool_one}

-- ── a result and out values ──

-- the result, and what stands in the out references at exit
pub record Said (A : Type 0) : Type 0 where
  pub result : ℤ
  pub values : A

-- the result is 32 bits, by its type
abbrev pub Word : ℤ → Type 0
Word r = SFits w32 r

-- equal words of a result and its values
pub same_said : {A : Type 0} (r s : Said A) → Word r.result → Word s.result → told r.result r.values ≡ told s.result s.values → r ≡ s
same_said {A} r s f g e =
    both (λ (i : ℤ) (v : A). record { result = i; values = v })
    (result_one r.result s.result f g (ap (λ (t : Told A). t.refusal) e))
    (ap (λ (t : Told A). t.values) e)

pub said_one : {A : Type 0} {b : Told A} → Only (λ (o : Said A). Word o.result × (told o.result o.values ≡ b))
said_one r s p q = same_said r s p.0 q.0 (p.1 ∙ sym q.1)

-- a reader's promise is about the fields in front; some stand there
pub read_one : {A F : Type 0} (f : F) {b : F → Told A} → Only (λ (o : Said A). Word o.result × ((f : F) → told o.result o.values ≡ b f))
read_one f r s p q = said_one r s (p.0, p.1 f) (q.0, q.1 f)

-- a writer: the result, the byte count, and the buffer
pub record Wrote : Type 0 where
  pub said : Said ℕ
  pub out : List ℕ

pub wrote_one : {b : Written} → Only (λ (o : Wrote). Word o.said.result × (written (told o.said.result o.said.values) o.out ≡ b))
wrote_one r s p q =
    let e : written (told r.said.result r.said.values) r.out ≡ written (told s.said.result s.said.values) s.out = p.1 ∙ sym q.1 in
    both (λ (x : Said ℕ) (out : List ℕ). record { said = x; out = out }) (same_said r.said s.said p.0 q.0 (ap (λ (w : Written). w.count) e)) (ap (λ (w : Written). w.out) e)

-- a call that hands nothing out: the result says all
done-refusal : (r : ℤ) → (done r).refusal ≡ refusal_of r
done-refusal (pos k) = refl
done-refusal (negsuc k) = go (eqb k 0) refl
  where
    go : (b : Bool) → eqb k 0 ≡ b → (done (negsuc k)).refusal ≡ refusal_of (negsuc k)
    go true e = rw e
    go false e = rw e

pub done-one : (r s : ℤ) → Word r → Word s → done r ≡ done s → r ≡ s
done-one r s f g e = result_one r s f g (sym (done-refusal r) ∙ ap (λ (t : Told Bool). t.refusal) e ∙ done-refusal s)

-- ── beside it the TSN queue: its counts and log, and the words of its table ──

pub record TsnsLeft (A : Type 0) : Type 0 where
  pub said : A
  pub queue : PayloadQueue
  pub table : List ℕ

module _ {A S : Type 0} (says : S → Told A) (Fits : S → Type 0) (says-one : (r s : S) → Fits r → Fits s → says r ≡ says s → r ≡ s) where
  tsns-one : {b : tsns.After A} → Only (λ (o : TsnsLeft S). Fits o.said × (TsnWords o.table × (tsns.after (says o.said) (queue_of o.queue o.table) ≡ b)))
  tsns-one r s p q =
      let e : tsns.after (says r.said) (queue_of r.queue r.table) ≡ tsns.after (says s.said) (queue_of s.queue s.table) = p.1.1 ∙ sym q.1.1 in
      let l = ap (λ (x : tsns.After A). x.queue) e in
      both (λ (x : S) (y : PayloadQueue × List ℕ). record { said = x; queue = y.0; table = y.1 })
      (says-one r.said s.said p.0 q.0 (ap (λ (x : tsns.After A). x.told) e))
      (both (λ (x : PayloadQueue) (ws : List ℕ). (x, ws))
      (tsn_struct_one r.queue s.queue r.table s.table l)
      (tsn-words-one r.queue s.queue r.table s.table l p.1.0 q.1.0))

pub tsns_said_one : {A : Type 0} {b : tsns.After A}
    → Only (λ (o : TsnsLeft (Said A)). Word o.said.result × (TsnWords o.table × (tsns.after (told o.said.result o.said.values) (queue_of o.queue o.table) ≡ b)))
tsns_said_one {A} = tsns-one (λ (o : Said A). told o.result o.values) (λ (o : Said A). Word o.result) same_said

pub tsns-done-one : {b : tsns.After Bool} → Only (λ (o : TsnsLeft ℤ). Word o.said × (TsnWords o.table × (tsns.after (done o.said) (queue_of o.queue o.table) ≡ b)))
tsns-done-one = tsns-one done Word done-one

-- ── beside it reassembly: its numbers, the words of its table and the bytes of its pool ──

pub record FragmentsLeft (A : Type 0) : Type 0 where
  pub said : A
  pub queue : ReassemblyQueue
  pub table : List ℕ
  pub pool : List ℕ

module _ {A S : Type 0} (says : S → Told A) (Fits : S → Type 0) (says-one : (r s : S) → Fits r → Fits s → says r ≡ says s → r ≡ s) where
  fragments-one : {b : fragments.After A}
      → Only (λ (o : FragmentsLeft S). Fits o.said × (FragmentWords o.table × (fragments.after (says o.said) (state_of o.queue o.table o.pool) ≡ b)))
  fragments-one r s p q =
      let e : fragments.after (says r.said) (state_of r.queue r.table r.pool) ≡ fragments.after (says s.said) (state_of s.queue s.table s.pool) = p.1.1 ∙ sym q.1.1 in
      let l = ap (λ (x : fragments.After A). x.state) e in
      both (λ (x : S × ReassemblyQueue) (y : List ℕ × List ℕ). record { said = x.0; queue = x.1; table = y.0; pool = y.1 })
      (both (λ (x : S) (y : ReassemblyQueue). (x, y))
      (says-one r.said s.said p.0 q.0 (ap (λ (x : fragments.After A). x.told) e))
      (rq_struct_one r.queue s.queue r.table s.table r.pool s.pool l))
      (both (λ (ws pool : List ℕ). (ws, pool))
      (rq_words_one r.queue s.queue r.table s.table r.pool s.pool l p.1.0 q.1.0)
      (rq_pool_one r.queue s.queue r.table s.table r.pool s.pool l))

pub fragments_said_one : {A : Type 0} {b : fragments.After A}
    → Only (λ (o : FragmentsLeft (Said A)). Word o.said.result × (FragmentWords o.table × (fragments.after (told o.said.result o.said.values) (state_of o.queue o.table o.pool) ≡ b)))
fragments_said_one {A} = fragments-one (λ (o : Said A). told o.result o.values) (λ (o : Said A). Word o.result) same_said

pub fragments-done-one : {b : fragments.After Bool}
    → Only (λ (o : FragmentsLeft ℤ). Word o.said × (FragmentWords o.table × (fragments.after (done o.said) (state_of o.queue o.table o.pool) ≡ b)))
fragments-done-one = fragments-one done Word done-one
