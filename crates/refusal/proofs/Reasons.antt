-- No two reasons have the same number, and an answer is known by what it tells.
-- Assumes nothing.
use mathlib.Core.Path.{◌≡◌, refl, sym, ap, ◌∙◌}
use mathlib.Core.List.{[], ◌∷◌}
use Prim.Native.Nat.{ℕ}
use lib.ListN.{get_or}
use Rattle.std.specs.Prelude.{Result, Ok, Err}
use Rattle.wire_model.specs.Refusal as tells
use Rattle.wire_model.specs.Refusal.{Told}
use Rattle.refusal.specs.Told.{number, answer_told}
use Rattle.refusal.specs.declared.Refusal.{Refusal}
use Rattle.refusal.specs.declared.Refusal.TheVariants.{Unsound, ShortHeader, BadLength, OtherType, ShortData, ShortSack, MessageTooLarge, ShortBuffer, NoRoom, ChunkTooLarge, ShortOutput, OutOfRange, BadForwardTsn, ShortPacket, WrongChecksum, NoData, BadCause, OppositeTsn, HeldTsn, NoStream}

-- the reason of a number; of one above all of them the last
pub reason : ℕ → Refusal
reason k =
    get_or (Unsound ∷ ShortHeader ∷ BadLength ∷ OtherType ∷ ShortData ∷ ShortSack ∷ MessageTooLarge ∷ ShortBuffer ∷ NoRoom ∷ ChunkTooLarge ∷ ShortOutput ∷ OutOfRange ∷ BadForwardTsn ∷ ShortPacket ∷ WrongChecksum ∷ NoData ∷ BadCause ∷ OppositeTsn ∷ HeldTsn ∷ []) k NoStream

pub its_reason : (r : Refusal) → reason (number r) ≡ r
unfolding reason
its_reason Unsound = refl
its_reason ShortHeader = refl
its_reason BadLength = refl
its_reason OtherType = refl
its_reason ShortData = refl
its_reason ShortSack = refl
its_reason MessageTooLarge = refl
its_reason ShortBuffer = refl
its_reason NoRoom = refl
its_reason ChunkTooLarge = refl
its_reason ShortOutput = refl
its_reason OutOfRange = refl
its_reason BadForwardTsn = refl
its_reason ShortPacket = refl
its_reason WrongChecksum = refl
its_reason NoData = refl
its_reason BadCause = refl
its_reason OppositeTsn = refl
its_reason HeldTsn = refl
its_reason NoStream = refl

pub one_reason : (a b : Refusal) → number a ≡ number b → a ≡ b
one_reason a b e = sym (its_reason a) ∙ ap reason e ∙ its_reason b

-- the answer that tells so much, if what is accepted is known by its values
abbrev pub answer_back : {T A : Type 0} → (A → T) → Told A → Result T Refusal
answer_back {T} {A} of t = go t.refusal
  where
    go : tells.Refusal → Result T Refusal
    go tells.none = Ok (of t.values)
    go (tells.refuse k) = Err (reason k)

pub answer_inverse : {T A : Type 0} (zero : A) (values : T → A) (of : A → T) → ((x : T) → of (values x) ≡ x) → (r : Result T Refusal) → answer_back of (answer_told zero values r) ≡ r
answer_inverse zero values of known (Ok x) = ap Ok (known x)
answer_inverse zero values of known (Err e) = ap Err (its_reason e)
