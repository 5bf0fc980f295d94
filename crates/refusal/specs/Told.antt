-- The number of each refusal, and what an answer tells that may be refused.
-- Assumes nothing.
use Rattle.std.specs.Prelude.{ℕ, Bool, false, Result, Ok, Err}
use Rattle.wire_model.specs.Refusal.{none, refuse, Told, says}
use Rattle.refusal.specs.declared.Refusal.{Refusal}
use Rattle.refusal.specs.declared.Refusal.TheVariants as reasons

-- "When a call says no", in the order of that table
abbrev pub number : Refusal → ℕ
number reasons.Unsound = 0
number reasons.ShortHeader = 1
number reasons.BadLength = 2
number reasons.OtherType = 3
number reasons.ShortData = 4
number reasons.ShortSack = 5
number reasons.MessageTooLarge = 6
number reasons.ShortBuffer = 7
number reasons.NoRoom = 8
number reasons.ChunkTooLarge = 9
number reasons.ShortOutput = 10
number reasons.OutOfRange = 11
number reasons.BadForwardTsn = 12
number reasons.ShortPacket = 13
number reasons.WrongChecksum = 14
number reasons.NoData = 15
number reasons.BadCause = 16
number reasons.OppositeTsn = 17
number reasons.HeldTsn = 18
number reasons.NoStream = 19

-- an answer's values where it is accepted; "other fields of a refused answer are 0, false or empty": such values are zero
abbrev pub answer_told : {T A : Type 0} → A → (T → A) → Result T Refusal → Told A
answer_told zero values (Ok x) = says none (values x)
answer_told zero values (Err e) = says (refuse (number e)) zero

-- yes or no
abbrev pub flag_told : Result Bool Refusal → Told Bool
flag_told = answer_told false (λ (b : Bool). b)

-- a count
abbrev pub count_told : Result ℕ Refusal → Told ℕ
count_told = answer_told 0 (λ (n : ℕ). n)
