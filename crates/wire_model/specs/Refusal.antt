-- When a call says no (document 01): its checks in order, each with its number. The first that holds refuses.
-- Assumes nothing.
use Rattle.std.specs.Prelude.{ℕ, Bool, cond, List, [], ◌∷◌, ◌++◌, ltb, length}
use Rattle.wire_model.specs.BigEndian.{over}

-- document 01's number, or none
pub data Refusal : Type 0 where
  none : Refusal
  refuse : ℕ → Refusal

pub record Check : Type 0 where
  pub holds : Bool
  pub number : ℕ

abbrev pub when : Bool → ℕ → Check
when b k = record { holds = b; number = k }

-- "Checks run in number order where several apply": the list has the order
abbrev pub first : List Check → Refusal
first [] = none
first (c ∷ cs) = cond c.holds (refuse c.number) (first cs)

-- what an answer says: the refusal, and its values
pub record Told (A : Type 0) : Type 0 where
  pub refusal : Refusal
  pub values : A

abbrev pub says : {A : Type 0} → Refusal → A → Told A
says k v = record { refusal = k; values = v }

-- "Other fields of a refused answer are 0, false or empty": such values are zero
abbrev pub answer : {A : Type 0} → A → Refusal → A → Told A
answer zero none v = says none v
answer zero (refuse k) v = says (refuse k) zero

-- what a writer leaves: its answer, a byte count, and the lent buffer
pub record Written : Type 0 where
  pub count : Told ℕ
  pub out : List ℕ

abbrev pub written : Told ℕ → List ℕ → Written
written n out = record { count = n; out = out }

-- "The answer is this chunk's byte count", "Buffer bytes past the chunk stay"; on a refusal all of the buffer stays
abbrev pub written_if : Refusal → List ℕ → List ℕ → Written
written_if none bytes out = written (says none (length bytes)) (over out bytes)
written_if (refuse k) bytes out = written (says (refuse k) 0) out

-- the checks of a writer, and last of all 10: the buffer is too short for the bytes
abbrev pub write : List Check → List ℕ → List ℕ → Written
write checks bytes out = written_if (first (checks ++ (when (ltb (length out) (length bytes)) 10 ∷ []))) bytes out
