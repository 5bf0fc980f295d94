-- "chunks lent back to back without padding", and what a packet has of them: "chunks in order, zero padding".
-- Assumes nothing.
use Rattle.std.specs.Prelude.{ℕ, zero, suc, ◌-◌, ◌*◌, ◌≤◌, List, [], ◌∷◌, ◌++◌, length, take, drop, replicate, Result, Ok, Err}
use Rattle.wire_model.specs.Refusal.{Check, first, Told, answer}
use Rattle.packet_parts.specs.Fronts.{front_size, left_checks, rounded}
use Rattle.refusal.specs.declared.Refusal.{Refusal}

-- the chunks, each as long as its header says, in at most so many turns
unfoldable pub cut : ℕ → List ℕ → List (List ℕ)
cut zero bytes = []
cut (suc turns) [] = []
cut (suc turns) (b ∷ bytes) = let size = front_size (b ∷ bytes) in take size (b ∷ bytes) ∷ cut turns (drop size (b ∷ bytes))

-- "(a bad one gives 1 or 2)": the checks of the first chunk, then those of the rest behind it
unfoldable pub cut_checks : ℕ → List ℕ → List Check
cut_checks zero bytes = []
cut_checks (suc turns) bytes = left_checks bytes ++ cut_checks turns (drop (front_size bytes) bytes)

-- a chunk has a byte and more, so there are no more turns than bytes
abbrev pub lent_chunks : List ℕ → List (List ℕ)
lent_chunks lent = cut (length lent) lent

abbrev pub lent_checks : List ℕ → List Check
lent_checks lent = cut_checks (length lent) lent

-- a chunk, and zeros up to its length rounded up to 4
unfoldable pub padded : List ℕ → List ℕ
padded chunk = chunk ++ replicate (rounded (length chunk) - length chunk) 0

unfoldable pub joined : List (List ℕ) → List ℕ
joined [] = []
joined (chunk ∷ chunks) = padded chunk ++ joined chunks

abbrev pub body : List ℕ → List ℕ
body lent = joined (lent_chunks lent)

-- the number of bytes of the body
unfoldable pub body_size : List ℕ → Told ℕ
body_size lent = answer 0 (first (lent_checks lent)) (length (body lent))

-- a body has less than twice the bytes that are lent
abbrev pub BodyRoom : ℕ → Result ℕ Refusal → Type 0
BodyRoom lent (Ok n) = 4 * n ≤ 7 * lent
BodyRoom lent (Err e) = Unit {0}
