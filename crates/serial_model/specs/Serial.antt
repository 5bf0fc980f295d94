-- Serial numbers: numbers of w bits that wrap, at any width w. TSNs have 32 bits, SSNs 16.
-- Assumes nothing.
use Rattle.std.specs.Prelude.{ℕ, suc, ◌+◌, ◌-◌, ◌%◌, ◌^◌, Bool, true, false, cond, ◌||◌, ltb, eqb, ℤ, pos, negsuc, ◌-ℤ◌}
use Rattle.serial_model.specs.declared.Order.{Order}
use Rattle.serial_model.specs.declared.Order.TheVariants.{Earlier, Same, Later, Opposite}

-- "TSN sums wrap at 2^32, SSN ones at 2^16": the number k steps on from a.
abbrev pub plus : (w a k : ℕ) → ℕ
plus w a k = (a + k) % 2 ^ w

-- The successor: one step on.
abbrev pub next : (w a : ℕ) → ℕ
next w a = plus w a 1

-- "b - a modulo 2^w": how many steps b is ahead of a, for a and b below 2^w.
unfoldable pub ahead : (w a b : ℕ) → ℕ
ahead w a b = (b + (2 ^ w - a)) % 2 ^ w

-- "less 2^w if that is 2^(w-1) or more": d steps, read with a sign.
abbrev pub signed : (w d : ℕ) → ℤ
signed w d = cond (ltb d (2 ^ (w - 1))) (pos d) (pos d -ℤ pos (2 ^ w))

-- "The distance from a to b is a signed number."
unfoldable pub distance : (w a b : ℕ) → ℤ
distance w a b = signed w (ahead w a b)

-- Above 0.
abbrev pub positive : ℤ → Bool
positive (pos n) = ltb 0 n
positive (negsuc n) = false

-- "'a before b' means distance above 0."
unfoldable pub before : (w a b : ℕ) → Bool
before w a b = positive (distance w a b)

-- "'At or before' adds equality."
abbrev pub at_or_before : (w a b : ℕ) → Bool
at_or_before w a b = eqb a b || before w a b

-- "'b after a' is 'a before b'."
abbrev pub after : (w b a : ℕ) → Bool
after w b a = before w a b

-- And so "b at or after a" is "a at or before b".
abbrev pub at_or_after : (w b a : ℕ) → Bool
at_or_after w b a = at_or_before w a b

-- ── "earlier, same, later or opposite" (document 02, M-107) ──

-- By the distance: above 0, 0, below 0, and apart from the others below 0 the lowest value, -half.
unfoldable pub ordered : (half : ℕ) → ℤ → Order
ordered half (pos n) = cond (ltb 0 n) Earlier Same
ordered half (negsuc n) = cond (eqb (suc n) half) Opposite Later

-- How a stands to b.
unfoldable pub compared : (w a b : ℕ) → Order
compared w a b = ordered (2 ^ (w - 1)) (distance w a b)

-- "Distance exactly 2^31": the one answer that no yes or no of the above tells from the others.
abbrev pub is_opposite : Order → Bool
is_opposite Earlier = false
is_opposite Same = false
is_opposite Later = false
is_opposite Opposite = true

abbrev pub opposite : (w a b : ℕ) → Bool
opposite w a b = is_opposite (compared w a b)

-- The cases' numbers, in the document's order.
abbrev pub order_number : Order → ℕ
order_number Earlier = 0
order_number Same = 1
order_number Later = 2
order_number Opposite = 3
