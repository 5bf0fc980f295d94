-- Lists of entries of 4 bytes, one behind the other. An entry has two numbers, each of a list of its own; a list of single numbers stands beside any other.
-- Assumes nothing.
use mathlib.Core.Path.{◌≡◌, refl, ap, ◌∙◌}
use mathlib.Core.List.{List, [], ◌∷◌, ◌++◌, append_assoc, append-nil}
use Prim.Native.Nat.{ℕ, zero, suc, ◌+◌, ◌*◌, ◌^◌, ◌<◌, ◌≤◌}
use native.Mathlib.Numerals.{add-one}
use native.Mathlib.Omega.{arith}
use lib.ListN.{length, get_or, take, drop, length-append, length-drop, take-append-drop}
use lib.Seq.{length-take-le, take_all, drop-nil, drop-cons, drop-append-add}
use Rattle.wire_model.specs.BigEndian.{big_endian}
use Rattle.wire_model.specs.Facts.{big_endian-length}
use Rattle.wire.proofs.Reading.{begins_with}
use Rattle.wire.proofs.Exists.{Bytes, piece, cut, bytes_drop}
use Rattle.entries.specs.Pairs.{pairs, words}

-- all is the bytes of the entries of two lists
pub record Entries (entry : ℕ → ℕ → List ℕ) (all : List ℕ → List ℕ → List ℕ) : Type 0 where
  pub none : (ys : List ℕ) → all [] ys ≡ []
  pub more : (x y : ℕ) (xs ys : List ℕ) → all (x ∷ xs) (y ∷ ys) ≡ entry x y ++ all xs ys
  pub wide : (x y : ℕ) → length (entry x y) ≡ 4

pub pairs_entries : Entries (λ (x y : ℕ). big_endian 2 x ++ big_endian 2 y) pairs
unfolding pairs big_endian
pairs_entries = record { none = λ ys. refl; more = λ x y xs ys. refl; wide = λ x y. refl }

pub words_entries : Entries (λ (x y : ℕ). big_endian 4 x) (λ (xs ys : List ℕ). words xs)
unfolding words
words_entries = record { none = λ ys. refl; more = λ x y xs ys. refl; wide = λ x y. big_endian-length 4 x }

-- every element is so
abbrev pub Each : (ℕ → Type 0) → List ℕ → Type 0
Each P xs = (i : ℕ) → P (get_or xs i 0)

each_cons : (P : ℕ → Type 0) (x : ℕ) (xs : List ℕ) → P x → Each P xs → Each P (x ∷ xs)
each_cons P x xs h s zero = h
each_cons P x xs h s (suc i) = s i

module _ {entry : ℕ → ℕ → List ℕ} {all : List ℕ → List ℕ → List ℕ} (e : Entries entry all) where
  -- two lists of the same entries are one
  pub entries_same : {other : List ℕ → List ℕ → List ℕ} → Entries entry other → (xs ys : List ℕ) → length xs ≡ length ys → all xs ys ≡ other xs ys
  entries_same f [] ys s = rw (e.none ys, f.none ys)
  entries_same f (x ∷ xs) [] s = absurd (omega arith)
  entries_same f (x ∷ xs) (y ∷ ys) s = rw (e.more x y xs ys, f.more x y xs ys, entries_same f xs ys (omega arith))

  one_more : (xs ys : List ℕ) (i : ℕ) → i < length xs → i < length ys → all (take (suc i) xs) (take (suc i) ys) ≡ all (take i xs) (take i ys) ++ entry (get_or xs i 0) (get_or ys i 0)
  one_more [] ys i h k = absurd (omega arith)
  one_more (x ∷ xs) [] i h k = absurd (omega arith)
  one_more (x ∷ xs) (y ∷ ys) zero h k = rw (e.more x y [] [], e.none []) (append-nil (entry x y))
  one_more (x ∷ xs) (y ∷ ys) (suc i) h k =
      rw (e.more x y (take (suc i) xs) (take (suc i) ys), e.more x y (take i xs) (take i ys), one_more xs ys i (omega arith) (omega arith), append_assoc)

  -- the bytes of one entry more
  pub entries_more : (xs ys : List ℕ) (i : ℕ) → i < length xs → i < length ys → all (take (i + 1) xs) (take (i + 1) ys) ≡ all (take i xs) (take i ys) ++ entry (get_or xs i 0) (get_or ys i 0)
  entries_more xs ys i h k = rw add-one (one_more xs ys i h k)

  pub entries_length : (xs ys : List ℕ) → length xs ≡ length ys → length (all xs ys) ≡ 4 * length xs
  entries_length [] ys s = ap length (e.none ys)
  entries_length (x ∷ xs) [] s = absurd (omega arith)
  entries_length (x ∷ xs) (y ∷ ys) s = rw (e.more x y xs ys, length-append, e.wide x y) (omega (arith, entries_length xs ys (omega arith)))

  -- the bytes of the first i entries
  pub entries_taken : (xs ys : List ℕ) → length xs ≡ length ys → (i : ℕ) → i ≤ length xs → length (all (take i xs) (take i ys)) ≡ 4 * i
  entries_taken xs ys s i h =
      let l = length-take-le i xs h in
      let m = length-take-le i ys (omega arith) in
      omega (arith, entries_length (take i xs) (take i ys) (omega arith))

  -- 4 i bytes on is i entries on
  entries_from : (xs ys : List ℕ) (i : ℕ) → length xs ≡ length ys → drop (4 * i) (all xs ys) ≡ all (drop i xs) (drop i ys)
  entries_from xs ys zero s = refl
  entries_from [] ys (suc i) s = rw (e.none ys, drop-nil, e.none (drop (suc i) ys))
  entries_from (x ∷ xs) [] (suc i) s = absurd (omega arith)
  entries_from (x ∷ xs) (y ∷ ys) (suc i) s =
      let n : 4 * suc i ≡ length (entry x y) + 4 * i = omega (arith, e.wide x y) in
      rw (e.more x y xs ys, n, drop-append-add) (entries_from xs ys i (omega arith))

  -- what stands there begins with the entry of that index
  pub entry_begins : (xs ys : List ℕ) (i : ℕ) → length xs ≡ length ys → i < length xs
      → (let raw = drop (4 * i) (all xs ys) in take 4 raw ≡ take (length raw) (entry (get_or xs i 0) (get_or ys i 0)))
  entry_begins xs ys i s h =
      let k : i < length ys = omega arith in
      let b = entry (get_or xs i 0) (get_or ys i 0) in
      let more = all (drop (suc i) xs) (drop (suc i) ys) in
      let is : drop (4 * i) (all xs ys) ≡ b ++ more = entries_from xs ys i s ∙ rw (drop-cons xs i 0 h, drop-cons ys i 0 k, e.more) in
      rw is (begins_with b more 4 (e.wide (get_or xs i 0) (get_or ys i 0)))

  -- any 4 n bytes are n entries, if any 4 are one
  pub entries_exist : (P Q : ℕ → Type 0) → P 0 → Q 0 → ((raw : List ℕ) → Bytes raw → 4 ≤ length raw → (x : ℕ) × (y : ℕ) × P x × Q y × (take 4 raw ≡ entry x y))
      → (n : ℕ) (part : List ℕ) → Bytes part → length part ≡ 4 * n → (xs : List ℕ) × (ys : List ℕ) × (length xs ≡ n) × (length ys ≡ n) × Each P xs × Each Q ys × (all xs ys ≡ part)
  entries_exist P Q p q some zero part by l = ([], [], refl, refl, λ i. p, λ i. q, e.none [] ∙ take_all 0 part (omega arith))
  entries_exist P Q p q some (suc n) part by l =
      let k : length (drop 4 part) ≡ 4 * n = rw length-drop (omega arith) in
      let (x, y, a, b, one) = some part by (omega arith) in
      let (xs, ys, s, t, all-a, all-b, is) = entries_exist P Q p q some n (drop 4 part) (bytes_drop part 4 by) k in
      (x ∷ xs, y ∷ ys, ap suc s, ap suc t, each_cons P x xs a all-a, each_cons Q y ys b all-b, rw (e.more x y xs ys, ← one, is) (take-append-drop 4 part))

-- a number of k bits
abbrev pub Bits : ℕ → ℕ → Type 0
Bits k x = x < 2 ^ k

-- any 4 bytes are two numbers of 16 bits
pub two_fit : (raw : List ℕ) → Bytes raw → 4 ≤ length raw → (x : ℕ) × (y : ℕ) × Bits 16 x × Bits 16 y × (take 4 raw ≡ big_endian 2 x ++ big_endian 2 y)
two_fit raw by h =
    let p = piece raw by 2 (omega arith) in
    let q = piece (drop 2 raw) (bytes_drop raw 2 by) 2 (rw length-drop (omega arith)) in
    (p.value, q.value, p.fits, q.fits, cut raw 2 2 p q.is)

-- any 4 n bytes are n pairs of them
pub any-pairs : (n : ℕ) (part : List ℕ) → Bytes part → length part ≡ 4 * n
    → (xs : List ℕ) × (ys : List ℕ) × (length xs ≡ n) × (length ys ≡ n) × Each (Bits 16) xs × Each (Bits 16) ys × (pairs xs ys ≡ part)
any-pairs = entries_exist pairs_entries (Bits 16) (Bits 16) (omega arith) (omega arith) two_fit

-- and n numbers of 32 bits
pub any-words : (n : ℕ) (part : List ℕ) → Bytes part → length part ≡ 4 * n → (xs : List ℕ) × (length xs ≡ n) × Each (Bits 32) xs × (words xs ≡ part)
any-words n part by l = let (xs, ys, s, t, a, b, is) = entries_exist words_entries (Bits 32) (Bits 32) (omega arith) (omega arith) some n part by l in (xs, s, a, is)
  where
    some : (raw : List ℕ) → Bytes raw → 4 ≤ length raw → (x : ℕ) × (y : ℕ) × Bits 32 x × Bits 32 y × (take 4 raw ≡ big_endian 4 x)
    some raw by h = let p = piece raw by 4 h in (p.value, 0, p.fits, omega arith, p.is)

bytes_take : (n : ℕ) (raw : List ℕ) → Bytes raw → Bytes (take n raw)
bytes_take zero raw by i = omega arith
bytes_take (suc n) [] by i = omega arith
bytes_take (suc n) (a ∷ raw) by zero = by 0
bytes_take (suc n) (a ∷ raw) by (suc i) = bytes_take n raw (λ j. by (suc j)) i

-- n entries of lent bytes are 4 n bytes
pub entry_bytes : (raw : List ℕ) → Bytes raw → (start n : ℕ) → start + 4 * n ≤ length raw → Bytes (take (4 * n) (drop start raw)) × (length (take (4 * n) (drop start raw)) ≡ 4 * n)
entry_bytes raw by start n h = (bytes_take (4 * n) (drop start raw) (bytes_drop raw start by), length-take-le (4 * n) (drop start raw) (rw length-drop (omega arith)))
