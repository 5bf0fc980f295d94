-- What a change makes of a list.
-- Assumes nothing.
use Rattle.std.specs.Prelude.{ℕ, ◌+◌, List, ◌++◌, reverse, length, take, drop}

module _ {A : Type 0} where
  -- new put in at index at
  unfoldable pub put : ℕ → List A → List A → List A
  put at new xs = take at xs ++ (new ++ drop at xs)

  -- the k elements from index at on taken out
  unfoldable pub gone : ℕ → ℕ → List A → List A
  gone at k xs = take at xs ++ drop (at + k) xs

  -- the elements from index from up to index to
  unfoldable pub slice : ℕ → ℕ → List A → List A
  slice from to xs = drop from (take to xs)

  -- the run from b up to c stands in front of that from a up to b
  unfoldable pub turned : ℕ → ℕ → ℕ → List A → List A
  turned a b c xs = take a xs ++ ((slice b c xs ++ slice a b xs) ++ drop c xs)

  -- ── what the leaves do ──

  -- new written over what stands at off
  unfoldable pub pasted : ℕ → List A → List A → List A
  pasted off new xs = take off xs ++ (new ++ drop (off + length new) xs)

  -- the elements from off up to total written k places up
  unfoldable pub opened : ℕ → ℕ → ℕ → List A → List A
  opened off total k xs = pasted (off + k) (slice off total xs) xs

  unfoldable pub rev : List A → List A
  rev xs = reverse xs

  -- the elements from index from up to index to, in reverse
  unfoldable pub reversed : ℕ → ℕ → List A → List A
  reversed from to xs = take from xs ++ (rev (slice from to xs) ++ drop to xs)
