-- Calls of the piece reader in a row, all of at most the same number of bytes.
-- Assumes nothing.
use Rattle.std.specs.Prelude.{List, [], ◌++◌, ℕ, zero, suc, ◌+◌, ◌-◌, ◌/◌, max, take, drop}
use Rattle.wire_model.specs.Refusal.{Told}
use Rattle.chunks.specs.Message.{Place, next_piece, bytes}
use Rattle.chunks.specs.declared.Chunks.{Chunks}

module _ (buffer : List ℕ) (most : ℕ) where
  -- the message after k calls
  unfoldable pub after_calls : ℕ → Chunks → Chunks
  after_calls zero m = m
  after_calls (suc k) m = (next_piece (after_calls k m) buffer most).message

  -- the answer of call number k, from 0 on
  abbrev pub answer_of : ℕ → Chunks → Told Place
  answer_of k m = (next_piece (after_calls k m) buffer most).told

  -- the bytes at a place of the message
  abbrev pub bytes_at : Chunks → Place → List ℕ
  bytes_at m p = take p.size (drop p.start (bytes m buffer))

  -- the bytes of the first k pieces, one behind the other
  unfoldable pub handed : ℕ → Chunks → List ℕ
  handed zero m = []
  handed (suc k) m = handed k m ++ bytes_at m (answer_of k m).values

-- "exactly max(1, n/m rounded up) pieces"
abbrev pub pieces_of : ℕ → ℕ → ℕ
pieces_of n most = max 1 ((n + (most - 1)) / most)
