-- The ordered skips of a FORWARD TSN chunk, as document 02 has them. What is skipped is said by the queue's own call.
-- Assumes nothing.
use Rattle.std.specs.Prelude.{ℕ, ◌*◌, ◌/◌, ◌<◌, ◌^◌, ◌≡◌, cond, List, [], ◌∷◌, eqb, length, get_or, take}
use Rattle.chunk_forward_tsn.specs.Layout.{Pair, pair, pairs_bytes}
use Rattle.reassembly_state.specs.State.{State, forward_ordered}

-- the streams and the SSNs that a part of a chunk is, as far as it has whole pairs
pub record Pairs (part : List ℕ) : Type 0 where
  pub streams : List ℕ
  pub ssns : List ℕ
  pub count : length streams ≡ length part / 4
  pub same : length ssns ≡ length part / 4
  pub small : (i : ℕ) → get_or streams i 0 < 2 ^ 16
  pub less : (i : ℕ) → get_or ssns i 0 < 2 ^ 16
  pub is : take (4 * (length part / 4)) part ≡ pairs_bytes streams ssns

-- "the ordered skip for each pair naming it, in chunk order"
unfoldable pub pair_skipped : State → Pair → State
pair_skipped s p = cond (eqb p.stream s.queue.si) (forward_ordered s p.ssn).state s

unfoldable pub pairs_skipped : State → List ℕ → List ℕ → State
pairs_skipped s [] ssns = s
pairs_skipped s (k ∷ streams) [] = s
pairs_skipped s (k ∷ streams) (n ∷ ssns) = pairs_skipped (pair_skipped s (pair k n)) streams ssns
