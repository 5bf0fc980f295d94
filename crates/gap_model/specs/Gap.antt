-- The gap report of document 01: the walk over the held TSNs, in stored order, and what it leaves in the two lent lists.
-- Assumes nothing.
use Rattle.std.specs.Prelude.{ℕ, ◌+◌, Bool, cond, ◌&&◌, List, [], ◌∷◌, map, ltb, leb, eqb, length, Result, Ok, Err}
use Rattle.serial_model.specs.Serial.{ahead}
use Rattle.wire_model.specs.BigEndian.{over}
use Rattle.table.specs.declared.Row.{Row}
use Rattle.refusal.specs.declared.Refusal.{Refusal}
use Rattle.refusal.specs.declared.Refusal.TheVariants.{ShortOutput}

-- a run of TSNs, by the offsets of its first and its last
pub record Block : Type 0 where
  pub start : ℕ
  pub end : ℕ

-- the block of a start and an end
abbrev pub block : ℕ → ℕ → Block
block s e = record { start = s; end = e }

-- "skip 0 and anything above 65,535"
abbrev pub counts : ℕ → Bool
counts o = ltb 0 o && leb o 65535

-- "extend the last block if the offset is its end plus 1, else open a block"
unfoldable pub extend : List Block → ℕ → List Block
extend [] o = block o o ∷ []
extend (b ∷ []) o = cond (eqb o (b.end + 1)) (block b.start o ∷ []) (b ∷ block o o ∷ [])
extend (b ∷ c ∷ bs) o = b ∷ extend (c ∷ bs) o

-- one TSN more: "offset = TSN - cumulative, modulo 2^32"
abbrev pub taken : ℕ → List Block → ℕ → List Block
taken cum bs t = cond (counts (ahead 32 cum t)) (extend bs (ahead 32 cum t)) bs

-- "walk held TSNs in stored order": the blocks bs with the TSNs of the list taken in, one after the other
unfoldable pub walk : ℕ → List Block → List ℕ → List Block
walk cum bs [] = bs
walk cum bs (t ∷ ts) = walk cum (taken cum bs t) ts

-- the blocks of a cumulative TSN and a list of TSNs
abbrev pub blocks : ℕ → List ℕ → List Block
blocks cum ts = walk cum [] ts

-- the TSNs of rows
abbrev pub tsns_of : List Row → List ℕ
tsns_of rs = map (λ (r : Row). r.tsn) rs

-- the blocks' starts, in order
abbrev pub starts_of : List Block → List ℕ
starts_of bs = map (λ (b : Block). b.start) bs

-- the blocks' ends, in order
abbrev pub ends_of : List Block → List ℕ
ends_of bs = map (λ (b : Block). b.end) bs

-- the answer, and what the two lent lists hold in the end
pub record Report : Type 0 where
  pub answer : Result ℕ Refusal
  pub starts : List ℕ
  pub ends : List ℕ

-- the report of an answer and two lists
abbrev pub report : Result ℕ Refusal → List ℕ → List ℕ → Report
report a ss es = record { answer = a; starts = ss; ends = es }

-- "Starts and ends go to the front of two lent lists, the count is the answer, the rest stays"; lists too short: nothing changed
unfoldable pub written : List Block → List ℕ → List ℕ → Report
written bs ss es =
    cond (leb (length bs) (length ss) && leb (length bs) (length es))
    (report (Ok (length bs)) (over ss (starts_of bs)) (over es (ends_of bs)))
    (report (Err ShortOutput) ss es)

-- the report over the rows held
abbrev pub reported : List Row → ℕ → List ℕ → List ℕ → Report
reported held cum ss es = written (blocks cum (tsns_of held)) ss es
