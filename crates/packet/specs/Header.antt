-- Reading a packet's common header: what is refused, and what an answer says.
-- Assumes nothing.
use Rattle.std.specs.Prelude.{ℕ, ◌<◌, ◌^◌, not, List, [], ◌∷◌, ltb, eqb, length, drop, Result}
use Rattle.wire_model.specs.Refusal.{Check, when, first, Told, answer}
use Rattle.wire.specs.Front.{Front}
use Rattle.packet.specs.Layout.{Common, common, CommonFits, common_bytes, checksum}
use Rattle.refusal.specs.Told.{answer_told}
use Rattle.refusal.specs.declared.Refusal.{Refusal}
use Rattle.packet.specs.declared.CommonHeader.{CommonHeader}

-- the fields, and the sum that stands in its field
pub record Summed : Type 0 where
  pub common : Common
  pub sum : ℕ

pub record SummedFits (s : Summed) : Type 0 where
  pub common : CommonFits s.common
  pub sum : s.sum < 2 ^ 32

abbrev pub summed_bytes : Summed → List ℕ
summed_bytes s = common_bytes s.common s.sum

-- the common header that the lent bytes begin with
abbrev pub CommonFront : List ℕ → Type 0
CommonFront raw = Front summed_bytes SummedFits 12 raw

-- 13: "Fewer than 12 bytes"; 14: "Wrong checksum"
abbrev pub common_checks : List ℕ → Summed → List Check
common_checks raw s = when (ltb (length raw) 12) 13 ∷ when (not (eqb s.sum (checksum s.common (drop 12 raw)))) 14 ∷ []

-- the fields of a header that is read
abbrev pub common_of : CommonHeader → Common
common_of h = common h.source_port h.destination_port h.verification_tag

-- what an answer tells: its number, and the fields
abbrev pub common_told : Result CommonHeader Refusal → Told Common
common_told = answer_told (common 0 0 0) common_of

unfoldable pub common_read : List ℕ → Summed → Told Common
common_read raw s = answer (common 0 0 0) (first (common_checks raw s)) s.common
