-- The report of a chunk's causes: what is answered, and what the lent lists hold in the end.
-- Assumes nothing.
use Rattle.std.specs.Prelude.{ℕ, Bool, ◌||◌, List, [], ◌∷◌, ltb, length, take, drop}
use Rattle.wire_model.specs.BigEndian.{over}
use Rattle.wire_model.specs.Refusal.{Refusal, none, refuse, when, first, Told, says}
use Rattle.chunk.specs.Header.{kind_checks}
use Rattle.packet_parts.specs.Fronts.{front_header, front_size}
use Rattle.cause_parts.specs.Causes.{Cause, Reading, causes}
use Rattle.cause_parts.specs.Lists.{Lists, lists, codes_of, depths_of, starts_of, sizes_of}

pub record Report : Type 0 where
  pub count : Told ℕ
  pub lists : Lists

abbrev pub report : Told ℕ → Lists → Report
report n l = record { count = n; lists = l }

-- "All refusals leave the lists unchanged"; else the causes are counted, and stand at the front of the lists, whose rest stays
abbrev pub report_if : Refusal → List Cause → Lists → Report
report_if none cs l =
    report (says none (length cs)) (lists (over l.codes (codes_of cs)) (over l.depths (depths_of cs)) (over l.starts (starts_of cs)) (over l.sizes (sizes_of cs)))
report_if (refuse k) cs l = report (says (refuse k) 0) l

-- a list has fewer places than there are causes
abbrev pub lacking : ℕ → ℕ → ℕ → ℕ → ℕ → Bool
lacking n codes depths starts sizes = ltb codes n || (ltb depths n || (ltb starts n || ltb sizes n))

-- a fault of the causes, and "Short lists give 10, only where nothing else is wrong"
abbrev pub fault_or_short : Refusal → ℕ → Lists → Refusal
fault_or_short none n l = first (when (lacking n (length l.codes) (length l.depths) (length l.starts) (length l.sizes)) 10 ∷ [])
fault_or_short (refuse k) n l = refuse k

-- the report of what was read
unfoldable pub listed : Reading → Lists → Report
listed r l = report_if (fault_or_short r.fault (length r.causes) l) r.causes l

-- 1, 2 and 3 of the chunk's own header come first
abbrev pub listed_if : Refusal → Reading → Lists → Report
listed_if none r l = listed r l
listed_if (refuse k) r l = report (says (refuse k) 0) l

-- the causes of a chunk of this type: from behind its header up to its length, at depth 0
unfoldable pub reported : ℕ → List ℕ → Lists → Report
reported kind raw l = listed_if (first (kind_checks kind 4 2 (length raw) (front_header raw))) (causes 0 4 (drop 4 (take (front_size raw) raw))) l
