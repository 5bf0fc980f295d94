-- The scan for a whole message, one turn a fragment: the scan of the rest is that of the whole.
-- Assumes nothing.
use mathlib.Core.Path.{◌≡◌, refl, sym, ap, ◌∙◌}
use mathlib.Core.Logic.{◌⊎◌, inl, inr}
use mathlib.Core.Bool.{Bool, true, false, cond, ◌&&◌, and-false}
use mathlib.Core.List.{List, [], ◌∷◌, map}
use Prim.Native.Nat.{ℕ, suc, ◌+◌, ◌*◌, ◌/◌, ◌%◌, ◌<◌, ◌≤◌}
use native.Mathlib.Numerals.{add-one}
use native.Mathlib.Omega.{arith}
use borrow.Author.Tests.{lt-ltb, le-ltb, ltb-true}
use lib.Dec.{ltb, eqb}
use lib.ListN.{length, get_or, take, drop, drop_of_length-le, get_or-map}
use lib.Seq.{drop-cons, get_or-drop, get_or-take}
use Rattle.serial_model.specs.Serial.{next}
use Rattle.table.specs.Rows.{blank, rows_of, some}
use Rattle.table.specs.declared.Row.{Row}
use Rattle.table.proofs.Scans.{neither, head_at, tsn-at}
use Rattle.fragments.specs.Frag.{Frag, bare, of_row, begins, ends, has_tsn}
use Rattle.loose_fragments.specs.Loose.{span, starts_by, scan, scanned}
use Rattle.loose_fragments.specs.declared.Span.{Span}
use Rattle.loose_fragments.proofs.Run.{part, part-long}

-- where the run starts once x is passed
abbrev after : ℕ → ℕ → ℕ → Frag → ℕ
after i start want x = starts_by (begins x) (has_tsn want x) i start

scan-cons :
    (i start want : ℕ) (x : Frag) (xs : List Frag) →
    scan i start want (x ∷ xs)
    ≡ cond (ends x && ltb (after i start want x) (suc i)) (span (after i start want x) (suc i)) (scan (suc i) (after i start want x) (next 32 x.tsn) xs)
unfolding scan
scan-cons i start want x xs = refl

-- ── what is found stands in the list ──

both_right : (s t : Bool) → s && t ≡ true → t ≡ true
both_right true t e = e
both_right false t e = cc

pub scan_within_from : (i start want : ℕ) (l : List Frag) → let s = scan i start want l in (s.from ≤ s.to) × (s.to ≤ i + length l)
unfolding scan
scan_within_from i start want [] = (omega arith, omega arith)
scan_within_from i start want (x ∷ xs) =
    go (ends x && ltb (after i start want x) (suc i)) refl (scan_within_from (suc i) (after i start want x) (next 32 x.tsn) xs)
  where
    go :
        (t : Bool) → ends x && ltb (after i start want x) (suc i) ≡ t → {rest : Span} → (rest.from ≤ rest.to) × (rest.to ≤ suc i + length xs) →
        let s = cond t (span (after i start want x) (suc i)) rest in (s.from ≤ s.to) × (s.to ≤ i + suc (length xs))
    go true e k = let h = ltb-true (after i start want x) (suc i) (both_right (ends x) (ltb (after i start want x) (suc i)) e) in (omega arith, omega arith)
    go false e k = (k.0, omega arith)

pub scan_within : (l : List Frag) → let s = scanned l in (s.from ≤ s.to) × (s.to ≤ length l)
scan_within l = let k = scan_within_from 0 0 0 l in (k.0, omega arith)

-- ── without a B, or without an E, there is no whole message ──

no_end : (i start want : ℕ) (rs : List Row) → some (of_row ends) rs ≡ false → scan i start want (map bare rs) ≡ span 0 0
unfolding scan some
no_end i start want [] e = refl
no_end i start want (r ∷ rs) e = let f = neither (ends (bare r)) (some (of_row ends) rs) e in rw f.0 (no_end (suc i) (after i start want (bare r)) (next 32 r.tsn) rs f.1)

no_begin : (i start want : ℕ) (rs : List Row) → i ≤ start → some (of_row begins) rs ≡ false → scan i start want (map bare rs) ≡ span 0 0
unfolding scan some starts_by
no_begin i start want [] h e = refl
no_begin i start want (r ∷ rs) h e =
    let f = neither (begins (bare r)) (some (of_row begins) rs) e in
    rw (f.0, le-ltb start i h, le-ltb (suc i) (suc i) (omega arith), and-false) (no_begin (suc i) (suc i) (next 32 r.tsn) rs (omega arith) f.1)

pub no_message_lem : (rs : List Row) → (some (of_row begins) rs && some (of_row ends) rs) ≡ false → span 0 0 ≡ scanned (map bare rs)
no_message_lem rs e = go (some (of_row begins) rs) refl e
  where
    go : (b : Bool) → some (of_row begins) rs ≡ b → (b && some (of_row ends) rs) ≡ false → span 0 0 ≡ scanned (map bare rs)
    go true f g = sym (no_end 0 0 0 rs g)
    go false f g = sym (no_begin 0 0 0 rs (omega arith) f)

-- ── the scan, a turn at a time ──

-- after i turns: what is found is what the scan of the rest finds
pub record Scan (size : ℕ) (table : List ℕ) (from n i start want : ℕ) : Type 0 where
  pub sized : length table ≡ 4 * size
  pub fit : from + n ≤ size
  pub within : i ≤ n
  pub is : scan i start want (drop i (part size table from n)) ≡ scanned (part size table from n)

pub scan_none : (size : ℕ) (table : List ℕ) (from n : ℕ) → length table ≡ 4 * size → from + n ≤ size → Scan size table from n 0 0 0
scan_none size table from n sized fit = record { sized = sized; fit = fit; within = omega arith; is = refl }

module _ {size : ℕ} {table : List ℕ} {from n i start want : ℕ} (s : Scan size table from n i start want) where
  abbrev l : List Frag
  l = part size table from n

  long : length l ≡ n
  long = part-long size table from n s.sized s.fit

  pub scan-all : n ≤ i → span 0 0 ≡ scanned l
  unfolding scan
  scan-all h = rw (drop_of_length-le l {i = i} (rw long h)) at s.is

  module _ (h : i < n) {flags tsn : ℕ} (f : flags ≡ get_or table (from + i) 0 / 16777216) (g : tsn ≡ get_or table (size + from + i) 0)
      {start' : ℕ} (q : start' ≡ starts_by (eqb (flags / 2 % 2) 1) (eqb tsn want) i start) where
    abbrev here : Row
    here = get_or (rows_of size table) (from + i) blank

    row_here : get_or l i (bare blank) ≡ bare here
    row_here =
        get_or-map bare (take n (drop from (rows_of size table))) i blank
        ∙ ap bare (get_or-take n (drop from (rows_of size table)) i blank h ∙ get_or-drop from (rows_of size table) i blank)

    flags_here : flags ≡ here.head / 16777216
    flags_here = rw f (ap (λ (z : ℕ). z / 16777216) (head_at size table s.sized (from + i) (omega (arith, s.fit)) refl))

    tsn-here : tsn ≡ here.tsn
    tsn-here = g ∙ tsn-at size table s.sized (from + i) (omega (arith, s.fit)) (omega arith)

    turn : cond (eqb (flags % 2) 1 && ltb start' (suc i)) (span start' (suc i)) (scan (suc i) start' (next 32 tsn) (drop (suc i) l)) ≡ scanned l
    turn = rw (drop-cons l i (bare blank) (rw long h), row_here, scan-cons i start want (bare here), ← flags_here, ← tsn-here, ← q) at s.is

    pub scan_found : eqb (flags % 2) 1 ≡ true → start' < i + 1 → span start' (i + 1) ≡ scanned l
    scan_found e k = rw (add-one i) (rw (e, lt-ltb start' (suc i) (omega arith)) at turn)

    pub scan-on : (i + 1 ≤ start') ⊎ (eqb (flags % 2) 1 ≡ false) → Scan size table from n (i + 1) start' (next 32 tsn)
    scan-on e = record { sized = s.sized; fit = s.fit; within = omega arith; is = rw (add-one i) (rw (go e) at turn) }
      where
        go : (i + 1 ≤ start') ⊎ (eqb (flags % 2) 1 ≡ false) → eqb (flags % 2) 1 && ltb start' (suc i) ≡ false
        go (inl k) = rw (le-ltb start' (suc i) (omega arith)) (and-false (eqb (flags % 2) 1))
        go (inr e) = rw e
