-- The loops of the gap report, apart from the code: what holds after i of the TSNs, and what a turn of each kind makes of it.
-- Assumes nothing.
use mathlib.Core.Path.{◌≡◌, refl, sym, ap, ◌∙◌}
use mathlib.Core.Bool.{Bool, true, false, cond}
use mathlib.Core.List.{List, [], ◌∷◌, ◌++◌, map, map-append}
use Prim.Native.Nat.{ℕ, ◌+◌, ◌*◌, ◌-◌, ◌<◌, ◌≤◌}
use native.Mathlib.Numerals.{add-one}
use native.Mathlib.Omega.{arith}
use lib.Dec.{eqb}
use lib.ListN.{length, get_or, take, drop, set, length-append, length-map, drop_of_length-le, get_or-map}
use lib.Seq.{drop-cons, get_or-take, length-take-le, append_snoc, set_at}
use borrow.Author.Tests.{lt-ltb, le-ltb, le-leb, lt-leb, eq-eqb, ne_eqb}
use Rattle.serial_model.specs.Serial.{ahead}
use Rattle.wire_model.specs.BigEndian.{over}
use Rattle.wire_model.specs.Facts.{over-snoc, over-length}
use Rattle.table.specs.Rows.{blank, rows_of}
use Rattle.table.specs.declared.Row.{Row}
use Rattle.table.proofs.Columns.{rows_long}
use Rattle.table.proofs.Scans.{tsn-at}
use Rattle.gap_model.specs.Gap.{Block, block, counts, extend, taken, walk, blocks, tsns_of, starts_of, ends_of, report, written}
use Rattle.std.specs.Prelude.{Ok, Err}
use Rattle.refusal.specs.declared.Refusal.TheVariants.{ShortOutput}

-- ── which offsets count ──

pub low : (o : ℕ) → o ≤ 0 → counts o ≡ false
low o h = rw (le-ltb 0 o h)

pub high : (o : ℕ) → 0 < o → 65535 < o → counts o ≡ false
high o h k = rw (lt-ltb 0 o h, lt-leb o 65535 k)

pub counted : (o : ℕ) → 0 < o → o ≤ 65535 → counts o ≡ true
counted o h k = rw (lt-ltb 0 o h, le-leb o 65535 k)

-- ── the last block ──

-- the offset that extends the last block, and k where there is none
unfoldable pub want_from : ℕ → List Block → ℕ
want_from k [] = k
want_from k (b ∷ bs) = want_from (b.end + 1) bs

abbrev pub Last : List Block → Type 0
Last bs = (pre : List Block) × (l : Block) × (bs ≡ pre ++ (l ∷ []))

snoc : (b : Block) (bs : List Block) → Last (b ∷ bs)
snoc b [] = ([], b, refl)
snoc b (c ∷ bs) = let s = snoc c bs in (b ∷ s.0, s.1, ap (λ (r : List Block). b ∷ r) s.2)

pub last : (bs : List Block) → 0 < want_from 0 bs → Last bs
unfolding want_from
last [] h = absurd (omega arith)
last (b ∷ bs) h = snoc b bs

pub want-snoc : (k : ℕ) (pre : List Block) (l : Block) → want_from k (pre ++ (l ∷ [])) ≡ l.end + 1
unfolding want_from
want-snoc k [] l = refl
want-snoc k (p ∷ pre) l = want-snoc (p.end + 1) pre l

pub grown : (pre : List Block) (l : Block) (o : ℕ) → o ≡ l.end + 1 → extend (pre ++ (l ∷ [])) o ≡ pre ++ (block l.start o ∷ [])
unfolding extend
grown [] l o e = rw (eq-eqb o (l.end + 1) e)
grown (p ∷ []) l o e = rw (eq-eqb o (l.end + 1) e)
grown (p ∷ q ∷ r) l o e = ap (λ (s : List Block). p ∷ s) (grown (q ∷ r) l o e)

opened : (bs : List Block) (o : ℕ) → (o ≡ want_from 0 bs → ⊥) → extend bs o ≡ bs ++ (block o o ∷ [])
unfolding extend want_from
opened [] o h = refl
opened (b ∷ []) o h = rw (ne_eqb o (b.end + 1) h)
opened (b ∷ c ∷ bs) o h = ap (λ (s : List Block). b ∷ s) (opened (c ∷ bs) o h)

-- ── a TSN adds at most one block, and none is lost ──

extend-more : (bs : List Block) (o : ℕ) → (length bs ≤ length (extend bs o)) × (length (extend bs o) ≤ length bs + 1)
unfolding extend
extend-more [] o = (omega arith, omega arith)
extend-more (b ∷ []) o = go (eqb o (b.end + 1))
  where
    go :
        (t : Bool) →
        (1 ≤ length (cond t (block b.start o ∷ []) (b ∷ block o o ∷ []))) × (length (cond t (block b.start o ∷ []) (b ∷ block o o ∷ [])) ≤ 2)
    go true = (omega arith, omega arith)
    go false = (omega arith, omega arith)
extend-more (b ∷ c ∷ bs) o = let h = extend-more (c ∷ bs) o in (omega arith, omega arith)

taken_more : (cum : ℕ) (bs : List Block) (t : ℕ) → (length bs ≤ length (taken cum bs t)) × (length (taken cum bs t) ≤ length bs + 1)
taken_more cum bs t = go (counts (ahead 32 cum t))
  where
    go :
        (u : Bool) →
        (length bs ≤ length (cond u (extend bs (ahead 32 cum t)) bs)) × (length (cond u (extend bs (ahead 32 cum t)) bs) ≤ length bs + 1)
    go true = extend-more bs (ahead 32 cum t)
    go false = (omega arith, omega arith)

pub walk_more : (cum : ℕ) (bs : List Block) (ts : List ℕ) → (length bs ≤ length (walk cum bs ts)) × (length (walk cum bs ts) ≤ length bs + length ts)
unfolding walk
walk_more cum bs [] = (omega arith, omega arith)
walk_more cum bs (t ∷ ts) = let a = taken_more cum bs t in let b = walk_more cum (taken cum bs t) ts in (omega arith, omega arith)

pub walk-cons : (cum : ℕ) (bs : List Block) (t : ℕ) (ts : List ℕ) → walk cum bs (t ∷ ts) ≡ walk cum (taken cum bs t) ts
unfolding walk
walk-cons cum bs t ts = refl

-- ── the TSNs of the first n rows of a table ──

abbrev pub held : ℕ → ℕ → List ℕ → List ℕ
held size n table = tsns_of (take n (rows_of size table))

module _ (size n : ℕ) (table : List ℕ) (sized : length table ≡ 4 * size) (fit : n ≤ size) where
  pub held-long : length (held size n table) ≡ n
  held-long = length-map (take n (rows_of size table)) (λ (r : Row). r.tsn) ∙ length-take-le n (rows_of size table) (omega (arith, rows_long size table sized))

  pub held_at : (i : ℕ) → i < n → get_or table (size + i) 0 ≡ get_or (held size n table) i 0
  held_at i h =
      tsn-at size table sized i (omega arith) refl
      ∙ sym (ap (λ (r : Row). r.tsn) (get_or-take n (rows_of size table) i blank h))
      ∙ sym (get_or-map (λ (r : Row). r.tsn) (take n (rows_of size table)) i blank)

  -- there are no more blocks than rows
  pub held_few : (cum : ℕ) → length (blocks cum (held size n table)) ≤ n
  held_few cum = omega (arith, (walk_more cum [] (held size n table)).1, held-long)

-- ── the walk: after i of the TSNs the blocks are bs, count in number, and want extends the last of them ──

pub record Seen (cum size n : ℕ) (table : List ℕ) (i : ℕ) (bs : List Block) (count want : ℕ) : Type 0 where
  pub sized : length table ≡ 4 * size
  pub fit : n ≤ size
  pub within : i ≤ n
  pub rest : walk cum bs (drop i (held size n table)) ≡ blocks cum (held size n table)
  pub many : length bs ≡ count
  pub few : count ≤ i
  pub wants : want_from 0 bs ≡ want

pub seen_none : (cum size n : ℕ) (table : List ℕ) → length table ≡ 4 * size → n ≤ size → Seen cum size n table 0 [] 0 0
unfolding want_from
seen_none cum size n table s h = record { sized = s; fit = h; within = omega arith; rest = refl; many = refl; few = omega arith; wants = refl }

module _ {cum size n : ℕ} {table : List ℕ} {i : ℕ} {bs : List Block} {count want : ℕ} (s : Seen cum size n table i bs count want) where
  abbrev ts : List ℕ
  ts = held size n table

  long : length ts ≡ n
  long = held-long size n table s.sized s.fit

  seen_within : count ≤ length (blocks cum ts)
  seen_within = omega (arith, (walk_more cum bs (drop i ts)).0, ap length s.rest, s.many)

  pub seen_all : n ≤ i → bs ≡ blocks cum ts
  unfolding walk
  seen_all h = rw (drop_of_length-le ts {i = i} (rw long h)) at s.rest

  -- a turn, by its offset o
  module _ (h : i < n) {o : ℕ} (e : o ≡ ahead 32 cum (get_or table (size + i) 0)) where
    next : walk cum (cond (counts o) (extend bs o) bs) (drop (i + 1) ts) ≡ blocks cum ts
    next =
        let k : i < length ts = rw long h in
        let f : o ≡ ahead 32 cum (get_or ts i 0) = e ∙ ap (ahead 32 cum) (held_at size n table s.sized s.fit i h) in
        rw (drop-cons ts i 0 k, walk-cons cum bs, ← f, ← (add-one i)) at s.rest

    pub seen_skip : counts o ≡ false → Seen cum size n table (i + 1) bs count want
    seen_skip k =
        record { sized = s.sized; fit = s.fit; within = omega arith; rest = rw k at next; many = s.many; few = omega arith; wants = s.wants }

    pub seen_open : 0 < o → o ≤ 65535 → (o ≡ want → ⊥) → Seen cum size n table (i + 1) (bs ++ (block o o ∷ [])) (count + 1) (o + 1)
    seen_open p q r =
        record {
          sized = s.sized;
          fit = s.fit;
          within = omega arith;
          rest = rw (counted o p q, opened bs o (λ z. r (z ∙ s.wants))) at next;
          many = simp (length-append, s.many);
          few = omega arith;
          wants = want-snoc 0 bs (block o o);
        }

    -- where o extends a block there is one, the last
    pub seen_last : 0 < o → o ≡ want → Last bs
    seen_last p r = last bs (omega (arith, s.wants))

    pub seen_grow : 0 < o → o ≤ 65535 → o ≡ want → (l : Last bs) → Seen cum size n table (i + 1) (l.0 ++ (block l.1.start o ∷ [])) count (o + 1)
    seen_grow p q r (pre, l, z) =
        let w : o ≡ l.end + 1 = r ∙ sym s.wants ∙ ap (want_from 0) z ∙ want-snoc 0 pre l in
        record {
          sized = s.sized;
          fit = s.fit;
          within = omega arith;
          rest = rw (counted o p q, z, grown pre l o w) at next;
          many = simp length-append (sym (simp length-append at (ap length z)) ∙ s.many);
          few = omega arith;
          wants = want-snoc 0 pre (block l.start o);
        }

-- ── the walk with both lists: ss and es are ss₀ and es₀ with what was seen at their front ──

-- a store over the last of what is there changes it
pub over_last : (out done : List ℕ) (x v n : ℕ) → length done ≡ n → set (over out (done ++ (x ∷ []))) n v ≡ over out (done ++ (v ∷ []))
unfolding over
over_last out done x v n e = simp (length-append, append_snoc) (set_at done x (drop (length done + 1) out) v n e)

pub record Put (cum size n : ℕ) (table ss₀ es₀ ss es : List ℕ) (count want i : ℕ) : Type 0 where
  pub room : length (blocks cum (held size n table)) ≤ length ss₀
  pub room' : length (blocks cum (held size n table)) ≤ length es₀
  pub bs : List Block
  pub seen : Seen cum size n table i bs count want
  pub starts : ss ≡ over ss₀ (starts_of bs)
  pub ends : es ≡ over es₀ (ends_of bs)

pub put_none :
    (cum size n : ℕ) (table ss es : List ℕ) → length table ≡ 4 * size → n ≤ size →
    length (blocks cum (held size n table)) ≤ length ss → length (blocks cum (held size n table)) ≤ length es → Put cum size n table ss es ss es 0 0 0
unfolding over
put_none cum size n table ss es s h k l = record { room = k; room' = l; bs = []; seen = seen_none cum size n table s h; starts = refl; ends = refl }

module _ {cum size n : ℕ} {table ss₀ es₀ ss es : List ℕ} {count want i : ℕ} (p : Put cum size n table ss₀ es₀ ss es count want i) where
  numbered : (f : Block → ℕ) → length (map f p.bs) ≡ count
  numbered f = length-map p.bs f ∙ p.seen.many

  -- count blocks have room, and the lists are as long as they were
  pub put-room : (count ≤ length ss) × (count ≤ length es) × (length ss ≡ length ss₀) × (length es ≡ length es₀)
  put-room =
      let w = seen_within p.seen in
      let a : length ss ≡ length ss₀ = ap length p.starts ∙ over-length ss₀ (starts_of p.bs) (omega (arith, numbered (λ (b : Block). b.start), p.room)) in
      let b : length es ≡ length es₀ = ap length p.ends ∙ over-length es₀ (ends_of p.bs) (omega (arith, numbered (λ (b : Block). b.end), p.room')) in
      (omega (arith, p.room), omega (arith, p.room'), a, b)

  pub put_all :
      n ≤ i →
      (count ≡ length (blocks cum (held size n table)))
      × ((ss ≡ over ss₀ (starts_of (blocks cum (held size n table)))) × (es ≡ over es₀ (ends_of (blocks cum (held size n table)))))
  put_all h = let e = seen_all p.seen h in (rw (← e) (sym p.seen.many), (rw (← e) p.starts, rw (← e) p.ends))

  module _ (h : i < n) {o : ℕ} (e : o ≡ ahead 32 cum (get_or table (size + i) 0)) where
    pub put_skip : counts o ≡ false → Put cum size n table ss₀ es₀ ss es count want (i + 1)
    put_skip k = record { room = p.room; room' = p.room'; bs = p.bs; seen = seen_skip p.seen h e k; starts = p.starts; ends = p.ends }

    -- the next block has room
    pub open_room : 0 < o → o ≤ 65535 → (o ≡ want → ⊥) → (count < length ss) × (count < length es)
    open_room a b r =
        let w = seen_within (seen_open p.seen h e a b r) in
        let l = put-room in
        (omega (arith, p.room, l.2), omega (arith, p.room', l.3))

    pub put_open : 0 < o → o ≤ 65535 → (o ≡ want → ⊥) → Put cum size n table ss₀ es₀ (set ss count o) (set es count o) (count + 1) (o + 1) (i + 1)
    put_open a b r =
        let k = open_room a b r in
        let l = put-room in
        record {
          room = p.room;
          room' = p.room';
          bs = p.bs ++ (block o o ∷ []);
          seen = seen_open p.seen h e a b r;
          starts = rw p.starts (over-snoc 0 ss₀ (starts_of p.bs) o count (numbered (λ (b : Block). b.start)) (omega arith) ∙ rw map-append);
          ends = rw p.ends (over-snoc 0 es₀ (ends_of p.bs) o count (numbered (λ (b : Block). b.end)) (omega arith) ∙ rw map-append);
        }

    -- there is a block to extend
    pub grow_room : 0 < o → o ≡ want → 0 < count
    grow_room a r = let s = seen_last p.seen h e a r in omega (arith, p.seen.many, simp length-append at (ap length s.2))

    pub put_grow : 0 < o → o ≤ 65535 → o ≡ want → Put cum size n table ss₀ es₀ ss (set es (count - 1) o) count (o + 1) (i + 1)
    put_grow a b r = let s = seen_last p.seen h e a r in go s.0 s.1 s.2
      where
        go : (pre : List Block) (l : Block) → p.bs ≡ pre ++ (l ∷ []) → Put cum size n table ss₀ es₀ ss (set es (count - 1) o) count (o + 1) (i + 1)
        go pre l z =
            let k : length pre ≡ count - 1 = omega (arith, p.seen.many, simp length-append at (ap length z)) in
            record {
              room = p.room;
              room' = p.room';
              bs = pre ++ (block l.start o ∷ []);
              seen = seen_grow p.seen h e a b r (pre, l, z);
              starts = rw (p.starts, z) (simp map-append);
              ends = rw (p.ends, z) (simp map-append (over_last es₀ (ends_of pre) l.end o (count - 1) (length-map pre (λ (b : Block). b.end) ∙ k)));
            }

-- ── the answers ──

module _ (bs : List Block) (ss es : List ℕ) where
  pub said_short : length ss < length bs → report (Err ShortOutput) ss es ≡ written bs ss es
  unfolding written
  said_short h = rw (lt-leb (length bs) (length ss) h)

  pub said_short' : length bs ≤ length ss → length es < length bs → report (Err ShortOutput) ss es ≡ written bs ss es
  unfolding written
  said_short' k h = rw (le-leb (length bs) (length ss) k, lt-leb (length bs) (length es) h)

  pub said :
      length bs ≤ length ss → length bs ≤ length es → {count : ℕ} {ss' es' : List ℕ} →
      (count ≡ length bs) × ((ss' ≡ over ss (starts_of bs)) × (es' ≡ over es (ends_of bs))) → report (Ok count) ss' es' ≡ written bs ss es
  unfolding written
  said k h w = rw (w.0, w.1.0, w.1.1, le-leb (length bs) (length ss) k, le-leb (length bs) (length es) h)
