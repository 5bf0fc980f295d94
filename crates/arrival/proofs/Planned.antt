-- A plan of chunks is a plan of the model: a chunk's fragment says what the chunk says.
-- Assumes nothing.
use mathlib.Core.Path.{◌≡◌, refl, ap, subst, ◌∙◌}
use mathlib.Core.Bool.{Bool, true, false}
use mathlib.Core.List.{List, [], ◌∷◌, ◌++◌, map}
use mathlib.Core.Logic.{◌⊎◌, inl, inr}
use Prim.Native.Nat.{ℕ, zero, suc, ◌+◌, ◌-◌, ◌<◌, ◌≤◌}
use native.Mathlib.Omega.{arith}
use borrow.Author.Tests.{leb-true, leb-false}
use lib.Dec.{leb}
use lib.ListN.{length, length-map}
use Rattle.data_fields.specs.Fields.{data_sent}
use Rattle.fragments.specs.Frag.{Frag}
use Rattle.fragments.specs.Words.{joined}
use Rattle.fragments.proofs.Pool.{joined_length}
use Rattle.reassembly_state.specs.State.{fragment_of}
use Rattle.reassembly_state.proofs.Chunk.{chunk-ends, chunk-begins, chunk-ssn}
use Rattle.arrival_plan.specs.Plan as model
use Rattle.arrival.specs.Calls.{Chunk, Sent, Kind, Loose, Number, Bears, null, bytes_of, Part, Later, Cut, Whole, Ordered, Unordered, chunks_of, Absent, Distinct, Plan}
use Rattle.arrival_plan.proofs.Maps.{map-append, Each, each_append}

-- ── a chunk's fragment, a message's fragments ──

abbrev pub frag_of : Chunk → Frag
frag_of c = fragment_of c.fields c.bytes

abbrev pub piece_of : Chunk → model.Carried
piece_of c = model.chunk c.fields.unordered (frag_of c)

abbrev pub cut_of : Sent → model.Msg
cut_of m = record { first = m.first; ppi = m.ppi; frags = map frag_of m.chunks }

null-map : (cs : List Chunk) → model.null (map frag_of cs) ≡ null cs
null-map [] = refl
null-map (c ∷ cs) = refl

pub joined_bytes : (cs : List Chunk) → joined (map frag_of cs) ≡ bytes_of cs
unfolding joined fragment_of
joined_bytes [] = refl
joined_bytes (c ∷ cs) = ap (λ (l : List ℕ). c.bytes ++ l) (joined_bytes cs)

-- a message's mark
abbrev mark : Kind → Bool
mark Loose = true
mark (Number n) = false

marked : (kind : Kind) (c : Chunk) → Bears kind c.fields → piece_of c ≡ model.chunk (mark kind) (frag_of c)
marked Loose c h = ap (λ (u : Bool). model.chunk u (frag_of c)) h
marked (Number n) c h = ap (λ (u : Bool). model.chunk u (frag_of c)) h.0

-- ── what the chunks of one message have ──

-- the TSNs from place o of the arc on
abbrev Runs : ℕ → ℕ → List Chunk → Type 0
Runs base o [] = Unit {0}
Runs base o (c ∷ cs) = (c.fields.tsn ≡ model.tsn_at base o) × Runs base (suc o) cs

-- the stream
abbrev pub Of : ℕ → Chunk → Type 0
Of si c = c.fields.stream_identifier ≡ si

-- the mark and the number
abbrev Bearing : Kind → Chunk → Type 0
Bearing kind c = Bears kind c.fields

-- a number fits in 16 bits
numbered : (n : ℕ) → n < 65536 → (cs : List Chunk) → Each (Bearing (Number n)) cs → model.Numbered n (map frag_of cs)
numbered n h [] k = tt
numbered n h (c ∷ cs) k = (chunk-ssn c.fields c.bytes (rw k.0.1 h) ∙ k.0.1, numbered n h cs k.1)

pieces : (kind : Kind) (cs : List Chunk) → Each (Bearing kind) cs → map piece_of cs ≡ map (model.chunk (mark kind)) (map frag_of cs)
pieces kind [] h = refl
pieces kind (c ∷ cs) h = rw (marked kind c h.0, pieces kind cs h.1)

module _ (si base : ℕ) (kind : Kind) (ppi : ℕ) where
  piece : (o : ℕ) (b e : Bool) (c : Chunk) → Part si base kind ppi o b e c → model.Piece base o ppi b e (frag_of c)
  unfolding fragment_of data_sent
  piece o b e c p =
      record {
        tsn = p.tsn;
        ppi = p.identifier;
        begin = chunk-begins c.fields c.bytes ∙ p.beginning;
        end = chunk-ends c.fields c.bytes ∙ p.ending;
      }

  later : (o : ℕ) (cs : List Chunk) → Later si base kind ppi o cs → model.Later base o ppi (map frag_of cs)
  later o [] h = tt
  later o (c ∷ cs) h = (rw (null-map cs) (piece o false (null cs) c h.0), later (suc o) cs h.1)

  cut : (o : ℕ) (cs : List Chunk) → Cut si base kind ppi o cs → model.Cut base o ppi (map frag_of cs)
  cut o [] h = h
  cut o (c ∷ cs) h = (rw (null-map cs) (piece o true (null cs) c h.0), later (suc o) cs h.1)

  -- what each has, whether the first or not
  pub record Have (o : ℕ) (cs : List Chunk) : Type 0 where
    pub runs : Runs base o cs
    pub stream : Each (Of si) cs
    pub bears : Each (Bearing kind) cs

  have_none : (o : ℕ) → Have o []
  have_none o = record { runs = tt; stream = tt; bears = tt }

  have_more : (o : ℕ) (b e : Bool) (c : Chunk) (cs : List Chunk) → Part si base kind ppi o b e c → Have (suc o) cs → Have o (c ∷ cs)
  have_more o b e c cs p h = record { runs = (p.tsn, h.runs); stream = (p.stream, h.stream); bears = (p.bears, h.bears) }

  later_have : (o : ℕ) (cs : List Chunk) → Later si base kind ppi o cs → Have o cs
  later_have o [] h = have_none o
  later_have o (c ∷ cs) h = have_more o false (null cs) c cs h.0 (later_have (suc o) cs h.1)

  cut_have : (o : ℕ) (cs : List Chunk) → Cut si base kind ppi o cs → Have o cs
  cut_have o [] h = have_none o
  cut_have o (c ∷ cs) h = have_more o true (null cs) c cs h.0 (later_have (suc o) cs h.1)

  -- "one or more"
  cut-some : (o : ℕ) (cs : List Chunk) → Cut si base kind ppi o cs → 0 < length cs
  cut-some o [] h = absurd h
  cut-some o (c ∷ cs) h = omega arith

module _ {si base max : ℕ} {kind : Kind} (m : Sent) (w : Whole si base max kind m) where
  whole : model.Whole base max (cut_of m)
  whole =
      record {
        cut = cut si base kind m.ppi m.first m.chunks w.cut;
        arc = rw (length-map m.chunks frag_of) w.arc;
        small = rw (← (joined_length (map frag_of m.chunks)), joined_bytes m.chunks) w.small;
      }

  have : Have si base kind m.ppi m.first m.chunks
  have = cut_have si base kind m.ppi m.first m.chunks w.cut

  some : 0 < length m.chunks
  some = cut-some si base kind m.ppi m.first m.chunks w.cut

-- ── distinct TSNs: of two messages one ends before the other begins ──

absent_append : (t : ℕ) (xs ys : List Chunk) → Absent t (xs ++ ys) → Absent t xs × Absent t ys
absent_append t [] ys h = (tt, h)
absent_append t (x ∷ xs) ys h = let k = absent_append t xs ys h.1 in ((h.0, k.0), k.1)

-- a chunk's TSN is none of these
abbrev Out : List Chunk → Chunk → Type 0
Out ys c = Absent c.fields.tsn ys

distinct_append : (xs ys : List Chunk) → Distinct (xs ++ ys) → Each (Out ys) xs × Distinct ys
distinct_append [] ys h = (tt, h)
distinct_append (x ∷ xs) ys h =
    let k = distinct_append xs ys h.1 in (((absent_append x.fields.tsn xs ys h.0).1, k.0), k.1)

out-append : (ys zs xs : List Chunk) → Each (Out (ys ++ zs)) xs → Each (Out ys) xs × Each (Out zs) xs
out-append ys zs [] h = (tt, tt)
out-append ys zs (x ∷ xs) h =
    let a = absent_append x.fields.tsn ys zs h.0 in
    let k = out-append ys zs xs h.1 in
    ((a.0, k.0), (a.1, k.1))

module _ (base : ℕ) where
  -- the TSN at a place of a run is not absent from it
  there : (o i : ℕ) (cs : List Chunk) → Runs base o cs → i < length cs → Absent (model.tsn_at base (o + i)) cs → ⊥
  there o i [] h k a = absurd (omega arith)
  there o zero (c ∷ cs) h k a = let e : o + 0 ≡ o = omega arith in a.0 (rw e h.0)
  there o (suc i) (c ∷ cs) h k a = let e : o + suc i ≡ suc o + i = omega arith in there (suc o) i cs h.1 (omega arith) (subst (λ (n : ℕ). Absent (model.tsn_at base n) cs) e a.1)

  elsewhere : (o i : ℕ) (ks cs : List Chunk) → Runs base o cs → i < length cs → Each (Out ks) cs → Absent (model.tsn_at base (o + i)) ks
  elsewhere o i ks [] h k a = absurd (omega arith)
  elsewhere o zero ks (c ∷ cs) h k a = let e : o + 0 ≡ o = omega arith in rw (e, ← h.0) a.0
  elsewhere o (suc i) ks (c ∷ cs) h k a = let e : o + suc i ≡ suc o + i = omega arith in rw e (elsewhere (suc o) i ks cs h.1 (omega arith) a.1)

  -- a place that both have
  clash : (a b p : ℕ) (xs ys : List Chunk) → Runs base a xs → Runs base b ys → Each (Out ys) xs → a ≤ p → p < a + length xs → b ≤ p → p < b + length ys → ⊥
  clash a b p xs ys h k o la lx lb ly =
      let e : a + (p - a) ≡ p = omega arith in
      let f : b + (p - b) ≡ p = omega arith in
      there b (p - b) ys k (omega arith) (rw f (rw e at (elsewhere a (p - a) ys xs h (omega arith) o)))

  aside : (a b : ℕ) (xs ys : List Chunk) → 0 < length xs → 0 < length ys → Runs base a xs → Runs base b ys → Each (Out ys) xs
      → (a + length xs ≤ b) ⊎ (b + length ys ≤ a)
  aside a b xs ys x y h k o = go (leb (a + length xs) b) (leb (b + length ys) a) (leb a b) refl refl refl
    where
      go : (s t u : Bool) → leb (a + length xs) b ≡ s → leb (b + length ys) a ≡ t → leb a b ≡ u → (a + length xs ≤ b) ⊎ (b + length ys ≤ a)
      go true t u e f g = inl (leb-true _ _ e)
      go false true u e f g = inr (leb-true _ _ f)
      go false false true e f g =
          let l = leb-false (a + length xs) b e in
          let m = leb-true a b g in
          absurd (clash a b b xs ys h k o (omega arith) (omega arith) (omega arith) (omega arith))
      go false false false e f g =
          let r = leb-false (b + length ys) a f in
          let m = leb-false a b g in
          absurd (clash a b a xs ys h k o (omega arith) (omega arith) (omega arith) (omega arith))

-- ── the plan ──

module _ (si base max : ℕ) where
  apart : (m : Sent) → Whole si base max Loose m → (ms : List Sent) → Unordered si base max ms → Each (Out (chunks_of ms)) m.chunks → model.Apart (cut_of m) (map cut_of ms)
  apart m w [] u o = tt
  apart m w (k ∷ ks) u o =
      let p = out-append k.chunks (chunks_of ks) m.chunks o in
      let a = aside base m.first k.first m.chunks k.chunks (some m w) (some k u.0) (have m w).runs (have k u.0).runs p.0 in
      (rw (length-map m.chunks frag_of, length-map k.chunks frag_of) a, apart m w ks u.1 p.1)

  unordered : (ms : List Sent) → Unordered si base max ms → Distinct (chunks_of ms) → model.Unordered base max (map cut_of ms)
  unordered [] u d = tt
  unordered (m ∷ ms) u d =
      let p = distinct_append m.chunks (chunks_of ms) d in
      (whole m u.0, apart m u.0 ms u.1 p.0, unordered ms u.1 p.1)

  ordered : (n : ℕ) (ms : List Sent) → n + length ms ≤ 32767 → Ordered si base max n ms → model.Ordered base max n (map cut_of ms)
  ordered n [] h o = tt
  ordered n (m ∷ ms) h o = (whole m o.0, numbered n (omega arith) m.chunks (have m o.0).bears, ordered (suc n) ms (omega arith) o.1)

  -- a message's chunks are pieces with its mark, of the stream
  abbrev Marked : Bool → Sent → Type 0
  Marked u m = (map piece_of m.chunks ≡ map (model.chunk u) (map frag_of m.chunks)) × Each (Of si) m.chunks

  marked-one : (kind : Kind) (m : Sent) → Whole si base max kind m → Marked (mark kind) m
  marked-one kind m w = (pieces kind m.chunks (have m w).bears, (have m w).stream)

  marked-ordered : (n : ℕ) (ms : List Sent) → Ordered si base max n ms → Each (Marked false) ms
  marked-ordered n [] o = tt
  marked-ordered n (m ∷ ms) o = (marked-one (Number n) m o.0, marked-ordered (suc n) ms o.1)

  marked-unordered : (ms : List Sent) → Unordered si base max ms → Each (Marked true) ms
  marked-unordered [] u = tt
  marked-unordered (m ∷ ms) u = (marked-one Loose m u.0, marked-unordered ms u.1)

  all-pieces : (u : Bool) (ms : List Sent) → Each (Marked u) ms → map piece_of (chunks_of ms) ≡ map (model.chunk u) (model.frags_of (map cut_of ms))
  all-pieces u [] h = refl
  all-pieces u (m ∷ ms) h =
      rw (
        map-append piece_of m.chunks (chunks_of ms),
        map-append (model.chunk u) (map frag_of m.chunks) (model.frags_of (map cut_of ms)),
        h.0.0,
        all-pieces u ms h.1,
      )

  all_of : (u : Bool) (ms : List Sent) → Each (Marked u) ms → Each (Of si) (chunks_of ms)
  all_of u [] h = tt
  all_of u (m ∷ ms) h = each_append (Of si) m.chunks (chunks_of ms) h.0.1 (all_of u ms h.1)

  module _ {os us : List Sent} (plan : Plan si base max os us) where
    pub planned : model.Plan base max (map cut_of os) (map cut_of us)
    planned =
        record {
          few = rw (length-map os cut_of) plan.few;
          ordered = ordered 0 os (omega (arith, plan.few)) plan.ordered;
          unordered = unordered us plan.unordered plan.distinct;
        }

    pub plan_pieces : map piece_of (chunks_of os ++ chunks_of us) ≡ model.chunks_of (map cut_of os) (map cut_of us)
    plan_pieces =
        rw (
          map-append piece_of (chunks_of os) (chunks_of us),
          all-pieces false os (marked-ordered 0 os plan.ordered),
          all-pieces true us (marked-unordered us plan.unordered),
        )

    pub plan_stream : Each (Of si) (chunks_of os ++ chunks_of us)
    plan_stream =
        each_append (Of si) (chunks_of os) (chunks_of us) (all_of false os (marked-ordered 0 os plan.ordered)) (all_of true us (marked-unordered us plan.unordered))
