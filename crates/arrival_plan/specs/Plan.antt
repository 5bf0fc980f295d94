-- A plan: one stream's messages, cut into chunks; a run on the model: pushes of a plan's chunks, with takes between; and what has to come out.
-- Assumes nothing.
use Rattle.std.specs.Prelude.{◌≡◌, Bool, true, false, cond, List, [], ◌∷◌, ◌++◌, map, ◌⊎◌, ℕ, zero, suc, ◌+◌, ◌%◌, ◌^◌, ◌≤◌, length}
use Rattle.wire_model.specs.Refusal.{none}
use Rattle.fragments.specs.Frag.{Frag, begins, ends, ssn_of}
use Rattle.fragments.specs.Words.{size, joined}
use Rattle.reassembly_state.specs.Model.{Queue, queue, held, room_for, push, turn, readable, first_ppi}

-- ── messages and their cuts ──

-- a message: where its first TSN lies in the arc, its payload identifier, and its fragments
pub record Msg : Type 0 where
  pub first : ℕ
  pub ppi : ℕ
  pub frags : List Frag

-- the TSN at place o of the arc that starts at base
unfoldable pub tsn_at : ℕ → ℕ → ℕ
tsn_at base o = (base + o) % 2 ^ 32

-- a fragment at place o of the arc, with identifier p and these marks
pub record Piece (base o p : ℕ) (b e : Bool) (f : Frag) : Type 0 where
  pub tsn : f.tsn ≡ tsn_at base o
  pub ppi : f.ppi ≡ p
  pub begin : begins f ≡ b
  pub end : ends f ≡ e

-- whether nothing follows
abbrev pub null : List Frag → Bool
null [] = true
null (f ∷ fs) = false

-- "chunks of consecutive TSNs": later ones, of which "the last alone" is marked ending
abbrev pub Later : ℕ → ℕ → ℕ → List Frag → Type 0
Later base o p [] = Unit {0}
Later base o p (f ∷ fs) = Piece base o p false (null fs) f × Later base (suc o) p fs

-- "one or more chunks .., the first alone marked beginning"
abbrev pub Cut : ℕ → ℕ → ℕ → List Frag → Type 0
Cut base o p [] = ⊥
Cut base o p (f ∷ fs) = Piece base o p true (null fs) f × Later base (suc o) p fs

-- "none over the size limit", "in one arc shorter than 2^31", "one payload identifier per message"
pub record Whole (base max : ℕ) (m : Msg) : Type 0 where
  pub cut : Cut base m.first m.ppi m.frags
  pub arc : m.first + length m.frags ≤ 2 ^ 31
  pub small : size m.frags ≤ max

-- "if ordered, its number"
abbrev pub Numbered : ℕ → List Frag → Type 0
Numbered n [] = Unit {0}
Numbered n (f ∷ fs) = (ssn_of f ≡ n) × Numbered n fs

-- ordered messages, "numbered on from" n
abbrev pub Ordered : ℕ → ℕ → ℕ → List Msg → Type 0
Ordered base max n [] = Unit {0}
Ordered base max n (m ∷ ms) = Whole base max m × Numbered n m.frags × Ordered base max (suc n) ms

-- "TSNs are distinct": of two messages one ends before the other begins
abbrev pub Apart : Msg → List Msg → Type 0
Apart m [] = Unit {0}
Apart m (k ∷ ks) = ((m.first + length m.frags ≤ k.first) ⊎ (k.first + length k.frags ≤ m.first)) × Apart m ks

-- unordered messages, listed in any order
abbrev pub Unordered : ℕ → ℕ → List Msg → Type 0
Unordered base max [] = Unit {0}
Unordered base max (m ∷ ms) = Whole base max m × Apart m ms × Unordered base max ms

-- the plan. TSNs of an ordered message may be another's too: nothing rests on it
pub record Plan (base max : ℕ) (os us : List Msg) : Type 0 where
  pub few : length os ≤ 32767
  pub ordered : Ordered base max 0 os
  pub unordered : Unordered base max us

-- ── its chunks, and its messages ──

-- a chunk of the stream: its mark U, and its fragment
pub record Carried : Type 0 where
  pub unordered : Bool
  pub frag : Frag

abbrev pub chunk : Bool → Frag → Carried
chunk u f = record { unordered = u; frag = f }

abbrev pub frags_of : List Msg → List Frag
frags_of [] = []
frags_of (m ∷ ms) = m.frags ++ frags_of ms

abbrev pub chunks_of : List Msg → List Msg → List Carried
chunks_of os us = map (chunk false) (frags_of os) ++ map (chunk true) (frags_of us)

-- what comes out: SSN, identifier, bytes
pub record Message : Type 0 where
  pub ssn : ℕ
  pub ppi : ℕ
  pub bytes : List ℕ

abbrev pub message : ℕ → Msg → Message
message n m = record { ssn = n; ppi = m.ppi; bytes = joined m.frags }

-- in number order, "byte for byte"
abbrev pub in_order : ℕ → List Msg → List Message
in_order n [] = []
in_order n (m ∷ ms) = message n m ∷ in_order (suc n) ms

-- ── a run ──

-- calls, one after the other: a push, or a take into a buffer long enough
pub data Event : Type 0 where
  Push : Carried → Event
  Take : Event

abbrev pub pushes : List Event → List Carried
pushes [] = []
pushes (Push c ∷ es) = c ∷ pushes es
pushes (Take ∷ es) = pushes es

-- what a push and a take leave
abbrev pub after_push : Queue → Carried → Queue
after_push q c = (push (room_for q c.frag) q q.si c.unordered c.frag).queue

abbrev pub after_take : Queue → Queue
after_take q = cond (readable q) (turn q).queue q

-- the queue at the end
abbrev pub final : Queue → List Event → Queue
final q [] = q
final q (Push c ∷ es) = final (after_push q c) es
final q (Take ∷ es) = final (after_take q) es

-- the messages that came out
abbrev pub given : Queue → List Message → List Message
given q ms =
    cond (readable q) (record { ssn = (turn q).ssn; ppi = first_ppi (turn q).frags; bytes = joined (turn q).frags } ∷ ms) ms

abbrev pub out : Queue → List Event → List Message
out q [] = []
out q (Push c ∷ es) = out (after_push q c) es
out q (Take ∷ es) = given q (out (after_take q) es)

-- "room never exceeded"
abbrev pub Roomy : Queue → List Event → Type 0
Roomy q [] = Unit {0}
Roomy q (Push c ∷ es) = (room_for q c.frag ≡ true) × Roomy (after_push q c) es
Roomy q (Take ∷ es) = Roomy (after_take q) es

-- ── some order, and a merge ──

-- the first list is the second in some order: its first is one of that, and so on with the others
pub data Order (A : Type 0) : List A → List A → Type 0 where
  none_left : Order A [] []
  one_of : (xs : List A) (a : A) (ys : List A) {l : List A} → Order A l (xs ++ ys) → Order A (a ∷ l) (xs ++ a ∷ ys)

-- the third list is made of the first two, each in its own order
pub data Merge (A : Type 0) : List A → List A → List A → Type 0 where
  neither : Merge A [] [] []
  left : {a : A} {l r m : List A} → Merge A l r m → Merge A (a ∷ l) r (a ∷ m)
  right : {a : A} {l r m : List A} → Merge A l r m → Merge A l (a ∷ r) (a ∷ m)

-- ── what has to come out: "ordered messages .. in number order, unordered ones in some order, each once and byte for byte,
-- nothing is held, the byte count is 0" ──

pub record Came (os us : List Msg) (ms : List Message) (q : Queue) : Type 0 where
  pub loose : List Message
  pub some_order : Order Message loose (map (message 0) us)
  pub merged : Merge Message (in_order 0 os) loose ms
  pub nothing-held : held q ≡ []
  pub no_bytes : size (held q) ≡ 0

-- a fresh queue of the model
abbrev pub starts : ℕ → ℕ → Queue
starts si max = queue si 0 max [] [] []

-- "Arrival order does not matter", on the model: the plan's chunks pushed once each, in any order, takes anywhere between, until nothing is readable
abbrev pub Arrival : Type 0
Arrival =
    (si base max : ℕ) (os us : List Msg) → Plan base max os us
    → (es : List Event) → Order Carried (pushes es) (chunks_of os us)
    → Roomy (starts si max) es
    → readable (final (starts si max) es) ≡ false
    → Came os us (out (starts si max) es) (final (starts si max) es)

-- "Take until nothing is readable": as many takes as fragments are held are enough, whatever the queue
abbrev pub takes : ℕ → List Event
takes zero = []
takes (suc n) = Take ∷ takes n

abbrev pub Drained : Type 0
Drained = (q : Queue) (n : ℕ) → length (held q) ≤ n → readable (final q (takes n)) ≡ false

-- "no push was refused"
abbrev pub Unrefused : Queue → List Event → Type 0
Unrefused q [] = Unit {0}
Unrefused q (Push c ∷ es) = ((push (room_for q c.frag) q q.si c.unordered c.frag).told.refusal ≡ none) × Unrefused (after_push q c) es
Unrefused q (Take ∷ es) = Unrefused (after_take q) es
