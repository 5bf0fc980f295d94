-- A run on the model, skips among its events; what is to come out of it; and the invariant.
-- Assumes nothing.
use mathlib.Core.Path.{◌≡◌, sym, subst}
use mathlib.Core.Bool.{Bool, true, false}
use mathlib.Core.List.{List, [], ◌∷◌, ◌++◌, map}
use mathlib.Core.Logic.{◌⊎◌, inl, inr}
use native.Mathlib.Omega.{arith}
use Prim.Native.Nat.{ℕ, suc, ◌+◌, ◌^◌, ◌<◌, ◌≤◌}
use lib.ListN.{length}
use Rattle.wire_model.specs.Refusal.{none}
use Rattle.fragments.specs.Frag.{Frag, ssn_of}
use Rattle.reassembly_state.specs.Model as model
use Rattle.reassembly_state.specs.Model.{Queue, queue, room_for, push, readable, skip_ordered, skip_unordered}
use Rattle.arrival_plan.specs.Plan.{Msg, tsn_at, Ordered, Carried, frags_of, Message, message, in_order, after_push, after_take, given, Order, Merge}
use Rattle.arrival_plan.proofs.Shape.{Done}
use Rattle.arrival_plan.proofs.Loose.{Listed, held_of, Opens}
use Rattle.arrival_plan.proofs.Locate.{chunks}
use Rattle.arrival_plan.proofs.Pushes.{Enters}
use Rattle.arrival_plan.proofs.Takes.{Gives}
use Rattle.arrival_plan.proofs.Arrived.{Cuts}
use Rattle.arrival_plan.proofs.Maps.{Each}
use Rattle.skips_plan.proofs.Fates.{pending, Safe, Bare, marks, Item, parts, msg-of, msgs, all}

-- ── events ──

pub data Event : Type 0 where
  Push : Carried → Event
  Take : Event
  SkipOrdered : ℕ → Event
  SkipUnordered : ℕ → Event

abbrev pub pushes : List Event → List Carried
pushes [] = []
pushes (Push c ∷ es) = c ∷ pushes es
pushes (Take ∷ es) = pushes es
pushes (SkipOrdered s ∷ es) = pushes es
pushes (SkipUnordered t ∷ es) = pushes es

-- what is left; the message that comes before others; there is room for it; it is not refused
abbrev pub after : Queue → Event → Queue
after q (Push c) = after_push q c
after q Take = after_take q
after q (SkipOrdered s) = skip_ordered q s
after q (SkipUnordered t) = skip_unordered q t

abbrev pub gives : Queue → Event → List Message → List Message
gives q (Push c) ms = ms
gives q Take ms = given q ms
gives q (SkipOrdered s) ms = ms
gives q (SkipUnordered t) ms = ms

abbrev pub Room : Queue → Event → Type 0
Room q (Push c) = room_for q c.frag ≡ true
Room q Take = Unit {0}
Room q (SkipOrdered s) = Unit {0}
Room q (SkipUnordered t) = Unit {0}

abbrev pub Quiet : Queue → Event → Type 0
Quiet q (Push c) = (push (room_for q c.frag) q q.si c.unordered c.frag).told.refusal ≡ none
Quiet q Take = Unit {0}
Quiet q (SkipOrdered s) = Unit {0}
Quiet q (SkipUnordered t) = Unit {0}

abbrev pub final : Queue → List Event → Queue
final q [] = q
final q (e ∷ es) = final (after q e) es

abbrev pub out : Queue → List Event → List Message
out q [] = []
out q (e ∷ es) = gives q e (out (after q e) es)

abbrev pub AtEach : (Queue → Event → Type 0) → Queue → List Event → Type 0
AtEach P q [] = Unit {0}
AtEach P q (e ∷ es) = P q e × AtEach P (after q e) es

-- ── how far skips go: below so many numbers, and below a place of the arc ──

pub record Frame : Type 0 where
  pub si : ℕ
  pub base : ℕ
  pub max : ℕ
  pub numbers : ℕ
  pub places : ℕ
  pub arc : places ≤ 2 ^ 31
  -- the chunks that do not come
  pub never : List Carried

pub record Place (base places t : ℕ) : Type 0 where
  pub place : ℕ
  pub is : t ≡ tsn_at base place
  pub low : place < places

abbrev pub Within : Frame → Event → Type 0
Within c (Push k) = Unit {0}
Within c Take = Unit {0}
Within c (SkipOrdered s) = s < c.numbers
Within c (SkipUnordered t) = Place c.base c.places t

-- a skip reaches the bound, or the expected number has
abbrev Reached : Frame → List Event → Type 0
Reached c [] = ⊥
Reached c (Push k ∷ es) = Reached c es
Reached c (Take ∷ es) = Reached c es
Reached c (SkipOrdered s ∷ es) = (c.numbers ≤ suc s) ⊎ Reached c es
Reached c (SkipUnordered t ∷ es) = Reached c es

abbrev pub Far : Frame → ℕ → List Event → Type 0
Far c n es = (c.numbers ≤ n) ⊎ Reached c es

pub farther : (c : Frame) (n m : ℕ) (es : List Event) → n ≤ m → Far c n es → Far c m es
farther c n m es h (inl k) = inl (omega arith)
farther c n m es h (inr k) = inr k

-- a chunk that is within
abbrev pub Marked : Frame → Bool → Frag → Type 0
Marked c true f = (o : ℕ) → f.tsn ≡ tsn_at c.base o → o < 2 ^ 31 → o < c.places
Marked c false f = ssn_of f < c.numbers

abbrev pub GivenUp : Frame → Carried → Type 0
GivenUp c k = Marked c k.unordered k.frag

-- it has ended: what did not come is within, and nothing is readable
abbrev pub End : Frame → Queue → Type 0
End c q = Each (GivenUp c) c.never × (readable q ≡ false)

-- ── what comes out ──

-- some of these messages, in their order; P holds of each other
pub data Picks (P : Message → Type 0) : List Message → List Message → Type 0 where
  no_more : Picks P [] []
  takes : {m : Message} {l r : List Message} → Picks P l r → Picks P (m ∷ l) (m ∷ r)
  leaves : {m : Message} {l r : List Message} → P m → Picks P l r → Picks P (m ∷ l) r

-- in the end one that is not taken has a number below the bound
abbrev pub Passed : Frame → Type 0 → Message → Type 0
Passed c E m = E → m.ssn < c.numbers

-- what is held is of these messages
pub record Pieces (q : Queue) (ms : List Msg) : Type 0 where
  pub others : List Frag
  pub parted : Merge Frag (model.held q) others (frags_of ms)

-- of the ordered messages that are left, and of the unordered ones; E: it has ended
pub record Outcome (c : Frame) (E : Type 0) (ordered : List Message) (loose : List Msg) (ms : List Message) (q : Queue) : Type 0 where
  pub taken : List Message
  pub picked : Picks (Passed c E) ordered taken
  pub here : List Msg
  pub gone : List Msg
  pub split : Order Msg (here ++ gone) loose
  pub merged : Merge Message taken (map (message 0) here) ms
  pub touched : Each (λ (m : Msg). E → m.first < c.places) gone
  pub pieces : E → Pieces q gone

-- ── the invariant ──

-- an ordered message before the expected one: all of it is held and waits to be taken, or nothing of it is held
pub data Past : Type 0 where
  whole : Item → Past
  over : Item → Past

abbrev pub its : Past → Item
its (whole p) = p
its (over p) = p

abbrev pub waits : ℕ → List Past → List Message
waits n [] = []
waits n (whole p ∷ l) = message n (msg-of p) ∷ waits (suc n) l
waits n (over p ∷ l) = waits (suc n) l

abbrev pub Settled : Past → Type 0
Settled (whole p) = Done (marks p.fates)
Settled (over p) = Bare p.fates

abbrev pub due : Item → List Frag
due p = pending p.fates

abbrev pub late : Past → List Frag
late x = due (its x)

-- the ordered messages, from number 0 on
abbrev pub numbered : List Past → List Item → List Item
numbered early os = map its early ++ os

abbrev pub state : Frame → List Past → List Item → List Item → List Msg → Queue
state c early os us fin = queue c.si (length early) c.max (frags_of fin) (held_of (parts us)) (held_of (parts (numbered early os)))

-- the chunks that are still to be pushed
abbrev pub ahead : List Past → List Item → List Item → List Carried
ahead early os us = chunks (all late early ++ all due os) (all due us)

pub record Sound (c : Frame) (early : List Past) (os us : List Item) (fin : List Msg) : Type 0 where
  pub few : length early + length os ≤ 32767
  pub known : c.numbers ≤ length early + length os
  pub ordered : Ordered c.base c.max 0 (msgs (numbered early os))
  pub settled : Each Settled early
  pub safe : Each (λ (p : Item). Safe p.fates) os
  pub unordered : Listed c.base c.max 0 (msgs us)
  pub opens : Opens (parts us)
  -- nothing is lost of a message all of whose places are behind the skipped ones
  pub spared : Each (λ (p : Item). c.places ≤ p.first → Safe p.fates) us
  pub cuts : Cuts c.si c.base c.max fin

-- ── a run, by its first event ──

module _ (c : Frame) where
  -- nothing is refused, and what comes out is as it should be, of messages w that wait, of ordered ones from number n on, and of finished and unordered ones; ms came before
  abbrev pub After : List Event → List Message → ℕ → List Msg → List Msg → List Msg → List Message → Queue → Type 0
  After es w n os us fin ms q =
      AtEach Room q es → AtEach Quiet q es × Outcome c (End c (final q es)) (w ++ in_order n os) (fin ++ us) (ms ++ out q es) (final q es)

  abbrev pub Good : List Event → List Message → ℕ → List Msg → List Msg → List Msg → Queue → Type 0
  Good es w n os us fin q = After es w n os us fin [] q

  -- the chunks that are still to be pushed are those that come, and those that do not
  abbrev pub Owed : List Event → List Past → List Item → List Item → Type 0
  Owed es early os us = Order Carried (pushes es ++ c.never) (ahead early os us)

  abbrev pub Runs : List Event → Type 0
  Runs es =
      (early : List Past) (os us : List Item) (fin : List Msg) → Sound c early os us fin → Far c (length early) es → Owed es early os us
      → Good es (waits 0 early) (length early) (msgs os) (msgs us) fin (state c early os us fin)

  module _ (es : List Event) (w : List Message) (n : ℕ) (os us fin : List Msg) (q : Queue) where
    pub by_take : (ms : List Message) (k : Queue) → Gives q ms k → After es w n os us fin ms k → Good (Take ∷ es) w n os us fin q
    by_take ms k g h r =
        let s : After es w n os us fin ms (after_take q) = subst (λ (k : Queue). After es w n os us fin ms k) (sym g.after) h in
        let e = s r.1 in
        let f = final (after_take q) es in
        ((tt, e.0), subst (λ (l : List Message). Outcome c (End c f) (w ++ in_order n os) (fin ++ us) l f) (sym (g.said (out (after_take q) es))) e.1)

    pub by_push : (k : Carried) (m : Queue) → (room_for q k.frag ≡ true → Enters q k m) → Good es w n os us fin m → Good (Push k ∷ es) w n os us fin q
    by_push k m e g r =
        let i = e r.0 in
        let h = subst (λ (l : Queue). Good es w n os us fin l) (sym i.after) g r.1 in
        ((i.quiet, h.0), h.1)

    pub by_skip_ordered : (s : ℕ) (m : Queue) → skip_ordered q s ≡ m → Good es w n os us fin m → Good (SkipOrdered s ∷ es) w n os us fin q
    by_skip_ordered s m e g r = let h = subst (λ (l : Queue). Good es w n os us fin l) (sym e) g r.1 in ((tt, h.0), h.1)

    pub by_skip_unordered : (t : ℕ) (m : Queue) → skip_unordered q t ≡ m → Good es w n os us fin m → Good (SkipUnordered t ∷ es) w n os us fin q
    by_skip_unordered t m e g r = let h = subst (λ (l : Queue). Good es w n os us fin l) (sym e) g r.1 in ((tt, h.0), h.1)
