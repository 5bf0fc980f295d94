-- What the streams hold together, added: a change of one stream changes the sum and the draws by what that stream changes.
-- Assumes nothing.
use mathlib.Core.Path.{◌≡◌, refl, ap, ◌∙◌}
use mathlib.Core.List.{List, [], ◌∷◌, ◌++◌, map}
use Prim.Native.Nat.{ℕ, zero, suc, ◌+◌, ◌-◌, ◌*◌, ◌<◌, ◌≤◌}
use native.Mathlib.Omega.{arith}
use lib.ListN.{length, get_or, set, length-append, get_or-map}
use Rattle.fragments.specs.Frag.{Frag}
use Rattle.fragments.specs.Words.{size, concat}
use Rattle.fragments.proofs.Pool.{Fit, fit_append, size-append}
use Rattle.reassembly_state.specs.Model.{Queue, held}
use Rattle.streams_model.specs.Room.{draws, frags_held, bytes_held}
use Rattle.streams_model.specs.State.{held_by, no_queue}

-- ── numbers ──

abbrev pub added : List ℕ → ℕ
added [] = 0
added (n ∷ ns) = n + added ns

pub added-set : (ns : List ℕ) (k v : ℕ) → k < length ns → added (set ns k v) + get_or ns k 0 ≡ added ns + v
added-set [] k v h = absurd (omega arith)
added-set (n ∷ ns) zero v h = omega arith
added-set (n ∷ ns) (suc k) v h = let e = added-set ns k v (omega arith) in omega arith

-- what a stream draws is no more than what all do, and the others' draws stay
pub draws-set : (own : ℕ) (ns : List ℕ) (k v : ℕ) → k < length ns → draws own (set ns k v) + (get_or ns k 0 - own) ≡ draws own ns + (v - own)
unfolding draws
draws-set own [] k v h = absurd (omega arith)
draws-set own (n ∷ ns) zero v h = omega arith
draws-set own (n ∷ ns) (suc k) v h = let e = draws-set own ns k v (omega arith) in omega arith

pub draws-one : (own : ℕ) (ns : List ℕ) (k : ℕ) → get_or ns k 0 - own ≤ draws own ns
unfolding draws
draws-one own [] k = omega arith
draws-one own (n ∷ ns) zero = omega arith
draws-one own (n ∷ ns) (suc k) = let e = draws-one own ns k in omega arith

-- all that is held is drawn on the common part, or some stream's own
pub added-draws : (own : ℕ) (ns : List ℕ) → added ns ≤ draws own ns + own * length ns
unfolding draws
added-draws own [] = omega arith
added-draws own (n ∷ ns) = let e = added-draws own ns in omega arith

-- ── lists ──

pub map-set : {A : Type 0} {B : Type 0} (f : A → B) (l : List A) (k : ℕ) (v : A) → map f (set l k v) ≡ set (map f l) k (f v)
map-set f [] k v = refl
map-set f (x ∷ l) zero v = refl
map-set {B = B} f (x ∷ l) (suc k) v = ap (λ (r : List B). f x ∷ r) (map-set f l k v)

pub frags-added : (qs : List Queue) → length (held_by qs) ≡ added (map frags_held qs)
unfolding concat
frags-added [] = refl
frags-added (q ∷ qs) = length-append (held q) (held_by qs) ∙ ap (λ (n : ℕ). frags_held q + n) (frags-added qs)

pub bytes-added : (qs : List Queue) → size (held_by qs) ≡ added (map bytes_held qs)
unfolding concat size
bytes-added [] = refl
bytes-added (q ∷ qs) = size-append (held q) (held_by qs) ∙ ap (λ (n : ℕ). bytes_held q + n) (bytes-added qs)

-- what one stream holds, among what the streams hold
pub frags-at : (qs : List Queue) (k : ℕ) → get_or (map frags_held qs) k 0 ≡ frags_held (get_or qs k no_queue)
frags-at qs k = get_or-map frags_held qs k no_queue

pub bytes-at : (qs : List Queue) (k : ℕ) → get_or (map bytes_held qs) k 0 ≡ bytes_held (get_or qs k no_queue)
unfolding size
bytes-at qs k = get_or-map bytes_held qs k no_queue

-- ── none too long ──

pub fit_parts : (xs ys : List Frag) → Fit (xs ++ ys) → Fit xs × Fit ys
fit_parts [] ys h = (tt, h)
fit_parts (x ∷ xs) ys h = let k = fit_parts xs ys h.1 in ((h.0, k.0), k.1)

pub fit_one : (qs : List Queue) (k : ℕ) → Fit (held_by qs) → Fit (held (get_or qs k no_queue))
unfolding concat
fit_one [] k h = tt
fit_one (q ∷ qs) zero h = (fit_parts (held q) (held_by qs) h).0
fit_one (q ∷ qs) (suc k) h = fit_one qs k (fit_parts (held q) (held_by qs) h).1

pub fit_set : (qs : List Queue) (k : ℕ) (m : Queue) → Fit (held_by qs) → Fit (held m) → Fit (held_by (set qs k m))
unfolding concat
fit_set [] k m h f = tt
fit_set (q ∷ qs) zero m h f = fit_append (held m) (held_by qs) f (fit_parts (held q) (held_by qs) h).1
fit_set (q ∷ qs) (suc k) m h f = let p = fit_parts (held q) (held_by qs) h in fit_append (held q) (held_by (set qs k m)) p.0 (fit_set qs k m p.1 f)
