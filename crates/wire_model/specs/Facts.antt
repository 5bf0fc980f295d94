-- What big-endian numbers have, over their width k. Tied to no function.
-- Assumes nothing.
use Rattle.std.specs.Prelude.{◌≡◌, refl, List, [], ◌∷◌, ◌++◌, ℕ, zero, suc, ◌+◌, ◌*◌, ◌/◌, ◌%◌, ◌^◌, ◌<◌, ◌≤◌, length, get_or, take, drop, set}
use Rattle.std.proofs.Common.{sym, ap, ◌∙◌, append_assoc, div-lt_iff_lt-mul, pow-suc, arith, add-one, length-append, length-drop, take_at, drop_at, drop-drop, drop-cons}
use Rattle.std.proofs.lemmas.List.{set_at}
use Rattle.std.proofs.Math.Seq.{append_snoc}
use Rattle.wire_model.specs.BigEndian.{big_endian, over}

-- k bytes are k bytes long
pub big_endian-length : (k x : ℕ) → length (big_endian k x) ≡ k
unfolding big_endian
big_endian-length zero x = refl
big_endian-length (suc k) x = simp length-append (omega (arith, big_endian-length k (x / 256)))

-- lists that agree agree in front of a place and behind it
pub split : {A : Type 0} (p p' : List A) {q q' : List A} (k : ℕ) → length p ≡ k → length p' ≡ k → p ++ q ≡ p' ++ q' → (p ≡ p') × (q ≡ q')
split p p' {q} {q'} k l m e =
    (sym (take_at p q k l) ∙ ap (take k) e ∙ take_at p' q' k m, sym (drop_at p q k l) ∙ ap (drop k) e ∙ drop_at p' q' k m)

-- reading what was written: bytes are those of one number alone
pub read_back : (k : ℕ) {x y : ℕ} → x < 256 ^ k → y < 256 ^ k → big_endian k x ≡ big_endian k y → x ≡ y
unfolding big_endian
read_back zero h l e = omega arith
read_back (suc k) {x} {y} h l e =
    let s = split (big_endian k (x / 256)) (big_endian k (y / 256)) k (big_endian-length k (x / 256)) (big_endian-length k (y / 256)) e in
    let high : x / 256 ≡ y / 256 = read_back k (quotient x h) (quotient y l) s.0 in
    let low : x % 256 ≡ y % 256 = ap (λ (r : List ℕ). first r) s.1 in
    omega arith
  where
    quotient : (z : ℕ) → z < 256 ^ suc k → z / 256 < 256 ^ k
    quotient z m = (div-lt_iff_lt-mul {k = 256} {x = z} {y = 256 ^ k} (omega arith)).1 (rw (pow-suc 256 k) at m)

    first : List ℕ → ℕ
    first [] = 0
    first (a ∷ l) = a

-- one byte more: the number so far, 256 times, and the byte
pub big_endian-more : (k x b : ℕ) → b < 256 → big_endian (suc k) (x * 256 + b) ≡ big_endian k x ++ (b ∷ [])
unfolding big_endian
big_endian-more k x b h =
    let high : (x * 256 + b) / 256 ≡ x = omega arith in
    let low : (x * 256 + b) % 256 ≡ b = omega arith in
    rw (high, low)

-- bytes at the front leave a buffer as long as it was
pub over-length : {A : Type 0} (out bytes : List A) → length bytes ≤ length out → length (over out bytes) ≡ length out
unfolding over
over-length out bytes h = simp (length-append, length-drop) (omega arith)

-- what goes into what is left of a buffer stands behind what is there
pub over-more : {A : Type 0} (out done more : List A) (k : ℕ) → length done ≡ k → take k (over out done) ++ over (drop k (over out done)) more ≡ over out (done ++ more)
unfolding over
over-more out done more k l =
    rw (take_at done (drop (length done) out) k l, drop_at done (drop (length done) out) k l, drop-drop, length-append, append_assoc)

-- a store right behind what is there adds to it
pub over-snoc : {A : Type 0} (z : A) (out done : List A) (v : A) (n : ℕ) → length done ≡ n → n < length out → set (over out done) n v ≡ over out (done ++ (v ∷ []))
unfolding over
over-snoc z out done v n e h =
    let k : length done < length out = omega arith in
    rw (drop-cons out (length done) z k, set_at done (get_or out (length done) z) (drop (suc (length done)) out) v n e, length-append, add-one, append_snoc)
