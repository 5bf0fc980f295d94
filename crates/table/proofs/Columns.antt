-- Four columns in one list: an edit of each is an edit of the rows.
-- Assumes nothing.
use mathlib.Core.Path.{◌≡◌, refl, sym, ap, ◌∙◌}
use mathlib.Core.List.{List, [], ◌∷◌, ◌++◌, append_assoc, map, map-append}
use Prim.Native.Nat.{ℕ, zero, suc, ◌+◌, ◌*◌, ◌<◌, ◌≤◌}
use native.Mathlib.Omega.{arith}
use lib.ListN.{length, take, drop, set, length-set, length-append, length-take, length-drop, length-map, take-append-drop}
use lib.Seq.{length-take-le, take_at, drop_at, drop-drop, take_all, take-append-le, drop-append-le, take-append-add, drop-append-add, set-append_left}
use Rattle.wire_model.specs.BigEndian.{over}
use Rattle.moves_model.specs.Lists.{put, gone, slice, turned}
use Rattle.moves_model.proofs.Turned.{turned-long, turned_app}
use Rattle.table.specs.Rows.{zipped, rows_of}
use Rattle.table.specs.declared.Row.{Row}

-- ── the fields of rows ──

abbrev pub heads : List Row → List ℕ
heads = map (λ (r : Row). r.head)

abbrev pub tsns : List Row → List ℕ
tsns = map (λ (r : Row). r.tsn)

abbrev pub ids : List Row → List ℕ
ids = map (λ (r : Row). r.id)

abbrev pub ppis : List Row → List ℕ
ppis = map (λ (r : Row). r.ppi)

-- rows are their four columns
rezip : (rs : List Row) → zipped (heads rs) (tsns rs) (ids rs) (ppis rs) ≡ rs
unfolding zipped
rezip [] = refl
rezip (r ∷ rs) = ap (λ (l : List Row). r ∷ l) (rezip rs)

-- and four columns of one length those of their rows
pub record Fields (hs ts is ps : List ℕ) (rs : List Row) : Type 0 where
  pub head : heads rs ≡ hs
  pub tsn : tsns rs ≡ ts
  pub id : ids rs ≡ is
  pub ppi : ppis rs ≡ ps

fields : (hs ts is ps : List ℕ) → length ts ≡ length hs → length is ≡ length hs → length ps ≡ length hs → Fields hs ts is ps (zipped hs ts is ps)
unfolding zipped
fields [] [] [] [] a b c = record { head = refl; tsn = refl; id = refl; ppi = refl }
fields [] (t ∷ ts) is ps a b c = absurd (omega arith)
fields [] [] (i ∷ is) ps a b c = absurd (omega arith)
fields [] [] [] (p ∷ ps) a b c = absurd (omega arith)
fields (h ∷ hs) [] is ps a b c = absurd (omega arith)
fields (h ∷ hs) (t ∷ ts) [] ps a b c = absurd (omega arith)
fields (h ∷ hs) (t ∷ ts) (i ∷ is) [] a b c = absurd (omega arith)
fields (h ∷ hs) (t ∷ ts) (i ∷ is) (p ∷ ps) a b c =
    let f = fields hs ts is ps (omega arith) (omega arith) (omega arith) in
    record {
      head = ap (λ (l : List ℕ). h ∷ l) f.head;
      tsn = ap (λ (l : List ℕ). t ∷ l) f.tsn;
      id = ap (λ (l : List ℕ). i ∷ l) f.id;
      ppi = ap (λ (l : List ℕ). p ∷ l) f.ppi;
    }

-- ── a field of changed rows is the field's column, changed ──

module _ {A B : Type 0} (f : A → B) where
  pub map-take : (n : ℕ) (xs : List A) → map f (take n xs) ≡ take n (map f xs)
  map-take zero xs = refl
  map-take (suc n) [] = refl
  map-take (suc n) (x ∷ xs) = ap (λ (l : List B). f x ∷ l) (map-take n xs)

  pub map-drop : (n : ℕ) (xs : List A) → map f (drop n xs) ≡ drop n (map f xs)
  map-drop zero xs = refl
  map-drop (suc n) [] = refl
  map-drop (suc n) (x ∷ xs) = map-drop n xs

  map-over : (xs vs : List A) → map f (over xs vs) ≡ over (map f xs) (map f vs)
  unfolding over
  map-over xs vs = simp (map-append, map-drop, length-map)

  map-put : (at n : ℕ) (new xs : List A) → map f (over xs (put at new (take n xs))) ≡ over (map f xs) (put at (map f new) (take n (map f xs)))
  unfolding put
  map-put at n new xs = map-over xs (put at new (take n xs)) ∙ simp (map-append, map-take, map-drop)

  map-gone : (at k n : ℕ) (xs : List A) → map f (over xs (gone at k (take n xs))) ≡ over (map f xs) (gone at k (take n (map f xs)))
  unfolding gone
  map-gone at k n xs = map-over xs (gone at k (take n xs)) ∙ simp (map-append, map-take, map-drop)

  pub map_turned : (a b c : ℕ) (xs : List A) → map f (turned a b c xs) ≡ turned a b c (map f xs)
  unfolding turned slice
  map_turned a b c xs = simp (map-append, map-take, map-drop)

-- ── edits within a column ──

-- f b edits the n words from place b on, and makes of a field of any rows that field of what e makes of the rows
pub record Edit (n : ℕ) (f : ℕ → List ℕ → List ℕ) (field : Row → ℕ) (e : List Row → List Row) : Type 0 where
  pub front : (c r : List ℕ) → length c ≡ n → f 0 (c ++ r) ≡ f 0 c ++ r
  pub behind : (c r : List ℕ) (b : ℕ) → f (length c + b) (c ++ r) ≡ c ++ f b r
  pub kept : (c : List ℕ) → length c ≡ n → length (f 0 c) ≡ n
  pub same : (rs : List Row) → f 0 (map field rs) ≡ map field (e rs)

over-front : (c r vs : List ℕ) → length vs ≤ length c → over (c ++ r) vs ≡ over c vs ++ r
unfolding over
over-front c r vs h = rw (drop-append-le (length vs) c r h, append_assoc)

over-behind : (c r vs : List ℕ) → over (c ++ r) (c ++ vs) ≡ c ++ over r vs
unfolding over
over-behind c r vs = rw (length-append, drop-append-add c r (length vs), append_assoc)

over-long : (c vs : List ℕ) → length vs ≤ length c → length (over c vs) ≡ length c
unfolding over
over-long c vs h = simp (length-append, length-drop) (omega arith)

-- the first m words up to a, then new, then the first m words from d on: what is put in and what is taken out
edit : ℕ → ℕ → ℕ → List ℕ → List ℕ → List ℕ
edit a d m new xs = take a (take m xs) ++ (new ++ drop d (take m xs))

module _ (c r new : List ℕ) (a d m : ℕ) where
  edit_behind : (a' d' m' : ℕ) → a' ≡ length c + a → d' ≡ length c + d → m' ≡ length c + m → over (c ++ r) (edit a' d' m' new (c ++ r)) ≡ c ++ over r (edit a d m new r)
  unfolding edit
  edit_behind a' d' m' e f g = rw (e, f, g, take-append-add c r m, take-append-add c (take m r) a, drop-append-add c (take m r) d, append_assoc) (over-behind c r _)

  module _ (h : m ≤ length c) (k : a + length new + m ≤ length c + d) (l : a + length new ≤ length c) where
    edit_fits : length (edit a d m new c) ≤ length c
    unfolding edit
    edit_fits = simp (length-append, length-take, length-drop) (omega arith)

    edit_front : over (c ++ r) (edit a d m new (c ++ r)) ≡ over c (edit a d m new c) ++ r
    unfolding edit
    edit_front = rw (take-append-le m c r h) (over-front c r _ edit_fits)

turned-behind : (p s : List ℕ) (a b c a' b' c' : ℕ) → a' ≡ length p + a → b' ≡ length p + b → c' ≡ length p + c → turned a' b' c' (p ++ s) ≡ p ++ turned a b c s
unfolding turned slice
turned-behind p s a b c a' b' c' e f g =
    rw (e, f, g, take-append-add p s a, take-append-add p s b, take-append-add p s c, drop-append-add p s c, drop-append-add p (take c s) b, drop-append-add p (take b s) a, append_assoc)

module _ (n m at : ℕ) (field : Row → ℕ) where
  put_edit : (r : Row) → at ≤ m → m < n → Edit n (λ b xs. over xs (put (b + at) (field r ∷ []) (take (b + m) xs))) field (λ rs. over rs (put at (r ∷ []) (take m rs)))
  unfolding put edit
  put_edit r h k =
      let y : 0 + at ≡ at = omega arith in
      let z : 0 + m ≡ m = omega arith in
      record {
        front = λ c s e. edit_front c s (field r ∷ []) (0 + at) (0 + at) (0 + m) (omega arith) (omega arith) (omega arith);
        behind = λ c s b. edit_behind c s (field r ∷ []) (b + at) (b + at) (b + m) (length c + b + at) (length c + b + at) (length c + b + m) (omega arith) (omega arith) (omega arith);
        kept = λ c e. over-long c _ (edit_fits c [] (field r ∷ []) (0 + at) (0 + at) (0 + m) (omega arith) (omega arith) (omega arith)) ∙ e;
        same = λ rs. rw (y, z) (sym (map-put field at m (r ∷ []) rs));
      }

  gone_edit : (k : ℕ) → at + k ≤ m → m ≤ n → Edit n (λ b xs. over xs (gone (b + at) k (take (b + m) xs))) field (λ rs. over rs (gone at k (take m rs)))
  unfolding gone edit
  gone_edit k h l =
      let y : 0 + at ≡ at = omega arith in
      let z : 0 + m ≡ m = omega arith in
      record {
        front = λ c s e. edit_front c s [] (0 + at) (0 + at + k) (0 + m) (omega arith) (omega arith) (omega arith);
        behind = λ c s b. edit_behind c s [] (b + at) (b + at + k) (b + m) (length c + b + at) (length c + b + at + k) (length c + b + m) (omega arith) (omega arith) (omega arith);
        kept = λ c e. over-long c _ (edit_fits c [] [] (0 + at) (0 + at + k) (0 + m) (omega arith) (omega arith) (omega arith)) ∙ e;
        same = λ rs. rw (y, z) (sym (map-gone field at k m rs));
      }

map-set : (field : Row → ℕ) (rs : List Row) (at : ℕ) (r : Row) → map field (set rs at r) ≡ set (map field rs) at (field r)
map-set field [] at r = refl
map-set field (x ∷ rs) zero r = refl
map-set field (x ∷ rs) (suc at) r = ap (λ (l : List ℕ). field x ∷ l) (map-set field rs at r)

set-behind : (c r : List ℕ) (i v : ℕ) → set (c ++ r) (length c + i) v ≡ c ++ set r i v
set-behind [] r i v = let e : 0 + i ≡ i = omega arith in rw e
set-behind (x ∷ c) r i v =
    let e : suc (length c) + i ≡ suc (length c + i) = omega arith in
    rw e (ap (λ (l : List ℕ). x ∷ l) (set-behind c r i v))

set_edit : (n at : ℕ) (field : Row → ℕ) (r : Row) → at < n → Edit n (λ b xs. set xs (b + at) (field r)) field (λ rs. set rs at r)
set_edit n at field r h =
    let y : 0 + at ≡ at = omega arith in
    record {
      front = λ c s e. set-append_left c s (0 + at) (field r) (omega arith);
      behind = λ c s b. let z : length c + b + at ≡ length c + (b + at) = omega arith in rw z (set-behind c s (b + at) (field r));
      kept = λ c e. length-set c (0 + at) (field r) ∙ e;
      same = λ rs. rw y (sym (map-set field rs at r));
    }

turn_edit : (n a b c : ℕ) (field : Row → ℕ) → a ≤ b → b ≤ c → c ≤ n → Edit n (λ o xs. turned (o + a) (o + b) (o + c) xs) field (λ rs. turned a b c rs)
unfolding turned slice
turn_edit n a b c field h k l =
    let x : 0 + a ≡ a = omega arith in
    let y : 0 + b ≡ b = omega arith in
    let z : 0 + c ≡ c = omega arith in
    record {
      front = λ p s e. turned_app (0 + a) (0 + b) (0 + c) (omega arith) (omega arith) p s (omega arith);
      behind = λ p s o. turned-behind p s (o + a) (o + b) (o + c) (length p + o + a) (length p + o + b) (length p + o + c) (omega arith) (omega arith) (omega arith);
      kept = λ p e. turned-long (0 + a) (0 + b) (0 + c) (omega arith) (omega arith) p (omega arith) ∙ e;
      same = λ rs. rw (x, y, z) (sym (map_turned field a b c rs));
    }

-- ── the four columns of a table ──

part : (n k q : ℕ) (ws : List ℕ) → q ≡ k + n → take n (drop k ws) ++ drop q ws ≡ drop k ws
part n k q ws e = rw (e, ← (drop-drop n k ws)) (take-append-drop n (drop k ws))

again : (n k q : ℕ) (ws : List ℕ) → q ≡ k + n → drop q ws ≡ drop n (drop k ws)
again n k q ws e = rw (e, drop-drop)

-- a table is its columns
joined : (n : ℕ) (ws : List ℕ) → length ws ≡ 4 * n → take n ws ++ (take n (drop n ws) ++ (take n (drop (2 * n) ws) ++ take n (drop (3 * n) ws))) ≡ ws
joined n ws e =
    rw (take_all n (drop (3 * n) ws) (rw length-drop (omega arith)), part n (2 * n) (3 * n) ws (omega arith), part n n (2 * n) ws (omega arith), take-append-drop n ws)

module _ {n : ℕ} (hs ts is ps : List ℕ) (a : length hs ≡ n) (b : length ts ≡ n) (c : length is ≡ n) (d : length ps ≡ n) where
  -- the rows of columns in one list
  rows-joined : rows_of n (hs ++ (ts ++ (is ++ ps))) ≡ zipped hs ts is ps
  unfolding rows_of
  rows-joined =
      rw (
        again n (2 * n) (3 * n) (hs ++ (ts ++ (is ++ ps))) (omega arith),
        again n n (2 * n) (hs ++ (ts ++ (is ++ ps))) (omega arith),
        drop_at hs (ts ++ (is ++ ps)) n a,
        drop_at ts (is ++ ps) n b,
        drop_at is ps n c,
        take_at hs (ts ++ (is ++ ps)) n a,
        take_at ts (is ++ ps) n b,
        take_at is ps n c,
        take_all n ps (omega arith),
      )

past : {n : ℕ} {f : ℕ → List ℕ → List ℕ} {field : Row → ℕ} {e : List Row → List Row} → Edit n f field e → (c r : List ℕ) (b q : ℕ) → length c ≡ n → q ≡ n + b → f q (c ++ r) ≡ c ++ f b r
past {f = f} w c r b q e k =
    let l : q ≡ length c + b = omega arith in
    rw l (w.behind c r b)

module _ (n : ℕ) (ws : List ℕ) (long : length ws ≡ 4 * n) where
  col : (k : ℕ) → k + n ≤ 4 * n → length (take n (drop k ws)) ≡ n
  col k h = length-take-le n (drop k ws) (rw length-drop (omega arith))

  first : length (take n ws) ≡ n
  first = length-take-le n ws (omega arith)

  -- the columns are the fields of the rows
  pub columns : Fields (take n ws) (take n (drop n ws)) (take n (drop (2 * n) ws)) (take n (drop (3 * n) ws)) (rows_of n ws)
  unfolding rows_of
  columns = fields _ _ _ _ (col n (omega arith) ∙ sym first) (col (2 * n) (omega arith) ∙ sym first) (col (3 * n) (omega arith) ∙ sym first)

  pub rows_long : length (rows_of n ws) ≡ n
  rows_long = sym (length-map (rows_of n ws) (λ (r : Row). r.head)) ∙ ap length columns.head ∙ first

  -- a table is its rows
  pub unrows : heads (rows_of n ws) ++ (tsns (rows_of n ws) ++ (ids (rows_of n ws) ++ ppis (rows_of n ws))) ≡ ws
  unrows = rw (columns.head, columns.tsn, columns.id, columns.ppi) (joined n ws long)

  -- an edit of each column is one of the rows
  module _ {f g u v : ℕ → List ℕ → List ℕ} {e : List Row → List Row}
      (wf : Edit n f (λ (r : Row). r.head) e) (wg : Edit n g (λ (r : Row). r.tsn) e) (wu : Edit n u (λ (r : Row). r.id) e) (wv : Edit n v (λ (r : Row). r.ppi) e) where
    pub rows_edited : rows_of n (v (3 * n) (u (2 * n) (g n (f 0 ws)))) ≡ e (rows_of n ws)
    rows_edited =
        let hs = heads (rows_of n ws) in
        let ts = tsns (rows_of n ws) in
        let is = ids (rows_of n ws) in
        let ps = ppis (rows_of n ws) in
        let a = ap length columns.head ∙ first in
        let b = ap length columns.tsn ∙ col n (omega arith) in
        let c = ap length columns.id ∙ col (2 * n) (omega arith) in
        let d = ap length columns.ppi ∙ col (3 * n) (omega arith) in
        let a' = wf.kept hs a in
        let b' = wg.kept ts b in
        let c' = wu.kept is c in
        ap (λ (l : List ℕ). rows_of n (v (3 * n) (u (2 * n) (g n (f 0 l))))) (sym unrows)
        ∙ rw (
          wf.front hs (ts ++ (is ++ ps)) a,
          past wg (f 0 hs) (ts ++ (is ++ ps)) 0 n a' (omega arith),
          wg.front ts (is ++ ps) b,
          past wu (f 0 hs) (g 0 ts ++ (is ++ ps)) n (2 * n) a' (omega arith),
          past wu (g 0 ts) (is ++ ps) 0 n b' (omega arith),
          wu.front is ps c,
          past wv (f 0 hs) (g 0 ts ++ (u 0 is ++ ps)) (2 * n) (3 * n) a' (omega arith),
          past wv (g 0 ts) (u 0 is ++ ps) n (2 * n) b' (omega arith),
          past wv (u 0 is) ps 0 n c' (omega arith),
        )
        (rows-joined (f 0 hs) (g 0 ts) (u 0 is) (v 0 ps) a' b' c' (wv.kept ps d)
        ∙ rw (wf.same (rows_of n ws), wg.same (rows_of n ws), wu.same (rows_of n ws), wv.same (rows_of n ws)) (rezip (e (rows_of n ws))))

-- equal rows, equal words
pub injective : (n : ℕ) (vs ws : List ℕ) → length vs ≡ 4 * n → length ws ≡ 4 * n → rows_of n vs ≡ rows_of n ws → vs ≡ ws
injective n vs ws h k e = sym (unrows n vs h) ∙ rw e (unrows n ws k)

-- ── rows put in, taken out, turned ──

module _ (n : ℕ) (ws : List ℕ) (long : length ws ≡ 4 * n) {w₁ w₂ w₃ w₄ : List ℕ} where
  module _ (m at : ℕ) where
    pub rows-put : (r : Row) → at ≤ m → m < n
        → w₁ ≡ over ws (put at (r.head ∷ []) (take m ws)) → w₂ ≡ over w₁ (put (n + at) (r.tsn ∷ []) (take (n + m) w₁))
        → w₃ ≡ over w₂ (put (2 * n + at) (r.id ∷ []) (take (2 * n + m) w₂)) → w₄ ≡ over w₃ (put (3 * n + at) (r.ppi ∷ []) (take (3 * n + m) w₃))
        → rows_of n w₄ ≡ over (rows_of n ws) (put at (r ∷ []) (take m (rows_of n ws)))
    rows-put r a b e f g q =
        let y : 0 + at ≡ at = omega arith in
        let z : 0 + m ≡ m = omega arith in
        let d : (field : Row → ℕ) → Edit n _ field _ = λ field. put_edit n m at field r a b in
        rw (q, g, f, e) (rw (y, z) at (rows_edited n ws long (d (λ (r : Row). r.head)) (d (λ (r : Row). r.tsn)) (d (λ (r : Row). r.id)) (d (λ (r : Row). r.ppi))))

    pub rows-gone : (k : ℕ) → at + k ≤ m → m ≤ n
        → w₁ ≡ over ws (gone at k (take m ws)) → w₂ ≡ over w₁ (gone (n + at) k (take (n + m) w₁))
        → w₃ ≡ over w₂ (gone (2 * n + at) k (take (2 * n + m) w₂)) → w₄ ≡ over w₃ (gone (3 * n + at) k (take (3 * n + m) w₃))
        → rows_of n w₄ ≡ over (rows_of n ws) (gone at k (take m (rows_of n ws)))
    rows-gone k a b e f g q =
        let y : 0 + at ≡ at = omega arith in
        let z : 0 + m ≡ m = omega arith in
        let d : (field : Row → ℕ) → Edit n _ field _ = λ field. gone_edit n m at field k a b in
        rw (q, g, f, e) (rw (y, z) at (rows_edited n ws long (d (λ (r : Row). r.head)) (d (λ (r : Row). r.tsn)) (d (λ (r : Row). r.id)) (d (λ (r : Row). r.ppi))))

  pub rows-set : (at : ℕ) (r : Row) → at < n → w₁ ≡ set ws at r.head → w₂ ≡ set w₁ (n + at) r.tsn → w₃ ≡ set w₂ (2 * n + at) r.id → w₄ ≡ set w₃ (3 * n + at) r.ppi
      → rows_of n w₄ ≡ set (rows_of n ws) at r
  rows-set at r h e f g q =
      let y : 0 + at ≡ at = omega arith in
      let d : (field : Row → ℕ) → Edit n _ field _ = λ field. set_edit n at field r h in
      rw (q, g, f, e) (rw y at (rows_edited n ws long (d (λ (r : Row). r.head)) (d (λ (r : Row). r.tsn)) (d (λ (r : Row). r.id)) (d (λ (r : Row). r.ppi))))

  pub rows-turned : (a b c : ℕ) → a ≤ b → b ≤ c → c ≤ n
      → w₁ ≡ turned a b c ws → w₂ ≡ turned (n + a) (n + b) (n + c) w₁ → w₃ ≡ turned (2 * n + a) (2 * n + b) (2 * n + c) w₂ → w₄ ≡ turned (3 * n + a) (3 * n + b) (3 * n + c) w₃
      → rows_of n w₄ ≡ turned a b c (rows_of n ws)
  rows-turned a b c h k l e f g q =
      let x : 0 + a ≡ a = omega arith in
      let y : 0 + b ≡ b = omega arith in
      let z : 0 + c ≡ c = omega arith in
      let d : (field : Row → ℕ) → Edit n _ field _ = λ field. turn_edit n a b c field h k l in
      rw (q, g, f, e) (rw (x, y, z) at (rows_edited n ws long (d (λ (r : Row). r.head)) (d (λ (r : Row). r.tsn)) (d (λ (r : Row). r.id)) (d (λ (r : Row). r.ppi))))
