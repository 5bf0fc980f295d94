-- A header at the front of lent bytes: what is read of it are its fields; and what chunks of all types share.
-- Assumes nothing.
use mathlib.Core.Path.{◌≡◌, refl, sym, ap, ◌∙◌}
use mathlib.Core.Bool.{Bool, true, false, ◌||◌, true≢false}
use mathlib.Core.List.{List, ◌++◌, append_assoc}
use Prim.Native.Nat.{ℕ, ◌+◌, ◌-◌, ◌≤◌}
use native.Mathlib.Omega.{arith}
use borrow.Author.Tests.{eq-eqb, le-ltb, ltb-false, eqb-true, not-false}
use lib.ListN.{length, take, drop, length-append, length-drop}
use lib.Seq.{length-take-le, take-add, drop_at}
use denote.Ref.{Bor}
use borrow.Rule.Slice.PartMut.{mid_of, put_mid}
use Rattle.std.specs.Prelude.{Result, Ok, Err, MatchResult, IsErrAnd}
use Rattle.std.proofs.lemmas.Result.{err_from_is_err_and}
use Rattle.wire_model.specs.BigEndian.{big_endian, over}
use Rattle.wire_model.specs.Refusal.{Check, none, refuse, first, Told, says}
use Rattle.wire.specs.Front.{Front}
use Rattle.wire.proofs.Reading.{Whole, whole-front, shorter, begins_with, refused, accepted, first-refused, first-passed, none_holds}
use Rattle.wire.proofs.Writing.{behind}
use Rattle.refusal.specs.declared.Refusal as reasons
use Rattle.refusal.specs.Told.{number}
use Rattle.chunk.specs.declared.chunk_header.ChunkHeader.{ChunkHeader}
use Rattle.chunk.specs.declared.chunk_header.Unfit.{Unfit}
use Rattle.chunk.specs.declared.chunk_header.Unfit.TheVariants.{Refused, Below}
use Rattle.chunk.specs.Layout.{Header, header, header_bytes, chunk}
use Rattle.chunk.specs.Header.{HeaderFront, kind_checks, header_told, header_as_told, short_as, header_read, Headed, HeadedFits, headed_bytes}
use Rattle.chunk.specs.Part.{Part, part_of}

pub header-length : (h : Header) → length (header_bytes h) ≡ 4
unfolding big_endian header_bytes
header-length h = refl

-- the header, and n bytes of fields behind it, that the lent bytes begin with
abbrev pub FieldsFront : {A : Type 0} → (A → List ℕ) → (A → Type 0) → ℕ → List ℕ → Type 0
FieldsFront value Fits n raw = Front (headed_bytes value) (HeadedFits Fits) (4 + n) raw

-- what begins with a header and fields begins with the header
abbrev pub header-front : {A : Type 0} (value : A → List ℕ) (Fits : A → Type 0) (n : ℕ) {raw : List ℕ} → FieldsFront value Fits n raw → HeaderFront raw
header-front value Fits n {raw} f =
    let h = f.fields.header in
    record { fields = h; fits = f.fits.header; begins = shorter raw (header_bytes h) (value f.fields.fields) (4 + n) 4 (omega arith) (header-length h) f.begins }

-- where so many bytes are lent, the header and the fields stand there whole
pub headed_whole : {A : Type 0} (value : A → List ℕ) (Fits : A → Type 0) (n : ℕ) {raw : List ℕ} (f : FieldsFront value Fits n raw) → length (value f.fields.fields) ≡ n → 4 + n ≤ length raw
    → Whole raw (headed_bytes value f.fields) (4 + n)
headed_whole value Fits n f sized long = record { long = long; sized = simp (length-append, header-length, sized); begins = f.begins }

pub header-whole : {raw : List ℕ} (f : HeaderFront raw) → 4 ≤ length raw → Whole raw (header_bytes f.fields) 4
header-whole f long = record { long = long; sized = header-length f.fields; begins = f.begins }

-- ── what an answer says of the checks ──

abbrev nothing : Header
nothing = header 0 0 0

module _ (cs : List Check) (h : Header) where
  pub told-refused : {k : ℕ} → says (refuse k) nothing ≡ header_read cs h → first cs ≡ refuse k
  unfolding header_read
  told-refused t = refused nothing h (first cs) t

  -- the checks pass, and the header is the one in front
  pub told-taken : {x : Header} → says none x ≡ header_read cs h → (first cs ≡ none) × (x ≡ h)
  unfolding header_read
  told-taken t = accepted nothing h (first cs) t

-- told with the number of its type, an answer says what one that may be unfit says with that number
pub told_short : (short : reasons.Refusal) {Q : Unfit → reasons.Refusal → Type 0} → ((e : Unfit) (d : reasons.Refusal) → Q e d → d ≡ short_as short e) → (r : Result ChunkHeader Unfit) (s : Result ChunkHeader reasons.Refusal)
    → MatchResult r (λ h. s ≡ Ok h) (λ e. IsErrAnd s (Q e)) → header_told s ≡ header_as_told (number short) r
told_short short says_so (Ok h) s e = rw e
told_short short says_so (Err Below) s e = let p = err_from_is_err_and s e in rw (p.1, says_so Below p.0 p.2)
told_short short says_so (Err (Refused k)) s e = let p = err_from_is_err_and s e in rw (p.1, says_so (Refused k) p.0 p.2)

-- ── checks behind a header's own ──

-- A header was read by the checks `cs`, and `more` are asked of it next: what `cs` refuse is refused; what they let through is what `more` say of the header that was read.
module _ (cs : List Check) (more : Header → List Check) (h : Header) where
  pub more-refused : {k : ℕ} → says (refuse k) nothing ≡ header_read cs h → says (refuse k) nothing ≡ header_read (cs ++ more h) h
  unfolding header_read
  more-refused t = rw (first-refused cs (more h) (told-refused cs h t))

  module _ {x : Header} (t : says none x ≡ header_read cs h) where
    decided : first (cs ++ more h) ≡ first (more x)
    decided = let u = told-taken cs h t in first-passed cs (more h) u.0 ∙ ap (λ (y : Header). first (more y)) (sym u.1)

    pub more_failed : {k : ℕ} → first (more x) ≡ refuse k → says (refuse k) nothing ≡ header_read (cs ++ more h) h
    unfolding header_read
    more_failed f = rw (decided, f)

    pub more-passed : first (more x) ≡ none → says none x ≡ header_read (cs ++ more h) h
    unfolding header_read
    more-passed f = rw (decided, f) (ap (says none) (told-taken cs h t).1)

-- ── a header that passes ──

pub record Passed (kind least lent : ℕ) (h : Header) : Type 0 where
  pub same : h.kind ≡ kind
  pub four : 4 ≤ h.size
  pub enough : least ≤ h.size
  pub within : h.size ≤ lent

either : (a b : Bool) → a || b ≡ false → (a ≡ false) × (b ≡ false)
either true b e = absurd (true≢false e)
either false b e = (refl, e)

pub passes : (kind least short lent : ℕ) (h : Header) → first (kind_checks kind least short lent h) ≡ none → Passed kind least lent h
passes kind least short lent h e =
    let n = none_holds (kind_checks kind least short lent h) e in
    let sizes = either _ _ n.1.0 in
    record {
      same = eqb-true _ _ (not-false _ n.1.1.0);
      four = ltb-false _ _ sizes.0;
      enough = ltb-false _ _ n.1.1.1.0;
      within = ltb-false _ _ sizes.1;
    }

pub passed : (kind least short lent : ℕ) (h : Header) → Passed kind least lent h → first (kind_checks kind least short lent h) ≡ none
passed kind least short lent h p =
    rw (le-ltb lent 4 (omega (arith, p.four, p.within)), le-ltb h.size 4 p.four, le-ltb lent h.size p.within, eq-eqb h.kind kind p.same, le-ltb h.size least p.enough)

-- ── a chunk with n bytes of fields ──

-- it is its header, its fields, and what lies behind them
pub chunk-parts : (kind flags n : ℕ) (value more : List ℕ) → length value ≡ n → (header_bytes (header kind flags (4 + n + length more)) ++ value) ++ more ≡ chunk kind flags (value ++ more)
chunk-parts kind flags n value more sized =
    let size : 4 + length (value ++ more) ≡ 4 + n + length more = rw length-append (omega arith) in
    rw (append_assoc, size)

-- it stands in a buffer once its header and fields are put at the front, and the rest into what is left behind them
pub chunk-put : (kind flags n : ℕ) (value more out₀ : List ℕ) {out ys : List ℕ} → length value ≡ n → out ≡ over out₀ (header_bytes (header kind flags (4 + n + length more)) ++ value)
    → ys ≡ over (mid_of (4 + n) (length out - (4 + n)) out) more → put_mid (4 + n) (length out - (4 + n)) out ys ≡ over out₀ (chunk kind flags (value ++ more))
chunk-put kind flags n value more out₀ sized e f =
    behind out₀ (header_bytes (header kind flags (4 + n + length more)) ++ value) more (4 + n) (simp (length-append, header-length, sized)) e f
    ∙ ap (over out₀) (chunk-parts kind flags n value more sized)

-- what passes is, up to its length, the chunk of the fields in front and of what lies behind them
pub headed_accepted : {A : Type 0} (value : A → List ℕ) (Fits : A → Type 0) (kind n : ℕ) {raw : List ℕ} (f : FieldsFront value Fits n raw) → length (value f.fields.fields) ≡ n
    → Passed kind (4 + n) (length raw) f.fields.header
    → take f.fields.header.size raw ≡ chunk kind f.fields.header.flags (value f.fields.fields ++ take (f.fields.header.size - (4 + n)) (drop (4 + n) raw))
headed_accepted value Fits kind n {raw} f sized p =
    let h = f.fields.header in
    let v = value f.fields.fields in
    let left = h.size - (4 + n) in
    let more = take left (drop (4 + n) raw) in
    let front : take (4 + n) raw ≡ header_bytes h ++ v = whole-front (headed_whole value Fits n f sized (omega (arith, p.enough, p.within))) in
    let long : h.size ≡ 4 + n + left = omega (arith, p.enough) in
    let size : length more ≡ left = length-take-le left (drop (4 + n) raw) (rw length-drop (omega (arith, p.within))) in
    let head : header_bytes h ≡ header_bytes (header kind h.flags (4 + n + length more)) =
    ap (λ (k : ℕ). header_bytes (header k h.flags h.size)) p.same ∙ ap (λ (k : ℕ). header_bytes (header kind h.flags k)) (omega arith) in
    ap (λ (k : ℕ). take k raw) long ∙ take-add (4 + n) left raw ∙ ap (λ (x : List ℕ). x ++ more) (front ∙ ap (λ (x : List ℕ). x ++ v) head) ∙ chunk-parts kind h.flags n v more sized

-- such a chunk, whatever follows it
module _ {A : Type 0} (value : A → List ℕ) (kind flags n : ℕ) (a : A) (more rest : List ℕ) (sized : length (value a) ≡ n) where
  abbrev bytes : List ℕ
  bytes = chunk kind flags (value a ++ more) ++ rest

  abbrev head : Headed A
  head = record { header = header kind flags (4 + n + length more); fields = a }

  head-size : length (headed_bytes value head) ≡ 4 + n
  head-size = simp (length-append, header-length, sized)

  parts : bytes ≡ headed_bytes value head ++ (more ++ rest)
  parts = ap (λ (x : List ℕ). x ++ rest) (sym (chunk-parts kind flags n (value a) more sized)) ∙ append_assoc (headed_bytes value head) more rest

  -- it begins with its header and its fields
  pub chunk-begins : take (4 + n) bytes ≡ take (length bytes) (headed_bytes value head)
  chunk-begins = rw parts (begins_with (headed_bytes value head) (more ++ rest) (4 + n) head-size)

  -- so they are the fields in front
  abbrev pub chunk_front : {Fits : A → Type 0} → HeadedFits Fits head → FieldsFront value Fits n bytes
  chunk_front fits = record { fields = head; fits = fits; begins = chunk-begins }

  -- and the rest of it lies behind them
  pub chunk-behind : drop (4 + n) bytes ≡ more ++ rest
  chunk-behind = rw parts (drop_at (headed_bytes value head) (more ++ rest) (4 + n) head-size)

  -- no check of its type refuses it
  pub chunk_passes : (short : ℕ) → first (kind_checks kind (4 + n) short (length bytes) head.header) ≡ none
  chunk_passes short =
      let long : 4 + n + length more ≤ length bytes = simp (length-append, header-length, sized) (omega arith) in
      passed kind (4 + n) short (length bytes) head.header (record { same = refl; four = omega arith; enough = omega arith; within = long })

-- ── a part of a chunk ──

-- where nothing is refused it has the bytes that stand there
pub part-back : (checks : ℕ → List Check) (start size : ℕ) (raw : Bor (List ℕ)) {bytes : List ℕ} {t : Told Part} → raw.now ≡ bytes → first (checks (length bytes)) ≡ none
    → t ≡ part_of (first (checks (length raw.now))) start size raw → (t.refusal ≡ none) × (t.values.bytes ≡ take size (drop start bytes))
part-back checks start size raw e n q = let t = rw (e, n) at q in (ap (λ (x : Told Part). x.refusal) t, ap (λ (x : Told Part). x.values.bytes) t)
