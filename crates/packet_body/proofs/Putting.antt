-- Where a writer of lent chunks stands, and what it knows of the chunk that comes next.
-- Assumes nothing.
use mathlib.Core.Path.{◌≡◌, refl, ap, ◌∙◌}
use mathlib.Core.List.{List, [], ◌++◌}
use Prim.Native.Nat.{ℕ, ◌+◌, ◌<◌, ◌≤◌}
use native.Mathlib.Omega.{arith}
use lib.ListN.{length, take, drop, length-append}
use Rattle.wire_model.specs.BigEndian.{over}
use Rattle.wire_model.specs.Refusal.{none, first}
use Rattle.wire_model.specs.Facts.{over-length}
use Rattle.packet_parts.specs.Fronts.{front_size, front_checks, rounded}
use Rattle.packet_body.specs.Lent.{lent_checks, padded, body}
use Rattle.packet_body.proofs.Padding.{padded-length}
use Rattle.packet_body.proofs.Passing.{Passing, begin, done_within, passes_here, chunk-room, chunk-length, turn}

-- the chunks of the first from bytes stand at the front, to bytes with their padding
pub record Put (out₀ lent out : List ℕ) (from to : ℕ) : Type 0 where
  pub good : first (lent_checks lent) ≡ none
  pub room : length (body lent) ≤ length out₀
  pub kept : length out ≡ length out₀
  pub done : List ℕ
  pub long : length done ≡ to
  pub pass : Passing lent from done
  pub is : out ≡ over out₀ done

pub put_none : {out lent : List ℕ} → first (lent_checks lent) ≡ none → length (body lent) ≤ length out → Put out lent out 0 0
unfolding over
put_none {lent = lent} g r = record { good = g; room = r; kept = refl; done = []; long = refl; pass = begin lent; is = refl }

-- the next chunk, of n bytes: it lies within what is lent, and fits behind what stands
pub record Next (lent out done : List ℕ) (from to n : ℕ) : Type 0 where
  pub four : 4 ≤ n
  pub within : from + n ≤ length lent
  pub size : length (take n (drop from lent)) ≡ n
  pub long : length (padded (take n (drop from lent))) ≡ rounded n
  pub room : to + rounded n ≤ length out
  pub more : Passing lent (from + n) (done ++ padded (take n (drop from lent)))

module _ {out₀ lent out : List ℕ} {from to : ℕ} (p : Put out₀ lent out from to) (h : from < length lent) where
  good_here : first (front_checks (drop from lent)) ≡ none
  good_here = passes_here p.pass h p.good

  pub header_within : from + 4 ≤ length lent
  header_within = let r = chunk-room p.pass h good_here refl in omega arith

  module _ {n : ℕ} (s : n ≡ front_size (drop from lent)) where
    pub next : Next lent out p.done from to n
    next =
        let r = chunk-room p.pass h good_here s in
        let size = chunk-length p.pass h good_here s in
        let long = padded-length (take n (drop from lent)) ∙ ap rounded size in
        let more = turn p.pass h good_here s in
        let all = simp length-append at (done_within more) in
        record { four = r.0; within = r.1; size = size; long = long; room = omega (arith, p.room, p.kept, p.long); more = more }

    -- that chunk is put behind what stands
    pub put_next : {out' : List ℕ} {to' : ℕ} → out' ≡ over out₀ (p.done ++ padded (take n (drop from lent))) → to' ≡ to + rounded n → Put out₀ lent out' (from + n) to'
    put_next e t =
        let x = next in
        let all = done_within x.more in
        record {
          good = p.good;
          room = p.room;
          kept = ap length e ∙ over-length out₀ (p.done ++ padded (take n (drop from lent))) (omega (arith, p.room));
          done = p.done ++ padded (take n (drop from lent));
          long = rw (length-append, p.long, x.long, t);
          pass = x.more;
          is = e;
        }
