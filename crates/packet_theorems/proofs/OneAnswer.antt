-- No second answer fits: what each answer tells can be taken back, so a promise that fixes what is told fixes the answer.
-- Assumes nothing.
use mathlib.Core.Path.{◌≡◌, refl, sym, ap, ◌∙◌}
use mathlib.Core.List.{List}
use Prim.Native.Nat.{ℕ}
use Rattle.std.specs.Prelude.{Result, Option, Some, None}
use Rattle.refusal.specs.declared.Refusal.{Refusal}
use Rattle.refusal.proofs.Reasons.{answer_back, answer_inverse}
use Rattle.wire.proofs.Exists.{Bytes}
use Rattle.packet_chunks.specs.Chunks.{Spot, chunk, finished, spot_of, step_at, step_told}
use Rattle.packet_chunks.specs.declared.Found.{Found}
use Rattle.packet.specs.Layout.{Common, common}
use Rattle.packet.specs.Header.{CommonFront, common_of, common_told, common_read}
use Rattle.packet.specs.declared.CommonHeader.{CommonHeader}
use Rattle.packet_theorems.proofs.Fronts.{common-some}

spot_back : Spot → Option Found
spot_back finished = None
spot_back (chunk end next) = Some (record { end = end; next = next })

spot_known : (f : Option Found) → spot_back (spot_of f) ≡ f
unfolding spot_back
spot_known (Some f) = refl
spot_known None = refl

pub step-told-one : {r s : Result (Option Found) Refusal} → step_told r ≡ step_told s → r ≡ s
step-told-one {r} {s} e = sym (answer_inverse finished spot_of spot_back spot_known r) ∙ ap (answer_back spot_back) e ∙ answer_inverse finished spot_of spot_back spot_known s

pub step-one : (packet : List ℕ) (at : ℕ) {r s : Result (Option Found) Refusal} → step_told r ≡ step_at packet at → step_told s ≡ step_at packet at → r ≡ s
step-one packet at p q = step-told-one (p ∙ sym q)

header-back : Common → CommonHeader
header-back c = record { source_port = c.source; destination_port = c.destination; verification_tag = c.tag }

header_known : (h : CommonHeader) → header-back (common_of h) ≡ h
unfolding header-back
header_known h = refl

pub header-told-one : {r s : Result CommonHeader Refusal} → common_told r ≡ common_told s → r ≡ s
header-told-one {r} {s} e =
    sym (answer_inverse (common 0 0 0) common_of header-back header_known r) ∙ ap (answer_back header-back) e ∙ answer_inverse (common 0 0 0) common_of header-back header_known s

pub header-one : (raw : List ℕ) → Bytes raw → {r s : Result CommonHeader Refusal}
    → ((f : CommonFront raw) → common_told r ≡ common_read raw f.fields) → ((f : CommonFront raw) → common_told s ≡ common_read raw f.fields) → r ≡ s
header-one raw by p q = let f = common-some raw by in header-told-one (p f ∙ sym (q f))
