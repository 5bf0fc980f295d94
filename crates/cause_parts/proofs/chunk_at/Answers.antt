-- `cause_parts::chunk_at` meets its contract: the header in front of the value decides.
use Prim.Native.Nat.{ℕ, ◌+◌, ◌<◌}
use mathlib.Core.List.{List}
use native.Mathlib.Omega.{arith}
use lib.ListN.{length, drop, drop_of_length-le}
use lib.Seq.{get_or-drop}
use Rattle.std.proofs.lemmas.Result.{err_from_is_err_and}
use Rattle.wire.proofs.Writing.{left-whole}
use Rattle.wire.proofs.Exists.{Bytes}
use Rattle.chunk.specs.Header.{HeaderFront}
use Rattle.chunk.proofs.Headers.{told-refused, told-taken}
use Rattle.packet_parts.specs.Fronts.{front_header, front_checks}
use Rattle.packet_parts.proofs.Fronts.{header-there}
use Rattle.cause_parts.proofs.Fronts.{chunk-refused, error_followed, abort_followed, not_followed, empty_holds_none}
use Rattle.cause_parts.proofs.chunk_at.Goals as goal

-- the header in front of what is left stands there
abbrev there : (raw : List ℕ) (at : ℕ) → Bytes raw → HeaderFront (drop at raw)
there raw at bytes = header-there (drop at raw) (λ i. rw (get_or-drop at raw i 0) (bytes (at + i)))

pub returns-then-at-raw : goal.returns-then-at-raw
returns-then-at-raw c = let a = c.args in empty_holds_none (drop a.at a.raw.now) (drop_of_length-le a.raw.now {i = a.at} (omega arith))

pub returns-in_err-front : goal.returns-in_err-front
returns-in_err-front c =
    let raw = c.args.raw.now in
    let at = c.args.at in
    let bytes = drop at raw in
    let some : at < length raw = omega arith in
    let e = err_from_is_err_and c.from_residual.result c.from_residual.ensures.1 in
    let told = (rw (left-whole raw at) at c.in_err-front.ensures) (there raw at (λ i. (c.type_inv.raw i).fits)) in
    rw (e.1, e.2) (chunk-refused raw at some (told-refused (front_checks bytes) (front_header bytes) told))

pub returns-then-kind-eq-ERROR : goal.returns-then-kind-eq-ERROR
returns-then-kind-eq-ERROR c =
    let raw = c.args.raw.now in
    let at = c.args.at in
    let h = c.in_ok-front.front in
    let some : at < length raw = omega arith in
    let told = (rw (left-whole raw at) at c.in_ok-front.ensures) (there raw at (λ i. (c.type_inv.raw i).fits)) in
    let t = told-taken (front_checks (drop at raw)) (front_header (drop at raw)) told in
    error_followed raw at some h.typ h.flags h.length t.0 t.1 c.if-kind-eq-ERROR.true

pub returns-then-kind-eq-ABORT : goal.returns-then-kind-eq-ABORT
returns-then-kind-eq-ABORT c =
    let raw = c.args.raw.now in
    let at = c.args.at in
    let h = c.in_ok-front.front in
    let some : at < length raw = omega arith in
    let told = (rw (left-whole raw at) at c.in_ok-front.ensures) (there raw at (λ i. (c.type_inv.raw i).fits)) in
    let t = told-taken (front_checks (drop at raw)) (front_header (drop at raw)) told in
    abort_followed raw at some h.typ h.flags h.length t.0 t.1 c.if-kind-eq-ERROR.false c.if-kind-eq-ABORT.true

pub returns : goal.returns
returns c =
    let raw = c.args.raw.now in
    let at = c.args.at in
    let h = c.in_ok-front.front in
    let some : at < length raw = omega arith in
    let told = (rw (left-whole raw at) at c.in_ok-front.ensures) (there raw at (λ i. (c.type_inv.raw i).fits)) in
    let t = told-taken (front_checks (drop at raw)) (front_header (drop at raw)) told in
    not_followed raw at some h.typ h.flags h.length t.0 t.1 c.if-kind-eq-ERROR.false c.if-kind-eq-ABORT.false
