-- `sack_fields::read` meets its contract: the header and the counts decide what is refused, and else the fields are those in front.
use mathlib.Core.Path.{ap, ◌∙◌}
use Prim.Native.Nat.{◌+◌, ◌*◌, ◌<◌, ◌≤◌}
use borrow.Author.Rules.{rules}
use borrow.Author.Tests.{lt-ltb, le-ltb}
use native.Mathlib.Omega.{arith}
use lib.ListN.{length}
use Rattle.std.proofs.lemmas.Result.{err_from_is_err_and}
use Rattle.refusal.specs.declared.Refusal.TheVariants.{ShortSack}
use Rattle.wire.proofs.Reading.{first-refused, first-passed}
use Rattle.chunk.specs.Layout.{Header}
use Rattle.sack_entries.specs.Layout.{Sack, SackFits, sack_value}
use Rattle.chunk.specs.Header.{kind_checks}
use Rattle.sack_fields.specs.Sack.{lists_only, sack_held, sack_read}
use Rattle.chunk.proofs.Headers.{header-front, told_short, told-refused, told-taken}
use Rattle.sack_fields.proofs.read.Goals as goal

pub returns-in_err-header-clause-result_value : goal.returns-in_err-header-clause-result_value
unfolding sack_read
returns-in_err-header-clause-result_value c f =
    let lent = length c.args.raw.now in
    let h = f.fields.header in
    let told = told_short ShortSack (λ e d p. search rules) c.unmarshal_as.result c.map_err.result c.map_err.ensures.cases ∙ c.unmarshal_as.ensures.result_value 5 (header-front sack_value SackFits 12 f) in
    let e = err_from_is_err_and c.from_residual.result c.from_residual.ensures.1 in
    rw (e.1, e.2, first-refused (kind_checks 3 16 5 lent h) (lists_only f.fields) (told-refused (kind_checks 3 16 5 lent h) h (rw c.in_err-header.was at told)))

pub returns-then-length-blocks-clause-result_value : goal.returns-then-length-blocks-clause-result_value
unfolding sack_held sack_read
returns-then-length-blocks-clause-result_value c f =
    let h = f.fields.header in
    let told = told_short ShortSack (λ e d p. search rules) c.unmarshal_as.result c.map_err.result c.map_err.ensures.cases ∙ c.unmarshal_as.ensures.result_value 5 (header-front sack_value SackFits 12 f) in
    let t = told-taken (kind_checks 3 16 5 (length c.args.raw.now) h) h (rw c.in_ok-header.was at told) in
    let s = c.fields-sack.ensures f in
    let size = ap (λ (x : Header). x.size) t.1 in
    let n = ap (λ (x : Sack). x.blocks) s in
    let x = ap (λ (x : Sack). x.duplicates) s in
    let few : h.size < 16 + 4 * f.fields.fields.blocks + 4 * f.fields.fields.duplicates = omega (arith, size, c.if-length-blocks.true) in
    rw (first-passed (kind_checks 3 16 5 (length c.args.raw.now) h) (lists_only f.fields) t.0, lt-ltb _ _ few)

pub returns-clause-result_value : goal.returns-clause-result_value
unfolding sack_held sack_read
returns-clause-result_value c f =
    let h = f.fields.header in
    let told = told_short ShortSack (λ e d p. search rules) c.unmarshal_as.result c.map_err.result c.map_err.ensures.cases ∙ c.unmarshal_as.ensures.result_value 5 (header-front sack_value SackFits 12 f) in
    let t = told-taken (kind_checks 3 16 5 (length c.args.raw.now) h) h (rw c.in_ok-header.was at told) in
    let s = c.fields-sack.ensures f in
    let size = ap (λ (x : Header). x.size) t.1 in
    let n = ap (λ (x : Sack). x.blocks) s in
    let x = ap (λ (x : Sack). x.duplicates) s in
    let all : 16 + 4 * f.fields.fields.blocks + 4 * f.fields.fields.duplicates ≤ h.size = omega (arith, size, c.if-length-blocks.false) in
    rw (first-passed (kind_checks 3 16 5 (length c.args.raw.now) h) (lists_only f.fields) t.0, le-ltb _ _ all, ← s)
