-- `chunk_selective_ack::gap_ack_blocks` meets its contract: what reading the fields says decides, and the part is what N says.
use mathlib.Core.Path.{◌≡◌, ap}
use Prim.Native.Nat.{◌+◌, ◌*◌, ◌-◌}
use native.Mathlib.Omega.{arith}
use lib.ListN.{length}
use Rattle.std.proofs.lemmas.Result.{err_from_is_err_and}
use Rattle.sack_entries.specs.Layout.{Sack}
use Rattle.chunk_selective_ack.specs.Sack.{sack_held, blocks_part}
use Rattle.sack_fields.proofs.Answers.{sack-refused, sack-taken}
use Rattle.chunk_selective_ack.proofs.gap_ack_blocks.Goals as goal

pub returns-in_err-s : goal.returns-in_err-s
unfolding blocks_part
returns-in_err-s c f =
    let e = err_from_is_err_and c.from_residual.result c.from_residual.ensures.1 in
    rw (e.1, e.2, sack-refused (length c.args.raw.now) f.fields (c.in_err-s.ensures.result_value f))

pub returns : goal.returns
unfolding blocks_part sack_held
returns c f =
    let t = sack-taken (length c.args.raw.now) f.fields (c.in_ok-s.ensures.result_value f) in
    let n = c.in_ok-s.s.gap_ack_blocks in
    let size : 16 + 4 * n - 16 ≡ 4 * n = omega arith in
    rw (t.0, size, ap (λ (x : Sack). x.blocks) t.1)
