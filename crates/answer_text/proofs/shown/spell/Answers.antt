-- `shown::spell` meets its contract: a number of 64 bits has at most twenty digits.
use Rattle.std.proofs.Common.{arith}
use Rattle.std.proofs.lemmas.Fmt.{length-decimal-le}
use Rattle.answer_text.proofs.shown.spell.Goals as goal

pub write_digits-at-requires : goal.write_digits-at-requires
write_digits-at-requires g c =
    let n = c.into.result in
    let short = length-decimal-le 20 n (omega arith) (omega arith) (omega arith) in
    (omega arith, omega arith)

pub overflow_sub-at : goal.overflow_sub-at
overflow_sub-at g c =
    let n = c.into.result in
    let short = length-decimal-le 20 n (omega arith) (omega arith) (omega arith) in
    let start = c.write_digits-at.ensures.start in
    omega arith

pub loop-i-preserved : goal.loop-i-preserved
loop-i-preserved g c =
    let n = c.into.result in
    let short = length-decimal-le 20 n (omega arith) (omega arith) (omega arith) in
    let start = c.write_digits-at.ensures.start in
    (omega arith, omega arith)
