-- What is put is what std writes of the number, which is its decimal digits.
use Rattle.replay_words.proofs.Digits.{spells-decimal, few-decimal}
use native.Mathlib.Omega.{arith}
use Rattle.replay_words.proofs.decimal_at.Goals as goal

pub returns-clause-behind : goal.returns-clause-behind
returns-clause-behind c =
    let digits = spells-decimal 20 c.args.n (omega (arith, c.ranges.n.fits)) (few-decimal c.args.n c.ranges.n.fits) in
    rw (c.as_bytes.ensures.value, c.format.ensures.text, ← digits) at c.put_at.ensures
