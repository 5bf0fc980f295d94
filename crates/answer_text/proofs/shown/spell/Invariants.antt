-- Room is left for the numbers in front.
use Rattle.std.proofs.Common.{◌*◌, ◌≤◌}
use Rattle.answer_text.proofs.shown.spell.Given as goal

abbrev pub invariant-loop-i : goal.invariant-loop-i
invariant-loop-i g l = (21 * l.i ≤ l.at) × (l.at ≤ 672)
