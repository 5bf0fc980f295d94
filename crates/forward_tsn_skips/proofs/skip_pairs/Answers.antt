-- `forward_tsn_skips::skip_pairs` meets its contract: after i turns what is left to skip are the pairs from i on.
use mathlib.Core.Path.{refl, sym, ◌∙◌}
use borrow.Author.Rules.{rules}
use native.Mathlib.Omega.{arith}
use Rattle.forward_tsn_skips.proofs.Skips.{pair-front, skip_turn, skip_done}
use Rattle.forward_tsn_skips.proofs.skip_pairs.Goals as goal

pub loop-i-init : goal.loop-i-init
loop-i-init c = (refl, λ f. refl)

pub loop-i-preserved : goal.loop-i-preserved
loop-i-preserved c =
    let part = c.args.part.now in
    let i = c.loop-i.i in (
      search rules,
      λ f. skip_turn part f i (omega arith) _ _ (c.skip_at.ensures (pair-front part f i (omega arith))) ∙ c.loop-i.invariant.1 f,
    )

pub returns : goal.returns
returns c f = sym (skip_done c.args.part.now f c.loop-i.i (omega arith) _) ∙ c.loop-i.invariant.1 f
