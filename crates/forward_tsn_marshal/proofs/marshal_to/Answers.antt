-- `forward_tsn_marshal::marshal_to` meets its contract: what does not fit is refused, and else header, point and pairs stand one behind the other.
use mathlib.Core.Bool.{not, ◌||◌, or-true}
use mathlib.Core.List.{List, [], ◌∷◌}
use Prim.Native.Nat.{ℕ}
use borrow.Author.Tests.{lt-ltb, le-ltb, eq-eqb, ne_eqb}
use lib.Dec.{ltb, eqb}
use lib.ListN.{length}
use Rattle.wire_model.specs.Refusal.{Check, when}
use Rattle.wire.proofs.Writing.{write_short, write_done}
use Rattle.forward_tsn_entries.specs.Layout.{forward_tsn_chunk}
use Rattle.forward_tsn_marshal.specs.Written.{forward_written}
use Rattle.forward_tsn_marshal.proofs.ForwardBytes.{forward-chunk-length, forward-put}
use Rattle.forward_tsn_marshal.proofs.marshal_to.Goals as goal

abbrev nine : List ℕ → List ℕ → List Check
nine streams ssns = when (ltb 16381 (length streams) || not (eqb (length streams) (length ssns))) 9 ∷ []

pub returns-then-streams-gt16381 : goal.returns-then-streams-gt16381
unfolding forward_written
returns-then-streams-gt16381 c = rw (lt-ltb 16381 _ c.if-streams-gt16381.true)

pub returns-then-streams-sequences : goal.returns-then-streams-sequences
unfolding forward_written
returns-then-streams-sequences c = rw (ne_eqb _ _ c.if-streams-sequences.true, or-true)

pub returns-then-out-size : goal.returns-then-out-size
unfolding forward_written
returns-then-out-size c =
    let a = c.args in
    let point = a.new_cumulative_tsn in
    let streams = a.identifiers.now in
    let ssns = a.sequences.now in
    write_short (nine streams ssns) (forward_tsn_chunk 0 point streams ssns) a.out.now
    (rw (le-ltb 16381 _ c.if-streams-gt16381.false, eq-eqb _ _ c.if-streams-sequences.false))
    (forward-chunk-length 0 point streams ssns c.if-streams-sequences.false) c.if-out-size.true

pub returns : goal.returns
unfolding forward_written
returns c =
    let a = c.args in
    let out = a.out.now in
    let point = a.new_cumulative_tsn in
    let streams = a.identifiers.now in
    let ssns = a.sequences.now in
    let same = c.if-streams-sequences.false in
    write_done (nine streams ssns) (forward_tsn_chunk 0 point streams ssns) out
    (rw (le-ltb 16381 _ c.if-streams-gt16381.false, eq-eqb _ _ same))
    (forward-chunk-length 0 point streams ssns same) c.if-out-size.false
    (forward-put 0 point streams ssns same out c.put_front_4.ensures c.put_pairs.ensures)
