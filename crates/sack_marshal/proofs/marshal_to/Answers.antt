-- `sack_marshal::marshal_to` meets its contract: what does not fit is refused, and else header, fields, blocks and duplicates stand one behind the other.
use mathlib.Core.Bool.{not, ◌||◌, or-true}
use mathlib.Core.List.{List, [], ◌∷◌}
use Prim.Native.Nat.{ℕ, ◌+◌}
use borrow.Author.Tests.{lt-ltb, le-ltb, eq-eqb, ne_eqb}
use lib.Dec.{ltb, eqb}
use lib.ListN.{length}
use Rattle.wire_model.specs.Refusal.{Check, when}
use Rattle.wire.proofs.Writing.{write_short, write_done}
use Rattle.sack_entries.specs.Layout.{sack_value, sack_chunk}
use Rattle.sack_marshal.specs.Written.{sack_written}
use Rattle.sack_marshal.proofs.SackBytes.{sack-chunk-length, sack-put}
use Rattle.sack_marshal.proofs.marshal_to.Goals as goal

abbrev nine : List ℕ → List ℕ → List ℕ → List Check
nine starts ends duplicates = when (ltb 16379 (length starts + length duplicates) || not (eqb (length starts) (length ends))) 9 ∷ []

pub returns-then-blocks-tsns-gt16379 : goal.returns-then-blocks-tsns-gt16379
unfolding sack_written
returns-then-blocks-tsns-gt16379 c = rw (lt-ltb 16379 _ c.if-blocks-tsns-gt16379.true)

pub returns-then-blocks-ends : goal.returns-then-blocks-ends
unfolding sack_written
returns-then-blocks-ends c = rw (ne_eqb _ _ c.if-blocks-ends.true, or-true)

pub returns-then-out-size : goal.returns-then-out-size
unfolding sack_written
returns-then-out-size c =
    let a = c.args in
    let starts = a.starts.now in
    let ends = a.ends.now in
    let duplicates = a.duplicates.now in
    write_short (nine starts ends duplicates) (sack_chunk 0 a.cumulative a.window starts ends duplicates []) a.out.now
    (rw (le-ltb 16379 _ c.if-blocks-tsns-gt16379.false, eq-eqb _ _ c.if-blocks-ends.false))
    (sack-chunk-length a.cumulative a.window starts ends duplicates c.if-blocks-ends.false) c.if-out-size.true

pub returns : goal.returns
unfolding sack_value sack_written
returns c =
    let a = c.args in
    let out = a.out.now in
    let starts = a.starts.now in
    let ends = a.ends.now in
    let duplicates = a.duplicates.now in
    let same = c.if-blocks-ends.false in
    write_done (nine starts ends duplicates) (sack_chunk 0 a.cumulative a.window starts ends duplicates []) out
    (rw (le-ltb 16379 _ c.if-blocks-tsns-gt16379.false, eq-eqb _ _ same))
    (sack-chunk-length a.cumulative a.window starts ends duplicates same) c.if-out-size.false
    (sack-put a.cumulative a.window starts ends duplicates same out c.put_front_4422.ensures c.put_pairs_and_words.ensures)
