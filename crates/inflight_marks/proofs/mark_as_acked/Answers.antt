-- `inflight_marks::mark_as_acked` meets its contract: an unsound queue is refused, and else the first held record with the TSN is marked and its length released.
use mathlib.Core.Path.{◌≡◌, sym, ap, ◌∙◌}
use mathlib.Core.Bool.{false}
use mathlib.Core.List.{List, []}
use Prim.Native.Nat.{ℕ, ◌<◌}
use native.Mathlib.Omega.{arith}
use lib.ListN.{length, set}
use Rattle.table.proofs.Columns.{rows_long}
use Rattle.payload_model.specs.Limits.{tsns_most}
use Rattle.payload_model.proofs.Laws.{Sound}
use Rattle.inflight_model.specs.Queue.{Queue, queue_of, unsound, with_head, marked_acked}
use Rattle.inflight_model.proofs.Laws.{as_tsns, sound}
use Rattle.inflight_model.proofs.Calls.{acked_none, acked_small, acked_one}
use Rattle.inflight_marks.proofs.mark_as_acked.Goals as goal

pub returns-then-unsound : goal.returns-then-unsound
unfolding marked_acked
returns-then-unsound c ms = rw (sym (c.unsound.ensures ms) ∙ c.if-unsound.true)

pub find_tsn-at-requires : goal.find_tsn-at-requires
find_tsn-at-requires c =
    let of : List ℕ → Queue = λ ms. queue_of c.args.counts.now c.args.table.now ms in
    let is_sound : (ms : List ℕ) → unsound (of ms) ≡ false = λ ms. sym (c.unsound.ensures ms) ∙ c.if-unsound.false in
    let ok : (ms : List ℕ) → Sound (as_tsns (of ms)) = λ ms. sound (of ms) (is_sound ms) in
    record {
      table_len = omega arith;
      n_bound = omega (arith, (ok []).few);
    }

pub returns-then-count-at : goal.returns-then-count-at
returns-then-count-at c ms =
    let of : List ℕ → Queue = λ ms. queue_of c.args.counts.now c.args.table.now ms in
    let is_sound : (ms : List ℕ) → unsound (of ms) ≡ false = λ ms. sym (c.unsound.ensures ms) ∙ c.if-unsound.false in
    let long : (ms : List ℕ) → length (of ms).rows ≡ tsns_most = λ ms. rows_long tsns_most c.args.table.now (omega arith) in
    acked_none (of ms) (is_sound ms) (long ms) c.args.tsn c.find_tsn-at.result c.find_tsn-at.ensures c.if-count-at.true

pub row_at-row-requires : goal.row_at-row-requires
row_at-row-requires c =
    let of : List ℕ → Queue = λ ms. queue_of c.args.counts.now c.args.table.now ms in
    let is_sound : (ms : List ℕ) → unsound (of ms) ≡ false = λ ms. sym (c.unsound.ensures ms) ∙ c.if-unsound.false in
    let ok : (ms : List ℕ) → Sound (as_tsns (of ms)) = λ ms. sound (of ms) (is_sound ms) in
    let within : c.find_tsn-at.result < tsns_most = omega (arith, c.if-count-at.false, (ok []).few) in
    record {
      table_len = omega arith;
      i_lt_size = within;
    }

pub set_row-requires : goal.set_row-requires
set_row-requires c =
    let of : List ℕ → Queue = λ ms. queue_of c.args.counts.now c.args.table.now ms in
    let is_sound : (ms : List ℕ) → unsound (of ms) ≡ false = λ ms. sym (c.unsound.ensures ms) ∙ c.if-unsound.false in
    let ok : (ms : List ℕ) → Sound (as_tsns (of ms)) = λ ms. sound (of ms) (is_sound ms) in
    let within : c.find_tsn-at.result < tsns_most = omega (arith, c.if-count-at.false, (ok []).few) in
    record {
      table_len = omega arith;
      at_lt_size = within;
    }

pub overflow_sub-counts : goal.overflow_sub-counts
overflow_sub-counts c =
    let of : List ℕ → Queue = λ ms. queue_of c.args.counts.now c.args.table.now ms in
    let is_sound : (ms : List ℕ) → unsound (of ms) ≡ false = λ ms. sym (c.unsound.ensures ms) ∙ c.if-unsound.false in
    let long : (ms : List ℕ) → length (of ms).rows ≡ tsns_most = λ ms. rows_long tsns_most c.args.table.now (omega arith) in
    omega (arith, acked_small (of []) (is_sound []) (long []) c.args.tsn c.find_tsn-at.result c.find_tsn-at.ensures (omega (arith, c.if-count-at.false)) c.row_at-row.result c.row_at-row.ensures)

pub returns : goal.returns
returns c ms =
    let of : List ℕ → Queue = λ ms. queue_of c.args.counts.now c.args.table.now ms in
    let is_sound : (ms : List ℕ) → unsound (of ms) ≡ false = λ ms. sym (c.unsound.ensures ms) ∙ c.if-unsound.false in
    let long : (ms : List ℕ) → length (of ms).rows ≡ tsns_most = λ ms. rows_long tsns_most c.args.table.now (omega arith) in
    let q = of ms in
    let row = c.row_at-row.result in
    let rows = c.set_row.ensures ∙ ap (λ h. set q.rows c.find_tsn-at.result (with_head h row)) c.acked_head.ensures in
    acked_one q (is_sound ms) (long ms) c.args.tsn c.find_tsn-at.result c.find_tsn-at.ensures (omega (arith, c.if-count-at.false)) row c.row_at-row.ensures rows
