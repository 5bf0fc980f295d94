-- `reassembly_turn::ready` meets its contract: the rows of the first SSN are the first ordered set, and the passes over them say whether it can be taken.
use mathlib.Core.Path.{◌≡◌, refl, sym, ◌∙◌}
use mathlib.Core.Bool.{Bool, true, false, cond}
use mathlib.Core.List.{List, []}
use Prim.Native.Nat.{ℕ, ◌+◌, ◌%◌, ◌<◌, ◌≤◌}
use native.Mathlib.Omega.{arith}
use lib.ListN.{length, take, drop}
use Rattle.table.specs.Rows.{rows_of}
use Rattle.table.proofs.Columns.{rows_long}
use Rattle.fragments.specs.Frag.{of_row}
use Rattle.fragment_sets.specs.Sets.{other_ssn}
use Rattle.reassembly_state.specs.Limits.{frags_most}
use Rattle.reassembly_state.specs.Model.{ready_set}
use Rattle.reassembly_state.specs.State.{State, state_of, view}
use Rattle.reassembly_turn.proofs.Turn.{ahead-front, ready_none, ready_is}
use Rattle.reassembly_turn.proofs.ready.Goals as goal

pub returns-then-queue-eq0 : goal.returns-then-queue-eq0
returns-then-queue-eq0 c =
    let of : List ℕ → State = λ pool. state_of c.args.queue c.args.table.now pool in
    let full : (pool : List ℕ) → length (of pool).rows ≡ frags_most = λ pool. rows_long frags_most c.args.table.now c.requires.table_len in
    (omega arith, λ pool. ready_none (of pool) c.requires.queue_bound (full pool) c.if-queue-eq0.true)

pub returns-then-sna16lt : goal.returns-then-sna16lt
returns-then-sna16lt c =
    let of : List ℕ → State = λ pool. state_of c.args.queue c.args.table.now pool in
    let full : (pool : List ℕ) → length (of pool).rows ≡ frags_most = λ pool. rows_long frags_most c.args.table.now c.requires.table_len in
    let some : 0 < c.args.queue.ordered = omega (arith, c.if-queue-eq0.false) in
    (omega arith, λ pool. ready_is (of pool) c.requires.queue_bound (full pool) c.row_at-first.result _ true _ some c.row_at-first.ensures refl (sym c.sna16lt.ensures ∙ c.if-sna16lt.true) refl)

pub is_complete-requires : goal.is_complete-requires
is_complete-requires c =
    let within : c.run_ssn-run.result ≤ c.args.queue.ordered = let a = c.args in omega (arith, c.run_ssn-run.ensures, ahead-front (of_row (other_ssn (c.row_at-first.result.id % 65536))) a.queue.ordered (drop (a.queue.finished + a.queue.unordered) (rows_of frags_most a.table.now))) in
    omega (arith, within)

pub returns-then-is_complete : goal.returns-then-is_complete
returns-then-is_complete c =
    let within : c.run_ssn-run.result ≤ c.args.queue.ordered = let a = c.args in omega (arith, c.run_ssn-run.ensures, ahead-front (of_row (other_ssn (c.row_at-first.result.id % 65536))) a.queue.ordered (drop (a.queue.finished + a.queue.unordered) (rows_of frags_most a.table.now))) in
    let of : List ℕ → State = λ pool. state_of c.args.queue c.args.table.now pool in
    let full : (pool : List ℕ) → length (of pool).rows ≡ frags_most = λ pool. rows_long frags_most c.args.table.now c.requires.table_len in
    let some : 0 < c.args.queue.ordered = omega (arith, c.if-queue-eq0.false) in
    let set : (b : Bool) → c.is_complete.result ≡ b → (pool : List ℕ) → (ready_set c.args.queue.next_ssn (view (of pool)).ordered ≡ cond b (take c.run_ssn-run.result (view (of pool)).ordered) []) = λ b e pool. ready_is (of pool) c.requires.queue_bound (full pool) c.row_at-first.result c.run_ssn-run.result false b some c.row_at-first.ensures c.run_ssn-run.ensures (sym c.sna16lt.ensures ∙ c.if-sna16lt.false) (sym c.is_complete.ensures ∙ e) in
    (within, set true c.if-is_complete.true)

pub returns : goal.returns
returns c =
    let of : List ℕ → State = λ pool. state_of c.args.queue c.args.table.now pool in
    let full : (pool : List ℕ) → length (of pool).rows ≡ frags_most = λ pool. rows_long frags_most c.args.table.now c.requires.table_len in
    let some : 0 < c.args.queue.ordered = omega (arith, c.if-queue-eq0.false) in
    let set : (b : Bool) → c.is_complete.result ≡ b → (pool : List ℕ) → (ready_set c.args.queue.next_ssn (view (of pool)).ordered ≡ cond b (take c.run_ssn-run.result (view (of pool)).ordered) []) = λ b e pool. ready_is (of pool) c.requires.queue_bound (full pool) c.row_at-first.result c.run_ssn-run.result false b some c.row_at-first.ensures c.run_ssn-run.ensures (sym c.sna16lt.ensures ∙ c.if-sna16lt.false) (sym c.is_complete.ensures ∙ e) in
    (omega arith, set false c.if-is_complete.false)
