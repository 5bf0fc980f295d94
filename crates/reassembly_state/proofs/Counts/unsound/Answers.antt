-- `reassembly_state::Counts::unsound` meets its contract: the counts are tested one by one, then the pool, then the sum.
use native.Mathlib.Omega.{arith}
use borrow.Author.Tests.{lt-ltb, le-ltb}
use Rattle.reassembly_state.specs.Limits.{frags_most}
use Rattle.reassembly_state.specs.State.{count, unsound}
use Rattle.reassembly_state.proofs.Counts.unsound.Goals as goal

pub returns-then-self-gt-FRAGMENTS : goal.returns-then-self-gt-FRAGMENTS
unfolding unsound
returns-then-self-gt-FRAGMENTS c = let q = c.args.self in rw (lt-ltb frags_most (count q) (omega arith))

pub returns-then-left-self : goal.returns-then-left-self
unfolding unsound
returns-then-left-self c = let q = c.args.self in rw (lt-ltb frags_most (count q) (omega arith))

pub returns-then-left-self-2 : goal.returns-then-left-self-2
unfolding unsound
returns-then-left-self-2 c = let q = c.args.self in rw (lt-ltb frags_most (count q) (omega arith))

pub returns-then-room-lt-BYTES : goal.returns-then-room-lt-BYTES
unfolding unsound
returns-then-room-lt-BYTES c = let q = c.args.self in rw (le-ltb frags_most (count q) (omega arith), lt-ltb _ _ c.if-room-lt-BYTES.true)

pub returns-then-room-sum : goal.returns-then-room-sum
unfolding unsound
returns-then-room-sum c =
    let q = c.args.self in
    rw (le-ltb frags_most (count q) (omega arith), le-ltb _ _ c.if-room-lt-BYTES.false, ← c.sum_long-sum.ensures, lt-ltb _ _ c.if-room-sum.true)

pub returns : goal.returns
unfolding unsound
returns c =
    let q = c.args.self in
    rw (le-ltb frags_most (count q) (omega arith), le-ltb _ _ c.if-room-lt-BYTES.false, ← c.sum_long-sum.ensures, le-ltb _ _ c.if-room-sum.false)
