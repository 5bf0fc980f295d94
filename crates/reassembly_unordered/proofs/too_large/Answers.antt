-- `reassembly_unordered::too_large` meets its contract: the message has no more bytes than are held, and where these might be too many, it is measured.
use mathlib.Core.Path.{sym, ap, ◌∙◌}
use Prim.Native.Nat.{ℕ, ◌+◌}
use lib.Dec.{ltb}
use Rattle.table.specs.Rows.{rows_of}
use Rattle.reassembly_state.specs.Limits.{frags_most}
use Rattle.reassembly_loose.proofs.Loose.{not_large}
use Rattle.reassembly_unordered.proofs.too_large.Goals as goal

pub returns-then-not-above : goal.returns-then-not-above
returns-then-not-above c =
    let a = c.args in
    not_large a.queue (rows_of frags_most a.table.now) c.requires.queue_bound a.chunk a.more c.requires.table_value (sym c.above.ensures ∙ c.if-not-above.true)

pub returns : goal.returns
returns c =
    let a = c.args in
    c.above-2.ensures ∙ ap (λ (n : ℕ). ltb a.queue.max_message_size (n + a.more)) c.reach-bytes.ensures
