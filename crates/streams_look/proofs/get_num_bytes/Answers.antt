-- `streams_look::get_num_bytes` meets its contract: the byte count of a sound stream is the sum of what it holds.
use mathlib.Core.Path.{◌≡◌, sym, ◌∙◌}
use mathlib.Core.Bool.{false}
use Prim.Native.Nat.{◌*◌}
use native.Mathlib.Omega.{arith}
use borrow.Author.Rules.{rules}
use lib.ListN.{length}
use Rattle.table.proofs.Columns.{rows_long}
use Rattle.fragments.specs.Words.{size}
use Rattle.reassembly_state.specs.Limits.{frags_most}
use Rattle.reassembly_state.specs.Model.{held}
use Rattle.streams_model.specs.State.{state_of, unsound, own, num_bytes}
use Rattle.streams_model.proofs.Laws.{sound}
use Rattle.streams_look.proofs.Looks.{Finds, bytes_found, look_unsound, look_no_stream, look_at, bytes_said_lem}
use Rattle.streams_look.proofs.get_num_bytes.Goals as goal

pub returns-then-unsound : goal.returns-then-unsound
returns-then-unsound c =
    let of = state_of c.args.streams c.args.table.now c.args.pool.now in
    let finds : Finds 0 (size (held (own of c.args.stream))) of c.args.stream (num_bytes of c.args.stream) = bytes_found of c.args.stream in
    look_unsound finds (sym c.unsound.ensures ∙ c.if-unsound.true)

pub returns-then-number-ge-STREAMS : goal.returns-then-number-ge-STREAMS
returns-then-number-ge-STREAMS c =
    let of = state_of c.args.streams c.args.table.now c.args.pool.now in
    let finds : Finds 0 (size (held (own of c.args.stream))) of c.args.stream (num_bytes of c.args.stream) = bytes_found of c.args.stream in
    let safe : unsound of ≡ false = sym c.unsound.ensures ∙ c.if-unsound.false in
    look_no_stream finds safe (omega (arith, c.if-number-ge-STREAMS.true))

pub returns : goal.returns
returns c =
    let of = state_of c.args.streams c.args.table.now c.args.pool.now in
    let finds : Finds 0 (size (held (own of c.args.stream))) of c.args.stream (num_bytes of c.args.stream) = bytes_found of c.args.stream in
    let safe : unsound of ≡ false = sym c.unsound.ensures ∙ c.if-unsound.false in
    let sized : length c.args.table.now ≡ 4 * frags_most = search rules in
    let full : length of.rows ≡ frags_most = rows_long frags_most c.args.table.now sized in
    look_at finds safe (omega (arith, c.if-number-ge-STREAMS.false))
    (bytes_said_lem of (sound of safe) full c.args.stream (omega (arith, c.if-number-ge-STREAMS.false)) c.at-own.ensures)
