-- `replay_file::record_at` meets its contract: each test is the definition's, and the length that is read is the number of the first two bytes.
use mathlib.Core.Path.{◌≡◌}
use native.Mathlib.Omega.{arith}
use Rattle.replay_file.specs.File.{number}
use Rattle.replay_file.proofs.Numbers.{number_read}
use Rattle.replay_file.proofs.Starts.{starts_none, starts_short, starts-cut, starts-chunk}
use Rattle.replay_file.proofs.record_at.Goals as goal

pub returns-then-left-eq0 : goal.returns-then-left-eq0
returns-then-left-eq0 c = starts_none c.args.rest.now c.if-left-eq0.true

pub returns-then-left-lt2 : goal.returns-then-left-lt2
returns-then-left-lt2 c = starts_short c.args.rest.now c.if-left-eq0.false c.if-left-lt2.true

pub returns-then-left-size : goal.returns-then-left-size
returns-then-left-size c =
    let size : c.get_u16-size.result ≡ number 2 c.args.rest.now = number_read 2 c.args.rest.now (λ i. (c.type_inv.rest i).fits) (omega arith) (omega arith) c.get_u16-size.ensures in
    starts-cut c.args.rest.now c.if-left-lt2.false size c.if-left-size.true

pub returns : goal.returns
returns c =
    let size : c.get_u16-size.result ≡ number 2 c.args.rest.now = number_read 2 c.args.rest.now (λ i. (c.type_inv.rest i).fits) (omega arith) (omega arith) c.get_u16-size.ensures in
    starts-chunk c.args.rest.now c.if-left-lt2.false size c.if-left-size.false
