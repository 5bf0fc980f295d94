-- `cause_parts::cause_at` meets its contract: each `return` is the first check that holds.
use Prim.Native.Nat.{◌≤◌}
use mathlib.Core.Path.{◌≡◌}
use borrow.Author.Rules.{rules}
use lib.ListN.{length, drop, length-drop}
use Rattle.cause_parts.specs.Causes.{cause_size}
use Rattle.cause_parts.proofs.Fronts.{code_read, size-read, too_few, too_small, too_long, cause_passes}
use Rattle.cause_parts.proofs.cause_at.Goals as goal

pub returns-then-left-lt4 : goal.returns-then-left-lt4
returns-then-left-lt4 c = let a = c.args in too_few (drop a.at a.raw.now) (rw length-drop c.if-left-lt4.true)

pub returns-then-size-lt4 : goal.returns-then-size-lt4
returns-then-size-lt4 c =
    let seen : (let a = c.args in let bytes = drop a.at a.raw.now in (4 ≤ length bytes) × (c.get_u16-size.result ≡ cause_size bytes)) = let a = c.args in (rw length-drop c.if-left-lt4.false, size-read a.raw.now a.at c.get_u16-size.result (search rules) c.get_u16-size.ensures) in
    let a = c.args in
    let s = seen in
    too_small (drop a.at a.raw.now) s.0 (rw s.1 at c.if-size-lt4.true)

pub returns-then-left-size : goal.returns-then-left-size
returns-then-left-size c =
    let seen : (let a = c.args in let bytes = drop a.at a.raw.now in (4 ≤ length bytes) × (c.get_u16-size.result ≡ cause_size bytes)) = let a = c.args in (rw length-drop c.if-left-lt4.false, size-read a.raw.now a.at c.get_u16-size.result (search rules) c.get_u16-size.ensures) in
    let a = c.args in
    let s = seen in
    too_long (drop a.at a.raw.now) s.0 (rw s.1 at c.if-size-lt4.false) (rw (length-drop, ← s.1) c.if-left-size.true)

pub returns : goal.returns
returns c =
    let seen : (let a = c.args in let bytes = drop a.at a.raw.now in (4 ≤ length bytes) × (c.get_u16-size.result ≡ cause_size bytes)) = let a = c.args in (rw length-drop c.if-left-lt4.false, size-read a.raw.now a.at c.get_u16-size.result (search rules) c.get_u16-size.ensures) in
    let a = c.args in
    let bytes = drop a.at a.raw.now in
    let s = seen in
    let within : c.get_u16-size.result ≤ length bytes = rw length-drop c.if-left-size.false in
    record {
      passes = cause_passes bytes s.0 (rw s.1 at c.if-size-lt4.false) (rw s.1 at within);
      code = code_read a.raw.now a.at c.get_u16-code.result (search rules) c.get_u16-code.ensures;
      size = s.1;
      four = c.if-size-lt4.false;
      within = within;
    }
