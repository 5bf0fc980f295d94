-- `cause_report::list` meets its contract: the dry pass decides, and where nothing is refused a pass for each list writes what it counted.
use mathlib.Core.Path.{sym, ◌∙◌}
use lib.ListN.{drop}
use Rattle.std.proofs.lemmas.Result.{err_from_is_err_and}
use Rattle.cause_parts.specs.Causes.{causes}
use Rattle.cause_parts.specs.Lists.{lists}
use Rattle.cause_report.proofs.Reports.{fault_listed, short_listed, no_fault, all_listed}
use Rattle.cause_report.proofs.list.Goals as goal

pub returns-in_err-n : goal.returns-in_err-n
returns-in_err-n c =
    let a = c.args in
    let e = err_from_is_err_and c.from_residual.result c.from_residual.ensures.1 in
    rw (e.1, e.2) (fault_listed (causes 0 4 (drop 4 a.raw.now)) (lists a.codes.now a.depths.now a.starts.now a.sizes.now) c.in_err-n.ensures)

pub returns-then-lacks : goal.returns-then-lacks
returns-then-lacks c =
    let a = c.args in
    short_listed (causes 0 4 (drop 4 a.raw.now)) (lists a.codes.now a.depths.now a.starts.now a.sizes.now) c.in_ok-n.ensures (sym c.lacks.ensures ∙ c.if-lacks.true)

pub returns-in_err-read_causes : goal.returns-in_err-read_causes
returns-in_err-read_causes c =
    let a = c.args in
    absurd (no_fault (causes 0 4 (drop 4 a.raw.now)) (lists a.codes.now a.depths.now a.starts.now a.sizes.now) c.in_ok-n.ensures c.in_err-read_causes.ensures.result_value)

pub returns-in_err-read_causes-2 : goal.returns-in_err-read_causes-2
returns-in_err-read_causes-2 c =
    let a = c.args in
    absurd (no_fault (causes 0 4 (drop 4 a.raw.now)) (lists a.codes.now a.depths.now a.starts.now a.sizes.now) c.in_ok-n.ensures c.in_err-read_causes-2.ensures.result_value)

pub returns-in_err-read_causes-3 : goal.returns-in_err-read_causes-3
returns-in_err-read_causes-3 c =
    let a = c.args in
    absurd (no_fault (causes 0 4 (drop 4 a.raw.now)) (lists a.codes.now a.depths.now a.starts.now a.sizes.now) c.in_ok-n.ensures c.in_err-read_causes-3.ensures.result_value)

pub returns : goal.returns
returns c =
    let a = c.args in
    all_listed (causes 0 4 (drop 4 a.raw.now)) (lists a.codes.now a.depths.now a.starts.now a.sizes.now) c.in_ok-n.ensures (sym c.lacks.ensures ∙ c.if-lacks.false)
    c.read_causes-4.ensures.result_value c.in_ok-read_causes.ensures.list_after c.in_ok-read_causes-2.ensures.list_after c.in_ok-read_causes-3.ensures.list_after c.read_causes-4.ensures.list_after
