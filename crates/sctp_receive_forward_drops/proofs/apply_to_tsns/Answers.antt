-- `apply_to_tsns` answers and leaves what the call below it does, in which the log plays no part.
use mir.Syntax.{w32}
use mir.Facts.{to_z-of_z}
use Rattle.sctp_receive_counts.proofs.Left.{log_kept}
use Rattle.sctp_receive_forward_drops.proofs.Log.{applied_to_tsns_log}
use Rattle.sctp_receive_forward_drops.proofs.apply_to_tsns.Goals as goal

pub returns-in-Ok : goal.returns-in-Ok
returns-in-Ok c = log_kept c.args.dup_tsn.now _ (rw c.in-Ok.is) c.put_counts.ensures (rw c.of_counts-queue.ensures at c.apply_to_tsns-answer.ensures) (applied_to_tsns_log _ _ _ _)

pub returns-in-Err : goal.returns-in-Err
returns-in-Err c =
    let back = to_z-of_z {w = w32} {z = c.refused.result} (record { sfits = c.refused.type_inv }) in
    log_kept c.args.dup_tsn.now _ (rw (c.in-Err.is, back, c.refused.ensures)) c.put_counts.ensures (rw c.of_counts-queue.ensures at c.apply_to_tsns-answer.ensures) (applied_to_tsns_log _ _ _ _)
