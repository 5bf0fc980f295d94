-- What a call of the TSN queue leaves beside its result.
-- Assumes nothing.
use mathlib.Core.Path.{◌≡◌, sym, ap, ◌∙◌}
use mathlib.Core.List.{List}
use Prim.Native.Nat.{ℕ}
use Rattle.wire_model.specs.Refusal.{Told}
use Rattle.payload_model.specs.Queue as tsns
use Rattle.payload_model.specs.Log.{with_log, left_with_log, noted, left_noted}
use Rattle.payload_queue.specs.Queue.{queue_of}
use Rattle.payload_queue.specs.declared.PayloadQueue.{PayloadQueue}
use Rattle.sctp_receive_counts.specs.States.{tsn_counts, tsns_from}

-- equal answers and equal counts, over the same words, are the same outcome ..
pub tsns-left : {A : Type 0} {t u : Told A} {p q : PayloadQueue} (ws : List ℕ) → t ≡ u → p ≡ q → tsns.after t (queue_of p ws) ≡ tsns.after u (queue_of q ws)
tsns-left {t = t} {q = q} ws e f = ap (λ (x : PayloadQueue). tsns.after t (queue_of x ws)) f ∙ ap (λ (x : Told _). tsns.after x (queue_of q ws)) e

-- .. also where the counts alone are put back, and the log stays as it was ..
counts-left : {A : Type 0} {t u : Told A} {count bytes dups : ℕ} {p : PayloadQueue} (log ws : List ℕ) → t ≡ u → tsn_counts count bytes dups p.counts.dup_tsn ≡ p → tsns.after t (tsns_from count bytes dups log ws) ≡ tsns.after u (with_log log (queue_of p ws))
counts-left {t = t} {p = p} log ws e f =
    ap (λ (x : PayloadQueue). tsns.after t (with_log log (queue_of x ws))) f ∙ ap (λ (x : Told _). tsns.after x (with_log log (queue_of p ws))) e

pub log_kept : {A : Type 0} {t u : Told A} {count bytes dups : ℕ} {p : PayloadQueue} {o o' : tsns.After A} (log ws : List ℕ) → t ≡ u → tsn_counts count bytes dups p.counts.dup_tsn ≡ p → tsns.after u (queue_of p ws) ≡ o → o' ≡ left_with_log log o → tsns.after t (tsns_from count bytes dups log ws) ≡ o'
log_kept log ws e f g h = counts-left log ws e f ∙ ap (left_with_log log) g ∙ sym h

-- .. or has a TSN more
pub log_noted : {A : Type 0} {t u : Told A} {count bytes dups : ℕ} {p : PayloadQueue} {o o' : tsns.After A} {log' : List ℕ} (log : List ℕ) (at tsn : ℕ) (ws : List ℕ) → t ≡ u → tsn_counts count bytes dups p.counts.dup_tsn ≡ p → log' ≡ noted log at p.counts.dups tsn → tsns.after u (queue_of p ws) ≡ o → o' ≡ left_noted log at tsn o → tsns.after t (tsns_from count bytes dups log' ws) ≡ o'
log_noted {t = t} {count = count} {bytes = bytes} {dups = dups} {p = p} log at tsn ws e f l g h =
    ap (λ (x : List ℕ). tsns.after t (tsns_from count bytes dups x ws)) l ∙ counts-left (noted log at p.counts.dups tsn) ws e f ∙ ap (left_noted log at tsn) g ∙ sym h
