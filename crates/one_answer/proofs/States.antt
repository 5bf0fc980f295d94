-- A state has one struct, one table of words and one pool of bytes.
-- Assumes nothing.
use mathlib.Core.Path.{◌≡◌, ap}
use mathlib.Core.List.{List}
use Prim.Native.Nat.{ℕ, ◌*◌}
use lib.ListN.{length}
use Rattle.table.proofs.Columns.{injective}
use Rattle.payload_model.specs.Limits.{tsns_most}
use Rattle.payload_model.specs.Queue.{Queue}
use Rattle.payload_queue.specs.Queue.{queue_of}
use Rattle.payload_queue.specs.declared.PayloadQueue.{PayloadQueue}
use Rattle.inflight_model.specs.Queue as flight-state
use Rattle.inflight_queue.specs.Queue as flight
use Rattle.inflight_queue.specs.declared.InFlightQueue.{InFlightQueue}
use Rattle.reassembly_state.specs.Limits.{frags_most}
use Rattle.reassembly_state.specs.State.{State}
use Rattle.reassembly_queue.specs.Queue.{state_of}
use Rattle.reassembly_queue.specs.declared.ReassemblyQueue.{ReassemblyQueue}

-- ── the TSN queue ──

-- the length that the type of the lent array gives
abbrev pub TsnWords : List ℕ → Type 0
TsnWords ws = length ws ≡ 4 * tsns_most

module _ (q p : PayloadQueue) (ws vs : List ℕ) (e : queue_of q ws ≡ queue_of p vs) where
  pub tsn_struct_one : q ≡ p
  tsn_struct_one = ap (λ (s : Queue). record { counts = record { count = s.count; n_bytes = s.bytes; dups = s.dups; dup_tsn = s.log } }) e

  pub tsn-words-one : TsnWords ws → TsnWords vs → ws ≡ vs
  tsn-words-one h k = injective tsns_most ws vs h k (ap (λ (s : Queue). s.rows) e)

-- ── the in-flight queue: the table is of the same words ──

module _ (q p : InFlightQueue) (ws vs ms ns : List ℕ) (e : flight.queue_of q ws ms ≡ flight.queue_of p vs ns) where
  pub flight_struct_one : q ≡ p
  flight_struct_one = ap (λ (s : flight-state.Queue). record { counts = record { count = s.count; n_bytes = s.bytes } }) e

  pub flight_words_one : TsnWords ws → TsnWords vs → ws ≡ vs
  flight_words_one h k = injective tsns_most ws vs h k (ap (λ (s : flight-state.Queue). s.rows) e)

  pub flight_numbers_one : ms ≡ ns
  flight_numbers_one = ap (λ (s : flight-state.Queue). s.messages) e

-- ── the reassembly queue ──

abbrev pub FragmentWords : List ℕ → Type 0
FragmentWords ws = length ws ≡ 4 * frags_most

module _ (q p : ReassemblyQueue) (ws vs pool pool' : List ℕ) (e : state_of q ws pool ≡ state_of p vs pool') where
  pub rq_struct_one : q ≡ p
  rq_struct_one = ap (λ (s : State). record { counts = s.queue }) e

  pub rq_words_one : FragmentWords ws → FragmentWords vs → ws ≡ vs
  rq_words_one h k = injective frags_most ws vs h k (ap (λ (s : State). s.rows) e)

  pub rq_pool_one : pool ≡ pool'
  rq_pool_one = ap (λ (s : State). s.pool) e
