-- Eight counts by value, as a list.
-- Assumes nothing.
use Rattle.std.specs.Prelude.{ℕ, List, [], ◌∷◌}
use Rattle.reassembly_state.specs.declared.Counts.{Counts}
use Rattle.streams_model.specs.declared.Streams.{Streams}

abbrev pub queues_of : Streams → List Counts
queues_of s = s.s0 ∷ s.s1 ∷ s.s2 ∷ s.s3 ∷ s.s4 ∷ s.s5 ∷ s.s6 ∷ s.s7 ∷ []

-- a fresh queue expects SSN 0 and holds nothing
abbrev pub fresh : ℕ → ℕ → Counts
fresh si max = record { si = si; next_ssn = 0; max_message_size = max; finished = 0; unordered = 0; ordered = 0; n_bytes = 0 }

-- what stands where no stream is
abbrev pub no_counts : Counts
no_counts = fresh 0 0

-- the queues of the streams 0 to 7, fresh
abbrev pub fresh_streams : ℕ → Streams
fresh_streams max =
    record {
      s0 = fresh 0 max;
      s1 = fresh 1 max;
      s2 = fresh 2 max;
      s3 = fresh 3 max;
      s4 = fresh 4 max;
      s5 = fresh 5 max;
      s6 = fresh 6 max;
      s7 = fresh 7 max;
    }
