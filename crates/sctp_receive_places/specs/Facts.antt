-- The places that C is given are the parts that the calls below hand back. Tied to no function.
-- Assumes nothing.
use Rattle.std.specs.Prelude.{◌≡◌, refl, List, ℕ, length}
use Rattle.std.specs.Borrow.{Bor}
use Rattle.wire_model.specs.Refusal.{Refusal, none, refuse, first, Told, answer}
use Rattle.chunk.specs.Layout.{Header}
use Rattle.chunk.specs.Header.{Headed}
use Rattle.chunk.specs.Part.{Part, part_of}
use Rattle.chunk_payload_data.specs.Data.{data_checks, user_data}
use Rattle.chunk_selective_ack.specs.Layout.{Sack}
use Rattle.chunk_selective_ack.specs.Sack.{sack_checks, blocks_part, duplicates_part}
use Rattle.chunk_forward_tsn.specs.ForwardTsn.{forward_checks, pairs_part}
use Rattle.sctp_receive_places.specs.Places.{Span, span, user_span, blocks_span, duplicates_span, pairs_span}

-- the part of lent bytes at a place
abbrev pub part_at : Told Span → Bor (List ℕ) → Told Part
part_at t raw = part_of t.refusal t.values.start t.values.size raw

placed : (k : Refusal) (start size : ℕ) (raw : Bor (List ℕ)) → part_at (answer (span 0 0) k (span start size)) raw ≡ part_of k start size raw
placed none start size raw = refl
placed (refuse k) start size raw = refl

pub user_span-is : (raw : Bor (List ℕ)) (h : Header) → part_at (user_span (length raw.now) h) raw ≡ user_data raw h
unfolding user_span user_data
user_span-is raw h = placed (first (data_checks (length raw.now) h)) _ _ raw

pub blocks-span-is : (raw : Bor (List ℕ)) (h : Headed Sack) → part_at (blocks_span (length raw.now) h) raw ≡ blocks_part raw h
unfolding blocks_span blocks_part
blocks-span-is raw h = placed (first (sack_checks (length raw.now) h)) _ _ raw

pub duplicates_span-is : (raw : Bor (List ℕ)) (h : Headed Sack) → part_at (duplicates_span (length raw.now) h) raw ≡ duplicates_part raw h
unfolding duplicates_span duplicates_part
duplicates_span-is raw h = placed (first (sack_checks (length raw.now) h)) _ _ raw

pub pairs-span-is : (raw : Bor (List ℕ)) (h : Header) → part_at (pairs_span (length raw.now) h) raw ≡ pairs_part raw h
unfolding pairs_span pairs_part
pairs-span-is raw h = placed (first (forward_checks (length raw.now) h)) _ _ raw
