-- What marks leave to be read: the fields of the chunk and the other marks stay.
-- Assumes nothing.
use Rattle.std.specs.Prelude.{◌≡◌, true, false, ℕ, ◌+◌, ◌*◌, ◌/◌, ◌%◌, ◌<◌, eqb}
use Rattle.std.proofs.Math.Path.{refl}
use Rattle.std.proofs.Common.{arith, eq-eqb, ne_eqb}
use Rattle.table.specs.Rows.{short_length}
use Rattle.table.specs.declared.Row.{Row}
use Rattle.payload_model.specs.Queue.{Found, chunk_of}
use Rattle.inflight_model.specs.Queue.{marked, acked_bit, abandoned_bit, retransmit_bit, acked_head, abandoned_head, again_head, with_head, again_row, sent_of}

-- a chunk with so many bytes that are not released
abbrev pub holding : ℕ → Found → Found
holding size f = record { found = f.found; values = f.values; size = size }

-- ── what is read of a head that was put together ──

module _ (h a b c size : ℕ) (x : a < 2) (y : b < 2) (z : c < 2) (w : size < 65536) where
  marked_flags : marked h a b c size / 16777216 ≡ h / 16777216
  marked_flags =
      let e : (h / 524288 * 524288 + a * 262144 + b * 131072 + c * 65536 + size) / 524288 ≡ h / 524288 = omega arith in
      omega arith

  marked-size : marked h a b c size % 65536 ≡ size
  marked-size = omega arith

  marked_acked_lem : acked_bit (marked h a b c size) ≡ c
  marked_acked_lem =
      let e : (h / 524288 * 524288 + a * 262144 + b * 131072 + c * 65536 + size) / 65536 ≡ h / 524288 * 8 + a * 4 + b * 2 + c = omega arith in
      rw e (omega arith)

  marked-abandoned : abandoned_bit (marked h a b c size) ≡ b
  marked-abandoned =
      let e : (h / 524288 * 524288 + a * 262144 + b * 131072 + c * 65536 + size) / 131072 ≡ h / 524288 * 4 + a * 2 + b = omega arith in
      rw e (omega arith)

  marked_retransmit : retransmit_bit (marked h a b c size) ≡ a
  marked_retransmit =
      let e : (h / 524288 * 524288 + a * 262144 + b * 131072 + c * 65536 + size) / 262144 ≡ h / 524288 * 2 + a = omega arith in
      rw e (omega arith)

  marked-says :
      (r : Row) (message : ℕ) → r.head ≡ h →
      sent_of (with_head (marked h a b c size) r) message
      ≡ record { chunk = holding size (chunk_of r); acked = eqb c 1; abandoned = eqb b 1; retransmit = eqb a 1; message = message }
  unfolding sent_of chunk_of
  marked-says r message e = rw (marked_flags, marked-size, marked_acked_lem, marked-abandoned, marked_retransmit, e)

-- ── each mark ──

half : (h : ℕ) → h / 131072 ≡ h / 65536 / 2
half h = omega arith

both_clear : (y : ℕ) → y % 2 ≡ 0 → y / 2 % 2 ≡ 0 → y % 4 ≡ 0
both_clear y a b = omega arith

module _ (r : Row) (message : ℕ) where
  abbrev h : ℕ
  h = r.head

  -- acknowledged, and not to be sent again; its data is released
  pub acked_says :
      sent_of (with_head (acked_head h) r) message
      ≡ record { chunk = holding 0 (chunk_of r); acked = true; abandoned = eqb (abandoned_bit h) 1; retransmit = false; message = message }
  unfolding acked_head
  acked_says = marked-says h 0 (abandoned_bit h) 1 0 (omega arith) (omega arith) (omega arith) (omega arith) r message refl

  -- abandoned, and not to be sent again; its data is released
  pub abandoned-says :
      sent_of (with_head (abandoned_head h) r) message
      ≡ record { chunk = holding 0 (chunk_of r); acked = eqb (acked_bit h) 1; abandoned = true; retransmit = false; message = message }
  unfolding abandoned_head
  abandoned-says = marked-says h 0 1 (acked_bit h) 0 (omega arith) (omega arith) (omega arith) (omega arith) r message refl

  -- to be sent again, with all its data
  pub again-says :
      acked_bit h ≡ 0 → abandoned_bit h ≡ 0 →
      sent_of (again_row r) message ≡ record { chunk = holding (short_length h) (chunk_of r); acked = false; abandoned = false; retransmit = true; message = message }
  unfolding again_head
  again-says a b =
      let e : h / 65536 % 4 ≡ 0 = both_clear (h / 65536) a (rw (half h) at b) in
      rw (eq-eqb (h / 65536 % 4) 0 e) (marked-says h 1 0 0 (short_length h) (omega arith) (omega arith) (omega arith) (omega arith) r message refl)

  -- acknowledged or abandoned: as it was
  pub again_not : (h / 65536 % 4 ≡ 0 → ⊥) → again_row r ≡ r
  unfolding again_head
  again_not n = rw (ne_eqb (h / 65536 % 4) 0 n)
