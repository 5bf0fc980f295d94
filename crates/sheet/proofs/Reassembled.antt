-- What the reassembly queue holds after the calls of P9 and P11.
-- Assumes nothing.
use mathlib.Core.Path.{◌≡◌}
use mathlib.Core.List.{List, [], ◌∷◌}
use Prim.Native.Nat.{ℕ, ◌*◌, ◌≤◌}
use native.Mathlib.Omega.{arith}
use lib.ListN.{length}
use denote.Ref.{Bor}
use Rattle.serial_model.specs.Serial.{ahead, distance, before}
use Rattle.data_fields.specs.Fields.{data_flags, data_sent}
use Rattle.fragments.specs.Words.{size, any, while, past, find, placed}
use Rattle.fragment_sets.specs.Sets.{set_of, rises, complete, joins, grown_set, stored}
use Rattle.loose_fragments.specs.Loose.{runs, run, reach, starts_by, scan}
use Rattle.reassembly_state.specs.Limits.{frags_most, bytes_most}
use Rattle.reassembly_state.specs.Model.{Queue, queue, room_for, keep_ordered, push_ordered, move_run, keep_loose, push_unordered, push}
use Rattle.reassembly_state.specs.State.{fragment_of}
use Rattle.sheet.specs.Words.{bytes, B, E, BE, ordered, unordered}
use Rattle.sheet.specs.Sheet.{p9_held, p11_1, p11_13, p11_132}
use Rattle.sheet.proofs.Steps.{Holds, new_holds, pushing, push_holds}

-- ── on the model ──

abbrev empty : Queue
empty = queue 0 0 10 [] [] []

abbrev after_9 : Queue
after_9 = (pushing empty (unordered B 1) (bytes 6)).queue

abbrev after_1 : Queue
after_1 = (pushing empty (ordered B 1 0) (0x61 ∷ [])).queue

abbrev after_13 : Queue
after_13 = (pushing after_1 (ordered E 3 0) (0x63 ∷ [])).queue

abbrev after_132 : Queue
after_132 = (pushing after_13 (ordered BE 2 0) (0x62 ∷ [])).queue

-- ── and so of the calls ──

module _ (lent : Bor (List ℕ)) (tsns words pool : List ℕ) (w : length words ≡ 4 * frags_most) (h : bytes_most ≤ length pool) where
  pub holds_9 : Holds (p9_held lent tsns words pool) after_9
  unfolding push push_unordered keep_loose move_run placed any reach run runs find scan starts_by room_for size fragment_of data_flags data_sent
  holds_9 = push_holds (new_holds 0 words pool w h) (unordered B 1) (bytes 6) (omega arith, tt)

  pub holds_1 : Holds (p11_1 lent tsns words pool) after_1
  unfolding push push_ordered keep_ordered stored grown_set joins placed any complete rises set_of while past size ahead distance before room_for fragment_of data_flags data_sent
  holds_1 = push_holds (new_holds 0 words pool w h) (ordered B 1 0) (0x61 ∷ []) (omega arith, tt)

  pub holds_13 : Holds (p11_13 lent tsns words pool) after_13
  unfolding push push_ordered keep_ordered stored grown_set joins placed any complete rises set_of while past size ahead distance before room_for fragment_of data_flags data_sent
  holds_13 = push_holds holds_1 (ordered E 3 0) (0x63 ∷ []) (omega arith, (omega arith, tt))

  pub holds_132 : Holds (p11_132 lent tsns words pool) after_132
  unfolding push push_ordered keep_ordered stored grown_set joins placed any complete rises set_of while past size ahead distance before room_for fragment_of data_flags data_sent
  holds_132 = push_holds holds_13 (ordered BE 2 0) (0x62 ∷ []) (omega arith, (omega arith, (omega arith, tt)))
