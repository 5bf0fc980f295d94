-- Room among eight streams: what each holds above its own is drawn on the common part.
-- Assumes nothing.
use Rattle.std.specs.Prelude.{ℕ, ◌+◌, ◌-◌, Bool, ◌&&◌, List, [], ◌∷◌, map, leb, length, get_or, set}
use Rattle.fragments.specs.Frag.{Frag}
use Rattle.fragments.specs.Words.{size}
use Rattle.reassembly_state.specs.Model.{Queue, held}
use Rattle.streams_model.specs.Limits.{own_frags, own_bytes, common_frags, common_bytes}

-- "A stream draws on the common part only by what it holds above its own": the draws, added
unfoldable pub draws : ℕ → List ℕ → ℕ
draws own [] = 0
draws own (n ∷ ns) = (n - own) + draws own ns

-- n more at index k
unfoldable pub raised : ℕ → ℕ → List ℕ → List ℕ
raised k n ns = set ns k (get_or ns k 0 + n)

-- what the streams hold, in either measure
abbrev pub frags_held : Queue → ℕ
frags_held q = length (held q)

abbrev pub bytes_held : Queue → ℕ
bytes_held q = size (held q)

-- No room, refusal 8, "exactly when, after the push, the streams' draws would add to more than the common part, in either measure"
unfoldable pub room_among : List Queue → ℕ → Frag → Bool
room_among qs k f =
    leb (draws own_frags (raised k 1 (map frags_held qs))) common_frags
    && leb (draws own_bytes (raised k (length f.bytes) (map bytes_held qs))) common_bytes
