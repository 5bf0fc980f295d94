-- What is written of a file of captured chunks, line by line: document 02, M-113.
-- Assumes nothing.
use Rattle.std.specs.Prelude.{ℕ, zero, suc, ◌+◌, ◌/◌, ◌%◌, Bool, true, false, cond, List, [], ◌∷◌, ◌++◌, ltb}
use Rattle.wire_model.specs.Refusal.{Refusal, none, refuse, Told}
use Rattle.counters.specs.declared.Counters.{Counters}

-- ── numbers ──

-- a number in decimal digits, the most significant first; at most k of them
unfoldable pub spelled : ℕ → ℕ → List ℕ
spelled zero n = []
spelled (suc k) n = cond (ltb n 10) ((48 + n) ∷ []) (spelled k (n / 10) ++ ((48 + n % 10) ∷ []))

-- no number of 64 bits has more than 20
abbrev pub decimal : ℕ → List ℕ
decimal n = spelled 20 n

-- ── a record's line ──

-- "its number from 0, a space, then .."
unfoldable pub line : ℕ → List ℕ → List ℕ
line number text = decimal number ++ (32 ∷ (text ++ (10 ∷ [])))

-- "T or F for the push answer or the refusal number"
abbrev pub said_as : Refusal → Bool → List ℕ
said_as none true = 84 ∷ []
said_as none false = 70 ∷ []
said_as (refuse k) stored = decimal k

abbrev pub said_answer : Told Bool → List ℕ
said_answer t = said_as t.refusal t.values

-- "a record cut short .. writes its number, ` cut`"
abbrev pub said_cut : List ℕ
said_cut = 99 ∷ 117 ∷ 116 ∷ []

-- ── the last line ──

-- a space and a number
abbrev pub word : ℕ → List ℕ
word n = 32 ∷ decimal n

-- "After the last line write `total` and the four numbers"
unfoldable pub total_line : Counters → List ℕ
total_line c = 116 ∷ 111 ∷ 116 ∷ 97 ∷ 108 ∷ (word c.stored ++ (word c.turned_away ++ (word c.refused ++ (word c.cut ++ (10 ∷ [])))))

-- "writes only `bad version`"
abbrev pub bad_version : List ℕ
bad_version = 98 ∷ 97 ∷ 100 ∷ 32 ∷ 118 ∷ 101 ∷ 114 ∷ 115 ∷ 105 ∷ 111 ∷ 110 ∷ 10 ∷ []
