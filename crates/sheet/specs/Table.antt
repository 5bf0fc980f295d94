-- A table of lines, and the one claim over it.
-- Assumes nothing.
use Rattle.std.specs.Prelude.{◌≡◌, List, [], ◌∷◌}

-- a line is a statement
abbrev pub Line : Type 1
Line = Type 0

infix 68 ◌is◌
-- on the left what a definition gives, on the right what the paper says
abbrev pub ◌is◌ : {A : Type 0} → A → A → Line
x is y = x ≡ y

-- all lines of a table hold
abbrev pub AllHold : List Line → Type 0
AllHold [] = Unit {0}
AllHold (l ∷ ls) = l × AllHold ls
