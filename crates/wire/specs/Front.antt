-- Fields at the front of lent bytes. A layout takes fields to bytes; what is read are the fields whose layout stands there.
-- Assumes nothing.
use Rattle.std.specs.Prelude.{◌≡◌, List, ℕ, length, take}

-- raw begins with the layout of these fields, size bytes long, as far as both go
pub record Front {A : Type 0} (layout : A → List ℕ) (Fits : A → Type 0) (size : ℕ) (raw : List ℕ) : Type 0 where
  pub fields : A
  pub fits : Fits fields
  pub begins : take size raw ≡ take (length raw) (layout fields)
