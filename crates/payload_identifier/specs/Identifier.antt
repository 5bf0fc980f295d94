-- The names of payload identifiers: "the 32-bit number, with the five names as a reading of it".
-- Assumes nothing.
use Rattle.std.specs.Prelude.{ℕ, cond, eqb}
use Rattle.payload_identifier.specs.declared.PayloadProtocolIdentifier.{PayloadProtocolIdentifier}
use Rattle.payload_identifier.specs.declared.PayloadProtocolIdentifier.TheVariants.{Dcep, String, Binary, StringEmpty, BinaryEmpty, Unknown}

-- "Identifiers 50, 51, 53, 56 and 57 have names"; Unknown stands for 58
abbrev pub identifier_number : PayloadProtocolIdentifier → ℕ
identifier_number Dcep = 50
identifier_number String = 51
identifier_number Binary = 53
identifier_number StringEmpty = 56
identifier_number BinaryEmpty = 57
identifier_number Unknown = 58

-- "every other number reads as Unknown"
unfoldable pub identifier_name : ℕ → PayloadProtocolIdentifier
identifier_name n =
    cond (eqb n 50) Dcep (cond (eqb n 51) String (cond (eqb n 53) Binary (cond (eqb n 56) StringEmpty (cond (eqb n 57) BinaryEmpty Unknown))))
