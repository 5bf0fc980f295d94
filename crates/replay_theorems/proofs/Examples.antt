-- Small files and their whole output, computed by the definitions. The table may hold anything.
-- Assumes nothing.
use mathlib.Core.Path.{◌≡◌, refl}
use mathlib.Core.List.{List, [], ◌∷◌}
use Prim.Native.Nat.{ℕ}
use Rattle.counters.specs.Counted.{totals}
use Rattle.chunk_payload_data.specs.Data.{data_read}
use Rattle.replay_file.specs.File.{number, start, records_most}
use Rattle.replay_push.specs.Decoded.{front_header, decoded, recorded}
use Rattle.replay_lines.specs.Lines.{spelled, line, total_line}
use Rattle.replay_theorems.specs.Output.{output}

module _ (words : List ℕ) where
  -- document 02: "has one record, whose line is `0 3`", and "the example's whole output is that line and `total 0 0 1 0`"
  pub document_example : output records_most words (1 ∷ 0 ∷ 4 ∷ 10 ∷ 0 ∷ 0 ∷ 4 ∷ [])
      ≡ 48 ∷ 32 ∷ 51 ∷ 10 ∷ 116 ∷ 111 ∷ 116 ∷ 97 ∷ 108 ∷ 32 ∷ 48 ∷ 32 ∷ 48 ∷ 32 ∷ 49 ∷ 32 ∷ 48 ∷ 10 ∷ []
  unfolding output start number recorded decoded data_read front_header line spelled total_line totals
  document_example = refl

  -- "an empty file likewise"
  pub no_file : output records_most words []
      ≡ 98 ∷ 97 ∷ 100 ∷ 32 ∷ 118 ∷ 101 ∷ 114 ∷ 115 ∷ 105 ∷ 111 ∷ 110 ∷ 10 ∷ []
  unfolding output start number recorded decoded data_read front_header line spelled total_line totals
  no_file = refl

  -- "Another version writes only `bad version`"
  pub other_version : output records_most words (2 ∷ 0 ∷ 4 ∷ 10 ∷ 0 ∷ 0 ∷ 4 ∷ [])
      ≡ 98 ∷ 97 ∷ 100 ∷ 32 ∷ 118 ∷ 101 ∷ 114 ∷ 115 ∷ 105 ∷ 111 ∷ 110 ∷ 10 ∷ []
  unfolding output start number recorded decoded data_read front_header line spelled total_line totals
  other_version = refl

  -- a file with no record
  pub no_record : output records_most words (1 ∷ [])
      ≡ 116 ∷ 111 ∷ 116 ∷ 97 ∷ 108 ∷ 32 ∷ 48 ∷ 32 ∷ 48 ∷ 32 ∷ 48 ∷ 32 ∷ 48 ∷ 10 ∷ []
  unfolding output start number recorded decoded data_read front_header line spelled total_line totals
  no_record = refl

  -- "a record cut short, in its length ..": it writes ` cut`, is counted, and the totals follow
  pub cut_in_its_length : output records_most words (1 ∷ 0 ∷ [])
      ≡ 48 ∷ 32 ∷ 99 ∷ 117 ∷ 116 ∷ 10 ∷ 116 ∷ 111 ∷ 116 ∷ 97 ∷ 108 ∷ 32 ∷ 48 ∷ 32 ∷ 48 ∷ 32 ∷ 48 ∷ 32 ∷ 49 ∷ 10 ∷ []
  unfolding output start number recorded decoded data_read front_header line spelled total_line totals
  cut_in_its_length = refl

  -- ".. or after"
  pub cut-after-its-length : output records_most words (1 ∷ 0 ∷ 4 ∷ 10 ∷ 0 ∷ 0 ∷ 4 ∷ 0 ∷ 4 ∷ 10 ∷ 0 ∷ 0 ∷ [])
      ≡ 48 ∷ 32 ∷ 51 ∷ 10 ∷ 49 ∷ 32 ∷ 99 ∷ 117 ∷ 116 ∷ 10 ∷ 116 ∷ 111 ∷ 116 ∷ 97 ∷ 108 ∷ 32 ∷ 48 ∷ 32 ∷ 48 ∷ 32 ∷ 49 ∷ 32 ∷ 49 ∷ 10 ∷ []
  unfolding output start number recorded decoded data_read front_header line spelled total_line totals
  cut-after-its-length = refl

  -- a length of 0 is a chunk of no byte, which is refused with 1
  pub chunk-of_no_byte : output records_most words (1 ∷ 0 ∷ 0 ∷ [])
      ≡ 48 ∷ 32 ∷ 49 ∷ 10 ∷ 116 ∷ 111 ∷ 116 ∷ 97 ∷ 108 ∷ 32 ∷ 48 ∷ 32 ∷ 48 ∷ 32 ∷ 49 ∷ 32 ∷ 48 ∷ 10 ∷ []
  unfolding output start number recorded decoded data_read front_header line spelled total_line totals
  chunk-of_no_byte = refl

  -- at the limit it ends as at the file's end, here with a limit of one: neither a second record nor one that is cut short is looked at
  pub ends-at_the_limit : output 1 words (1 ∷ 0 ∷ 0 ∷ 0 ∷ [])
      ≡ 48 ∷ 32 ∷ 49 ∷ 10 ∷ 116 ∷ 111 ∷ 116 ∷ 97 ∷ 108 ∷ 32 ∷ 48 ∷ 32 ∷ 48 ∷ 32 ∷ 49 ∷ 32 ∷ 48 ∷ 10 ∷ []
  unfolding output start number recorded decoded data_read front_header line spelled total_line totals
  ends-at_the_limit = refl
