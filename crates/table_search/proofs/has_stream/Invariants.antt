-- `table_search::has_stream` meets its contract: so far it is whether one of the words passed has the stream in its upper half.
use Rattle.std.proofs.Common.{◌≡◌, ◌/◌, take, nat_eq}
use Rattle.std.specs.List.{list_any}
use Rattle.table_search.proofs.has_stream.Given as goal

abbrev pub invariant-loop-id : goal.invariant-loop-id
invariant-loop-id l = l.found ≡ list_any (λ word. nat_eq (word / 65536) l.wanted) (take l.id-index l.id-items)
