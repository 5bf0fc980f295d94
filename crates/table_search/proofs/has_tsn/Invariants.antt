-- `table_search::has_tsn` meets its contract: so far it is whether one of the words passed is the TSN.
use Rattle.std.proofs.Common.{◌≡◌, take, nat_eq}
use Rattle.std.specs.List.{list_any}
use Rattle.table_search.proofs.has_tsn.Given as goal

abbrev pub invariant-loop-held : goal.invariant-loop-held
invariant-loop-held l = l.found ≡ list_any (λ word. nat_eq word l.tsn) (take l.held-index l.held-items)
