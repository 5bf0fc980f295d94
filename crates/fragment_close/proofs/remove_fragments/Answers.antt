-- `fragment_close::remove_fragments` meets its contract: what it answers and closes up are the sums of the lengths.
use Rattle.fragment_close.proofs.remove_fragments.Goals as goal

pub returns : goal.returns
returns c = record {
  value = c.sum_long-bytes.ensures;
  table_after = c.close_fragments.ensures.table_after;
  pool_after = c.close_fragments.ensures.pool_after;
}
