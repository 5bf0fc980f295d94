-- `reassembly_ordered::keep` meets its contract: where no row is of its set the fragment goes to a new one, and else to its own.
use mathlib.Core.Path.{sym, ◌∙◌}
use native.Mathlib.Omega.{arith}
use Rattle.reassembly_ordered.proofs.keep.Goals as goal

pub new_set-requires : goal.new_set-requires
new_set-requires c =
    let p = c.requires in
    record {
      table_len = p.table_len;
      pool_value = p.pool_value;
      queue_bound = p.queue_bound;
      user_data_bound = p.user_data_bound;
      stream_sequence_number_value = sym p.run_value ∙ c.if-run-eq0.true;
    }

pub returns-then-run-eq0 : goal.returns-then-run-eq0
returns-then-run-eq0 c = c.new_set.ensures

pub join_set-requires : goal.join_set-requires
join_set-requires c =
    let p = c.requires in
    record {
      table_len = p.table_len;
      pool_value = p.pool_value;
      queue_bound = p.queue_bound;
      user_data_bound = p.user_data_bound;
      at_value = p.at_value;
      run_value = p.run_value;
      run_nonzero = omega (arith, c.if-run-eq0.false);
    }

pub returns : goal.returns
returns c = c.join_set.ensures
