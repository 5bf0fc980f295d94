-- `streams_model::Streams::new` meets its contract: each queue is the fresh one of its stream.
use Rattle.streams_model.proofs.Streams.new.Goals as goal

pub returns : goal.returns
returns c =
    rw (
      c.fresh.ensures,
      c.fresh-2.ensures,
      c.fresh-3.ensures,
      c.fresh-4.ensures,
      c.fresh-5.ensures,
      c.fresh-6.ensures,
      c.fresh-7.ensures,
      c.fresh-8.ensures,
    )
