-- `make_calls` keeps `Going` by the call of each record; at its end the run and the pool are those after all the calls.
use Rattle.history.proofs.ExecutedLists.{going_step, going_end}
use Rattle.history.proofs.make_calls.Goals as goal

pub loop-record-preserved : goal.loop-record-preserved
loop-record-preserved c =
    going_step c.loop-record.invariant c.loop-record-test.true c.make_record.ensures c.make_record.auto.pool

pub returns : goal.returns
returns c = going_end c.loop-record.invariant c.loop-record-test.false c.as_chunks.ensures.front
