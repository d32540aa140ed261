-- `make_calls` makes each record of the list in turn: `Going` holds at each turn.
use Rattle.history.proofs.ExecutedLists.{Going}
use Rattle.history.proofs.make_calls.Given as goal

abbrev pub invariant-loop-record : goal.invariant-loop-record
invariant-loop-record l = Going l.fn.run l.fn.pool l.records l.run l.pool l.record-index
