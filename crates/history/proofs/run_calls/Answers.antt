-- `run_calls` makes a fresh book and then the calls of the list: its way out where `fresh` has made one.
use Rattle.history.proofs.ExecutedLists.{begun_book, ran_done}
use Rattle.history.proofs.run_calls.Goals as goal

pub make_calls-requires : goal.make_calls-requires
make_calls-requires c = begun_book c.fresh.ensures c.in_ok-begun.was

pub returns : goal.returns
returns c = rw (← c.in_ok-begun.was) (ran_done c.fresh.ensures c.in_ok-begun.was c.make_calls.ensures)
