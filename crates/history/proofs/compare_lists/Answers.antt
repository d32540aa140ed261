-- `compare_lists` runs both lists and compares the words that they leave: its ways out where they are equal and where
-- they differ.
use Rattle.std.proofs.Common.{true, false, rules}
use Rattle.std.proofs.lemmas.Bool.Decides.{Decides-eqb}
use Rattle.std.proofs.lemmas.Slice.Eq.{slice_eq-Decides}
use Rattle.history.proofs.Comparisons.{compared}
use Rattle.history.proofs.compare_lists.Goals as goal

pub returns-then-eq : goal.returns-then-eq
returns-then-eq c =
    compared c.if-left-right.false c.run_calls.ensures c.run_calls-2.ensures (search rules) true
    (slice_eq-Decides Decides-eqb _ _ _ c.if-eq.ensures)

pub returns : goal.returns
returns c =
    compared c.if-left-right.false c.run_calls.ensures c.run_calls-2.ensures (search rules) false
    (slice_eq-Decides Decides-eqb _ _ _ c.if-eq.ensures)
