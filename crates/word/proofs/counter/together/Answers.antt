-- `together` adds strikes program by program: so few that no sum wraps.
use Rattle.std.proofs.Common.{arith}
use Rattle.word.proofs.counter.together.Goals as goal

pub overflow_add-result : goal.overflow_add-result
overflow_add-result c = omega (arith, c.requires.0 1 tt, c.requires.1 1 tt)

pub overflow_add-result-2 : goal.overflow_add-result-2
overflow_add-result-2 c = omega (arith, c.requires.0 2 tt, c.requires.1 2 tt)

pub overflow_add-result-3 : goal.overflow_add-result-3
overflow_add-result-3 c = omega (arith, c.requires.0 3 tt, c.requires.1 3 tt)
