-- `without` subtracts strikes program by program: there are no more of them.
use Rattle.word.proofs.counter.without.Goals as goal

pub overflow_sub-result : goal.overflow_sub-result
overflow_sub-result c = c.requires 1 tt

pub overflow_sub-result-2 : goal.overflow_sub-result-2
overflow_sub-result-2 c = c.requires 2 tt

pub overflow_sub-result-3 : goal.overflow_sub-result-3
overflow_sub-result-3 c = c.requires 3 tt
