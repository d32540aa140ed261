-- `read_all` carries on what each turn leaves.
use Rattle.sheet.specs.InputRead.{AllRead}
use Rattle.sheet.proofs.Memory.read_all.Given as goal

abbrev pub invariant-loop : goal.invariant-loop
invariant-loop g l = AllRead l.fn.self.run l.fn.self.second l.line l.self.run l.self.second
