-- A turn carries on what the bytes before it left, and one that fails carries on those that it read.
use Rattle.std.proofs.Common.{arith, refl}
use Rattle.std.proofs.lemmas.Result.{MatchResult-from_err}
use Rattle.sheet.proofs.Carrying.{all_start, all_more, some_more}
use Rattle.sheet.proofs.Memory.read_all.Goals as goal

pub loop-init : goal.loop-init
loop-init g c = all_start _ _ c.args.self.now.book refl

pub returns-in_err-turn-clause-err : goal.returns-in_err-turn-clause-err
returns-in_err-turn-clause-err g c =
    MatchResult-from_err _ _ _ c.from_residual.ensures.0
    (λ _. some_more c.loop.invariant (omega arith) (omega arith) c.in_err-turn.ensures.err)

pub loop-preserved : goal.loop-preserved
loop-preserved g c = all_more c.loop.invariant (omega arith) (omega arith) c.in_ok-turn.ensures.ok

pub returns-then-turn-eq0-clause-ok : goal.returns-then-turn-eq0-clause-ok
returns-then-turn-eq0-clause-ok g c = all_more c.loop.invariant (omega arith) (omega arith) c.in_ok-turn.ensures.ok
