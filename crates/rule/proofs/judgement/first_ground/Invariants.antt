-- `first_ground`: no ground below this one passes (`Passed`), and the strike is clear of the words before this one
-- (`Cleared`). Assumes nothing.
use Rattle.std.proofs.Common.{map}
use Rattle.logic.proofs.Walks.{Passed, Cleared}
use Rattle.rule.specs.Spacing.{clears, standing_of}
use Rattle.rule.specs.Judgement.{passes, row_of}
use Rattle.rule.proofs.judgement.first_ground.Given as goal

abbrev pub invariant-loop-w : goal.invariant-loop-w
invariant-loop-w l = Cleared (λ w. clears l.s l.g l.strike.0 (standing_of w)) l.standing l.w-index

abbrev pub invariant-grounds : goal.invariant-grounds
invariant-grounds l = Passed (λ x. passes (row_of l.s (map standing_of l.standing) l.strike.0 x)) 0 5 l.g
