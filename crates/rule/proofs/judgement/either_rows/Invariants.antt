-- `either_rows`: the rows of the grounds below this one are joined. Assumes nothing.
use Rattle.std.proofs.Common.{◌≡◌, ℕ, ◌<◌, [], length, get_or}
use Rattle.rule.specs.Judgement.{either_row}
use Rattle.rule.proofs.judgement.either_rows.Given as goal

abbrev pub invariant-loop-g : goal.invariant-loop-g
invariant-loop-g l =
    (length l.rows ≡ 5)
    × ((k : ℕ) → k < l.g → get_or l.rows k [] ≡ either_row (get_or l.a k []) (get_or l.b k []))
