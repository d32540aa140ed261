-- A class adds at most one to a count of own classes, by cases on the test of its designation. Assumes nothing.
use Rattle.std.proofs.Common.{ℕ, ◌≤◌, eqb, arith}
use Rattle.word.specs.Caps.{own}
use Rattle.logic.proofs.Tests.{choose}

pub own_at_most_one : (d : ℕ) → own d ≤ 1
own_at_most_one d = choose (λ n. n ≤ 1) (eqb d 1) 1 0 (λ e. omega arith) (λ e. omega arith)
