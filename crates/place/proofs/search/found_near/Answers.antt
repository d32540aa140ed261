-- `found_near` makes the tests of the definition; where the word at `near` does not hold the key, the first of those
-- about it decides. Assumes nothing.
use Rattle.std.proofs.Common.{◌≡◌, ◌+◌, ◌-◌, arith}
use Rattle.place.specs.Search.{about_count, before_count, first_about}
use Rattle.place.proofs.FoundNear.{is_amid_lem}
use Rattle.place.proofs.search.found_near.Goals as goal

pub returns-clause-value : goal.returns-clause-value
returns-clause-value c =
    let a = c.args in
    let ws = a.words.now in
    let from = a.near - before_count in
    let amid = is_amid_lem a.near ws (omega arith) (omega arith) in
    let width : from + about_count - from ≡ about_count = omega arith in
    let about : c.in_ok-from.from + c.first.result ≡ first_about a.near a.kind a.key ws =
    omega (arith, rw (c.in_ok-from.ensures.1, width) at c.first.ensures.0) in
    rw (amid, ← c.if-holds.ensures, ← about, ← c.holds-2.ensures) c.then_some.ensures
