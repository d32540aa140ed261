-- `list_permitted`: where it is not plain that all strikes have a place they were counted before, and where there is
-- none the second run stays as it is.
use Rattle.std.proofs.Common.{◌≡◌, ◌≤◌, [], length, sym, ◌∙◌, map, arith, zero-add}
use lib.Seq.{sets-eq}
use borrow.Author.Tests.{le-ltb}
use Rattle.std.proofs.lemmas.List.{nil_from_length}
use Rattle.rule.specs.Spacing.{standing_of}
use Rattle.rule.proofs.Most.{permitted_most}
use Rattle.permitted.specs.Listing.{permitted_beside}
use Rattle.permitted.proofs.list_permitted.Goals as goal
use Rattle.permitted.proofs.list_permitted.Goals.{then-second-most_open+else-second-count+else-count-eq0}
use Rattle.permitted.proofs.list_permitted.Goals.{else-second-most_open}

pub returns-then-count-eq0 : goal.returns-then-count-eq0
returns-then-count-eq0 c =
    let v = c.args.second.now in
    let strikes = permitted_beside c.args.s c.args.standing.now in
    let none : strikes ≡ [] =
    nil_from_length strikes (sym c.write_permitted-count.ensures.value ∙ c.if-count-eq0.true) in
    let fits = le-ltb (length v) 0 (omega arith) in
    record { answer = rw (none, c.if-count-eq0.true, fits); second = rw (none, fits) }

pub returns : goal.returns
returns c =
    let v = c.args.second.now in
    let strikes = permitted_beside c.args.s c.args.standing.now in
    let few = permitted_most c.args.s (map standing_of c.args.standing.now) in
    let most = rw c.ranges_of-ranges.ensures at c.max.ensures in
    let fits : length strikes ≤ length v =
    elim c.if-second-most_open.branch [
      | then-second-most_open+else-second-count+else-count-eq0 w ↦
          omega (arith, w.write_permitted-count.ensures.value)
      | else-second-most_open w ↦ omega (arith, c.most_open.ensures)
    ] in
    let e = c.write_permitted.ensures in
    record {
      answer = rw (le-ltb (length v) (length strikes) fits, e.value);
      second =
          rw (le-ltb (length v) (length strikes) fits)
          (e.out_after ∙ sets-eq strikes v 0 (rw zero-add fits) ∙ rw zero-add);
    }
