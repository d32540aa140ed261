-- `make_record` lends the call of a record the front of the pool, as long as it asks for, and keeps the rest; its
-- numbers are those that it counts, or all that it holds.
use Rattle.std.proofs.Common.{◌≡◌, min, get_or, arith}
use Rattle.dispatch.proofs.NamedCalls.{counted_of}
use Rattle.history.specs.Records.{numbers_held, call_of_record}
use Rattle.history.proofs.Lent.{lent_front}
use Rattle.history.proofs.make_record.Goals as goal

pub returns : goal.returns
returns c =
    let words = c.args.words.now in
    let count = c.min-count.result in
    let counted : count ≡ min (get_or words 1 0) numbers_held = omega (arith, c.min-count.ensures) in
    lent_front (call_of_record words) c.min-room.result (omega (arith, c.min-room.ensures)) c.requires
    (rw (counted_of numbers_held (get_or words 1 0) count _ counted) at c.make_call.ensures)
