-- `write_strikes` sets the strikes of each program in turn: no write changes how long the run is.
use Rattle.std.proofs.Common.{arith}
use Rattle.word.proofs.counter.write_strikes.Goals as goal

pub set_strikes-requires : goal.set_strikes-requires
set_strikes-requires c = record { room = c.requires.0; small = omega (arith, c.requires.1 1 tt) }

pub set_strikes-requires-2 : goal.set_strikes-requires-2
set_strikes-requires-2 c = record { room = omega arith; small = omega (arith, c.requires.1 2 tt) }

pub set_strikes-requires-3 : goal.set_strikes-requires-3
set_strikes-requires-3 c = record { room = omega arith; small = omega (arith, c.requires.1 3 tt) }
