-- `others_among`: the next bit is that of the next word.
use Rattle.std.proofs.Common.{◌∙◌, sym, arith}
use Rattle.scan.proofs.OtherBits.{bits_next, bits_other}
use Rattle.scan.proofs.ahead.others_among.Goals as goal
use Rattle.scan.proofs.ahead.others_among.Goals.{then-not-is_next_strike, else-not-is_next_strike}

pub loop-i-preserved : goal.loop-i-preserved
loop-i-preserved c =
    let s = c.args.s.now in
    let next = sym c.is_next_strike.ensures in
    elim c.if-not-is_next_strike.branch [
      | then-not-is_next_strike w ↦
          rw (w.bits-is, c.loop-i.invariant)
          (bits_other s c.loop-i.i (omega arith) (omega arith) (next ∙ w.if-not-is_next_strike.true))
      | else-not-is_next_strike w ↦
          rw (w.bits-is, c.loop-i.invariant)
          (bits_next s c.loop-i.i (omega arith) (next ∙ w.if-not-is_next_strike.false))
    ]
