-- `others_of_64` tells the others: those of the first 32 words are the low bits, those of the next 32 the high ones.
use Rattle.std.proofs.Common.{◌≡◌, ◌+◌, ◌-◌, ◌∙◌, arith}
use Rattle.scan.specs.Ahead.{bits_at, block_length, half_block}
use Rattle.scan.proofs.OtherBits.{bits_part, bits_joined}
use Rattle.scan.proofs.ahead.others_of_64.Goals as goal

pub returns : goal.returns
returns c =
    let s = c.args.s.now in
    let base = c.args.base in
    let middle = base + half_block in
    let low : c.others_among-low.result ≡ bits_at s base half_block =
    c.others_among-low.ensures
    ∙ bits_part s (base - 1) middle base half_block (omega arith) (omega arith) (omega arith) in
    let high : c.others_among-high.result ≡ bits_at s middle half_block =
    c.others_among-high.ensures
    ∙ bits_part s (middle - 1) (base + block_length) middle half_block (omega arith) (omega arith) (omega arith) in
    rw (c.from.ensures, c.from-2.ensures, low, high) (bits_joined s base half_block (omega arith))
