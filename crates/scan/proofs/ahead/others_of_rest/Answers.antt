-- `others_of_rest` tells the others: where there are more than 32 words, those of the first 32 are the low bits, those
-- of the last 32 that are not among these the high ones.
use Rattle.std.proofs.Common.{◌≡◌, ◌+◌, ◌-◌, ◌/◌, ◌^◌, ◌∙◌, sym, length, arith}
use Rattle.scan.specs.Ahead.{bits_at, block_length, half_block}
use Rattle.scan.proofs.OtherBits.{bits_part, bits_last, bits_joined, bits_whole}
use Rattle.scan.proofs.ahead.others_of_rest.Goals as goal

pub returns-then-n-base-lt-HALF_BLOCK : goal.returns-then-n-base-lt-HALF_BLOCK
returns-then-n-base-lt-HALF_BLOCK c =
    let s = c.args.s.now in
    let base = c.args.base in
    c.from.ensures ∙ c.others_among.ensures
    ∙ bits_part s (base - 1) (length s) base (length s - base) (omega arith) (omega arith) (omega arith)
    ∙ bits_whole s base (length s - base) (omega arith) ∙ sym (bits_whole s base block_length (omega arith))

pub returns : goal.returns
returns c =
    let s = c.args.s.now in
    let base = c.args.base in
    let middle = base + half_block in
    let last = length s - half_block in
    let low : c.others_among-low.result ≡ bits_at s base half_block =
    c.others_among-low.ensures
    ∙ bits_part s (base - 1) middle base half_block (omega arith) (omega arith) (omega arith) in
    let high : c.others_among-2.result / 2 ^ (middle - last) ≡ bits_at s middle half_block =
    rw (c.others_among-2.ensures
    ∙ bits_part s (last - 1) (length s) last half_block (omega arith) (omega arith) (omega arith))
    (bits_last s half_block last middle (omega arith) (omega arith) (omega arith)) in
    rw (c.from-3.ensures, c.from-2.ensures, low, high) (bits_joined s base half_block (omega arith))
