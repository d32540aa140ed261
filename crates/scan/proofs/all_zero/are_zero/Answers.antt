-- `are_zero` tests the bits of all words joined, those of the blocks and then the rest.
use Rattle.std.proofs.Common.{◌≡◌, ◌/◌, bit_or, fold, length, rules}
use Rattle.scan.proofs.ZeroWords.{blocks_zero}
use Rattle.scan.proofs.all_zero.are_zero.Goals as goal

pub returns : goal.returns
returns c =
    let blocks : c.fold-all.result ≡ fold (fold bit_or) 0 c.as_chunks.result.0.now = search rules in
    rw (c.join.ensures, blocks, c.as_chunks.ensures.front, c.as_chunks.ensures.back)
    (blocks_zero 128 (length c.args.s.now / 128) c.args.s.now)
