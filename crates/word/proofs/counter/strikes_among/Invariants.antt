-- `strikes_among` counts the strikes of each program, word by word: those of the words before the index.
use Rattle.std.proofs.Common.{◌≡◌, take}
use Rattle.word.specs.Counters.{strikes_among}
use Rattle.word.proofs.counter.strikes_among.Given as goal

abbrev pub invariant-loop-w : goal.invariant-loop-w
invariant-loop-w l = l.strikes ≡ strikes_among (take l.w-index l.words)
