-- `strikes_among` counts the strikes of each program, word by word: they are few, and a word adds its own.
use Rattle.std.proofs.Common.{◌≡◌, ◌∙◌, List, ℕ, ap, arith, length, take, get_or}
use Rattle.std.proofs.Math.Seq.{take-length}
use Rattle.std.proofs.lemmas.List.{length-take-le}
use Rattle.word.specs.Counters.{strikes_among, together}
use Rattle.word.proofs.Counters.{among_few, among_next, one_few}
use Rattle.word.proofs.counter.strikes_among.Goals as goal

pub together-more-requires : goal.together-more-requires
together-more-requires c =
    let ws = c.args.words.now in
    let i = c.loop-w.w-index in
    let few = length-take-le i ws (omega arith) in (
      among_few (take i ws) c.loop-w.strikes c.loop-w.invariant (omega arith),
      rw c.strike_among.ensures (one_few (get_or ws i 0)),
    )

pub loop-w-preserved : goal.loop-w-preserved
loop-w-preserved c =
    let ws = c.args.words.now in
    let i = c.loop-w.w-index in
    c.together-more.ensures
    ∙ (ap (λ (s : List ℕ). together s c.strike_among.result) c.loop-w.invariant
    ∙ (ap (λ (s : List ℕ). together (strikes_among (take i ws)) s) c.strike_among.ensures
    ∙ among_next ws i c.loop-w-test.true))

pub returns : goal.returns
returns c =
    let ws = c.args.words.now in
    let all : c.loop-w.w-index ≡ length ws = omega arith in
    c.loop-w.invariant ∙ ap strikes_among (ap (λ (n : ℕ). take n ws) all ∙ take-length ws)
