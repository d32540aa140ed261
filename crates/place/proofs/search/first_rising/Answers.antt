-- `first_rising` finds the first word by guesses: a word of the kind that holds less than the key stands before it, so
-- what is left from `low` on has it, and one that holds the key is it. Assumes nothing.
use Rattle.std.proofs.Common.{◌≡◌, ℕ, ◌-◌, ◌^◌, ◌<◌, ◌≤◌, length, take, ◌∙◌, pow_mono, arith, length-take-le, get_or-take}
use Rattle.word.specs.Kinds.{kind_field}
use Rattle.logic.proofs.Firsts.{seek_before, seek_rest}
use Rattle.logic.proofs.Slices.{every_part}
use Rattle.place.specs.Search.{is_no_lower, guess_width}
use Rattle.place.proofs.KeyedWords.{part_from}
use Rattle.place.proofs.search.first_rising.Goals as goal
use Rattle.place.proofs.search.first_rising.Goals.{After-span, In-Some}

small : (width key : ℕ) → width ≤ guess_width → key < 2 ^ width → key < 2 ^ guess_width
small width key narrow low = omega (arith, pow_mono {i = width} {j = guess_width} narrow)

-- the words up to `high`
front_length : (c : After-span) → let high = c.loop-guess.left.high in length (take high c.args.words.now) ≡ high
front_length c = length-take-le c.loop-guess.left.high c.args.words.now c.loop-guess.invariant.0

pub all-left-requires : goal.all-left-requires
all-left-requires c =
    (c.requires.few, c.requires.narrow, small c.args.kind.width c.args.key c.requires.narrow c.requires.small)

-- the next word is one of those left, and of the kind
pub guess-guess-requires : goal.guess-guess-requires
guess-guess-requires c =
    (omega arith, small c.args.kind.width c.args.key c.requires.narrow c.requires.small)

pub next_held-requires : goal.next_held-requires
next_held-requires c =
    let a = c.args in (
      record { is_kind = omega arith; narrow = omega arith; small = omega arith },
      omega (arith, front_length (goal.at.next_held-requires c).After-span),
      every_part (is_no_lower a.kind) a.words.now c.loop-guess.left.high 0 c.requires.no_lower,
    )

pub after-left-requires : goal.after-left-requires
after-left-requires c =
    let span = (goal.at.after-left-requires c).After-span in
    let low = small c.args.kind.width c.args.key c.requires.narrow c.requires.small in
    (omega (arith, front_length span, c.in-Some.ensures.1), omega (arith, low))

pub loop-guess-preserved-then-held-key-2 : goal.loop-guess-preserved-then-held-key-2
loop-guess-preserved-then-held-key-2 c =
    let ws = c.args.words.now in
    let there = c.in-Some.ensures in
    let within : c.in-Some.next < c.loop-guess.left.high =
    omega (arith, front_length (goal.at.loop-guess-preserved-then-held-key-2 c).After-span, there.1) in
    let word = get_or-take c.loop-guess.left.high ws c.in-Some.next 0 within in
    let before = c.requires.rises.below _ (omega arith) (rw word at there.2) (omega (arith, rw word at there.3)) in
    (omega arith, rw c.after-left.ensures.0 (seek_before _ _ _ (omega (arith, before))), omega arith)

pub returns : goal.returns
returns c =
    let a = c.args in
    let low = c.loop-guess.left.low in
    let narrow : a.key < 2 ^ kind_field.low =
    omega (arith, pow_mono {i = a.kind.width} {j = guess_width} c.requires.narrow) in
    seek_rest _ _ _ c.loop-guess.invariant.1 _
    (c.first-2.ensures.0 ∙ part_from a.kind a.key narrow a.words.now (length a.words.now - low) low c.requires.no_lower)
