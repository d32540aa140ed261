-- `first` is told by the bits of a block whether it has the word, and where. Assumes nothing.
use Rattle.std.proofs.Common.{◌≡◌, ℕ, ◌+◌, ◌-◌, ◌*◌, ◌≤◌, Bool, leb, List, [], map, take, drop, get_or, length, ap, ◌∙◌, arith}
use Rattle.std.specs.Int.Count.{count_trailing_zeros}
use Rattle.word.specs.Digits.{binary}
use Rattle.word.specs.Kinds.{grade_of}
use Rattle.logic.specs.Lists.{first_at}
use Rattle.place.specs.declared.search.TheConstants.{BLOCK}
use Rattle.place.specs.Search.{is_up_to}
use Rattle.place.proofs.Blocks.{chunk_at, seek_digit, seek_no_digit}
use Rattle.place.proofs.search.first.Goals as goal
use Rattle.place.proofs.search.first.Goals.{After-graded_of_16-bits}

-- the bits are those of the words from the block's first on
told :
    (c : After-graded_of_16-bits)
    → let a = c.args in
    let p : ℕ → Bool = λ w. leb (grade_of a.kind w) c.grade_at-most.result in
    c.graded_of_16-bits.result ≡ 2 * binary (map p (take BLOCK (drop (BLOCK * c.loop-i.i) a.words.now)))
told c =
    let a = c.args in
    let p : ℕ → Bool = λ w. leb (grade_of a.kind w) c.grade_at-most.result in
    c.graded_of_16-bits.ensures
    ∙ ap (λ (block : List ℕ). 2 * binary (map p block))
    (ap (λ (blocks : List (List ℕ)). get_or blocks c.loop-i.i []) c.as_chunks.ensures.front
    ∙ chunk_at BLOCK _ a.words.now [] c.loop-i.i (omega arith))

-- the first 1 of a block's bits
digit :
    (c : After-graded_of_16-bits) → (c.graded_of_16-bits.result ≡ 0 → ⊥)
    → let zeros = count_trailing_zeros 32 c.graded_of_16-bits.result in
    (BLOCK * c.loop-i.i + zeros - 1 ≡ first_at (is_up_to c.args.kind c.args.key) c.args.words.now) × (1 ≤ zeros)
    × (BLOCK * c.loop-i.i + zeros - 1 ≤ length c.args.words.now)
digit c some =
    let a = c.args in
    let found =
    seek_digit _ _ _ c.loop-i.invariant BLOCK _ (omega arith) (told c) 32 (omega arith) some in (
      found.0 ∙ ap (λ most. first_at (λ w. leb (grade_of a.kind w) most) a.words.now) c.grade_at-most.ensures,
      found.1,
      omega arith,
    )

pub overflow_sub-result : goal.overflow_sub-result
overflow_sub-result c = omega (arith, digit (goal.at.overflow_sub-result c).After-graded_of_16-bits c.if-bits-ne0.true)

pub returns-then-bits-ne0 : goal.returns-then-bits-ne0
returns-then-bits-ne0 c =
    let d = digit (goal.at.returns-then-bits-ne0 c).After-graded_of_16-bits c.if-bits-ne0.true in
    (d.0, d.2)

pub loop-i-preserved : goal.loop-i-preserved
loop-i-preserved c =
    let next : BLOCK * (c.loop-i.i + 1) ≡ BLOCK * c.loop-i.i + BLOCK = omega arith in
    rw next
    (seek_no_digit _ _ _ c.loop-i.invariant BLOCK _ (omega arith)
    (told (goal.at.loop-i-preserved c).After-graded_of_16-bits) c.if-bits-ne0.false)
