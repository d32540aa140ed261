-- A turn of `graded_of_16` sets the bit of the word at i where it is of a grade up to `most`. Assumes nothing.
use Rattle.std.proofs.Common.{◌≡◌, ℕ, ◌*◌, ◌%◌, ◌^◌, ◌<◌, Bool, leb, sym, ◌∙◌, mod-eq_of_lt, arith, le-leb}
use Rattle.std.proofs.lemmas.Bool.{lt-leb}
use Rattle.std.proofs.Math.Pow.{pow-lt}
use Rattle.word.specs.Kinds.{grade_of}
use Rattle.place.proofs.Blocks.{doubled_one, doubled_none}
use Rattle.place.proofs.search.graded_of_16.Goals as goal
use Rattle.place.proofs.search.graded_of_16.Goals.{then-grade-most, else-grade-most}

pub loop-i-preserved : goal.loop-i-preserved
loop-i-preserved c =
    let a = c.args in
    let i = c.loop-i.i in
    let p : ℕ → Bool = λ w. leb (grade_of a.kind w) a.most in
    let wide : 2 ^ i < 2 ^ 31 = pow-lt {i = i} {j = 31} (omega arith) in
    let fits : 2 * 2 ^ i % 2 ^ 32 ≡ 2 * 2 ^ i = mod-eq_of_lt (omega arith) in
    elim c.if-grade-most.branch [
      | then-grade-most w ↦
          w.bits-is
          ∙ rw (fits, c.loop-i.invariant)
          (doubled_one p 0 a.block.now i (omega arith) (rw (sym c.grade.ensures, le-leb _ _ w.if-grade-most.true)))
      | else-grade-most w ↦
          w.bits-is
          ∙ c.loop-i.invariant
          ∙ doubled_none p 0 a.block.now i (omega arith) (rw (sym c.grade.ensures, lt-leb _ _ w.if-grade-most.false))
    ]
