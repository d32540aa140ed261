-- Each turn reads some of what is left of the piece, and no more than there is; a write that fails comes after it.
use Rattle.std.proofs.Common.{arith, length-drop}
use Rattle.std.proofs.lemmas.Result.{MatchResult-from_err}
use Rattle.logic.proofs.Slices.{tail_all}
use Rattle.sheet.proofs.Carrying.{reading_start, some_read, reading_more, reading_cut}
use Rattle.sheet.proofs.Memory.read_whole.Goals as goal

pub loop-rest-init : goal.loop-rest-init
loop-rest-init g c = reading_start _ _ _ _ c.args.self.now.book

pub returns-in_err-write_all-clause-err : goal.returns-in_err-write_all-clause-err
returns-in_err-write_all-clause-err g c =
    let more = reading_more c.loop-rest.invariant (omega arith) (omega arith) c.read_piece-progress.ensures in
    MatchResult-from_err _ _ _ c.from_residual.ensures.0 (λ _. reading_cut more)

pub slice_bounds-rest-count : goal.slice_bounds-rest-count
slice_bounds-rest-count g c = (some_read c.loop-rest-test.ensures (omega arith) c.read_piece-progress.ensures).1

pub slice_bounds-rest-start : goal.slice_bounds-rest-start
slice_bounds-rest-start g c =
    let read = some_read c.loop-rest-test.ensures (omega arith) c.read_piece-progress.ensures in
    omega (arith, read.1)

pub loop-rest-smaller : goal.loop-rest-smaller
loop-rest-smaller g c =
    let rest = c.loop-rest.rest.now in
    let r = c.read_piece-progress in
    let read = some_read c.loop-rest-test.ensures (omega arith) r.ensures in
    rw tail_all (omega (arith, read.0, read.1, length-drop r.result.read rest))

pub loop-rest-preserved : goal.loop-rest-preserved
loop-rest-preserved g c =
    rw tail_all (reading_more c.loop-rest.invariant (omega arith) (omega arith) c.read_piece-progress.ensures)

pub returns-in_err-flush-clause-err : goal.returns-in_err-flush-clause-err
returns-in_err-flush-clause-err g c =
    MatchResult-from_err _ _ _ c.from_residual-in_err-flush.ensures.0 (λ _. reading_cut c.loop-rest.invariant)
