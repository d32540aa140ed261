-- Where the read fails, nothing has been read.
use Rattle.std.proofs.lemmas.Result.{MatchResult-from_err}
use Rattle.sheet.proofs.Carrying.{none_read}
use Rattle.sheet.proofs.Memory.take_turn.Goals as goal

pub returns-in_err-count-clause-err : goal.returns-in_err-count-clause-err
returns-in_err-count-clause-err g c =
    MatchResult-from_err _ _ _ c.from_residual.ensures.0 (λ _. none_read c.args.self.now.book)
