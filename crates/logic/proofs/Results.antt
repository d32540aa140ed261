-- What a `?` returns where it does not go on: the error that it found. Assumes nothing.
use Rattle.std.proofs.Common.{◌≡◌, ap, ◌∙◌, Err}
use Rattle.std.specs.Result.{IsErrAnd}
use Rattle.std.specs.Prelude.{Result}
use Rattle.std.proofs.lemmas.Result.{err_from_is_err_and}

pub passed_on : {T E : Type 0} (r : Result T E) {x : E} → IsErrAnd r (λ y. y ≡ x) → r ≡ Err x
passed_on r p = let found = err_from_is_err_and r p in found.1 ∙ ap Err found.2
