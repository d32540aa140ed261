-- `either_rows` joins the rows of the five grounds: what the loop keeps of each, at its end. Assumes nothing.
use Rattle.std.proofs.Common.{ℕ, [], get_or, arith}
use Rattle.std.proofs.lemmas.List.FromFn.{fill_by_all}
use Rattle.rule.specs.Judgement.{either_row}
use Rattle.rule.proofs.judgement.either_rows.Goals as goal

pub returns : goal.returns
returns c =
    fill_by_all (λ (k : ℕ). either_row (get_or c.args.a k []) (get_or c.args.b k [])) _ 5 [] c.loop-g.invariant.0
    (λ k l. c.loop-g.invariant.1 k (omega arith))
