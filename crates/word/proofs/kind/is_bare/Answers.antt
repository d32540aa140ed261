-- `is_bare` tests the bits from one on: the kind's number, shifted to its place above them, is not cut off.
use Rattle.std.proofs.Common.{◌-◌, ◌/◌, ◌^◌, eqb, ap, arith, shl_exact}
use Rattle.word.specs.Kinds.{kind_field}
use Rattle.word.proofs.kind.is_bare.Goals as goal

pub returns : goal.returns
returns c =
    let a = c.args in
    ap (eqb (a.w / 2 ^ a.end))
    (shl_exact kind_field.width (kind_field.low - a.end) 32 c.requires.1 (omega (arith, c.requires.0)))
