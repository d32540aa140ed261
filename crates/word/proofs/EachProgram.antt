-- A law about programs is a row for each of their numbers: by induction over the numbers; and a program that code
-- names has one of them, by cases. Assumes nothing.
use Rattle.std.proofs.Common.{◌≡◌, true, refl, ℕ, zero, suc, ◌+◌, ◌<◌, ◌≤◌, T, List, [], ◌∷◌, subst, ⊎_elim, arith, leb→le}
use Rattle.logic.specs.Lists.{up_from}
use Rattle.logic.proofs.Tests.{ands, eq_or_not}
use Rattle.word.specs.declared.programs.Program.{Program}
use Rattle.word.specs.declared.programs.Program.TheVariants.{Dollar, Half, TwoFifty}
use Rattle.word.specs.Programs.{program_count, is_program, number_of}

-- a row for each of the numbers
abbrev pub Rows : (ℕ → Type 0) → List ℕ → Type 0
Rows P [] = Unit {0}
Rows P (p ∷ ps) = P p × Rows P ps

-- what holds of each program's number, one by one, holds of every program
pub each_program : (P : ℕ → Type 0) → Rows P (up_from program_count 1) → (p : ℕ) → T (is_program p) → P p
each_program P rows p k =
    go program_count 1 rows (leb→le 1 p (search ands)) (omega (arith, leb→le p program_count (search ands)))
  where
    go : (n from : ℕ) → Rows P (up_from n from) → from ≤ p → p < from + n → P p
    go zero from rows low high = absurd (omega arith)
    go (suc n) from rows low high =
        ⊎_elim
        (λ e. subst P e rows.0)
        (λ e. go n (suc from) rows.1 (omega arith) (omega arith))
        (eq_or_not from p)

pub named : (p : Program) → is_program (number_of p) ≡ true
named Dollar = refl
named Half = refl
named TwoFifty = refl
