-- The table of programs and the designations of a class: a program's place in both is its number. By a row for each
-- program and by induction. Assumes nothing.
use Prim.Native.Nat.{ℕ, zero, suc, ◌+◌, ◌-◌, ◌^◌, ◌≤◌, ◌<◌}
use mathlib.Core.Path.{◌≡◌, refl, sym, ap, subst}
use mathlib.Core.List.{List, [], ◌∷◌}
use native.Mathlib.Omega.{arith}
use lib.ListN.{length, get_or, set}
use lib.Dec.{T, leb, leb→le, le→leb}
use Rattle.logic.specs.Lists.{every}
use Rattle.word.specs.Limits.{is_designation}
use Rattle.word.specs.Kinds.{counter_kind}
use Rattle.word.specs.Caps.{is_cap_kept}
use Rattle.word.specs.Programs.{Program, programs, program_count, is_program, program, dollar_program, are_designations}
use Rattle.word.proofs.EachProgram.{each_program}
use Rattle.logic.proofs.Tests.{and_left, and_right, and_intro, ands}
use Rattle.logic.proofs.Lists.{every_at, every_places}

-- the program of a number has that number, and a cap that its counter can hold, with one class more
pub record Tabled (p : ℕ) : Type 0 where
  pub number : (program p).number ≡ p
  pub cap : (program p).cap + 1 < 2 ^ counter_kind.width

pub tabled : (p : ℕ) → T (is_program p) → Tabled p
tabled =
    each_program Tabled (
      record { number = refl; cap = omega arith },
      (
        record { number = refl; cap = omega arith },
        (record { number = refl; cap = omega arith }, tt),
      ),
    )

-- each cap is kept exactly when it is of each program's number
module _ (counts : ℕ → ℕ) where
  pub caps_at : T (every (is_cap_kept counts) programs) → (p : ℕ) → T (is_program p) → counts p ≤ (program p).cap
  caps_at kept p k =
      let low : 1 ≤ p = leb→le 1 p (search ands) in
      let high : p ≤ program_count = leb→le p program_count (search ands) in
      leb→le (counts p) (program p).cap
      (subst (λ (q : ℕ). T (leb (counts q) (program p).cap)) (tabled p k).number
      (every_at (is_cap_kept counts) dollar_program programs (p - 1) (omega arith) kept))

  pub caps_kept : ((p : ℕ) → T (is_program p) → counts p ≤ (program p).cap) → T (every (is_cap_kept counts) programs)
  caps_kept caps =
      every_places (is_cap_kept counts) dollar_program programs
      (λ i l.
      let k : T (is_program (i + 1)) =
      and_intro (leb 1 (i + 1)) (leb (i + 1) program_count) (le→leb 1 (i + 1) (omega arith))
      (le→leb (i + 1) program_count (omega (arith, l))) in
      let place : i + 1 - 1 ≡ i = omega arith in
      subst (λ (j : ℕ). T (is_cap_kept counts (get_or programs j dollar_program))) place
      (subst (λ (p : ℕ). T (leb (counts p) (program (i + 1)).cap)) (sym (tabled (i + 1) k).number)
      (le→leb (counts (i + 1)) (program (i + 1)).cap (caps (i + 1) k))))

pub designations_length : (gs : List Program) (ds : List ℕ) → T (are_designations gs ds) → length ds ≡ length gs
designations_length [] [] t = refl
designations_length [] (d ∷ ds) t = absurd t
designations_length (g ∷ gs) [] t = absurd t
designations_length (g ∷ gs) (d ∷ ds) t =
    ap suc (designations_length gs ds (and_right (is_designation d) (are_designations gs ds) t))

-- another designation in one program
pub designations_set :
    (gs : List Program) (ds : List ℕ) (i d : ℕ) → T (is_designation d) → T (are_designations gs ds)
    → T (are_designations gs (set ds i d))
designations_set gs [] i d t old = old
designations_set [] (e ∷ ds) i d t old = absurd old
designations_set (g ∷ gs) (e ∷ ds) zero d t old =
    and_intro (is_designation d) (are_designations gs ds) t (and_right (is_designation e) (are_designations gs ds) old)
designations_set (g ∷ gs) (e ∷ ds) (suc i) d t old =
    and_intro (is_designation e) (are_designations gs (set ds i d))
    (and_left (is_designation e) (are_designations gs ds) old)
    (designations_set gs ds i d t (and_right (is_designation e) (are_designations gs ds) old))
