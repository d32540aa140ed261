-- Zeros count for nothing: the counters may be compared with words past those used, too. Assumes nothing.
use Prim.Native.Nat.{ℕ, ◌+◌, ◌-◌, ◌≤◌, ◌<◌}
use mathlib.Core.Path.{◌≡◌, refl, ap, ◌∙◌}
use mathlib.Core.Bool.{true, ◌&&◌}
use mathlib.Core.List.{List, [], ◌∷◌, ◌++◌}
use native.Mathlib.Omega.{arith}
use native.Mathlib.Nat.{add-zero, zero-add}
use lib.ListN.{length, take, drop, get_or-append}
use lib.Seq.{drop-append-le, take-add, length-take-le}
use lib.Dec.{T, eqb, eqb→eq}
use Rattle.logic.specs.Lists.{every, sum}
use Rattle.logic.proofs.Tests.{ands}
use Rattle.logic.proofs.Lists.{sum_append}
use Rattle.logic.proofs.Slices.{every_part}
use Rattle.word.specs.Head.{first_place, strikes_in}
use Rattle.word.specs.Counters.{strike_of}
use Rattle.scan.specs.Stretches.{are_counted, counted_end, is_zero}

-- where strikes are counted to lies past the words used, and in the run
pub end_within : (used n : ℕ) → used ≤ n → (used ≤ counted_end used n) × (counted_end used n ≤ n)
end_within used n l = (omega arith, omega arith)

-- zeros are no strikes
zeros_none : (p : ℕ) (zs : List ℕ) → T (every is_zero zs) → sum (strike_of p) zs ≡ 0
zeros_none p [] t = refl
zeros_none p (w ∷ zs) t =
    rw (eqb→eq w 0 (search ands)) (zero-add (sum (strike_of p) zs) ∙ zeros_none p zs (search ands))

-- words that hold the counters, with zeros after them
module _ (us zs : List ℕ) (low : first_place ≤ length us) (z : T (every is_zero zs)) where
  of_program :
      (p : ℕ) → p < first_place
      → eqb (strikes_in p (us ++ zs)) (sum (strike_of p) (drop first_place (us ++ zs)))
      ≡ eqb (strikes_in p us) (sum (strike_of p) (drop first_place us))
  of_program p l =
      rw (
        get_or-append us zs 0 p (omega arith),
        drop-append-le first_place us zs low,
        sum_append (strike_of p) (drop first_place us) zs,
        zeros_none p zs z,
        add-zero (sum (strike_of p) (drop first_place us)),
      )
      refl

  counted_zeros : are_counted (us ++ zs) ≡ are_counted us
  counted_zeros i =
      of_program 1 (omega arith) i && (of_program 2 (omega arith) i && (of_program 3 (omega arith) i && true))

-- the words up to an end past those used, which are zeros from there on
pub counted_further :
    (ws : List ℕ) (used end : ℕ) → first_place ≤ used → used ≤ end → end ≤ length ws → T (every is_zero (drop used ws))
    → are_counted (take end ws) ≡ are_counted (take used ws)
counted_further ws used end low l h z =
    let past = take (end - used) (drop used ws) in
    let parts : end ≡ used + (end - used) = omega arith in
    let split : take end ws ≡ take used ws ++ past =
    ap (λ k. take k ws) parts ∙ take-add used (end - used) ws in
    rw split
    (counted_zeros (take used ws) past (omega (arith, length-take-le used ws (omega arith)))
    (every_part is_zero (drop used ws) (end - used) 0 z))
