-- Numbers with a space before each, one number more at a time: the text of two runs is that of the first and then that
-- of the second.
use mathlib.Core.Path.{◌≡◌, refl, sym, ap, ◌∙◌}
use Prim.Native.Nat.{ℕ, ◌+◌, ◌≤◌, ◌<◌}
use native.Mathlib.Numerals.{add-one}
use native.Mathlib.Omega.{arith}
use mathlib.Core.List.{List, [], ◌∷◌, ◌++◌, append_assoc, append-nil}
use lib.ListN.{length, take, drop, get_or, length-append, take-append-drop}
use lib.Seq.{take-suc}
use Rattle.text.specs.Printing.{spaced_number, spaced_numbers}
use Rattle.logic.proofs.Stores.{sets_append}

numbers_append : (a b : List ℕ) → spaced_numbers (a ++ b) ≡ spaced_numbers a ++ spaced_numbers b
unfolding spaced_numbers
numbers_append [] b = refl
numbers_append (v ∷ a) b = simp (numbers_append a b, append_assoc)

pub no_numbers : spaced_numbers [] ≡ []
unfolding spaced_numbers
no_numbers = refl

pub first_number : (v : ℕ) (vs : List ℕ) → spaced_numbers (v ∷ vs) ≡ spaced_number v ++ spaced_numbers vs
unfolding spaced_numbers
first_number v vs = refl

pub length_first : (v : ℕ) (vs : List ℕ)
    → length (spaced_numbers (v ∷ vs)) ≡ length (spaced_number v) + length (spaced_numbers vs)
length_first v vs = ap length (first_number v vs) ∙ length-append (spaced_number v) (spaced_numbers vs)

pub one_number : (v : ℕ) → spaced_numbers (v ∷ []) ≡ spaced_number v
unfolding spaced_numbers
one_number v = simp append-nil

-- one number more
module _ (vs : List ℕ) (i : ℕ) (h : i < length vs) where
  pub numbers_more : spaced_numbers (take (i + 1) vs) ≡ spaced_numbers (take i vs) ++ spaced_number (get_or vs i 0)
  numbers_more = rw (add-one, take-suc vs i 0, numbers_append, one_number)

  pub length_more_numbers : length (spaced_numbers (take (i + 1) vs)) ≡ length (spaced_numbers (take i vs)) + length
      (spaced_number (get_or vs i 0))
  length_more_numbers =
      ap length numbers_more ∙ length-append (spaced_numbers (take i vs)) (spaced_number (get_or vs i 0))

  pub room_for_number : length (spaced_numbers (take i vs)) + length (spaced_number (get_or vs i 0)) ≤ length
      (spaced_numbers vs)
  room_for_number =
      let split : length (spaced_numbers vs) ≡ length (spaced_numbers (take (i + 1) vs)) + length
      (spaced_numbers (drop (i + 1) vs)) =
      ap (λ (l : List ℕ). length (spaced_numbers l)) (sym (take-append-drop (i + 1) vs))
      ∙ ap length (numbers_append (take (i + 1) vs) (drop (i + 1) vs))
      ∙ length-append (spaced_numbers (take (i + 1) vs)) (spaced_numbers (drop (i + 1) vs)) in
      omega (arith, length_more_numbers)

pub ruleset numbers_laws =
    (no_numbers, length_first, first_number, numbers_more, length_more_numbers, room_for_number, sets_append)
