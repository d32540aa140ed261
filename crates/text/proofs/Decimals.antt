-- The digits of a number: by recursion on the bound of the digits, which does not matter once it is the number or more.
use mathlib.Core.Path.{◌≡◌, refl, sym, ap, ◌∙◌}
use mathlib.Core.Logic.{⊎_elim}
use Prim.Native.Nat.{ℕ, zero, suc, ◌+◌, ◌/◌, ◌%◌, ◌^◌, ◌≤◌, ◌<◌}
use native.Mathlib.Nat.{div-lt_self, le_of_eq, div-lt_iff_lt-mul, pow-suc}
use native.Mathlib.Omega.{arith}
use mathlib.Core.List.{List, [], ◌∷◌, ◌++◌}
use lib.ListN.{length, length-append}
use borrow.Author.Tests.{lt-ltb, le-ltb}
use Rattle.text.specs.Alphabet.{zero_digit, base}
use Rattle.text.specs.Printing.{decimal_by, decimal}
use Rattle.logic.proofs.Tests.{lt_or_le}

by_small : (f v : ℕ) → v < base → decimal_by f v ≡ (zero_digit + v % base) ∷ []
unfolding decimal_by
by_small zero v h = refl
by_small (suc f) v h = simp (lt-ltb v base h)

by_more : (f v : ℕ) → base ≤ v → decimal_by (suc f) v ≡ decimal_by f (v / base) ++ ((zero_digit + v % base) ∷ [])
unfolding decimal_by
by_more f v h = simp (le-ltb v base h)

-- any f that is at least v gives the same digits
by_same : (f g v : ℕ) → v ≤ f → v ≤ g → decimal_by f v ≡ decimal_by g v
by_same zero g v hf hg = by_small zero v (omega arith) ∙ sym (by_small g v (omega arith))
by_same (suc f) zero v hf hg = by_small (suc f) v (omega arith) ∙ sym (by_small zero v (omega arith))
by_same (suc f) (suc g) v hf hg =
    ⊎_elim
    (λ (small : v < base). by_small (suc f) v small ∙ sym (by_small (suc g) v small))
    (λ (more : base ≤ v).
    let less : v / base < v = div-lt_self (omega arith) (omega arith) in
    by_more f v more
    ∙ ap (λ (r : List ℕ). r ++ ((zero_digit + v % base) ∷ [])) (by_same f g (v / base) (omega arith) (omega arith))
    ∙ sym (by_more g v more))
    (lt_or_le v base)

pub decimal_small : (v : ℕ) → v < base → decimal v ≡ (zero_digit + v % base) ∷ []
unfolding decimal
decimal_small v h = by_small v v h

pub decimal_more : (v : ℕ) → base ≤ v → decimal v ≡ decimal (v / base) ++ ((zero_digit + v % base) ∷ [])
unfolding decimal
decimal_more zero h = absurd (omega arith)
decimal_more (suc u) h =
    let less : suc u / base < suc u = div-lt_self (omega arith) (omega arith) in
    by_more u (suc u) h ∙ ap (λ (r : List ℕ). r ++ ((zero_digit + suc u % base) ∷ []))
    (by_same u (suc u / base) (suc u / base) (omega arith) (omega arith))

pub length_small : (v : ℕ) → v < base → length (decimal v) ≡ 1
length_small v h = ap length (decimal_small v h)

pub length_more : (v : ℕ) → base ≤ v → length (decimal v) ≡ length (decimal (v / base)) + 1
length_more v h = ap length (decimal_more v h) ∙ simp length-append

pub ruleset decimal_laws = (decimal_small, decimal_more, length_small, length_more)

-- a number below 10 ^ (k + 1) has at most k + 1 digits
pub length_decimal : (k v : ℕ) → v < base ^ suc k → length (decimal v) ≤ suc k
length_decimal zero v h = le_of_eq (length_small v h)
length_decimal (suc k) v h =
    ⊎_elim
    (λ (small : v < base). omega (arith, length_small v small))
    (λ (more : base ≤ v).
    let shorter : v / base < base ^ suc k = (div-lt_iff_lt-mul (omega arith)).1 (rw pow-suc at h) in
    omega (arith, length_more v more, length_decimal k (v / base) shorter))
    (lt_or_le v base)
