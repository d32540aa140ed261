-- A line is of the form exactly where its parts between the spaces are a capital letter and numerals: the parts joined
-- again are the line.
use mathlib.Core.Path.{◌≡◌, refl, sym, ap, subst, ◌∙◌}
use mathlib.Core.Logic.{⊎_elim}
use mathlib.Core.Bool.{true, false}
use mathlib.Core.List.{List, [], ◌∷◌, ◌++◌, append-nil}
use Prim.Native.Nat.{ℕ, ◌+◌, ◌≤◌}
use native.Mathlib.Omega.{arith}
use lib.Dec.{eqb}
use borrow.Author.Tests.{leb-true, le-leb, eq-eqb, ne_eqb}
use Rattle.word.specs.Limits.{between}
use Rattle.logic.proofs.Tests.{parts, eq_or_not}
use Rattle.logic.specs.Lists.{every}
use Rattle.text.specs.Alphabet.{space, zero_digit, nine_digit}
use Rattle.text.specs.Grammar.{Digits, Numeral, Numerals, Formed, no_digits, a_digit, lone_zero, leading, no_numbers, a_number, spaced, is_digit, is_numeral, first_part, later_parts}

-- ---- numerals

pub between_true : (low high n : ℕ) → low ≤ n → n ≤ high → between low high n ≡ true
between_true low high n least most = simp (le-leb low n least, le-leb n high most)

pub between_both : (low high n : ℕ) → between low high n ≡ true → (low ≤ n) × (n ≤ high)
between_both low high n h =
    (leb-true low n (search parts), leb-true n high (search parts))

digits_true : {ds : List ℕ} → Digits ds → every is_digit ds ≡ true
digits_true no_digits = refl
digits_true (a_digit {b} {ds} low high more) = simp (between_true zero_digit nine_digit b low high, digits_true more)

true_digits : (ds : List ℕ) → every is_digit ds ≡ true → Digits ds
true_digits [] h = no_digits
true_digits (b ∷ ds) h =
    let range = between_both zero_digit nine_digit b (search parts) in
    a_digit range.0 range.1 (true_digits ds (search parts))

numeral_true : {t : List ℕ} → Numeral t → is_numeral t ≡ true
unfolding is_numeral
numeral_true lone_zero = refl
numeral_true (leading {b} low high no_digits) = between_true zero_digit nine_digit b (omega arith) high
numeral_true (leading {b} low high (a_digit from upto more)) =
    simp (between_true (zero_digit + 1) nine_digit b low high) (digits_true (a_digit from upto more))

true_numeral : (t : List ℕ) → is_numeral t ≡ true → Numeral t
unfolding is_numeral
true_numeral [] h = absurd (let z : ◌≡◌ {A = ℕ} 0 1 = cc in omega arith)
true_numeral (b ∷ []) h =
    let range = between_both zero_digit nine_digit b h in
    ⊎_elim
    (λ (e : b ≡ zero_digit). subst (λ (x : ℕ). Numeral (x ∷ [])) (sym e) lone_zero)
    (λ differs. leading (omega (arith, differs, range.0)) range.1 no_digits)
    (eq_or_not b zero_digit)
true_numeral (b ∷ d ∷ ds) h =
    let range = between_both (zero_digit + 1) nine_digit b (search parts) in
    leading range.0 range.1 (true_digits (d ∷ ds) (search parts))

pub numerals_true : {ts : List (List ℕ)} → Numerals ts → every is_numeral ts ≡ true
numerals_true no_numbers = refl
numerals_true (a_number r rs) = simp (numeral_true r, numerals_true rs)

pub true_numerals : (ts : List (List ℕ)) → every is_numeral ts ≡ true → Numerals ts
true_numerals [] h = no_numbers
true_numerals (t ∷ ts) h =
    a_number (true_numeral t (search parts)) (true_numerals ts (search parts))

-- ---- parts

-- the parts joined again, a space before each later one, are the line
pub joined : (s : List ℕ) → s ≡ first_part s ++ spaced (later_parts s)
unfolding first_part later_parts spaced
joined [] = refl
joined (b ∷ s) =
    ⊎_elim
    (λ (e : b ≡ space). simp (eq-eqb b space e) (ap (λ (x : ℕ). x ∷ s) e ∙ ap (λ (l : List ℕ). space ∷ l) (joined s)))
    (λ differs. simp (ne_eqb b space differs) (ap (λ (l : List ℕ). b ∷ l) (joined s)))
    (eq_or_not b space)

numeral_digits : {t : List ℕ} → Numeral t → Digits t
numeral_digits lone_zero = a_digit {b = zero_digit} (omega arith) (omega arith) no_digits
numeral_digits (leading {b} low high more) = a_digit {b = b} (omega arith) high more

first_digits : {ds : List ℕ} → Digits ds → (rest : List ℕ) → first_part (ds ++ rest) ≡ ds ++ first_part rest
unfolding first_part
first_digits no_digits rest = refl
first_digits (a_digit {b} {ds} low high more) rest =
    simp (ne_eqb b space (λ e. omega arith)) (ap (λ (l : List ℕ). b ∷ l) (first_digits more rest))

later_digits : {ds : List ℕ} → Digits ds → (rest : List ℕ) → later_parts (ds ++ rest) ≡ later_parts rest
unfolding later_parts
later_digits no_digits rest = refl
later_digits (a_digit {b} {ds} low high more) rest = simp (ne_eqb b space (λ e. omega arith)) (later_digits more rest)

first_spaced : (ts : List (List ℕ)) → first_part (spaced ts) ≡ []
unfolding first_part spaced
first_spaced [] = refl
first_spaced (t ∷ ts) = refl

later_spaced : {ts : List (List ℕ)} → Numerals ts → later_parts (spaced ts) ≡ ts
unfolding later_parts spaced
later_spaced no_numbers = refl
later_spaced (a_number {t} {ts} r rs) =
    simp (
      first_digits (numeral_digits r) (spaced ts),
      first_spaced ts,
      later_digits (numeral_digits r) (spaced ts),
      later_spaced rs,
      append-nil,
    )

module _ {s : List ℕ} {c : ℕ} {ts : List (List ℕ)} (f : Formed s c ts) where
  pub first_formed : first_part s ≡ c ∷ []
  unfolding first_part
  first_formed =
      let letter : eqb c space ≡ false = ne_eqb c space (λ e. omega (arith, f.low)) in
      rw f.same (simp (letter, first_spaced ts))

  pub later_formed : later_parts s ≡ ts
  unfolding later_parts
  later_formed =
      let letter : eqb c space ≡ false = ne_eqb c space (λ e. omega (arith, f.low)) in
      rw f.same (simp (letter, later_spaced f.numerals))
