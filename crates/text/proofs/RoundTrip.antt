-- What is printed for a number is the numeral that a sheet writes for it: its last digit is its rest by ten, by
-- recursion on the tenth.
use mathlib.Core.Path.{◌≡◌, refl, sym, ap, subst, ◌∙◌}
use mathlib.Core.Logic.{⊎_elim}
use mathlib.Core.List.{List, [], ◌∷◌, ◌++◌}
use Prim.Native.Nat.{ℕ, zero, suc, ◌+◌, ◌*◌, ◌-◌, ◌/◌, ◌%◌, ◌≤◌, ◌<◌}
use native.Mathlib.Nat.{div-lt_self}
use native.Mathlib.Omega.{arith}
use Rattle.text.specs.Alphabet.{zero_digit, nine_digit, base}
use Rattle.text.specs.Grammar.{Digits, Numeral, no_digits, a_digit, lone_zero, leading, value_from, number_in}
use Rattle.text.specs.Printing.{decimal}
use Rattle.logic.proofs.Tests.{lt_or_le}
use Rattle.text.proofs.Decimals.{decimal_small, decimal_more}

-- ---- its number

value_append : (v : ℕ) (ds : List ℕ) (b : ℕ) → value_from v (ds ++ (b ∷ [])) ≡ base * value_from v ds + (b - zero_digit)
unfolding value_from
value_append v [] b = refl
value_append v (d ∷ ds) b = value_append (base * v + (d - zero_digit)) ds b

number_small : (v : ℕ) → v < base → number_in (decimal v) ≡ v
unfolding value_from
number_small v small = ap number_in (decimal_small v small) ∙ omega arith

number_by : (f v : ℕ) → v ≤ f → number_in (decimal v) ≡ v
number_by zero v h = number_small v (omega arith)
number_by (suc f) v h =
    ⊎_elim
    (λ (small : v < base). number_small v small)
    (λ (more : base ≤ v).
    let less : v / base < v = div-lt_self (omega arith) (omega arith) in
    ap number_in (decimal_more v more)
    ∙ value_append 0 (decimal (v / base)) (zero_digit + v % base)
    ∙ ap (λ (w : ℕ). base * w + (zero_digit + v % base - zero_digit)) (number_by f (v / base) (omega arith))
    ∙ omega arith)
    (lt_or_le v base)

-- the number of the digits that are printed is the number
pub number_printed : (v : ℕ) → number_in (decimal v) ≡ v
number_printed v = number_by v v (omega arith)

-- ---- its form

digits_append : {ds : List ℕ} → Digits ds → (b : ℕ) → zero_digit ≤ b → b ≤ nine_digit → Digits (ds ++ (b ∷ []))
digits_append no_digits b low high = a_digit low high no_digits
digits_append (a_digit from upto more) b low high = a_digit from upto (digits_append more b low high)

abbrev Leads : List ℕ → Type 0
Leads t = (b : ℕ) × (ds : List ℕ) × (zero_digit < b) × (b ≤ nine_digit) × Digits ds × (t ≡ b ∷ ds)

leads_small : (v : ℕ) → 0 < v → v < base → Leads (decimal v)
leads_small v some small = (zero_digit + v % base, [], omega arith, omega arith, no_digits, decimal_small v small)

leads_by : (f v : ℕ) → v ≤ f → 0 < v → Leads (decimal v)
leads_by zero v h some = leads_small v some (omega arith)
leads_by (suc f) v h some =
    ⊎_elim
    (λ (small : v < base). leads_small v some small)
    (λ (more : base ≤ v).
    let less : v / base < v = div-lt_self (omega arith) (omega arith) in
    let r = leads_by f (v / base) (omega arith) (omega arith) in
    let end : List ℕ = (zero_digit + v % base) ∷ [] in (
      r.0,
      r.1 ++ end,
      r.2,
      r.3,
      digits_append r.4 (zero_digit + v % base) (omega arith) (omega arith),
      decimal_more v more ∙ ap (λ (l : List ℕ). l ++ end) r.5,
    ))
    (lt_or_le v base)

-- the digits that are printed are a numeral without leading zeros
pub numeral_printed : (v : ℕ) → Numeral (decimal v)
numeral_printed zero = subst Numeral (sym (decimal_small 0 (omega arith))) lone_zero
numeral_printed (suc v) =
    let r = leads_by (suc v) (suc v) (omega arith) (omega arith) in
    subst Numeral (sym r.5) (leading r.2 r.3 r.4)
