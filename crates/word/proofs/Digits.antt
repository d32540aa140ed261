-- Binary digits and the number that they make: in two parts, with one digit more by `|`, and by the first digit that is
-- 1, which the trailing zeros count and `&` clears. By induction on the digits, and by the kit's laws of `|`. Assumes
-- nothing.
use Rattle.std.proofs.Common.{◌≡◌, ℕ, zero, suc, ◌+◌, ◌-◌, ◌*◌, ◌/◌, ◌%◌, ◌^◌, ◌<◌, ◌≤◌, Bool, true, false, cond, ◌&&◌, eqb, List, [], ◌∷◌, ◌++◌, map, length, get_or, take, drop, sym, refl, ap, ◌∙◌, subst, ap₂, ⊎_elim, mul_assoc, mul_comm, add-mul, add_comm, mul-zero, mul_right_comm, add-one, arith, drop_of_length-le, length-take-le, take_all, take-suc, take-add, pow_pos, eq-eqb, ne_eqb, eqb-true}
use native.Mathlib.Nat.{pow-succ'}
use lib.Pow.{high}
use lib.Bits.{bit_or, bit_and, or_zero_l, or_zero_r, or_shifted_r, or_block, or_add_and, and_block, and_step, and_self, and_zero_l, and_le_l, and_le_r}
use lib.Count.{count_trailing_zeros}
use lib.ListN.{length-map}
use borrow.Author.Tests.{eqb-false}
use lib.Seq.{take-nil, take-length, drop-length}
use Rattle.logic.proofs.Tests.{lt_or_le}
use Rattle.logic.proofs.Slices.{take_map, mapped_at}
use Rattle.word.specs.Digits.{binary, first_one}

-- ---- the number in two parts

twice : (k n : ℕ) → 2 ^ suc k * n ≡ 2 * (2 ^ k * n)
twice k n = rw (pow-succ' 2 k) (mul_assoc 2 (2 ^ k) n)

binary_append : (bs ds : List Bool) → binary (bs ++ ds) ≡ binary bs + 2 ^ length bs * binary ds
binary_append [] ds = omega arith
binary_append (b ∷ bs) ds = omega (arith, binary_append bs ds, twice (length bs) (binary ds))

-- the lowest j digits
pub binary_small : (j : ℕ) (bs : List Bool) → binary (take j bs) < 2 ^ j
binary_small zero bs = omega arith
binary_small (suc j) [] = pow_pos (suc j)
binary_small (suc j) (b ∷ bs) = go b (binary_small j bs)
  where
    go : (d : Bool) → binary (take j bs) < 2 ^ j → cond {A = ℕ} d 1 0 + 2 * binary (take j bs) < 2 ^ suc j
    go true l = omega (arith, pow-succ' 2 j)
    go false l = omega (arith, pow-succ' 2 j)

-- and those above them
pub binary_parts :
    (j k : ℕ) (bs : List Bool) → binary (take (j + k) bs) ≡ binary (take j bs) + 2 ^ j * binary (take k (drop j bs))
binary_parts j k bs =
    ⊎_elim
    (λ (short : length bs < j).
    rw (
      take_all (j + k) bs (omega arith),
      take_all j bs (omega arith),
      drop_of_length-le bs {i = j} (omega arith),
      take-nil k,
      mul-zero (2 ^ j),
    )
    (omega arith))
    (λ (within : j ≤ length bs).
    ap binary (take-add j k bs)
    ∙ binary_append (take j bs) (take k (drop j bs))
    ∙ ap (λ (n : ℕ). binary (take j bs) + 2 ^ n * binary (take k (drop j bs))) (length-take-le j bs within))
    (lt_or_le (length bs) j)

-- the number without its lowest j digits
pub binary_later : (j k : ℕ) (bs : List Bool) → binary (take (j + k) bs) / 2 ^ j ≡ binary (take k (drop j bs))
binary_later j k bs =
    let above = binary (take k (drop j bs)) in
    let sum : binary (take (j + k) bs) ≡ above * 2 ^ j + binary (take j bs) =
    binary_parts j k bs
    ∙ add_comm (binary (take j bs)) (2 ^ j * above)
    ∙ ap (λ (n : ℕ). n + binary (take j bs)) (mul_comm (2 ^ j) above) in
    rw sum (high above j (binary_small j bs))

-- ---- one digit more, above the others

digit_put : (bs : List Bool) (b : Bool)
    → bit_or (binary bs) (cond {A = ℕ} b (2 ^ length bs) 0) ≡ binary (bs ++ (b ∷ []))
digit_put bs true =
    let small : binary bs < 2 ^ length bs =
    subst (λ (l : List Bool). binary l < 2 ^ length bs) (take-length bs) (binary_small (length bs) bs) in
    let one : 1 * 2 ^ length bs ≡ 2 ^ length bs = omega arith in
    (rw one at (or_shifted_r 1 (length bs) (binary bs) small)) ∙ omega (arith, binary_append bs (true ∷ []))
digit_put bs false = or_zero_r (binary bs) ∙ omega (arith, binary_append bs (false ∷ []), mul-zero (2 ^ length bs))

pub digit_more :
    (bs : List Bool) (i : ℕ) → i < length bs
    → bit_or (binary (take i bs)) (cond {A = ℕ} (get_or bs i false) (2 ^ i) 0) ≡ binary (take (i + 1) bs)
digit_more bs i l =
    let long : length (take i bs) ≡ i = length-take-le i bs (omega arith) in
    ap (λ (k : ℕ). bit_or (binary (take i bs)) (cond {A = ℕ} (get_or bs i false) (2 ^ k) 0)) (sym long)
    ∙ digit_put (take i bs) (get_or bs i false)
    ∙ ap binary (sym (ap (λ (k : ℕ). take k bs) (add-one i) ∙ take-suc bs i false l))

-- the digits that say which pass a test, with those of one element more
pub digits_more :
    {A : Type 0} (p : A → Bool) (none : A) (xs : List A) (i : ℕ) → i < length xs
    → bit_or (binary (map p (take i xs))) (cond {A = ℕ} (p (get_or xs i none)) (2 ^ i) 0)
    ≡ binary (map p (take (i + 1) xs))
digits_more p none xs i l =
    rw (← take_map p i xs, ← take_map p (i + 1) xs, ← mapped_at p none false xs i l)
    (digit_more (map p xs) i (omega (arith, length-map xs p)))

-- ---- bits joined by `|`

pub or_doubled : (a b : ℕ) → bit_or (2 * a) (2 * b) ≡ 2 * bit_or a b
or_doubled a b =
    let x : 2 * a ≡ a * 2 ^ 1 + 0 = omega arith in
    let y : 2 * b ≡ b * 2 ^ 1 + 0 = omega arith in
    let z : bit_or a b * 2 ^ 1 + bit_or 0 0 ≡ 2 * bit_or a b = omega (arith, or_zero_l 0) in
    ap₂ bit_or x y ∙ or_block 1 a b 0 0 (omega arith) (omega arith) ∙ z

pub or_zero : (a b : ℕ) → eqb (bit_or a b) 0 ≡ (eqb a 0 && eqb b 0)
or_zero a b = go (eqb a 0) refl (eqb b 0) refl
  where
    go : (x : Bool) → eqb a 0 ≡ x → (y : Bool) → eqb b 0 ≡ y → eqb (bit_or a b) 0 ≡ (x && y)
    go true p true q =
        let e : a ≡ 0 = eqb-true a 0 p in
        let f : b ≡ 0 = eqb-true b 0 q in
        eq-eqb (bit_or a b) 0 (omega (arith, or_add_and a b))
    go true p false q = ne_eqb (bit_or a b) 0 (λ z. eqb-false b 0 q (omega (arith, or_add_and a b, and_le_l a b)))
    go false p y q = ne_eqb (bit_or a b) 0 (λ z. eqb-false a 0 p (omega (arith, or_add_and a b, and_le_r a b)))

-- ---- the first digit that is 1

-- where the first k digits are 0 it is among the others
pub first_later :
    (k : ℕ) (bs : List Bool) → k ≤ length bs → binary (take k bs) ≡ 0 → first_one bs ≡ k + first_one (drop k bs)
first_later zero bs l e = omega arith
first_later (suc k) [] l e = absurd (omega arith)
first_later (suc k) (b ∷ bs) l e = go b e (first_later k bs (omega arith))
  where
    go :
        (d : Bool) → cond {A = ℕ} d 1 0 + 2 * binary (take k bs) ≡ 0
        → (binary (take k bs) ≡ 0 → first_one bs ≡ k + first_one (drop k bs))
        → cond {A = ℕ} d 0 (suc (first_one bs)) ≡ suc k + first_one (drop k bs)
    go true e r = absurd (omega arith)
    go false e r = omega (arith, r (omega arith))

-- the number is 0 exactly when no digit is 1
pub no_one : (bs : List Bool) → binary bs ≡ 0 → first_one bs ≡ length bs
no_one bs e =
    first_later (length bs) bs (omega arith) (rw (take-length bs) e) ∙ rw (drop-length bs) (omega arith)

-- one of the first k digits is 1
pub record FirstOne (bs : List Bool) (k : ℕ) : Type 0 where
  pub below : first_one bs < k
  pub within : first_one bs < length bs
  pub higher : ℕ
  pub told : binary (take k bs) ≡ 2 ^ first_one bs * (1 + 2 * higher)

pub first_one_lem : (k : ℕ) (bs : List Bool) → (binary (take k bs) ≡ 0 → ⊥) → FirstOne bs k
first_one_lem zero bs n = absurd (n refl)
first_one_lem (suc k) [] n = absurd (n refl)
first_one_lem (suc k) (b ∷ bs) n = go b n (first_one_lem k bs)
  where
    go :
        (d : Bool) → (cond {A = ℕ} d 1 0 + 2 * binary (take k bs) ≡ 0 → ⊥)
        → ((binary (take k bs) ≡ 0 → ⊥) → FirstOne bs k) → FirstOne (d ∷ bs) (suc k)
    go true n r =
        record { below = omega arith; within = omega arith; higher = binary (take k bs); told = omega arith }
    go false n r =
        let f = r (λ e. n (omega arith)) in
        record {
          below = omega (arith, f.below);
          within = omega (arith, f.within);
          higher = f.higher;
          told = omega (arith, f.told, twice (first_one bs) (1 + 2 * f.higher));
        }

-- of all digits
one_of_all : (bs : List Bool) → (binary bs ≡ 0 → ⊥) → FirstOne bs (length bs)
one_of_all bs n = first_one_lem (length bs) bs (λ e. n (rw (take-length bs) at e))

pub some_one : (bs : List Bool) → (binary bs ≡ 0 → ⊥) → first_one bs < length bs
some_one bs n = (one_of_all bs n).within

-- ---- the lowest bit that is 1, counted and cleared

pub trailing_lowest : (g k higher : ℕ) → g < k → count_trailing_zeros k (2 ^ g * (1 + 2 * higher)) ≡ g
unfolding count_trailing_zeros
trailing_lowest g zero higher h = absurd (omega arith)
trailing_lowest zero (suc k) higher h =
    let odd : (2 ^ 0 * (1 + 2 * higher)) % 2 ≡ 1 = omega arith in
    rw odd
trailing_lowest (suc g) (suc k) higher h =
    let even : (2 * (2 ^ g * (1 + 2 * higher))) % 2 ≡ 0 = omega arith in
    let half : 2 * (2 ^ g * (1 + 2 * higher)) / 2 ≡ 2 ^ g * (1 + 2 * higher) = omega arith in
    rw (twice g (1 + 2 * higher), even, half) (ap suc (trailing_lowest g k higher (omega arith)))

-- the zeros below the first 1, in a number of at least as many bits
pub trailing_zeros :
    (k : ℕ) (bs : List Bool) → length bs ≤ k → (binary bs ≡ 0 → ⊥) → count_trailing_zeros k (binary bs) ≡ first_one bs
trailing_zeros k bs l n =
    let f = one_of_all bs n in
    ap (count_trailing_zeros k) (ap binary (sym (take-length bs)) ∙ f.told)
    ∙ trailing_lowest (first_one bs) k f.higher (omega (arith, f.within))

-- `bits & (bits - 1)`
pub and_lowest :
    (g higher : ℕ) → bit_and (2 ^ g * (1 + 2 * higher)) (2 ^ g * (1 + 2 * higher) - 1) ≡ 2 ^ suc g * higher
and_lowest g higher =
    let half : (1 + 2 * higher) / 2 ≡ higher = omega arith in
    let odd : (1 + 2 * higher) % 2 ≡ 1 = omega arith in
    let half-below : 2 * higher / 2 ≡ higher = omega arith in
    let even : (2 * higher) % 2 ≡ 0 = omega arith in
    let first : bit_and (1 + 2 * higher) (2 * higher) ≡ 2 * higher =
    rw (and_step (1 + 2 * higher) (2 * higher), half, half-below, odd, even, and_self higher) (omega arith) in
    let bits : 2 ^ g * (1 + 2 * higher) ≡ (1 + 2 * higher) * 2 ^ g + 0 =
    omega (arith, mul_comm (2 ^ g) (1 + 2 * higher)) in
    let below : (1 + 2 * higher) * 2 ^ g + 0 - 1 ≡ 2 * higher * 2 ^ g + (2 ^ g - 1) =
    omega (arith, add-mul 1 (2 * higher) (2 ^ g), pow_pos g) in
    rw (
      bits,
      below,
      and_block g (1 + 2 * higher) (2 * higher) 0 (2 ^ g - 1) (pow_pos g) (omega (arith, pow_pos g)),
      first,
      and_zero_l (2 ^ g - 1),
      pow-succ' 2 g,
    )
    (omega (arith, mul_right_comm 2 higher (2 ^ g)))
