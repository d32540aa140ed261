-- A search by blocks: the bits of a block from bit 1 on say which of its words pass, and their lowest is the first.
-- By the laws of digits, and of a search in parts. Assumes nothing.
use Prim.Native.Nat.{ℕ, zero, suc, ◌+◌, ◌-◌, ◌*◌, ◌^◌, ◌≤◌, ◌<◌}
use mathlib.Core.Path.{◌≡◌, refl, sym, ap, ◌∙◌}
use mathlib.Core.Bool.{Bool, true, false, cond}
use mathlib.Core.List.{List, ◌∷◌, map}
use native.Mathlib.Omega.{arith}
use lib.Bits.{bit_or, or_zero_r}
use lib.Count.{count_trailing_zeros}
use lib.ListN.{length, take, drop, get_or, length-map}
use lib.Seq.{drop-drop}
use Rattle.std.specs.Simd.{first_chunks}
use Rattle.logic.specs.Lists.{first_at}
use Rattle.logic.proofs.Firsts.{Seeking, first_mapped, part_length, seek_inside, seek_past}
use Rattle.word.specs.Digits.{binary}
use Rattle.word.proofs.Digits.{digits_more, trailing_zeros, no_one, some_one, or_doubled}

-- the digits that say which pass a test, with that of one element more
module _ {A : Type 0} (p : A → Bool) (d : A) (xs : List A) (i : ℕ) (l : i < length xs) where
  doubled :
      bit_or (2 * binary (map p (take i xs))) (2 * cond {A = ℕ} (p (get_or xs i d)) (2 ^ i) 0)
      ≡ 2 * binary (map p (take (i + 1) xs))
  doubled =
      or_doubled (binary (map p (take i xs))) (cond {A = ℕ} (p (get_or xs i d)) (2 ^ i) 0)
      ∙ ap (λ (k : ℕ). 2 * k) (digits_more p d xs i l)

  -- where it passes
  pub doubled_one :
      p (get_or xs i d) ≡ true
      → bit_or (2 * binary (map p (take i xs))) (2 * 2 ^ i) ≡ 2 * binary (map p (take (i + 1) xs))
  doubled_one e = rw e at doubled

  -- where it does not
  pub doubled_none :
      p (get_or xs i d) ≡ false → 2 * binary (map p (take i xs)) ≡ 2 * binary (map p (take (i + 1) xs))
  doubled_none e = sym (or_zero_r (2 * binary (map p (take i xs)))) ∙ (rw e at doubled)

-- the bits of n elements
module _
    {A : Type 0} (p : A → Bool) (xs : List A) (n bits : ℕ) (long : length xs ≡ n) (e : bits ≡ 2 * binary (map p xs))
  where
    digits_long : length (map p xs) ≡ n
    digits_long = length-map xs p ∙ long

    digits_none : bits ≡ 0 → first_at p xs ≡ n
    digits_none z = sym (first_mapped p xs) ∙ no_one (map p xs) (omega arith) ∙ digits_long

    digits_some : (k : ℕ) → n < k → (bits ≡ 0 → ⊥)
        → (count_trailing_zeros k bits ≡ suc (first_at p xs)) × (first_at p xs < n)
    digits_some k wide z =
        let d : bits ≡ binary (false ∷ map p xs) = omega arith in (
          ap (count_trailing_zeros k) d
              ∙ trailing_zeros k (false ∷ map p xs) (omega (arith, digits_long)) (λ y. z (d ∙ y))
              ∙ ap suc (first_mapped p xs),
          omega (arith, some_one (map p xs) (λ y. z (omega arith)), digits_long, first_mapped p xs),
        )

-- where a block stands
pub chunk_at :
    {A : Type 0} (n k : ℕ) (xs : List A) (d : List A) (i : ℕ) → i < k
    → get_or (first_chunks n k xs) i d ≡ take n (drop (n * i) xs)
chunk_at n zero xs d i l = absurd (omega arith)
chunk_at n (suc k) xs d zero l = let e : n * 0 ≡ 0 = omega arith in rw e refl
chunk_at n (suc k) xs d (suc i) l =
    let e : n + n * i ≡ n * suc i = omega arith in
    chunk_at n k (drop n xs) d i (omega arith)
    ∙ ap (take n) (drop-drop (n * i) n xs ∙ ap (λ (j : ℕ). drop j xs) e)

-- a search that has come to the index i, and the bits of the n words from there on
module _
    {A : Type 0} (p : A → Bool) (xs : List A) (i : ℕ) (s : Seeking p xs i) (n bits : ℕ) (high : i + n ≤ length xs)
    (q : bits ≡ 2 * binary (map p (take n (drop i xs))))
  where
    abbrev block : List A
    block = take n (drop i xs)

    as_part : take (i + n - i) (drop i xs) ≡ block
    as_part = let e : i + n - i ≡ n = omega arith in rw e refl

    block_long : length block ≡ n
    block_long = omega (arith, part_length xs i (i + n) high (omega arith), ap length as_part)

    pub seek_digit :
        (k : ℕ) → n < k → (bits ≡ 0 → ⊥)
        → (i + count_trailing_zeros k bits - 1 ≡ first_at p xs) × (1 ≤ count_trailing_zeros k bits)
        × (count_trailing_zeros k bits ≤ n)
    seek_digit k wide z =
        let d = digits_some p block n bits block_long q k wide z in
        let at : count_trailing_zeros k bits - 1 ≡ first_at p (take (i + n - i) (drop i xs)) =
        rw as_part (omega arith) in
        let f = seek_inside p xs i s (i + n) (count_trailing_zeros k bits - 1) (omega arith) high at (omega arith) in
        (omega arith, omega arith, omega arith)

    pub seek_no_digit : bits ≡ 0 → Seeking p xs (i + n)
    seek_no_digit z =
        let at : n ≡ first_at p (take (i + n - i) (drop i xs)) =
        rw as_part (sym (digits_none p block n bits block_long q z)) in
        seek_past p xs i s (i + n) n (omega arith) high at (omega arith)
