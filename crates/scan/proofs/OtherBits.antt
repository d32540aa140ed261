-- The bits that tell the others in a stretch of words, as the digits of its words: by its parts, and by its next
-- strikes. Assumes nothing.
use Prim.Native.Nat.{ℕ, zero, suc, ◌+◌, ◌-◌, ◌*◌, ◌/◌, ◌%◌, ◌^◌, ◌<◌, ◌≤◌, min}
use mathlib.Core.Path.{◌≡◌, refl, sym, ap, ap₂, ◌∙◌}
use mathlib.Core.Bool.{Bool, true, false, cond, not}
use mathlib.Core.List.{List, [], ◌∷◌}
use mathlib.Core.Logic.{inl, inr}
use native.Mathlib.Omega.{arith}
use native.Mathlib.Nat.{div-one}
use lib.ListN.{length, drop, get_or, take, drop_of_length-le, length-drop}
use lib.Seq.{drop-cons, drop-drop, get_or-drop, take_all}
use lib.Pow.{shl_exact}
use lib.Bits.{bit_or, or_shifted_r, or_zero_r}
use Rattle.word.specs.Digits.{binary, first_one}
use Rattle.word.proofs.Digits.{binary_small, binary_parts, binary_later, digit_more, first_later, first_one_lem}
use Rattle.word.specs.Strikes.{is_next_strike}
use Rattle.scan.specs.NextStrikes.{next_length}
use Rattle.scan.specs.Ahead.{others, other_bits, bits_at}
use Rattle.logic.proofs.Slices.{before_later}
use Rattle.logic.proofs.Tests.{lt_or_le}

-- ---- the digits of some words

others_long : (before : ℕ) (ws : List ℕ) → length (others before ws) ≡ length ws
others_long before [] = refl
others_long before (w ∷ ws) = ap suc (others_long w ws)

others_take : (k before : ℕ) (ws : List ℕ) → others before (take k ws) ≡ take k (others before ws)
others_take zero before ws = refl
others_take (suc k) before [] = refl
others_take (suc k) before (w ∷ ws) = ap (λ (l : List Bool). not (is_next_strike before w) ∷ l) (others_take k w ws)

others_drop :
    (k before : ℕ) (ws : List ℕ) → drop k (others before ws) ≡ others (get_or (before ∷ ws) k 0) (drop k ws)
others_drop zero before ws = refl
others_drop (suc k) before [] = refl
others_drop (suc k) before (w ∷ ws) = others_drop k w ws

others_at :
    (before : ℕ) (ws : List ℕ) (i : ℕ) → i < length ws
    → get_or (others before ws) i false ≡ not (is_next_strike (get_or (before ∷ ws) i 0) (get_or ws i 0))
others_at before [] i l = absurd (omega arith)
others_at before (w ∷ ws) zero l = refl
others_at before (w ∷ ws) (suc i) l = others_at w ws i (omega arith)

-- the next strikes end at the first other
others_next : (before : ℕ) (ws : List ℕ) → next_length before ws ≡ first_one (others before ws)
others_next before [] = refl
others_next before (w ∷ ws) = go (is_next_strike before w) (others_next w ws)
  where
    go :
        (next : Bool) → next_length w ws ≡ first_one (others w ws)
        → cond {A = ℕ} next (suc (next_length w ws)) 0 ≡ cond {A = ℕ} (not next) 0 (suc (first_one (others w ws)))
    go true e = ap suc e
    go false e = refl

-- ---- the bits of the words from an index on

-- how many words from i on are next strikes
abbrev pub next_at : List ℕ → ℕ → ℕ
next_at ws i = next_length (get_or ws (i - 1) 0) (drop i ws)

module _ (ws : List ℕ) where
  -- the digits of all words from i on
  abbrev digits : ℕ → List Bool
  digits i = others (get_or ws (i - 1) 0) (drop i ws)

  digits_long : (i : ℕ) → length (digits i) ≡ length ws - i
  digits_long i = others_long (get_or ws (i - 1) 0) (drop i ws) ∙ length-drop i ws

  digits_later : (i j : ℕ) → drop j (digits i) ≡ digits (i + j)
  digits_later i j =
      others_drop j (get_or ws (i - 1) 0) (drop i ws) ∙ ap₂ others (before_later ws i j) (drop-drop j i ws)

  bits_digits : (i k : ℕ) → bits_at ws i k ≡ binary (take k (digits i))
  bits_digits i k = ap binary (others_take k (get_or ws (i - 1) 0) (drop i ws))

  pub bits_whole : (i k : ℕ) → length ws ≤ i + k → bits_at ws i k ≡ other_bits (get_or ws (i - 1) 0) (drop i ws)
  bits_whole i k h = rw (take_all k (drop i ws) (omega (arith, length-drop i ws)))

  pub bits_lt : (i k : ℕ) → bits_at ws i k < 2 ^ k
  bits_lt i k = rw (bits_digits i k) (binary_small k (digits i))

  bits_parts : (j i k : ℕ) → bits_at ws i (j + k) ≡ bits_at ws i j + 2 ^ j * bits_at ws (i + j) k
  bits_parts j i k =
      rw (bits_digits i (j + k), bits_digits i j, bits_digits (i + j) k, ← digits_later i j)
      (binary_parts j k (digits i))

  -- the bits without the lowest j of them
  pub bits_later : (j i k : ℕ) → bits_at ws i (j + k) / 2 ^ j ≡ bits_at ws (i + j) k
  bits_later j i k =
      rw (bits_digits i (j + k), bits_digits (i + j) k, ← digits_later i j) (binary_later j k (digits i))

  -- with the bit of one word more
  bits_more :
      (i : ℕ) (next : Bool) → i + 1 < length ws → is_next_strike (get_or ws i 0) (get_or ws (i + 1) 0) ≡ next
      → bit_or (bits_at ws 1 i) (cond {A = ℕ} (not next) (2 ^ i) 0) ≡ bits_at ws 1 (i + 1)
  bits_more i next l e =
      let before : 1 + i - 1 ≡ i = omega arith in
      let place : 1 + i ≡ i + 1 = omega arith in
      let digit : get_or (digits 1) i false ≡ not next =
      others_at (get_or ws 0 0) (drop 1 ws) i (omega (arith, length-drop 1 ws))
      ∙ rw (before_later ws 1 i, before, get_or-drop 1 ws i 0, place, e) in
      rw (bits_digits 1 i, bits_digits 1 (i + 1), ← digit) (digit_more (digits 1) i (omega (arith, digits_long 1)))

  -- of a next strike, and of another word, as `1 << i` in 32 bits
  pub bits_next :
      (i : ℕ) → i + 1 < length ws → is_next_strike (get_or ws i 0) (get_or ws (i + 1) 0) ≡ true
      → bits_at ws 1 i ≡ bits_at ws 1 (i + 1)
  bits_next i l e = sym (or_zero_r (bits_at ws 1 i)) ∙ bits_more i true l e

  pub bits_other :
      (i : ℕ) → i + 1 < length ws → i < 32 → is_next_strike (get_or ws i 0) (get_or ws (i + 1) 0) ≡ false
      → bit_or (bits_at ws 1 i) (1 * 2 ^ i % 2 ^ 32) ≡ bits_at ws 1 (i + 1)
  bits_other i l h e =
      let bit : 1 * 2 ^ i ≡ 2 ^ i = omega arith in
      rw (shl_exact {a = 1} 1 i 32 (omega arith) (omega arith), bit) (bits_more i false l e)

  -- the words of `&ws[from..to]` after its first
  pub bits_part :
      (from to i k : ℕ) → from + 1 ≡ i → i + k ≡ to → to ≤ length ws
      → let part = take (to - from) (drop from ws) in
      other_bits (get_or part 0 0) (drop 1 part) ≡ bits_at ws i k
  bits_part from to i k e f l =
      let more : to - from ≡ suc k = omega arith in
      let place : i ≡ suc from = omega arith in
      let before : suc from - 1 ≡ from = omega arith in
      rw (more, drop-cons ws from 0 (omega arith), place, before)

  -- of k words that begin at i, or earlier, as the last of all, those before i are shifted out
  pub bits_last :
      (k start i : ℕ) → k ≤ length ws → i ≤ length ws → start ≡ min i (length ws - k)
      → bits_at ws start k / 2 ^ (i - start) ≡ bits_at ws i k
  bits_last k start i l m e =
      elim (lt_or_le start i) [
        | inl h ↦
            let all : i - start + (start + k - i) ≡ k = omega arith in
            let here : start + (i - start) ≡ i = omega arith in
            rw (all, here) at (bits_later (i - start) start (start + k - i))
            ∙ bits_whole i (start + k - i) (omega arith) ∙ sym (bits_whole i k (omega arith))
        | inr h ↦
            let same : start ≡ i = omega arith in
            let none : i - i ≡ 0 = omega arith in
            rw (same, none) (div-one (bits_at ws i k))
      ]

  -- `low | (high << 32)` in 64 bits
  pub bits_joined :
      (i k : ℕ) → k ≤ 32
      → bit_or (bits_at ws i 32) (bits_at ws (i + 32) k * 2 ^ 32 % 2 ^ 64) ≡ bits_at ws i (32 + k)
  bits_joined i k h =
      rw (
        shl_exact k 32 64 (bits_lt (i + 32) k) (omega arith),
        or_shifted_r (bits_at ws (i + 32) k) 32 (bits_at ws i 32) (bits_lt i 32),
      )
      (omega (arith, bits_parts 32 i k))

  next_end : (i : ℕ) → length ws ≤ i → next_at ws i ≡ 0
  next_end i h = rw (drop_of_length-le ws h)

  next_first : (i : ℕ) → next_at ws i ≡ first_one (digits i)
  next_first i = others_next (get_or ws (i - 1) 0) (drop i ws)

  -- where no bit is 1 the words are next strikes
  pub next_on : (k i : ℕ) → i + k ≤ length ws → bits_at ws i k ≡ 0 → next_at ws i ≡ k + next_at ws (i + k)
  next_on k i l e =
      rw (next_first i, next_first (i + k), ← digits_later i k)
      (first_later k (digits i) (omega (arith, digits_long i)) (sym (bits_digits i k) ∙ e))

  pub next_all :
      (k i : ℕ) → i ≤ length ws → length ws ≤ i + k → bits_at ws i k ≡ 0 → i + next_at ws i ≡ length ws
  next_all k i l m e =
      omega (
        arith,
        next_on (length ws - i) i (omega arith)
            (bits_whole i (length ws - i) (omega arith) ∙ sym (bits_whole i k m) ∙ e),
        next_end (i + (length ws - i)) (omega arith),
      )

-- a bit of k words from i on is 1: the lowest is that of the first word that is no next strike
pub record FirstOther (ws : List ℕ) (i k : ℕ) : Type 0 where
  pub below : next_at ws i < k
  pub within : i + next_at ws i < length ws
  pub higher : ℕ
  pub told : bits_at ws i k ≡ 2 ^ next_at ws i * (1 + 2 * higher)

pub first_other : (ws : List ℕ) (k i : ℕ) → 0 < bits_at ws i k → FirstOther ws i k
first_other ws k i l =
    let f = first_one_lem k (digits ws i) (λ e. omega (arith, bits_digits ws i k)) in
    let first : next_at ws i ≡ first_one (digits ws i) = next_first ws i in
    record {
      below = omega (arith, f.below);
      within = omega (arith, f.within, digits_long ws i);
      higher = f.higher;
      told = bits_digits ws i k ∙ f.told ∙ ap (λ (n : ℕ). 2 ^ n * (1 + 2 * f.higher)) (sym first);
    }
