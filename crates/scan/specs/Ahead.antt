-- Inner: what is told ahead of a word: which of the next words are others, words that are no next strikes. Assumes
-- nothing.
use Rattle.std.specs.Prelude.{ℕ, ◌+◌, ◌-◌, ◌*◌, ◌^◌, ◌<◌, ◌≤◌, ◌≡◌, Bool, not, List, [], ◌∷◌, length, drop, get_or, take}
use Rattle.word.specs.Digits.{binary}
use Rattle.word.specs.Strikes.{is_next_strike}
use Rattle.scan.specs.declared.ahead.Blocks.{Blocks}

-- which words are no next strikes, each after the one before it
abbrev pub others : ℕ → List ℕ → List Bool
others before [] = []
others before (w ∷ ws) = not (is_next_strike before w) ∷ others w ws

-- a binary number, its lowest digit first: 1 for each of them
abbrev pub other_bits : ℕ → List ℕ → ℕ
other_bits before ws = binary (others before ws)

-- how many words are told of at a time: a bit for each in a number of 64 bits
abbrev pub block_length : ℕ
block_length = 64

-- how many of them at once
abbrev pub half_block : ℕ
half_block = 32

-- the bits of k words from i on
abbrev pub bits_at : List ℕ → ℕ → ℕ → ℕ
bits_at ws i k = other_bits (get_or ws (i - 1) 0) (take k (drop i ws))

-- the bits of the first block are those of the words after `at`, as far as it reaches; the word at `at` is looked at by
-- itself, and its bit is 1. `more` are those of the next block.
pub record Tells (ws : List ℕ) (at : ℕ) (blocks : Blocks) : Type 0 where
  pub first : 1 ≤ blocks.base
  pub onward : blocks.base ≤ at
  pub within : at ≤ length ws
  pub reached : at < length ws → at < blocks.base + block_length
  pub told :
      at < length ws
      → blocks.bits
      ≡ 2 ^ (at - blocks.base) * (1 + 2 * bits_at ws (at + 1) (blocks.base + block_length - (at + 1)))
  pub further : blocks.more ≡ bits_at ws (blocks.base + block_length) block_length
