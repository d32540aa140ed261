-- A wing has one L, by division with a remainder. Assumes nothing.
use mathlib.Core.Path.{◌≡◌}
use mathlib.Core.Logic.{◌⊎◌, inl, inr}
use Prim.Native.Nat.{ℕ, ◌+◌, ◌%◌}
use native.Mathlib.Omega.{arith}
use Rattle.rule.specs.Grids.{two_dollars, three_dollars, five_dollars, wing_base}

pub wing_base_lem : (l k : ℕ) → l % five_dollars ≡ 0 → (k ≡ l + two_dollars) ⊎ (k ≡ l + three_dollars) → wing_base k ≡ l
wing_base_lem l k e (inl two) = omega arith
wing_base_lem l k e (inr three) = omega arith
