-- Inner: words moved down over others. Assumes nothing.
use Rattle.std.specs.Prelude.{ℕ, ◌+◌, ◌-◌, ◌≤◌, ◌≡◌, List, ◌++◌, length, take, drop}

-- the words of xs from `from` to `end` can be moved down to `to`
pub record Movable (to from end : ℕ) (xs : List ℕ) : Type 0 where
  pub down : to ≤ from
  pub part : from ≤ end
  pub inside : end ≤ length xs

-- the words of xs from `from` to `end` stand at `to` in ys; those before `to` and from `end` on are unchanged
pub record MovedTo (to from end : ℕ) (xs ys : List ℕ) : Type 0 where
  pub front : take (to + (end - from)) ys ≡ take to xs ++ take (end - from) (drop from xs)
  pub past : drop end ys ≡ drop end xs
