-- Inner: binary digits, lowest first, and the number that they make. Assumes nothing.
use Rattle.std.specs.Prelude.{ℕ, ◌+◌, ◌*◌, Bool, cond, List, [], ◌∷◌}
use Rattle.logic.specs.Lists.{first_at}

-- the number whose digits these are
abbrev pub binary : List Bool → ℕ
binary [] = 0
binary (b ∷ bs) = cond {A = ℕ} b 1 0 + 2 * binary bs

-- the index of the first digit that is 1, or how many digits there are
abbrev pub first_one : List Bool → ℕ
first_one bs = first_at (λ b. b) bs
