-- Document 01, "Range", and requests #101, "The range rule holds as for Standard.", and #103, "it passes at the low or
-- at the high". A grid is a test of K, in cents; a strike is counted in half dollars, h. Assumes nothing.
use Rattle.std.specs.Prelude.{ℕ, zero, suc, ◌+◌, ◌*◌, Bool, true, false, cond, ◌&&◌, ◌||◌, List, [], ◌∷◌, leb, ltb, eqb}
use Rattle.word.specs.Limits.{highest_strike, cents}
use Rattle.rule.specs.declared.terms.Setting.{Setting}
use Rattle.logic.specs.Lists.{some}
use Rattle.rule.specs.Terms.{in_halves, is_dollar_class, is_near}
use Rattle.rule.specs.Grids.{one_dollar, five_dollars, multiple, standard_grid, half_dollars, wing_base, grid_of}

-- the n lowest strikes that pass the test, of the `left` strikes from h up
unfoldable pub lowest : (ℕ → Bool) → ℕ → ℕ → ℕ → List ℕ
lowest test zero n h = []
lowest test (suc left) zero h = []
lowest test (suc left) (suc n) h =
    elim (test h) [ true ↦ h ∷ lowest test left n (suc h) | false ↦ lowest test left (suc n) (suc h) ]

-- "the five lowest strikes above P"
abbrev pub range_count : ℕ
range_count = 5

-- "K is among the five lowest strikes above P of the *range grid*": of all strikes from 1 to 19,999
unfoldable pub among_five : (ℕ → Bool) → ℕ → ℕ → Bool
among_five grid p h = some (eqb h) (lowest (λ x. ltb p (cents x) && grid (cents x)) highest_strike range_count 1)

-- "At P above 2,000"; "At P of 2,000 or less"
abbrev pub low_price : ℕ
low_price = 2000

-- "At P above 2,000, K is in range when P ≤ 2K ≤ 3P. At P of 2,000 or less, K is in range when K ≤ 2P, or when K is
-- among the five"
abbrev pub range_by : (ℕ → Bool) → ℕ → ℕ → Bool
range_by grid p h =
    cond (ltb low_price p)
    (leb p (2 * cents h) && leb (2 * cents h) (3 * p))
    (leb (cents h) (2 * p) || among_five grid p h)

-- document 01's term: "That grid is: whole dollars for Standard and Dollar in a near $1 class; the Standard grid
-- otherwise for Standard"
abbrev pub range_grid : Setting → ℕ → Bool
range_grid s k = cond (is_near s && is_dollar_class s.class) (multiple one_dollar k) (standard_grid s.class k)

abbrev pub standard_range : Setting → ℕ → ℕ → Bool
standard_range s p h = range_by (range_grid s) p h

-- the range of a ground at the price p: "the Half grid for Half, which may hold fewer than five. A wing is in range
-- when L and L + $5 both are, as Standard."; #101: "The range rule holds as for Standard."
abbrev pub range_of : Setting → ℕ → ℕ → ℕ → Bool
range_of s p zero h = standard_range s p h
range_of s p (suc zero) h = standard_range s p h
range_of s p (suc (suc zero)) h = range_by half_dollars p h
range_of s p (suc (suc (suc zero))) h =
    standard_range s p (in_halves (wing_base (cents h)))
    && standard_range s p (in_halves (wing_base (cents h)) + in_halves five_dollars)
range_of s p (suc (suc (suc (suc g)))) h = standard_range s p h

-- ---- #103, the day's low and high

-- "its grid asks the position at either"; the other grids are the same at both
abbrev pub on_grid : Setting → ℕ → ℕ → Bool
on_grid s g h = grid_of s s.class.low g h || grid_of s s.class.high g h

-- the range at the price p, where "a wing's position is taken at the same price"
abbrev pub in_range_at : Setting → ℕ → ℕ → ℕ → Bool
in_range_at s p g h = grid_of s p g h && range_of s p g h

-- "A strike or wing passes its range when it passes at the low or at the high"
abbrev pub in_range : Setting → ℕ → ℕ → Bool
in_range s g h = in_range_at s s.class.low g h || in_range_at s s.class.high g h
