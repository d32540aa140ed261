-- Document 01, end of "Spacing": the ground of a strike, or 11, 12 or 13, and the list of permitted strikes. Assumes
-- nothing.
use Rattle.std.specs.Prelude.{ℕ, ◌+◌, ◌≤◌, Bool, false, cond, not, ◌&&◌, ◌||◌, List, [], ◌∷◌, map, eqb, get_or, length, Ok, Err}
use Rattle.word.specs.Limits.{highest_strike, last_month, highest_price}
use Rattle.word.specs.Answers.{is_accepted}
use Rattle.word.specs.declared.answer.Refusal.{Refusal}
use Rattle.word.specs.declared.answer.Refusal.TheVariants.{OffGrid, OutOfRange, TooClose}
use Rattle.word.specs.Answers.{Answer}
use Rattle.word.specs.declared.answer.Accepted.TheVariants.{Ground}
use Rattle.rule.specs.declared.terms.Setting.{Setting}
use Rattle.logic.specs.Lists.{some, only, up_from, first_from}
use Rattle.rule.specs.Grids.{grounds, grid_of}
use Rattle.rule.specs.Ranges.{on_grid, in_range_at, in_range}
use Rattle.rule.specs.Spacing.{Standing, spacing_of}

-- the three results of one ground: grid, range, spacing
abbrev pub row_of : Setting → List Standing → ℕ → ℕ → List Bool
row_of s standing h g = on_grid s g h ∷ in_range s g h ∷ spacing_of s standing g h ∷ []

abbrev pub rows_of : Setting → List Standing → ℕ → List (List Bool)
rows_of s standing h = map (row_of s standing h) grounds

abbrev pub passes_grid : List Bool → Bool
passes_grid row = get_or row 0 false

abbrev pub passes_range : List Bool → Bool
passes_range row = get_or row 0 false && get_or row 1 false

abbrev pub passes : List Bool → Bool
passes row = get_or row 0 false && get_or row 1 false && get_or row 2 false

-- "11 if none passes its grid, 12 if some pass the grid and none the range too, else 13"
abbrev pub refusal_of : List (List Bool) → Refusal
refusal_of rows = cond (some passes_range rows) TooClose (cond (some passes_grid rows) OutOfRange OffGrid)

-- the first ground whose row passes, where the rows are those of the grounds from g up; else the answer v
abbrev pub ground_from : Answer → ℕ → List (List Bool) → Answer
ground_from v g [] = v
ground_from v g (row ∷ rows) = cond (passes row) (Ok (Ground g)) (ground_from v (g + 1) rows)

-- "The ground is the first of the four, from 0 up, that passes grid, range and spacing. With none: .."; with #101 of
-- the five
abbrev pub decided : List (List Bool) → Answer
decided rows = ground_from (Err (refusal_of rows)) 0 rows

-- the row of one ground as the search leaves it: grid, range, and whether it is the ground that was found
abbrev pub found_row : Setting → ℕ → ℕ → ℕ → List Bool
found_row s h found g = on_grid s g h ∷ in_range s g h ∷ eqb found g ∷ []

-- the rows from which the code decides; no ground was found where `found` is their number
abbrev pub found_rows : Setting → ℕ → ℕ → List (List Bool)
found_rows s h found = map (found_row s h found) grounds

-- grid and range of each ground at the price p
abbrev pub rows_at : Setting → ℕ → ℕ → List (List Bool)
rows_at s p h = map (λ g. grid_of s p g h ∷ in_range_at s p g h ∷ false ∷ []) grounds

-- rows in which nothing passes
abbrev pub none_passes : List (List Bool)
none_passes = map (λ g. false ∷ false ∷ false ∷ []) grounds

-- grid and range at one price or at the other
abbrev pub either_row : List Bool → List Bool → List Bool
either_row a b = (get_or a 0 false || get_or b 0 false) ∷ (get_or a 1 false || get_or b 1 false) ∷ false ∷ []

abbrev pub either_rows : List (List Bool) → List (List Bool) → List (List Bool)
either_rows a b = map (λ g. either_row (get_or a g []) (get_or b g [])) grounds

-- the first ground that passes grid, range and spacing; their number where none does
abbrev pub first_ground : Setting → List Standing → ℕ → ℕ
first_ground s standing h = first_from (λ g. passes (row_of s standing h g)) (length grounds) 0

abbrev pub judgement : Setting → List Standing → ℕ → Answer
judgement s standing h = decided (rows_of s standing h)

-- document 01's term, beside the strikes that stand: the rules accept it, and it is none of them
abbrev pub is_permitted_beside : Setting → List Standing → ℕ → Bool
is_permitted_beside s standing h = not (some (λ t. eqb t.strike h) standing) && is_accepted (judgement s standing h)

-- the permitted strikes, rising
unfoldable pub permitted : Setting → List Standing → List ℕ
permitted s standing = only (is_permitted_beside s standing) (up_from highest_strike 1)

-- what can be judged: the low, the high and `now` of a book, and a strike
pub record Judged (s : Setting) (h : ℕ) : Type 0 where
  pub low : s.class.low ≤ highest_price
  pub high : s.class.high ≤ highest_price
  pub current : s.current ≤ last_month
  pub strike : h ≤ highest_strike
