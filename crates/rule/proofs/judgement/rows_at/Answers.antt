-- `rows_at` answers the rows at one price: each call ensures a grid or an end, on each grid the ends tell the range,
-- and the grids that are left out are empty. Assumes nothing.
use Rattle.std.proofs.Common.{◌≡◌, ℕ, ◌+◌, ◌≤◌, Bool, true, false, ◌&&◌, leb, [], ◌∷◌, sym, ◌∙◌, arith}
use mathlib.Core.Bool.{and_assoc}
use Rattle.logic.proofs.Tests.{T_true, and_where}
use Rattle.word.specs.Limits.{highest_strike, cents}
use Rattle.rule.specs.declared.terms.Setting.{Setting}
use Rattle.rule.specs.Terms.{in_halves, is_long}
use Rattle.rule.specs.Grids.{grid_of, wing_base}
use Rattle.rule.specs.Ranges.{range_of, in_range_at}
use Rattle.rule.specs.Ends.{half_end, low_end, high_end}
use Rattle.rule.specs.Judgement.{rows_at}
use Rattle.rule.proofs.Bound.{standard_ends, dollar_ends, half_ends, wing_ends, two_fifty_ends}
use Rattle.rule.proofs.judgement.rows_at.Goals as goal

-- grid and range of each ground, by the ends
module _ (s : Setting) (p h : ℕ) where
  abbrev between : Bool
  between = leb (low_end p) h && leb h (high_end s p)

  standard_row : h ≤ highest_strike → (grid_of s p 0 h && between) ≡ in_range_at s p 0 h
  standard_row most =
      and_where (grid_of s p 0 h) between (range_of s p 0 h) (λ t. sym (standard_ends s p h (T_true _ t) most))

  dollar_row : h ≤ highest_strike → (grid_of s p 1 h && between) ≡ in_range_at s p 1 h
  dollar_row most =
      and_where (grid_of s p 1 h) between (range_of s p 1 h) (λ t. sym (dollar_ends s p h (T_true _ t) most))

  half_row : ((grid_of s p 2 h && leb (low_end p) h) && leb h (half_end s p)) ≡ in_range_at s p 2 h
  half_row =
      let low : Bool = leb (low_end p) h in
      let high : Bool = leb h (half_end s p) in
      and_assoc (grid_of s p 2 h) low high
      ∙ and_where (grid_of s p 2 h) (low && high) (range_of s p 2 h) (λ t. sym (half_ends s p h (T_true _ t)))

  wing_row : {base : ℕ} → base ≡ in_halves (wing_base (cents h)) →
      ((grid_of s p 3 h && leb (low_end p) base) && leb (base + 10) (high_end s p)) ≡ in_range_at s p 3 h
  wing_row {base} e =
      let low : Bool = leb (low_end p) base in
      let high : Bool = leb (base + 10) (high_end s p) in
      and_assoc (grid_of s p 3 h) low high
      ∙ and_where (grid_of s p 3 h) (low && high) (range_of s p 3 h) (λ t. sym (wing_ends s p h (T_true _ t) ∙ rw e))

  two_fifty_row : h ≤ highest_strike → (grid_of s p 4 h && between) ≡ in_range_at s p 4 h
  two_fifty_row most =
      and_where (grid_of s p 4 h) between (range_of s p 4 h) (λ t. sym (two_fifty_ends s p h (T_true _ t) most))

  -- where the expiration is long Dollar, Half and ground 4 are empty
  long_rows : {base : ℕ} → is_long s ≡ true → h ≤ highest_strike → base ≡ in_halves (wing_base (cents h)) →
      (grid_of s p 0 h ∷ (grid_of s p 0 h && between) ∷ false ∷ []) ∷ (false ∷ false ∷ false ∷ [])
      ∷ (false ∷ false ∷ false ∷ [])
      ∷ (grid_of s p 3 h ∷ ((grid_of s p 3 h && leb (low_end p) base) && leb (base + 10) (high_end s p)) ∷ false ∷ [])
      ∷ (false ∷ false ∷ false ∷ []) ∷ []
      ≡ rows_at s p h
  long_rows long most e = rw (standard_row most, wing_row e, long)

pub returns-then-is_long : goal.returns-then-is_long
returns-then-is_long c =
    let s = c.args.s in
    rw (
      c.on_wing-wing.ensures,
      c.on_standard-standard.ensures,
      c.high_end-high.ensures,
      c.low_end-low.ensures,
      c.cents-k.ensures,
    )
    (long_rows s c.args.p c.args.strike.0 (sym c.is_long.ensures ∙ c.if-is_long.true) c.requires.0.strike (omega arith))

pub returns : goal.returns
returns c =
    let s = c.args.s in
    let p = c.args.p in
    let h = c.args.strike.0 in
    let most = c.requires.0.strike in
    rw (
      c.half_end.ensures,
      c.on_two_fifty-two_fifty.ensures,
      c.on_half-half.ensures,
      c.on_dollar-dollar.ensures,
      c.on_standard-standard.ensures,
      c.high_end-high.ensures,
      c.low_end-low.ensures,
      c.cents-k.ensures,
      standard_row s p h most,
      dollar_row s p h most,
      half_row s p h,
      two_fifty_row s p h most,
      sym c.is_long.ensures ∙ c.if-is_long.false,
    )
