-- What a passed range test tells: by its comparisons. Assumes nothing.
use Rattle.std.proofs.Common.{◌≡◌, ℕ, ◌≤◌, Bool, true, ◌&&◌, ◌||◌, T, eqb, leb, ⊎_elim, arith, le→leb, eqb→eq, leb→le, leb-true}
use Rattle.logic.proofs.Tests.{ands, and_intro, or_cases, or_left, or_right, parts, same_bool, equal_test}
use Rattle.word.specs.Limits.{between, highest_price, are_day_prices}

pub between_high : (low high n : ℕ) → between low high n ≡ true → n ≤ high
between_high low high n h = leb-true n high (search parts)

-- a low, a close and a high are in order whether there is a close or not
pub record Ordered (low close high : ℕ) : Type 0 where
  pub below : low ≤ close
  pub above : close ≤ high
  pub most : high ≤ highest_price

module _ (low close high : ℕ) where
  -- the two ways: no close has come, or they are prices that rise
  abbrev pub none_yet : Bool
  none_yet = eqb low 0 && (eqb close 0 && eqb high 0)

  abbrev pub rising : Bool
  rising = leb 1 low && (leb low close && (leb close high && leb high highest_price))

  -- what the code tests: their order, and a high of 0 where the low is 0
  abbrev told : Bool
  told = leb low close && (leb close high && (leb high highest_price && (leb 1 low || eqb high 0)))

  pub day_prices : T (are_day_prices low close high) → Ordered low close high
  day_prices t =
      ⊎_elim
      (λ none.
      let l = eqb→eq low 0 (search ands) in
      let c = eqb→eq close 0 (search ands) in
      let h = eqb→eq high 0 (search ands) in
      record { below = omega arith; above = omega arith; most = omega arith })
      (λ some.
      record {
        below = leb→le low close (search ands);
        above = leb→le close high (search ands);
        most = leb→le high highest_price (search ands);
      })
      (or_cases none_yet rising t)

  pub day_prices_told : told ≡ are_day_prices low close high
  day_prices_told = same_bool told (are_day_prices low close high) to from
    where
      to : T told → T (are_day_prices low close high)
      to t =
          ⊎_elim (λ some. or_right none_yet rising (search (ands, and_intro)))
          (λ none.
          let z = eqb→eq high 0 none in
          let l = leb→le low close (search ands) in
          let c = leb→le close high (search ands) in
          let no-low : T (eqb low 0) = equal_test low 0 (omega arith) in
          let no-close : T (eqb close 0) = equal_test close 0 (omega arith) in
          or_left none_yet rising (search and_intro))
          (or_cases (leb 1 low) (eqb high 0) (search ands))

      from : T (are_day_prices low close high) → T told
      from t =
          let o = day_prices t in
          let a : T (leb low close) = le→leb low close o.below in
          let b : T (leb close high) = le→leb close high o.above in
          let c : T (leb high highest_price) = le→leb high highest_price o.most in
          let d : T (leb 1 low || eqb high 0) =
          ⊎_elim (λ none. or_right (leb 1 low) (eqb high 0) (search ands))
          (λ some. or_left (leb 1 low) (eqb high 0) (search ands)) (or_cases none_yet rising t) in
          search and_intro
