-- Inner: closed forms that the code computes, and the table of rungs; proofs/Five.antt, proofs/Open.antt and
-- proofs/Most.antt show that they are right. Assumes nothing.
use Rattle.std.specs.Prelude.{ℕ, ◌+◌, ◌*◌, ◌-◌, ◌/◌, ◌%◌, ◌≤◌, min, max, ◌≡◌, Bool, true, false, cond, ◌&&◌, List, [], ◌∷◌, leb, ltb}
use Rattle.logic.specs.Lists.{some}
use Rattle.word.specs.Limits.{highest_strike, half_dollar}
use Rattle.word.specs.declared.class.ClassRecord.{ClassRecord}
use Rattle.rule.specs.declared.terms.Setting.{Setting}
use Rattle.rule.specs.declared.bounds.Rung.{Rung}
use Rattle.word.specs.Programs.{dollar_price}
use Rattle.rule.specs.Terms.{in_halves, is_dollar_class, is_long, is_near, has_two_fifties}
use Rattle.rule.specs.Grids.{one_dollar, two_fifty, five_dollars, five_fifty, ten_dollars, twenty_five_dollars, has_halves}
use Rattle.rule.specs.Grids.{fifty_dollars, hundred_dollars, two_hundred_dollars, grounds}
use Rattle.rule.specs.Ranges.{range_count, low_price, in_range_at}
use Rattle.word.specs.Answers.{is_accepted}
use Rattle.rule.specs.Judgement.{judgement}

-- of the multiples of a step, the last of the five lowest above q
abbrev pub fifth_on : ℕ → ℕ → ℕ
fifth_on step q = (q / step + range_count) * step

-- above a price below it all five are multiples of $2.50
abbrev pub fifteen_dollars : ℕ
fifteen_dollars = 1500

-- The last of the five lowest strikes above a price of at most $20 on the range grid of Standard and Dollar:
-- `whole` in a near $1 class, `dollar` in any $1 class; q is the highest strike at or below the price
abbrev pub fifth_above : Bool → Bool → ℕ → ℕ
fifth_above whole dollar q =
    cond whole (fifth_on (in_halves one_dollar) q)
    (cond dollar (fifth_on (in_halves five_dollars) q)
    (cond (ltb q (in_halves fifteen_dollars)) (fifth_on (in_halves two_fifty) q)
    (q / in_halves two_fifty * in_halves five_dollars)))

-- K ≤ 2P when h is at most P in quarters of a dollar
abbrev pub quarter_dollar : ℕ
quarter_dollar = 25

-- a $1 class whose close allows strikes of $1
abbrev pub is_program_class : ClassRecord → Bool
is_program_class c = is_dollar_class c && ltb c.close dollar_price

-- the last strike that Half gives at the price p, 0 where it gives none
abbrev pub half_end : Setting → ℕ → ℕ
half_end s p =
    cond {A = ℕ} (has_halves s && leb p low_price)
    (min (max (p / quarter_dollar) (in_halves p + range_count)) (in_halves five_fifty)) 0

-- the lowest strike in range on the other grounds at the price p, where 2K is $1 × h; one of at most $20 sets none
abbrev pub low_end : ℕ → ℕ
low_end p = cond {A = ℕ} (ltb low_price p) ((p + (one_dollar - 1)) / one_dollar) 0

-- the highest strike in range on the other grounds at the price p, of those on their grids
abbrev pub high_end : Setting → ℕ → ℕ
high_end s p =
    cond {A = ℕ} (ltb low_price p) (min (3 * p / one_dollar) highest_strike)
    (max (p / quarter_dollar)
    (fifth_above (is_near s && is_dollar_class s.class) (is_dollar_class s.class) (in_halves p)))

-- the last strikes of these, in half dollars: "whole dollars from $1 to $50"; "multiples of $2.50 to $25, of $5 above
-- $25 to $200"; #101: "from $50 to $100"
abbrev pub last_dollar : ℕ
last_dollar = in_halves fifty_dollars

abbrev pub last_two_fifty : ℕ
last_two_fifty = in_halves twenty_five_dollars

abbrev pub last_five : ℕ
last_five = in_halves two_hundred_dollars

abbrev pub last_hundred : ℕ
last_hundred = in_halves hundred_dollars

-- the last strike that whole dollars reach, 0 where the class has none
abbrev pub dollar_end : ClassRecord → ℕ
dollar_end c = cond {A = ℕ} (is_program_class c) last_dollar 0

-- the last strike that multiples of $2.50 reach from the lowest on, 0 in a $1 class: the program takes them to $50
abbrev pub ladder_end : Setting → ℕ
ladder_end s = cond {A = ℕ} (is_dollar_class s.class) 0 (cond {A = ℕ} (has_two_fifties s) last_dollar last_two_fifty)

-- of the strikes to $100, the last that is below $50 or more than $10 below the price, and the last that is no more
-- than $10 above it
abbrev pub last_below : ℕ → ℕ
last_below p = min (in_halves (max p (fifty_dollars + ten_dollars) - (ten_dollars + 1))) last_hundred

abbrev pub last_around : ℕ → ℕ
last_around p = min (in_halves (p + ten_dollars)) last_hundred

-- the same at the close, 0 without the program
abbrev pub below_end : Setting → ℕ
below_end s = cond {A = ℕ} (has_two_fifties s) (last_below s.class.close) 0

abbrev pub around_end : Setting → ℕ
around_end s = cond {A = ℕ} (has_two_fifties s) (last_around s.class.close) 0

-- the prices by which the range is measured
pub data ReadAt (s : Setting) : ℕ → Type 0 where
  at_low : ReadAt s s.class.low
  at_high : ReadAt s s.class.high

-- the last strike that Half gives at the low or at the high
abbrev pub half_top : Setting → ℕ
half_top s = max (half_end s s.class.low) (half_end s s.class.high)

-- the highest strike in range at the low or at the high
abbrev pub top_end : Setting → ℕ
top_end s = max (high_end s s.class.low) (high_end s s.class.high)

abbrev pub rung : ℕ → ℕ → Bool → Rung
rung to step all = record { to = to; step = step; all = all }

-- the table of rungs, each from where the one before it ends: half dollars, whole dollars, multiples of $2.50; those of
-- $5 below the $2.50 program's around the close, and these; multiples of $5, of $10; of a rung that is marked each such
-- multiple in range is open
abbrev pub rungs : Setting → List Rung
rungs s =
    rung (half_top s) 1 true ∷
    rung (dollar_end s.class) (in_halves one_dollar) (is_near s) ∷
    rung (ladder_end s) (in_halves two_fifty) true ∷
    rung (below_end s) (in_halves five_dollars) true ∷
    rung (around_end s) (in_halves two_fifty) true ∷
    rung last_five (in_halves five_dollars) true ∷
    rung highest_strike (in_halves ten_dollars) true ∷ []

-- how many rungs the table has
abbrev pub rung_count : ℕ
rung_count = 7

-- how many strikes are open at most where `high` is the highest in range: all that Half can give, and half of those
-- above, rounded up on each rung
abbrev pub most_open : ℕ → ℕ
most_open high = (in_halves five_fifty + high + rung_count) / 2

-- the rung at the height h: the first that reaches it, else the last
abbrev pub rung_at : List Rung → ℕ → Rung
rung_at [] h = rung h 1 false
rung_at (r ∷ []) h = r
rung_at (r ∷ q ∷ rs) h = cond {A = Rung} (leb h r.to) r (rung_at (q ∷ rs) h)

-- how many half dollars away a standing strike can bear on a new one: $1 in a long expiration, else $0.50
abbrev pub reach_of : Setting → ℕ
reach_of s = cond {A = ℕ} (is_long s) (in_halves one_dollar) (in_halves half_dollar)

-- some ground gives the strike at the price p
abbrev pub is_open_at : Setting → ℕ → ℕ → Bool
is_open_at s p h = some (λ g. in_range_at s p g h) grounds

-- the rules accept the strike where none stands
abbrev pub is_open_strike : Setting → ℕ → Bool
is_open_strike s h = is_accepted (judgement s [] h)

-- the open strikes from `low` to `high` are multiples of the rung's step; and where `all` says so, each of those
-- multiples is open
pub record Multiples (s : Setting) (r : Rung) (low high : ℕ) : Type 0 where
  pub among : (h : ℕ) → low ≤ h → h ≤ high → is_open_strike s h ≡ true → h % r.step ≡ 0
  pub each : r.all ≡ true → (h : ℕ) → low ≤ h → h ≤ high → h % r.step ≡ 0 → is_open_strike s h ≡ true

-- what the code asks of the rung at the height h: it reaches there, and no step is below the reach
pub record Fit (s : Setting) (h : ℕ) (r : Rung) : Type 0 where
  pub reaches : h ≤ r.to
  pub least : 1 ≤ r.step
  pub most : r.step ≤ highest_strike
  pub reach : reach_of s ≤ r.step

-- from the height h the strikes can be tried by the rung r, up to its end or `high`
pub record Climbs (s : Setting) (high h : ℕ) (r : Rung) : Type 0 where
  pub fit : Fit s h r
  pub multiples : Multiples s r h (min r.to high)
