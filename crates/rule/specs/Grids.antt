-- Document 01, "Grids", and requests #101, ground 4, and #103, "The program's price conditions .. keep the close": the
-- ladder and the grid of each ground. A strike is given as K, in cents. Assumes nothing.
use Rattle.std.specs.Prelude.{ℕ, zero, suc, ◌+◌, ◌*◌, ◌/◌, ◌%◌, Bool, not, ◌&&◌, ◌||◌, List, [], ◌∷◌, leb, ltb, eqb}
use Rattle.word.specs.declared.class.ClassRecord.{ClassRecord}
use Rattle.rule.specs.declared.terms.Setting.{Setting}
use Rattle.word.specs.Grounds.{standard_ground, dollar_ground, half_ground, wing_ground, two_fifty_ground}
use Rattle.word.specs.Programs.{dollar_price, half_price, half_volume}
use Rattle.word.specs.Limits.{half_dollar, cents}
use Rattle.rule.specs.Terms.{is_dollar_class, is_half_class, is_long, is_near, has_two_fifties, apart}

abbrev pub multiple : ℕ → ℕ → Bool
multiple n k = eqb (k % n) 0

-- "multiples of $2.50 to $25, of $5 above $25 to $200, of $10 above $200", in cents
abbrev pub two_fifty : ℕ
two_fifty = 250

abbrev pub twenty_five_dollars : ℕ
twenty_five_dollars = 2500

abbrev pub five_dollars : ℕ
five_dollars = 500

abbrev pub two_hundred_dollars : ℕ
two_hundred_dollars = 20000

abbrev pub ten_dollars : ℕ
ten_dollars = 1000

-- document 01's term: "The *ladder*: multiples of $2.50 to $25, of $5 above $25 to $200, of $10 above $200."
abbrev pub ladder : ℕ → Bool
ladder k =
    leb k twenty_five_dollars && multiple two_fifty k
    || ltb twenty_five_dollars k && leb k two_hundred_dollars && multiple five_dollars k
    || ltb two_hundred_dollars k && multiple ten_dollars k

-- "every strike below $50"; "whole dollars from $1 to $50"
abbrev pub one_dollar : ℕ
one_dollar = 100

abbrev pub fifty_dollars : ℕ
fifty_dollars = 5000

-- "every strike below $50 that isn't a multiple of $5 if the class is a $1 class"
abbrev pub is_barred : ClassRecord → ℕ → Bool
is_barred c k = is_dollar_class c && ltb k fifty_dollars && not (multiple five_dollars k)

-- "Standard: the ladder, less every strike below $50 that isn't a multiple of $5 if the class is a $1 class."
abbrev pub standard_grid : ClassRecord → ℕ → Bool
standard_grid c k = ladder k && not (is_barred c k)

-- "Dollar: near, $1 class, P below 5,000; whole dollars from $1 to $50."
abbrev pub dollar_grid : Setting → ℕ → Bool
dollar_grid s k =
    is_near s && is_dollar_class s.class && ltb s.class.close dollar_price
    && (multiple one_dollar k && leb one_dollar k && leb k fifty_dollars)

-- "multiples of $0.50 to $5.50"
abbrev pub five_fifty : ℕ
five_fifty = 550

abbrev pub half_dollars : ℕ → Bool
half_dollars k = multiple half_dollar k && leb k five_fifty

-- "near, half class, P at most 500, volume at least 1,000": an expiration that has strikes of the $0.50 program
abbrev pub has_halves : Setting → Bool
has_halves s = is_near s && is_half_class s.class && leb s.class.close half_price && leb half_volume s.class.volume

-- "Half: near, half class, P at most 500, volume at least 1,000; multiples of $0.50 to $5.50."
abbrev pub half_grid : Setting → ℕ → Bool
half_grid s k = has_halves s && half_dollars k

-- the L of a wing, which stands $2 or $3 above it: the multiple of $5 at or below it
abbrev pub wing_base : ℕ → ℕ
wing_base k = k / five_dollars * five_dollars

-- "For L a multiple of $5 from $5 to $45: L + $2 if .. ; L + $3 if .."
abbrev pub forty_five_dollars : ℕ
forty_five_dollars = 4500

abbrev pub two_dollars : ℕ
two_dollars = 200

abbrev pub three_dollars : ℕ
three_dollars = 300

-- "L + $2 if L is at or above P; L + $3 if L + $5 is at or below P; and L + $2 if L is the largest multiple of $5
-- strictly below P."
abbrev pub wing_at : ℕ → ℕ → ℕ → Bool
wing_at p l k =
    eqb k (l + two_dollars) && leb p l
    || eqb k (l + three_dollars) && leb (l + five_dollars) p
    || eqb k (l + two_dollars) && (ltb l p && leb p (l + five_dollars))

-- "Wing: long, $1 class, P below 5,000. For L a multiple of $5 from $5 to $45", its position taken at the price p
abbrev pub wing_grid : Setting → ℕ → ℕ → Bool
wing_grid s p k =
    is_long s && is_dollar_class s.class && ltb s.class.close dollar_price
    && (leb five_dollars (wing_base k) && leb (wing_base k) forty_five_dollars && wing_at p (wing_base k) k)

-- "from $50 to $100"
abbrev pub hundred_dollars : ℕ
hundred_dollars = 10000

-- #101: "multiples of $2.50 above $25 and below $50, and from $50 to $100 those no more than $10 from the close"; "The
-- $10 condition belongs to its grid."
abbrev pub two_fifties : ℕ → ℕ → Bool
two_fifties p k =
    multiple two_fifty k
    && (ltb twenty_five_dollars k && ltb k fifty_dollars
    || leb fifty_dollars k && leb k hundred_dollars && leb (apart k p) ten_dollars)

-- #101: "Near expirations may then have ..", "In a $1 class ground 4 grants no strike below $50 that isn't a multiple
-- of $5."
abbrev pub two_fifty_grid : Setting → ℕ → Bool
two_fifty_grid s k = has_two_fifties s && (two_fifties s.class.close k && not (is_barred s.class k))

-- "Four grounds, each with its own grid", and #101: "This is ground 4, tried after Wing"
abbrev pub grounds : List ℕ
grounds = standard_ground ∷ dollar_ground ∷ half_ground ∷ wing_ground ∷ two_fifty_ground ∷ []

-- the grid of a ground, where the position of a wing is taken at the price p
abbrev pub grid_of : Setting → ℕ → ℕ → ℕ → Bool
grid_of s p zero h = standard_grid s.class (cents h)
grid_of s p (suc zero) h = dollar_grid s (cents h)
grid_of s p (suc (suc zero)) h = half_grid s (cents h)
grid_of s p (suc (suc (suc zero))) h = wing_grid s p (cents h)
grid_of s p (suc (suc (suc (suc g)))) h = two_fifty_grid s (cents h)
