-- Inner: the strikes that words end with and the bounds of the marked ones, read from the words and from series, and
-- the review of a strike by these bounds. Assumes nothing.
use Rattle.std.specs.Prelude.{ℕ, zero, suc, ◌+◌, ◌-◌, ◌/◌, ◌^◌, min, max, ◌≡◌, Bool, cond, not, ◌&&◌, ◌||◌, List, [], ◌∷◌, reverse, eqb, leb, ltb, length}
use Rattle.logic.specs.Lists.{only}
use Rattle.word.specs.Kinds.{kind_of, strike_kind}
use Rattle.word.specs.Codec.{Word, Head, Class, Close, Volume, Expiration, Strike, DayPrice, Counter, Invalid, fields_as}
use Rattle.word.specs.Strikes.{marks}
use Rattle.word.specs.Limits.{half_dollar}
use Rattle.word.specs.Grounds.{dollar_ground, wing_ground}
use Rattle.book.specs.Facts.{Series, is_marked}
use Rattle.book.specs.Views.{review_distance}
use Rattle.review.specs.declared.marks.Bounds.{Bounds}
use Rattle.review.specs.declared.marks.LastStrikes.{LastStrikes}

-- ---- of words

-- the fields of the word w by its kind, whatever their limits: in a book, what was packed
unfoldable pub said : ℕ → Word
said w = fields_as (kind_of w) w

-- strikes are looked at, other words are not
module _ {A : Type 0} (strike : (h on_ground put call : ℕ) → A) (other : A) where
  abbrev pub by_kind : Word → A
  by_kind (Head now used) = other
  by_kind (Class number ds) = other
  by_kind (Close price) = other
  by_kind (Volume contracts) = other
  by_kind (Expiration month) = other
  by_kind (Strike h on_ground put call) = strike h on_ground put call
  by_kind (DayPrice price) = other
  by_kind (Counter own strikes) = other
  by_kind Invalid = other

-- a strike in its field is below the lowest
abbrev pub none_marked : Bounds
none_marked = record { lowest = 2 ^ strike_kind.width; above = 0 }

-- with one marked strike more
abbrev pub widened : Bounds → ℕ → Bounds
widened b h = record { lowest = min h b.lowest; above = max b.above (h + 1) }

abbrev pub with_strike : Bounds → ℕ → ℕ → ℕ → Bounds
with_strike b h put call = cond (marks put call) (widened b h) b

-- over the strikes that the words begin with
abbrev pub bounds_in : Bounds → List ℕ → Bounds
bounds_in b [] = b
bounds_in b (w ∷ ws) = by_kind (λ h on_ground put call. bounds_in (with_strike b h put call) ws) b (said w)

-- how many strikes the words begin with
abbrev pub strikes_in : List ℕ → ℕ
strikes_in [] = 0
strikes_in (w ∷ ws) = by_kind (λ h on_ground put call. suc (strikes_in ws)) 0 (said w)

-- the strikes that the words ws end with: where they begin, and the bounds of the marked ones
pub record EndsWith (ws : List ℕ) (l : LastStrikes) : Type 0 where
  pub first : l.first + strikes_in (reverse ws) ≡ length ws
  pub bounds : l.bounds ≡ bounds_in none_marked (reverse ws)

-- ---- of a strike

-- whether it is above the highest or below the lowest
abbrev pub is_beyond : Bounds → ℕ → Bool
is_beyond b h = leb b.above h || ltb h b.lowest

-- the strikes no farther from a close than the review's distance
abbrev pub near_strikes : ℕ → Bounds
near_strikes close = record {
  lowest = (max close review_distance - review_distance + (half_dollar - 1)) / half_dollar;
  above = (close + review_distance) / half_dollar + 1;
}

-- whether it stays in the review, by the strikes near the close and the marked ones of its expiration
abbrev pub stays : Bounds → Bounds → (h on_ground put call : ℕ) → Bool
stays near marked h on_ground put call =
    not (((eqb on_ground dollar_ground || eqb on_ground wing_ground) && not (marks put call))
    && (is_beyond near h && is_beyond marked h))

-- ---- of series

-- the expiration that stands after the words of ss, where p stood before them: 0 for none, else its month + 1
abbrev pub standing : ℕ → List Series → ℕ
standing p [] = p
standing p (s ∷ ss) = standing (suc s.month) ss

-- how many are of the expiration that p stands for
abbrev pub count_of : ℕ → List Series → ℕ
count_of p ss = length (only (λ t. eqb (suc t.month) p) ss)

-- the marked ones of a month
abbrev pub marked_in : ℕ → List Series → List Series
marked_in month ss = only (λ t. eqb t.month month && is_marked t) ss

abbrev pub widened_by : Bounds → List Series → Bounds
widened_by b [] = b
widened_by b (s ∷ ss) = widened_by (widened b s.strike) ss

-- the bounds of the marked ones of the expiration that p stands for, the highest first
abbrev pub bounds_of : List Series → ℕ → Bounds
bounds_of ss zero = none_marked
bounds_of ss (suc month) = widened_by none_marked (marked_in month (reverse ss))
