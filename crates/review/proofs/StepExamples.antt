-- Document 01's two examples of the review, at a close of 1300, as two expirations of one class: its words after each
-- step, computed. Assumes nothing.
use Prim.Native.Nat.{ℕ}
use mathlib.Core.Path.{◌≡◌, refl}
use mathlib.Core.List.{[], ◌∷◌, map}
use Rattle.word.specs.Codec.{Expiration, Strike, packed}
use Rattle.word.specs.Grounds.{dollar_ground, standard_ground}
use Rattle.book.specs.Facts.{Series, OpenClass}
use Rattle.review.specs.ReviewSteps.{gone_count, words_after}

series : (month strike on_ground put : ℕ) → Series
series month strike on_ground put =
    record { month = month; strike = strike; on_ground = on_ground; put = put; call = 0 }

-- "Dollar $7, $8, $19, Standard $20, none marked: $7 and $19 go. With $7 marked, $19 goes."
reviewed : OpenClass
unfolding series
reviewed = record {
  figures = record { number = 7; close = 1300; volume = 0; low = 1300; high = 1300; designations = 1 ∷ 0 ∷ 0 ∷ [] };
  series =
      series 5 14 dollar_ground 0
      ∷ series 5 16 dollar_ground 0
      ∷ series 5 38 dollar_ground 0
      ∷ series 5 40 standard_ground 0
      ∷ series 7 14 dollar_ground 1
      ∷ series 7 38 dollar_ground 0
      ∷ [];
}

month : ℕ → ℕ
month m = packed (Expiration m)

dollar : ℕ → ℕ
dollar h = packed (Strike h dollar_ground 0 0)

standard : ℕ → ℕ
standard h = packed (Strike h standard_ground 0 0)

marked : ℕ → ℕ
marked h = packed (Strike h dollar_ground 1 0)

free : ℕ
free = 0

steps_words :
    map (λ n. words_after n reviewed) (0 ∷ 1 ∷ 2 ∷ 3 ∷ 4 ∷ 5 ∷ 6 ∷ [])
    ≡ (month 5 ∷ dollar 14 ∷ dollar 16 ∷ dollar 38 ∷ standard 40 ∷ month 7 ∷ marked 14 ∷ dollar 38 ∷ [])
    ∷ (month 5 ∷ dollar 14 ∷ dollar 16 ∷ dollar 38 ∷ standard 40 ∷ month 7 ∷ marked 14 ∷ free ∷ [])
    ∷ (month 5 ∷ dollar 14 ∷ dollar 16 ∷ dollar 38 ∷ standard 40 ∷ free ∷ month 7 ∷ marked 14 ∷ [])
    ∷ (month 5 ∷ dollar 14 ∷ dollar 16 ∷ dollar 38 ∷ free ∷ standard 40 ∷ month 7 ∷ marked 14 ∷ [])
    ∷ (month 5 ∷ dollar 14 ∷ dollar 16 ∷ free ∷ free ∷ standard 40 ∷ month 7 ∷ marked 14 ∷ [])
    ∷ (month 5 ∷ dollar 14 ∷ free ∷ free ∷ dollar 16 ∷ standard 40 ∷ month 7 ∷ marked 14 ∷ [])
    ∷ (free ∷ free ∷ free ∷ month 5 ∷ dollar 16 ∷ standard 40 ∷ month 7 ∷ marked 14 ∷ [])
    ∷ []
unfolding words_after reviewed month dollar standard marked free
steps_words = refl

steps_counts : map (λ n. gone_count n reviewed) (0 ∷ 1 ∷ 2 ∷ 3 ∷ 4 ∷ 5 ∷ 6 ∷ []) ≡ 0 ∷ 1 ∷ 1 ∷ 1 ∷ 2 ∷ 2 ∷ 3 ∷ []
unfolding reviewed
steps_counts = refl
