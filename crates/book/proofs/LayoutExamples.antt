-- A small book word by word from document 01's bits, and runs close to it that are no books: each computes. Assumes
-- nothing.
use Prim.Native.Nat.{ℕ, ◌+◌, ◌*◌, ◌^◌}
use mathlib.Core.Path.{◌≡◌, refl}
use mathlib.Core.Bool.{Bool, true, false}
use mathlib.Core.List.{List, [], ◌∷◌, ◌++◌, map}
use lib.ListN.{length, set}
use Rattle.word.specs.Codec.{reading}
use Rattle.book.specs.Facts.{Series, Facts}
use Rattle.book.specs.Layout.{layout, facts_of}
use Rattle.book.specs.Books.{is_well_formed, is_book}

series : (month strike on_ground put call : ℕ) → Series
series m h g a b = record { month = m; strike = h; on_ground = g; put = a; call = b }

-- month 5; class 7, designations 1, 2 and 1, close $25, volume 1,200, low $24.50, high $26; in month 6 the strikes $25
-- and $26, in month 9 the strikes $22.50 and $27.50
facts : Facts
facts =
    record {
      now = 5;
      classes =
          record {
            figures =
                record {
                  number = 7;
                  close = 2500;
                  volume = 1200;
                  low = 2450;
                  high = 2600;
                  designations = 1 ∷ 2 ∷ 1 ∷ [];
                };
            series = series 6 50 1 1 0 ∷ series 6 52 0 0 0 ∷ series 9 45 3 1 1 ∷ series 9 55 4 0 0 ∷ [];
          }
          ∷ [];
    }

-- a counter by its bits
counter : (own strikes : ℕ) → ℕ
counter own strikes = 2 ^ 31 + strikes * 2 ^ 8 + own

-- the words of these facts, each kind and field by its bits, where the head says that `count` words are used; then the
-- words `rest`
run : ℕ → List ℕ → List ℕ
run count rest =
    (2 ^ 28 + count * 2 ^ 10 + 5)
    ∷ counter 1 2
    ∷ counter 0 0
    ∷ counter 1 1
    ∷ (2 ^ 29 + 2 ^ 18 + 2 ^ 17 + 2 ^ 14 + 7)
    ∷ (2 ^ 29 + 2 ^ 28 + 2500)
    ∷ (2 ^ 30 + 1200)
    ∷ (2 ^ 30 + 2 ^ 29 + 2 ^ 28 + 2450)
    ∷ (2 ^ 30 + 2 ^ 29 + 2 ^ 28 + 2600)
    ∷ (2 ^ 30 + 2 ^ 28 + 6)
    ∷ (2 ^ 30 + 2 ^ 29 + 2 ^ 18 + 2 ^ 15 + 50)
    ∷ (2 ^ 30 + 2 ^ 29 + 52)
    ∷ (2 ^ 30 + 2 ^ 28 + 9)
    ∷ (2 ^ 30 + 2 ^ 29 + 2 ^ 19 + 2 ^ 18 + 2 ^ 16 + 2 ^ 15 + 45)
    ∷ (2 ^ 30 + 2 ^ 29 + 2 ^ 17 + 55)
    ∷ rest

-- a strike of the last expiration, an expiration, and a class with no close, volume or strike
strike : List ℕ
strike = (2 ^ 30 + 2 ^ 29 + 60) ∷ 0 ∷ 0 ∷ []

expiration : List ℕ
expiration = (2 ^ 30 + 2 ^ 28 + 10) ∷ 0 ∷ 0 ∷ []

bare_class : ℕ → List ℕ
bare_class c = (2 ^ 29 + c) ∷ (2 ^ 29 + 2 ^ 28) ∷ 2 ^ 30 ∷ (2 ^ 30 + 2 ^ 29 + 2 ^ 28) ∷ (2 ^ 30 + 2 ^ 29 + 2 ^ 28) ∷ []

-- ---- books

layout_words : layout 18 facts ≡ run 15 (0 ∷ 0 ∷ 0 ∷ [])
unfolding layout facts series run counter
layout_words = refl

is_book_lem : is_book (run 15 (0 ∷ 0 ∷ 0 ∷ [])) ≡ true
unfolding is_book is_well_formed facts_of layout reading run counter
is_book_lem = refl

strike_more : is_book (run 16 strike) ≡ true
unfolding is_book is_well_formed facts_of layout reading run strike counter
strike_more = refl

class_more : is_book (run 20 (bare_class 8)) ≡ true
unfolding is_book is_well_formed facts_of layout reading run bare_class counter
class_more = refl

-- ---- no books

-- bit 20 of a class word has no name
stray_bit : is_book (set (run 15 (0 ∷ 0 ∷ 0 ∷ [])) 4 (2 ^ 29 + 2 ^ 20 + 2 ^ 18 + 2 ^ 17 + 2 ^ 14 + 7)) ≡ false
unfolding is_book is_well_formed facts_of layout reading run counter
stray_bit = refl

-- no designation is 3, and no ground is 5
third_designation : is_book (set (run 15 (0 ∷ 0 ∷ 0 ∷ [])) 4 (2 ^ 29 + 2 ^ 19 + 2 ^ 18 + 2 ^ 17 + 2 ^ 14 + 7)) ≡ false
unfolding is_book is_well_formed facts_of layout reading run counter
third_designation = refl

fifth_ground : is_book (set (run 15 (0 ∷ 0 ∷ 0 ∷ [])) 14 (2 ^ 30 + 2 ^ 29 + 2 ^ 17 + 2 ^ 15 + 55)) ≡ false
unfolding is_book is_well_formed facts_of layout reading run counter
fifth_ground = refl

no_strikes : is_book (run 16 expiration) ≡ false
unfolding is_book is_well_formed facts_of layout reading run expiration counter
no_strikes = refl

count_above : is_book (run 16 (0 ∷ 0 ∷ 0 ∷ [])) ≡ false
unfolding is_book is_well_formed facts_of layout reading run counter
count_above = refl

-- a legal word past those that the head counts
count_below : is_book (run 15 strike) ≡ false
unfolding is_book is_well_formed facts_of layout reading run strike counter
count_below = refl

word_past : is_book (run 15 (0 ∷ 0 ∷ 1 ∷ [])) ≡ false
unfolding is_book is_well_formed facts_of layout reading run counter
word_past = refl

classes_falling : is_book (run 20 (bare_class 6)) ≡ false
unfolding is_book is_well_formed facts_of layout reading run bare_class counter
classes_falling = refl

class_twice : is_book (run 20 (bare_class 7)) ≡ false
unfolding is_book is_well_formed facts_of layout reading run bare_class counter
class_twice = refl

-- ---- #103: "In every book all three are 0, or 1 ≤ low ≤ close ≤ high.", "two kind 7 words .. after the volume word"

day_price : ℕ → ℕ
day_price p = 2 ^ 30 + 2 ^ 29 + 2 ^ 28 + p

-- no close with a low and a high, a low above the close, a high below it
prices_apart :
    is_book (set (run 15 (0 ∷ [])) 5 (2 ^ 29 + 2 ^ 28))
    ∷ is_book (set (run 15 (0 ∷ [])) 7 (day_price 2501))
    ∷ is_book (set (run 15 (0 ∷ [])) 8 (day_price 2499))
    ∷ []
    ≡ false ∷ false ∷ false ∷ []
unfolding is_book is_well_formed facts_of layout reading run day_price counter
prices_apart = refl

-- class 7 with the close $25, then the words `rest`, where the head counts them all
closed : List ℕ → List ℕ
closed rest =
    (2 ^ 28 + (6 + length rest) * 2 ^ 10 + 5)
    ∷ counter 0 0
    ∷ counter 0 0
    ∷ counter 0 0
    ∷ (2 ^ 29 + 7)
    ∷ (2 ^ 29 + 2 ^ 28 + 2500)
    ∷ rest

-- the low and the high after the volume; then one of them missing, the high twice, both before the volume, both after
-- the expiration
prices_placed :
    let volume = 2 ^ 30 + 1200 in
    let low = day_price 2450 in
    let high = day_price 2600 in
    let expiration = 2 ^ 30 + 2 ^ 28 + 6 in
    let strike = 2 ^ 30 + 2 ^ 29 + 50 in
    map (λ rest. is_book (closed rest))
    ((volume ∷ low ∷ high ∷ expiration ∷ strike ∷ [])
    ∷ (volume ∷ low ∷ expiration ∷ strike ∷ [])
    ∷ (volume ∷ low ∷ high ∷ high ∷ expiration ∷ strike ∷ [])
    ∷ (low ∷ high ∷ volume ∷ expiration ∷ strike ∷ [])
    ∷ (volume ∷ expiration ∷ low ∷ high ∷ strike ∷ [])
    ∷ [])
    ≡ true ∷ false ∷ false ∷ false ∷ false ∷ []
unfolding is_book is_well_formed facts_of layout reading closed day_price counter
prices_placed = refl

-- ---- #104: "a run whose counters disagree with its classes or strikes is no book", "a length below 4 is bad"

-- the run with another word at an index
changed : ℕ → ℕ → Bool
changed at w = is_book (set (run 15 (0 ∷ [])) at w)

-- own classes one less and one more, strikes one less and one more, of the first program and of the third
counters_off :
    map (changed 1) (counter 0 2 ∷ counter 2 2 ∷ counter 1 1 ∷ counter 1 3 ∷ [])
    ++ map (changed 3) (counter 0 1 ∷ counter 2 1 ∷ counter 1 0 ∷ counter 1 2 ∷ [])
    ≡ false ∷ false ∷ false ∷ false ∷ false ∷ false ∷ false ∷ false ∷ []
unfolding changed is_book is_well_formed facts_of layout reading run counter
counters_off = refl

-- class 7, ours in the $0.50 program, with the strike $25 on ground 2: its counter right, then each way off by one
halves : (own strikes : ℕ) → Bool
halves own strikes =
    is_book
    ((2 ^ 28 + 11 * 2 ^ 10 + 5)
    ∷ counter 0 0
    ∷ counter own strikes
    ∷ counter 0 0
    ∷ (2 ^ 29 + 2 ^ 16 + 7)
    ∷ (2 ^ 29 + 2 ^ 28)
    ∷ 2 ^ 30
    ∷ day_price 0
    ∷ day_price 0
    ∷ (2 ^ 30 + 2 ^ 28 + 6)
    ∷ (2 ^ 30 + 2 ^ 29 + 2 ^ 16 + 50)
    ∷ [])

halves_off :
    halves 1 1 ∷ halves 0 1 ∷ halves 2 1 ∷ halves 1 0 ∷ halves 1 2 ∷ [] ≡ true ∷ false ∷ false ∷ false ∷ false ∷ []
unfolding halves is_book is_well_formed facts_of layout reading day_price counter
halves_off = refl

-- $25 on ground 0, 2 and 4 without its counter; on ground 3 it is still the first program's
ground_changed :
    map (λ on_ground. changed 10 (2 ^ 30 + 2 ^ 29 + 2 ^ 18 + on_ground * 2 ^ 15 + 50)) (0 ∷ 2 ∷ 4 ∷ 3 ∷ [])
    ≡ false ∷ false ∷ false ∷ true ∷ []
unfolding changed is_book is_well_formed facts_of layout reading run counter
ground_changed = refl

-- $22.50 and $27.50 of month 9 on each other's ground, 4 and 3: each counter counts as many; and each in the other's
-- place
strikes_exchanged :
    let swapped : ℕ → ℕ → Bool = λ v w. is_book (set (set (run 15 (0 ∷ [])) 13 v) 14 w) in
    swapped (2 ^ 30 + 2 ^ 29 + 2 ^ 19 + 2 ^ 18 + 2 ^ 17 + 45) (2 ^ 30 + 2 ^ 29 + 2 ^ 16 + 2 ^ 15 + 55)
    ∷ swapped (2 ^ 30 + 2 ^ 29 + 2 ^ 17 + 55) (2 ^ 30 + 2 ^ 29 + 2 ^ 19 + 2 ^ 18 + 2 ^ 16 + 2 ^ 15 + 45)
    ∷ []
    ≡ true ∷ false ∷ []
unfolding is_book is_well_formed facts_of layout reading run counter
strikes_exchanged = refl

-- bit 24 has no name; a head, a class word and a strike word in a counter's place
no_counter :
    map (changed 2) ((counter 0 0 + 2 ^ 24) ∷ 2 ^ 28 ∷ (2 ^ 29 + 7) ∷ (2 ^ 30 + 2 ^ 29 + 50) ∷ [])
    ≡ false ∷ false ∷ false ∷ false ∷ []
unfolding changed is_book is_well_formed facts_of layout reading run counter
no_counter = refl

-- a fresh book of four words, and its first three
shortest :
    let words = (2 ^ 28 + 4 * 2 ^ 10) ∷ counter 0 0 ∷ counter 0 0 ∷ [] in
    is_book (words ++ (counter 0 0 ∷ [])) ∷ is_book words ∷ [] ≡ true ∷ false ∷ []
unfolding is_book is_well_formed facts_of layout reading counter
shortest = refl
