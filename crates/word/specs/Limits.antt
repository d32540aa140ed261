-- Document 01, "A price P is in cents, 1 to 999,999." to "a lent run of 1 to 65,535 words", the limits of fields, "(0
-- none, 1 ours, 2 another exchange's)", and request #104, "a length below 4 is bad": the limits of every number, and a
-- strike in cents. Assumes nothing.
use Rattle.std.specs.Prelude.{ℕ, ◌+◌, ◌*◌, min, Bool, ◌&&◌, ◌||◌, ◌==◌, nat_le}
use Rattle.word.specs.Grounds.{two_fifty_ground}

abbrev pub between : ℕ → ℕ → ℕ → Bool
between low high n = nat_le low n && nat_le n high

-- "A price P is in cents, 1 to 999,999."
abbrev pub highest_price : ℕ
highest_price = 999999

abbrev pub is_price : ℕ → Bool
is_price p = between 1 highest_price p

-- "A strike is counted in half dollars, h from 1 to 19,999"
abbrev pub highest_strike : ℕ
highest_strike = 19999

abbrev pub is_strike : ℕ → Bool
is_strike h = between 1 highest_strike h

-- "K = 50 × h is the same strike in cents"
abbrev pub half_dollar : ℕ
half_dollar = 50

abbrev pub cents : ℕ → ℕ
cents h = half_dollar * h

-- "A month is 0 to 1,023"
abbrev pub last_month : ℕ
last_month = 1023

abbrev pub is_month : ℕ → Bool
is_month m = nat_le m last_month

-- "each expiration from `now` to `now` + 39"
abbrev pub months_ahead : ℕ
months_ahead = 39

-- the last month that may stand in a book of the month `now`
abbrev pub latest_month : ℕ → ℕ
latest_month now = min (now + months_ahead) last_month

-- "A class number is 1 to 16,383."
abbrev pub highest_class : ℕ
highest_class = 16383

abbrev pub is_class_number : ℕ → Bool
is_class_number c = between 1 highest_class c

-- "Volume, the national average of contracts a day, is 0 to 9,999,999."
abbrev pub highest_volume : ℕ
highest_volume = 9999999

abbrev pub is_volume : ℕ → Bool
is_volume n = nat_le n highest_volume

-- #104: "a length below 4 is bad"
abbrev pub shortest_run : ℕ
shortest_run = 4

-- "The book is a lent run of 1 to 65,535 words of 32 bits."
abbrev pub longest_run : ℕ
longest_run = 65535

abbrev pub is_length : ℕ → Bool
is_length n = between shortest_run longest_run n

-- "(0 none, 1 ours, 2 another exchange's)"
abbrev pub highest_designation : ℕ
highest_designation = 2

abbrev pub is_designation : ℕ → Bool
is_designation d = nat_le d highest_designation

-- "close in bits 0–19, 0 when none has come", and #103's low and high with it: no close yet, or a price
abbrev pub is_close : ℕ → Bool
is_close p = nat_le p highest_price

-- #103: "In every book all three are 0, or 1 ≤ low ≤ close ≤ high.", and each is a price
abbrev pub are_day_prices : ℕ → ℕ → ℕ → Bool
are_day_prices low close high =
    (low == 0) && (close == 0 && high == 0)
    || nat_le 1 low && (nat_le low close && (nat_le close high && nat_le high highest_price))

-- "ground in 15–17 (0 to 3)", and #101: "This is ground 4"
abbrev pub highest_ground : ℕ
highest_ground = two_fifty_ground

abbrev pub is_ground : ℕ → Bool
is_ground g = nat_le g highest_ground

-- "put open interest in 18, call open interest in 19 (1 yes)"
abbrev pub is_mark : ℕ → Bool
is_mark b = nat_le b 1
