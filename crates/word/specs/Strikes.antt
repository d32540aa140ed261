-- Inner: what is asked of a strike word: whether it has a mark, and whether it may follow another word. Assumes
-- nothing.
use Rattle.std.specs.Prelude.{ℕ, ◌+◌, ◌-◌, ◌^◌, Bool, cond, ◌&&◌, ◌||◌, ◌==◌, nat_le, nat_lt}
use Rattle.word.specs.declared.field.Field.{Field}
use Rattle.word.specs.Limits.{is_ground, highest_ground}
use Rattle.word.specs.Field.{field, end}
use Rattle.word.specs.Kinds.{kind_field, strike_kind, ground_field, put_field, call_field, kind_of, key_of, is_bare}
use Rattle.word.specs.Codec.{shifted, kind_placed}

-- "A marked strike has a mark of 1"
abbrev pub marks : ℕ → ℕ → Bool
marks put call = put == 1 || call == 1

abbrev pub is_marked_in : ℕ → Bool
is_marked_in w = marks (field w put_field) (field w call_field)

-- a number of 32 bits as the signed ones are ordered: those with the highest bit come before all others
abbrev pub signed : ℕ → ℕ
signed n = cond {A = ℕ} (nat_lt n (2 ^ 31)) (n + 2 ^ 31) (cond {A = ℕ} (nat_lt n (2 ^ 32)) (n - 2 ^ 31) n)

-- what rises from an expiration to its strikes and from strike to strike: the kind and then the strike
abbrev pub order_of : ℕ → ℕ
order_of w = signed (shifted (kind_of w) kind_field + key_of strike_kind w)

-- the two marks as one field, and a word without them
abbrev pub marks_field : Field
marks_field = record { low = put_field.low; width = put_field.width + call_field.width }

abbrev pub unmarked : ℕ → ℕ
unmarked w = w - shifted (field w marks_field) marks_field

-- the lowest strike word, and the highest without marks
abbrev pub lowest_word : ℕ
lowest_word = kind_placed strike_kind

abbrev pub highest_word : ℕ
highest_word = lowest_word + shifted highest_ground ground_field + (2 ^ strike_kind.width - 1)

-- a strike word, but that its strike may be 0 or above the highest
abbrev pub is_strike_word : ℕ → Bool
is_strike_word w = is_bare strike_kind (end call_field) w && is_ground (field w ground_field)

-- a word that may follow the word before it as a strike follows another; where that is no strike, a word that is none
-- may pass too
abbrev pub is_next_strike : ℕ → ℕ → Bool
is_next_strike before w = nat_le (signed (unmarked w)) (signed highest_word) && nat_lt (order_of before) (order_of w)

-- such a word that is a strike above 0
abbrev pub is_first_strike : ℕ → Bool
is_first_strike w = nat_lt (order_of lowest_word) (order_of w)
