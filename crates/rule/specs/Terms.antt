-- Document 01, "Grids", its first sentences, and the months of "Who draws which number"; request #101, its classes: the
-- terms in which the rules speak of a class and an expiration. Assumes nothing.
use Rattle.std.specs.Prelude.{ℕ, ◌+◌, ◌-◌, ◌/◌, Bool, not, ◌&&◌, ◌||◌, leb, ltb, eqb}
use Rattle.word.specs.Limits.{half_dollar, months_ahead}
use Rattle.word.specs.Class.{designation}
use Rattle.word.specs.declared.class.ClassRecord.{ClassRecord}
use Rattle.rule.specs.declared.terms.Setting.{Setting}

-- an amount of cents in half dollars, rounded down
abbrev pub in_halves : ℕ → ℕ
in_halves k = k / half_dollar

abbrev pub is_designated : ℕ → Bool
is_designated d = eqb d 1 || eqb d 2

-- document 01's term: "A *$1 class* has $1 designation 1 or 2"
abbrev pub is_dollar_class : ClassRecord → Bool
is_dollar_class c = is_designated (designation 1 c)

-- document 01's term: "a *half class* has $0.50 designation 1 or 2"
abbrev pub is_half_class : ClassRecord → Bool
is_half_class c = is_designated (designation 2 c)

-- #101: "up to 60 classes of our own, others by another exchange": a class in the $2.50 program has $2.50 designation 1
-- or 2
abbrev pub is_two_fifty_class : ClassRecord → Bool
is_two_fifty_class c = is_designated (designation 3 c)

-- document 01's terms: "An expiration m is *long* when m − `now` is 9 or more, else *near*."
abbrev pub long_from : ℕ
long_from = 9

abbrev pub is_long : Setting → Bool
is_long s = leb (s.current + long_from) s.month

abbrev pub is_near : Setting → Bool
is_near s = not (is_long s)

-- #101: "Near expirations may then have ..": an expiration that has strikes of the $2.50 program
abbrev pub has_two_fifties : Setting → Bool
has_two_fifties s = is_near s && is_two_fifty_class s.class

-- how far two amounts are from each other
abbrev pub apart : ℕ → ℕ → ℕ
apart a b = (a - b) + (b - a)

-- "5 .. m at or below `now` or above `now` + 39"
abbrev pub is_outside : Setting → Bool
is_outside s = leb s.month s.current || ltb (s.current + months_ahead) s.month
