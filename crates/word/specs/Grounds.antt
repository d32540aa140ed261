-- Document 01, "Four grounds": "0. Standard" to "3. Wing", and request #101, "This is ground 4": their numbers. Assumes
-- nothing.
use Rattle.std.specs.Prelude.{ℕ}

abbrev pub standard_ground : ℕ
standard_ground = 0

abbrev pub dollar_ground : ℕ
dollar_ground = 1

abbrev pub half_ground : ℕ
half_ground = 2

abbrev pub wing_ground : ℕ
wing_ground = 3

abbrev pub two_fifty_ground : ℕ
two_fifty_ground = 4
