-- Document 01, "program p (1 for $1, 2 for $0.50)", "at most 150 classes with $1 designation 1 and at most 20 with ..",
-- "A new d of 1 needs a close below 5,000 for $1, or .."; requests #101, "a designation in bits 18–19 of the class
-- word, `D` program 3, and its own counter", and #104, "that program's grounds": one row for each program. Assumes
-- nothing.
use Rattle.std.specs.Prelude.{◌≡◌, ℕ, ◌-◌, ◌<◌, ◌≤◌, Bool, true, false, ◌&&◌, Result, MatchResult, List, [], ◌∷◌, map, length, nat_eq, nat_le, nat_lt, slice_index_or}
use Rattle.logic.specs.Lists.{some}
use Rattle.word.specs.declared.answer.Refusal.{Refusal}
use Rattle.word.specs.declared.answer.Refusal.TheVariants.{BeyondLimits}
use Rattle.word.specs.declared.class.ClassRecord.{ClassRecord}
use Rattle.word.specs.declared.field.Field.{Field}
use Rattle.word.specs.declared.programs.Program.{Program as Named}
use Rattle.word.specs.declared.programs.Program.TheVariants.{Dollar, Half, TwoFifty}
use Rattle.word.specs.Field.{field, end}
use Rattle.word.specs.Grounds.{dollar_ground, half_ground, wing_ground, two_fifty_ground}
use Rattle.word.specs.Limits.{between, is_designation}

pub record Program : Type 0 where
  pub number : ℕ
  -- where its designation stands in a class word
  pub bits : Field
  -- how many classes may have designation 1
  pub cap : ℕ
  -- "8 no close yet (.. and `D` to a new 1)": whether a new 1 needs a close
  pub needs_close : Bool
  -- "9 close or volume doesn't qualify": here they do
  pub qualifies : ClassRecord → Bool
  -- #104: "that program's grounds": those of the strikes that its counter counts
  pub grounds : List ℕ

-- how many bits a designation has: "14–15", "16–17", "18–19"
abbrev pub designation_width : ℕ
designation_width = 2

-- "A new d of 1 needs a close below 5,000 for $1, or a close of at most 500 and a volume of at least 1,000 for $0.50"
abbrev pub dollar_price : ℕ
dollar_price = 5000

abbrev pub half_price : ℕ
half_price = 500

abbrev pub half_volume : ℕ
half_volume = 1000

-- "1 for $1"; "$1 designation in 14–15"; "at most 150 classes with $1 designation 1"; #104: "Wings belong to the $1
-- program."
abbrev pub dollar_program : Program
dollar_program =
    record {
      number = 1;
      bits = record { low = 14; width = designation_width };
      cap = 150;
      needs_close = true;
      qualifies = λ r. nat_lt r.close dollar_price;
      grounds = dollar_ground ∷ wing_ground ∷ [];
    }

-- "2 for $0.50"; "$0.50 designation in 16–17"; "at most 20 with $0.50 designation 1"
abbrev pub half_program : Program
half_program =
    record {
      number = 2;
      bits = record { low = 16; width = designation_width };
      cap = 20;
      needs_close = true;
      qualifies = λ r. nat_le r.close half_price && nat_le half_volume r.volume;
      grounds = half_ground ∷ [];
    }

-- #101: "`D` program 3"; "a designation in bits 18–19 of the class word"; "up to 60 classes of our own"; "a new 1 needs
-- the cap only, not a close"
abbrev pub two_fifty_program : Program
two_fifty_program =
    record {
      number = 3;
      bits = record { low = 18; width = designation_width };
      cap = 60;
      needs_close = false;
      qualifies = λ r. true;
      grounds = two_fifty_ground ∷ [];
    }

-- by number, from 1 on
abbrev pub programs : List Program
programs = dollar_program ∷ half_program ∷ two_fifty_program ∷ []

abbrev pub program_count : ℕ
program_count = length programs

abbrev pub is_program : ℕ → Bool
is_program p = between 1 program_count p

-- the same, as a premise
abbrev pub IsProgram : ℕ → Type 0
IsProgram p = (1 ≤ p) × (p ≤ program_count)

-- the program of the number p; of no program's number, one that no call looks at
abbrev pub program : ℕ → Program
program p = slice_index_or programs (p - 1) dollar_program

-- the number of a program that code names
abbrev pub number_of : Named → ℕ
number_of Dollar = dollar_program.number
number_of Half = half_program.number
number_of TwoFifty = two_fifty_program.number

-- the program of the number p; "2 a number beyond its limits" where no program has it
abbrev pub Numbered : ℕ → Result Named Refusal → Type 0
Numbered p r = MatchResult r (λ g. number_of g ≡ p) (λ why. (why ≡ BeyondLimits) × (is_program p ≡ false))

-- #104: whether a strike on the ground is one of the program's
abbrev pub is_of : ℕ → Program → Bool
is_of on_ground g = some (nat_eq on_ground) g.grounds

-- one designation for each program, in its limits
abbrev pub are_designations : List Program → List ℕ → Bool
are_designations [] [] = true
are_designations [] (d ∷ ds) = false
are_designations (g ∷ gs) [] = false
are_designations (g ∷ gs) (d ∷ ds) = is_designation d && are_designations gs ds

-- a field of a word as wide as a designation
abbrev pub HoldsDesignation : Field → Type 0
HoldsDesignation f = (f.low < 32) × (f.width ≡ designation_width)

-- the designation in the program g that a class word says, and those in all programs
abbrev pub designation_in : Program → ℕ → ℕ
designation_in g w = field w g.bits

abbrev pub designations_in : ℕ → List ℕ
designations_in w = map (λ g. designation_in g w) programs

-- no designation has a bit from here on
abbrev pub designations_end : ℕ
designations_end = end (program program_count).bits
