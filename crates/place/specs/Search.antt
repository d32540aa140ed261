-- Inner: the tests by which words are sought. Assumes nothing.
use Rattle.std.specs.Prelude.{ℕ, ◌+◌, ◌-◌, ◌^◌, ◌<◌, ◌≤◌, ◌≡◌, Bool, true, cond, not, ◌&&◌, Option, Some, None, List, drop, get_or, length, take, T, eqb, leb, ltb}
use Rattle.std.specs.Bool.{then_some}
use Rattle.word.specs.declared.kind.Kind.{Kind}
use Rattle.word.specs.Limits.{longest_run}
use Rattle.word.specs.Kinds.{kind_field, kind_of, key_of, is_of_kind, grade_at, grade_of}
use Rattle.logic.specs.Lists.{every, first_at}

-- a word of the kind or of a higher one
abbrev pub is_no_lower : Kind → ℕ → Bool
is_no_lower kind w = leb kind.number (kind_of w)

-- a word of a lower kind, or of the kind and with at least the key
abbrev pub is_up_to : Kind → ℕ → ℕ → Bool
is_up_to kind key w = leb (grade_of kind w) (grade_at kind key)

-- a word of the kind with at least the key
abbrev pub is_from : Kind → ℕ → ℕ → Bool
is_from kind key w = is_of_kind kind w && leb key (key_of kind w)

-- a word of the kind with the key
abbrev pub is_holding : Kind → ℕ → ℕ → Bool
is_holding kind key w = is_of_kind kind w && eqb (key_of kind w) key

-- a kind of words and a key for which a grade has room
pub record Gradable (kind : Kind) (key : ℕ) : Type 0 where
  pub is_kind : kind.number < 2 ^ kind_field.width
  pub narrow : kind.width ≤ kind_field.low
  pub small : key < 2 ^ kind_field.low

-- how many words about an index are looked at, and how many of them stand before it
abbrev pub about_count : ℕ
about_count = 32

abbrev pub before_count : ℕ
before_count = 8

-- whether so many words stand before `near`, and more than the others from it on
abbrev pub is_amid : ℕ → List ℕ → Bool
is_amid near ws = leb before_count near && ltb (near + (about_count - before_count)) (length ws)

-- the first of the words about `near` that is of a lower kind, or of the kind and with at least the key
abbrev pub first_about : ℕ → Kind → ℕ → List ℕ → ℕ
first_about near kind key ws =
    near - before_count + first_at (is_up_to kind key) (take about_count (drop (near - before_count) ws))

-- where a word of the kind holds the key: `near`, or else the first about it; none where neither does, or where `near`
-- is not amid the words
abbrev pub found_near : ℕ → Kind → ℕ → List ℕ → Option ℕ
found_near near kind key ws =
    cond {A = Option ℕ} (not (is_amid near ws)) None
    (cond {A = Option ℕ} (is_holding kind key (get_or ws near 0)) (Some near)
    (then_some (is_holding kind key (get_or ws (first_about near kind key ws) 0)) (first_about near kind key ws)))

-- words of the kind that hold less than the key stand before the first that holds at least the key, and one that holds
-- the key is that first
pub record Rises (kind : Kind) (key : ℕ) (ws : List ℕ) : Type 0 where
  pub below :
      (i : ℕ) → i < length ws → is_of_kind kind (get_or ws i 0) ≡ true → key_of kind (get_or ws i 0) < key
      → i < first_at (is_from kind key) ws
  pub equal :
      (i : ℕ) → i < length ws → is_of_kind kind (get_or ws i 0) ≡ true → key_of kind (get_or ws i 0) ≡ key
      → i ≡ first_at (is_from kind key) ws

-- a guess multiplies a key of at most so many bits by a count of words
abbrev pub guess_width : ℕ
guess_width = 14

-- words among which the first of the kind from the key on can be sought by guesses
pub record Guessable (kind : Kind) (key : ℕ) (ws : List ℕ) : Type 0 where
  pub is_kind : kind.number < 2 ^ kind_field.width
  pub narrow : kind.width ≤ guess_width
  pub small : key < 2 ^ kind.width
  pub no_lower : T (every (is_no_lower kind) ws)
  pub few : length ws ≤ longest_run
  pub rises : Rises kind key ws
