-- Document 01, "the head, first: `now` in bits 0–9, words used in bits 10–25", and request #104, "one kind 8 word per
-- program after the head, program 1 first": what the head of a run and its counters say, and where its first class
-- begins. Assumes nothing.
use Rattle.std.specs.Prelude.{ℕ, Bool, ◌&&◌, List, length, nat_le, slice_index, slice_set}
use Rattle.logic.specs.Lists.{every}
use Rattle.word.specs.Limits.{shortest_run}
use Rattle.word.specs.Field.{field, end}
use Rattle.word.specs.Kinds.{head_kind, used_field, counter_kind, strikes_field, key_of, is_bare}
use Rattle.word.specs.Programs.{programs}
use Rattle.word.specs.Codec.{Counter, packed}

-- "The words the facts take are 1 + ..", and #104: "The words needed grow by three": the words before the first class,
-- the head and a counter for each program, which the shortest run just holds
abbrev pub first_place : ℕ
first_place = shortest_run

-- "`now` in bits 0–9"
abbrev pub month_in : List ℕ → ℕ
month_in ws = key_of head_kind (slice_index ws 0)

-- "words used in bits 10–25"
abbrev pub used_in : List ℕ → ℕ
used_in ws = field (slice_index ws 0) used_field

-- ---- #104: "one kind 8 word per program after the head, program 1 first": that of the program p has the index p

-- "own classes in bits 0–7"
abbrev pub own_in : ℕ → List ℕ → ℕ
own_in p ws = key_of counter_kind (slice_index ws p)

-- "standing strikes on that program's grounds in bits 8–23"
abbrev pub strikes_in : ℕ → List ℕ → ℕ
strikes_in p ws = field (slice_index ws p) strikes_field

-- the run ws with these in the counter of the program p
abbrev pub with_counter : ℕ → ℕ → ℕ → List ℕ → List ℕ
with_counter p own strikes ws = slice_set ws p (packed (Counter own strikes))

-- a word that is a counter
abbrev pub is_counter : ℕ → Bool
is_counter w = is_bare counter_kind (end strikes_field) w

-- one for each program
abbrev pub are_counters : List ℕ → Bool
are_counters ws = every (λ g. is_counter (slice_index ws g.number)) programs

-- the first word is a head whose words used are within the run, and the next are counters
abbrev pub is_head : List ℕ → Bool
is_head ws =
    is_bare head_kind (end used_field) (slice_index ws 0)
    && (nat_le first_place (used_in ws) && (nat_le (used_in ws) (length ws) && are_counters ws))
