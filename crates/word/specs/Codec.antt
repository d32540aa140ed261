-- Document 01, "Kind 1, the head" to "Kind 6, a strike", "Bits 28 to 31 of a word are its kind", "every bit not named
-- is zero", and requests #103, "two kind 7 words", and #104, "one kind 8 word per program": the eight kinds of word,
-- packed and read. Assumes nothing.
use Rattle.std.specs.Prelude.{ℕ, ◌+◌, ◌*◌, ◌^◌, ◌<◌, ◌≤◌, Bool, false, cond, ◌&&◌, List, [], ◌∷◌, ◌==◌, nat_lt}
use Rattle.word.specs.declared.field.Field.{Field}
use Rattle.word.specs.declared.kind.Kind.{Kind}
use Rattle.word.specs.Limits.{is_strike, is_month, is_class_number, is_volume, is_length, is_close, is_ground, is_mark}
use Rattle.word.specs.Programs.{Program, programs, are_designations, designation_width, designations_in}
use Rattle.word.specs.Field.{field}
use Rattle.word.specs.Kinds.{kind_field, kind_of, key_of, head_kind, used_field, class_kind, close_kind, volume_kind, expiration_kind, strike_kind, ground_field, put_field, call_field, day_price_kind, counter_kind, strikes_field}

-- what a word of the book says, by its kind; Invalid where it is none
pub data Word : Type 0 where
  Head : (now used : ℕ) → Word
  Class : (number : ℕ) (designations : List ℕ) → Word
  Close : (price : ℕ) → Word
  Volume : (contracts : ℕ) → Word
  Expiration : (month : ℕ) → Word
  Strike : (h on_ground put call : ℕ) → Word
  DayPrice : (price : ℕ) → Word
  Counter : (own strikes : ℕ) → Word
  Invalid : Word

-- "with every field in its limits"; the head itself is a word used, and a count is what its bits can hold
abbrev pub is_legal : Word → Bool
is_legal (Head now used) = is_month now && is_length used
is_legal (Class number ds) = is_class_number number && are_designations programs ds
is_legal (Close price) = is_close price
is_legal (Volume contracts) = is_volume contracts
is_legal (Expiration month) = is_month month
is_legal (Strike h on_ground put call) = is_strike h && (is_ground on_ground && (is_mark put && is_mark call))
is_legal (DayPrice price) = is_close price
is_legal (Counter own strikes) = nat_lt own (2 ^ counter_kind.width) && nat_lt strikes (2 ^ strikes_field.width)
is_legal Invalid = false

-- a number from the lowest bit of a field on
abbrev pub shifted : ℕ → Field → ℕ
shifted n f = n * 2 ^ f.low

-- the designations, each in its program's field
abbrev pub placed : List Program → List ℕ → ℕ
placed [] ds = 0
placed (g ∷ gs) [] = 0
placed (g ∷ gs) (d ∷ ds) = shifted d g.bits + placed gs ds

abbrev pub kind_placed : Kind → ℕ
kind_placed k = shifted k.number kind_field

-- the number whose bits are the word: its key and its other fields, each from its lowest bit on, and its kind; "every
-- bit not named is zero"
abbrev pub packed : Word → ℕ
packed (Head now used) = now + shifted used used_field + kind_placed head_kind
packed (Class number ds) = number + placed programs ds + kind_placed class_kind
packed (Close price) = price + kind_placed close_kind
packed (Volume contracts) = contracts + kind_placed volume_kind
packed (Expiration month) = month + kind_placed expiration_kind
packed (Strike h on_ground put call) =
    h + shifted on_ground ground_field + shifted put put_field + shifted call call_field + kind_placed strike_kind
packed (DayPrice price) = price + kind_placed day_price_kind
packed (Counter own strikes) = own + shifted strikes strikes_field + kind_placed counter_kind
packed Invalid = 0

-- a designation for each program, small enough for its bits
abbrev pub FitEach : List Program → List ℕ → Type 0
FitEach [] [] = 0 ≤ 0
FitEach [] (d ∷ ds) = ⊥
FitEach (g ∷ gs) [] = ⊥
FitEach (g ∷ gs) (d ∷ ds) = (d < 2 ^ designation_width) × FitEach gs ds

-- a key is small enough for its bits
abbrev pub FitsKey : Kind → ℕ → Type 0
FitsKey k n = n < 2 ^ k.width

-- every field is small enough for its bits
abbrev pub Fits : Word → Type 0
Fits (Head now used) = FitsKey head_kind now × (used < 2 ^ used_field.width)
Fits (Class number ds) = FitsKey class_kind number × FitEach programs ds
Fits (Close price) = FitsKey close_kind price
Fits (Volume contracts) = FitsKey volume_kind contracts
Fits (Expiration month) = FitsKey expiration_kind month
Fits (Strike h on_ground put call) =
    FitsKey strike_kind h
    × ((on_ground < 2 ^ ground_field.width) × ((put < 2 ^ put_field.width) × (call < 2 ^ call_field.width)))
Fits (DayPrice price) = FitsKey day_price_kind price
Fits (Counter own strikes) = FitsKey counter_kind own × (strikes < 2 ^ strikes_field.width)
Fits Invalid = 0 ≤ 0

-- the fields of w, read as those of a strike word
abbrev pub strike_said : ℕ → Word
strike_said w = Strike (key_of strike_kind w) (field w ground_field) (field w put_field) (field w call_field)

-- the fields of w, read as those of a word of the kind of this number
abbrev pub fields_as : ℕ → ℕ → Word
fields_as k w =
    cond (k == head_kind.number) (Head (key_of head_kind w) (field w used_field))
    (cond (k == class_kind.number) (Class (key_of class_kind w) (designations_in w))
    (cond (k == close_kind.number) (Close (key_of close_kind w))
    (cond (k == volume_kind.number) (Volume (key_of volume_kind w))
    (cond (k == expiration_kind.number) (Expiration (key_of expiration_kind w))
    (cond (k == strike_kind.number) (strike_said w)
    (cond (k == day_price_kind.number) (DayPrice (key_of day_price_kind w))
    (cond (k == counter_kind.number) (Counter (key_of counter_kind w) (field w strikes_field))
    Invalid)))))))

-- x where its fields are in their limits and w has no bit beside them, else Invalid
abbrev pub confirmed : Word → ℕ → Word
confirmed x w = cond (is_legal x && packed x == w) x Invalid

-- what the word w says: Invalid where a field is out of its limits or a bit is set that no field names
unfoldable pub reading : ℕ → Word
reading w = confirmed (fields_as (kind_of w) w) w
