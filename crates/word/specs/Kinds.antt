-- Document 01, "Bits 28 to 31 of a word are its kind", "Kind 1, the head, first: .." to "Kind 6, a strike: ..", and
-- requests #103, "two kind 7 words (bits 0–19)", and #104, "one kind 8 word per program": the number of each kind of
-- word, and where its fields stand. Assumes nothing.
use Rattle.std.specs.Prelude.{ℕ, ◌+◌, ◌-◌, ◌*◌, ◌/◌, ◌^◌, Bool, ◌==◌}
use Rattle.word.specs.declared.field.Field.{Field}
use Rattle.word.specs.declared.kind.Kind.{Kind}
use Rattle.word.specs.Field.{field}

-- "Bits 28 to 31 of a word are its kind"
abbrev pub kind_field : Field
kind_field = record { low = 28; width = 4 }

abbrev pub kind_of : ℕ → ℕ
kind_of w = w / 2 ^ kind_field.low

-- "Kind 1, the head, first: `now` in bits 0–9, words used in bits 10–25."
abbrev pub head_kind : Kind
head_kind = record { number = 1; width = 10 }

abbrev pub used_field : Field
used_field = record { low = 10; width = 16 }

-- "Kind 2, a class: number in bits 0–13"; where its designations stand is in the table of programs
abbrev pub class_kind : Kind
class_kind = record { number = 2; width = 14 }

-- "Kind 3: close in bits 0–19"
abbrev pub close_kind : Kind
close_kind = record { number = 3; width = 20 }

-- "Kind 4: volume in bits 0–23"
abbrev pub volume_kind : Kind
volume_kind = record { number = 4; width = 24 }

-- "Kind 5, an expiration: month in bits 0–9"
abbrev pub expiration_kind : Kind
expiration_kind = record { number = 5; width = 10 }

-- "Kind 6, a strike: h in bits 0–14, ground in 15–17 (0 to 3), put open interest in 18, call open interest in 19"
abbrev pub strike_kind : Kind
strike_kind = record { number = 6; width = 15 }

abbrev pub ground_field : Field
ground_field = record { low = 15; width = 3 }

abbrev pub put_field : Field
put_field = record { low = 18; width = 1 }

abbrev pub call_field : Field
call_field = record { low = 19; width = 1 }

-- #103: "stored in two kind 7 words (bits 0–19)": the day's low or its high
abbrev pub day_price_kind : Kind
day_price_kind = record { number = 7; width = 20 }

-- #104: "one kind 8 word per program ..: own classes in bits 0–7, standing strikes on that program's grounds in bits
-- 8–23"
abbrev pub counter_kind : Kind
counter_kind = record { number = 8; width = 8 }

abbrev pub strikes_field : Field
strikes_field = record { low = 8; width = 16 }

-- ---- what is asked of a word by its kind

-- the key of a word of the kind, its lowest field
abbrev pub key_of : Kind → ℕ → ℕ
key_of k w = field w (record { low = 0; width = k.width })

abbrev pub is_of_kind : Kind → ℕ → Bool
is_of_kind k w = kind_of w == k.number

-- all bits below the kind
abbrev pub below_kind : ℕ → ℕ
below_kind w = field w (record { low = 0; width = kind_field.low })

-- a word of the kind that has no other bit from the bit `end` on
abbrev pub is_bare : Kind → ℕ → ℕ → Bool
is_bare k end w = w / 2 ^ end == k.number * 2 ^ (kind_field.low - end)

-- the grade of a word of the kind with this key: it goes by the kind, and in the kind by how low the key is
abbrev pub grade_at : Kind → ℕ → ℕ
grade_at k key = k.number * 2 ^ kind_field.low + (2 ^ kind_field.low - 1 - key)

-- the grade of a word, where the kind says which field is its key
abbrev pub grade_of : Kind → ℕ → ℕ
grade_of k w = kind_of w * 2 ^ kind_field.low + (2 ^ kind_field.low - 1 - key_of k w)
