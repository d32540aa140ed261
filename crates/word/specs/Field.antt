-- Document 01, "Bits 28 to 31 of a word are its kind, bit 0 the lowest": a field of a word by its lowest bit and its
-- width. Assumes nothing.
use Rattle.std.specs.Prelude.{ℕ, ◌+◌, ◌*◌, ◌/◌, ◌%◌, ◌^◌, ◌<◌}
use Rattle.word.specs.declared.field.Field.{Field}

-- the number in the bits of w that the field f has
abbrev pub field : ℕ → Field → ℕ
field w f = w / 2 ^ f.low % 2 ^ f.width

-- the bit after the field
abbrev pub end : Field → ℕ
end f = f.low + f.width

-- the field is one of a word of 32 bits
abbrev pub Readable : Field → Type 0
Readable f = (f.low < 32) × (f.width < 32)

-- `value` can be put in the field f above `below`, which has no bit from there on
pub record Puttable (below value : ℕ) (f : Field) : Type 0 where
  pub inside : f.low < 32
  pub above : below < 2 ^ f.low
  pub small : value * 2 ^ f.low < 2 ^ 32
