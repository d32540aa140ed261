-- Document 01, "The last line may lack its line end.": the lines of a sheet. Assumes nothing.
use Rattle.std.specs.Prelude.{ℕ, suc, ◌+◌, min, cond, List, [], ◌∷◌, eqb, length, take, drop}
use Rattle.text.specs.Alphabet.{line_feed}

-- a byte more at the front of the first line
abbrev pub with_byte : ℕ → List (List ℕ) → List (List ℕ)
with_byte b [] = (b ∷ []) ∷ []
with_byte b (l ∷ ls) = (b ∷ l) ∷ ls

-- the lines of a sheet, which end in a line feed: "The last line may lack its line end."
unfoldable pub lines_of : List ℕ → List (List ℕ)
lines_of [] = []
lines_of (b ∷ s) = cond (eqb b line_feed) ([] ∷ lines_of s) (with_byte b (lines_of s))

-- the index of the first line end, or the length
unfoldable pub line_end : List ℕ → ℕ
line_end [] = 0
line_end (b ∷ s) = cond (eqb b line_feed) 0 (suc (line_end s))

-- the bytes of the line that begins at `from`
abbrev pub line_at : List ℕ → ℕ → List ℕ
line_at sheet from = take (line_end (drop from sheet)) (drop from sheet)

-- where the line after it begins, or the end of the sheet
abbrev pub next_line : List ℕ → ℕ → ℕ
next_line sheet from = min (suc (from + line_end (drop from sheet))) (length sheet)
