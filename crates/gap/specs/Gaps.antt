-- Inner: a gap that is closed. Assumes nothing.
use Rattle.std.specs.Prelude.{ℕ, List, ◌++◌, drop, replicate}

-- the words after a gap of n moved to its front, and the last n zeroed
abbrev pub closed : ℕ → List ℕ → List ℕ
closed n ws = drop n ws ++ replicate n 0
