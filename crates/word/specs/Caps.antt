-- Document 01, "The count against 150 and the count against 20 are two counters", and request #101, "its own counter":
-- what a class adds to one, and when a cap is kept. Assumes nothing.
use Rattle.std.specs.Prelude.{ℕ, Bool, cond, ◌==◌, nat_le}
use Rattle.word.specs.Programs.{Program}

-- what a class of the designation d adds to the count of own classes
abbrev pub own : ℕ → ℕ
own d = cond {A = ℕ} (d == 1) 1 0

-- "at most 150 classes with $1 designation 1 and at most 20 with $0.50 designation 1", #101: "up to 60 classes of our
-- own", of a count for each program
abbrev pub is_cap_kept : (ℕ → ℕ) → Program → Bool
is_cap_kept counts g = nat_le (counts g.number) g.cap
