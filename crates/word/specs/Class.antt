-- Document 01, "`O` adds a class with close, volume and designations 0", "`C`, `V` and `D` set their figures", and
-- request #103, "`C` sets both to the close": what opening, a close, a low and a high, a volume and a designation make
-- of a class record. Assumes nothing.
use Rattle.std.specs.Prelude.{ℕ, ◌-◌, replicate, slice_index, slice_set}
use Rattle.word.specs.declared.class.ClassRecord.{ClassRecord}
use Rattle.word.specs.Programs.{program_count}

-- "`O` adds a class with close, volume and designations 0"; #103: low and high are 0 where the close is
abbrev pub opened : ℕ → ClassRecord
opened n = record { number = n; close = 0; volume = 0; low = 0; high = 0; designations = replicate program_count 0 }

-- "`C`, `V` and `D` set their figures"; #103: "`C` sets both to the close"
abbrev pub with_close : ℕ → ClassRecord → ClassRecord
with_close p c =
    record {
      number = c.number;
      close = p;
      volume = c.volume;
      low = p;
      high = p;
      designations = c.designations;
    }

-- #103: "`H c low high` .. is stored"
abbrev pub with_low_high : ℕ → ℕ → ClassRecord → ClassRecord
with_low_high low high c =
    record {
      number = c.number;
      close = c.close;
      volume = c.volume;
      low = low;
      high = high;
      designations = c.designations;
    }

abbrev pub with_volume : ℕ → ClassRecord → ClassRecord
with_volume n c =
    record {
      number = c.number;
      close = c.close;
      volume = n;
      low = c.low;
      high = c.high;
      designations = c.designations;
    }

-- the designation in the program p, the first of which is 1
abbrev pub designation : ℕ → ClassRecord → ℕ
designation p c = slice_index c.designations (p - 1)

-- "program p .. gets designation d"
abbrev pub with_designation : ℕ → ℕ → ClassRecord → ClassRecord
with_designation p d c =
    record {
      number = c.number;
      close = c.close;
      volume = c.volume;
      low = c.low;
      high = c.high;
      designations = slice_set c.designations (p - 1) d;
    }
