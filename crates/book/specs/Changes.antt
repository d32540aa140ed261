-- Document 01, "An accepted call changes what its line below says and nothing else.": what a call does, to the class
-- that it names alone. Assumes nothing.
use Rattle.std.specs.Prelude.{ℕ, cond, not, List, [], map, length, leb}
use Rattle.word.specs.Class.{with_close, with_low_high, with_volume, with_designation}
use Rattle.logic.specs.Lists.{only}
use Rattle.book.specs.Facts.{Series, OpenClass, Facts, new_class, put_class, insert_class, with_figures, with_series, insert_series, is_at, with_marks}
use Rattle.book.specs.Views.{class, is_reviewed}

-- ---- what becomes of a class

-- "`C`, `V` and `D` set their figures"
abbrev pub close_set : ℕ → OpenClass → OpenClass
close_set p x = with_figures (with_close p x.figures) x

-- #103: `H`: "low and high being facts"
abbrev pub low_high_set : ℕ → ℕ → OpenClass → OpenClass
low_high_set low high x = with_figures (with_low_high low high x.figures) x

abbrev pub volume_set : ℕ → OpenClass → OpenClass
volume_set n x = with_figures (with_volume n x.figures) x

abbrev pub designation_set : ℕ → ℕ → OpenClass → OpenClass
designation_set p d x = with_figures (with_designation p d x.figures) x

-- "`L` adds (m, h, the ground, 0, 0)."
abbrev pub new_series : ℕ → ℕ → ℕ → Series
new_series m h on_ground = record { month = m; strike = h; on_ground = on_ground; put = 0; call = 0 }

abbrev pub strike_added : Series → OpenClass → OpenClass
strike_added s x = with_series (insert_series s x.series) x

-- `X`: "delists"
abbrev pub strike_removed : ℕ → ℕ → OpenClass → OpenClass
strike_removed m h x = with_series (only (λ s. not (is_at m h s)) x.series) x

-- "`I` sets both marks."
abbrev pub marks_set : ℕ → ℕ → ℕ → ℕ → OpenClass → OpenClass
marks_set m h a b x = with_series (map (λ s. cond (is_at m h s) (with_marks a b s) s) x.series) x

-- `R`: the strikes that the review removes are gone; "strikes removed for `R`"
abbrev pub class_reviewed : OpenClass → OpenClass
class_reviewed x = with_series (only (λ s. not (is_reviewed x s)) x.series) x

unfoldable pub reviewed_count : OpenClass → ℕ
reviewed_count x = length (only (is_reviewed x) x.series)

-- ---- what an accepted call does

pub data Deed : Type 0 where
  -- `M`: "sets `now`, removes strikes of earlier months"
  month_becomes : (m : ℕ) → Deed
  -- "`O` adds a class with close, volume and designations 0 and no strike."
  opens : Deed
  -- `C`, `H`, `V`, `X`, `I` and `R`: the class becomes this one, in no more words
  becomes : OpenClass → Deed
  -- `L`: the class becomes this one, in more words
  grows : OpenClass → Deed
  -- `D`: "program p .. gets designation d"
  designates : (p d : ℕ) → Deed
  -- "`J` and `A` change nothing": `A` writes words to the front of the second run
  writes : List ℕ → Deed
  nothing : Deed

-- the class x in place of the one of its number
abbrev pub update : OpenClass → Facts → Facts
update x f = record { now = f.now; classes = put_class x f.classes }

-- `M`: "sets `now`, removes strikes of earlier months"
unfoldable pub month_set : ℕ → Facts → Facts
month_set m f =
    record { now = m; classes = map (λ x. with_series (only (λ s. leb m s.month) x.series) x) f.classes }

-- "`O` adds a class with close, volume and designations 0 and no strike."; #103: low and high are 0 too
unfoldable pub class_opened : ℕ → Facts → Facts
class_opened c f = record { now = f.now; classes = insert_class (new_class c) f.classes }

-- the class x, in more words, in place of the one of its number
unfoldable pub class_grown : OpenClass → Facts → Facts
class_grown x f = update x f

-- the facts after a deed to the class c
abbrev pub facts_after : ℕ → Deed → Facts → Facts
facts_after c (month_becomes m) f = month_set m f
facts_after c opens f = class_opened c f
facts_after c (becomes x) f = update x f
facts_after c (grows x) f = class_grown x f
facts_after c (designates p d) f = update (designation_set p d (class f c)) f
facts_after c (writes ws) f = f
facts_after c nothing f = f

-- the words that a deed writes to the front of the second run
abbrev pub list_of : Deed → List ℕ
list_of (month_becomes m) = []
list_of opens = []
list_of (becomes x) = []
list_of (grows x) = []
list_of (designates p d) = []
list_of (writes ws) = ws
list_of nothing = []
