-- Document 01, "The plain book holds `now`, and for each open class ..", "A fresh book has `now` 0 and no class", "The
-- words the facts take are ..": what the plain book holds, and the words that it takes. Assumes nothing.
use Rattle.std.specs.Prelude.{ℕ, ◌+◌, Bool, cond, ◌&&◌, ◌||◌, List, [], ◌∷◌, length, eqb, ltb}
use Rattle.word.specs.declared.class.ClassRecord.{ClassRecord}
use Rattle.word.specs.Class.{opened, designation}
use Rattle.word.specs.Caps.{own}
use Rattle.word.specs.Programs.{program, is_of}
use Rattle.word.specs.Head.{first_place}
use Rattle.word.specs.Figures.{figures_length}
use Rattle.logic.specs.Lists.{some, only, sum, inserted}

-- "a set of (month, h, ground, put, call)": one standing strike of a class
pub record Series : Type 0 where
  pub month : ℕ
  pub strike : ℕ
  pub on_ground : ℕ
  pub put : ℕ
  pub call : ℕ

-- "for each open class its close, volume, two designations and a set of" series, which rise by month and then by
-- strike; #101: "equality of books now reads the third designation too"; #103: "low and high being facts"
pub record OpenClass : Type 0 where
  pub figures : ClassRecord
  pub series : List Series

-- "The plain book holds `now`, and for each open class ..": the classes rise by number
pub record Facts : Type 0 where
  pub now : ℕ
  pub classes : List OpenClass

-- "A fresh book has `now` 0 and no class"
abbrev pub fresh : Facts
fresh = record { now = 0; classes = [] }

-- ---- classes

abbrev pub number : OpenClass → ℕ
number x = x.figures.number

abbrev pub new_class : ℕ → OpenClass
new_class c = record { figures = opened c; series = [] }

abbrev pub is_class_open : ℕ → List OpenClass → Bool
is_class_open c xs = some (λ x. eqb (number x) c) xs

-- the class of the number c; where none is open, one as `O` would add it, which no call looks at
abbrev pub class_of : ℕ → List OpenClass → OpenClass
class_of c [] = new_class c
class_of c (x ∷ xs) = cond (eqb (number x) c) x (class_of c xs)

-- the class y in place of the one of its number
abbrev pub put_class : OpenClass → List OpenClass → List OpenClass
put_class y [] = []
put_class y (x ∷ xs) = cond (eqb (number x) (number y)) (y ∷ xs) (x ∷ put_class y xs)

-- the order of classes
abbrev pub is_below : OpenClass → OpenClass → Bool
is_below x y = ltb (number x) (number y)

-- the class y where its number has its place
abbrev pub insert_class : OpenClass → List OpenClass → List OpenClass
insert_class y xs = inserted is_below y xs

abbrev pub with_figures : ClassRecord → OpenClass → OpenClass
with_figures r x = record { figures = r; series = x.series }

abbrev pub with_series : List Series → OpenClass → OpenClass
with_series ss x = record { figures = x.figures; series = ss }

-- ---- the series of a class

abbrev pub is_at : ℕ → ℕ → Series → Bool
is_at m h s = eqb s.month m && eqb s.strike h

abbrev pub stands : ℕ → ℕ → List Series → Bool
stands m h ss = some (is_at m h) ss

-- those of one expiration
abbrev pub in_month : ℕ → List Series → List Series
in_month m ss = only (λ s. eqb s.month m) ss

-- "A marked strike has a mark of 1"
abbrev pub is_marked : Series → Bool
is_marked s = eqb s.put 1 || eqb s.call 1

abbrev pub with_marks : ℕ → ℕ → Series → Series
with_marks a b s = record { month = s.month; strike = s.strike; on_ground = s.on_ground; put = a; call = b }

-- the order of series
abbrev pub precedes : Series → Series → Bool
precedes s t = ltb s.month t.month || (eqb s.month t.month && ltb s.strike t.strike)

-- the series s where its month and strike have their place
abbrev pub insert_series : Series → List Series → List Series
insert_series s ss = inserted precedes s ss

-- ---- sums

-- "The count against 150 and the count against 20 are two counters", and #101: "its own counter": the classes whose
-- designation in the program is 1
abbrev pub owned : ℕ → List OpenClass → ℕ
owned p xs = sum (λ x. own (designation p x.figures)) xs

-- #104: "standing strikes on that program's grounds", of all classes, whatever their designations are
abbrev pub strikes_on : ℕ → List OpenClass → ℕ
strikes_on p xs = sum (λ x. length (only (λ s. is_of s.on_ground (program p)) x.series)) xs

-- ---- words

-- how many months the series have, which rise
abbrev pub expirations : List Series → ℕ
expirations [] = 0
expirations (s ∷ []) = 1
expirations (s ∷ t ∷ ts) = cond {A = ℕ} (eqb s.month t.month) 0 1 + expirations (t ∷ ts)

-- the words of one class: those of its figures, its expirations and its strikes
abbrev pub words_of : OpenClass → ℕ
words_of x = figures_length + expirations x.series + length x.series

-- "The words the facts take are 1 + 3 × classes + expirations that have strikes + strikes."; #103: "A class then takes
-- five words"; #104: "The words needed grow by three"
abbrev pub words_taken : Facts → ℕ
words_taken f = first_place + sum words_of f.classes
