-- Document 01, "Demand 3's facts are all of this but the length": the same facts, point by point. Assumes nothing.
use Rattle.std.specs.Prelude.{ℕ, ◌≡◌, cond, List, [], ◌∷◌, eqb}
use Rattle.word.specs.declared.class.ClassRecord.{ClassRecord}
use Rattle.book.specs.Facts.{Series, OpenClass, Facts, number, is_at, class_of}

-- what stands at a class, month and strike: nothing, or a strike on a ground with its marks
pub data StrikeFact : Type 0 where
  absent : StrikeFact
  standing : (on_ground put call : ℕ) → StrikeFact

-- what is open under a class number: nothing, or a class with its figures
pub data ClassFact : Type 0 where
  not_open : ClassFact
  opened : ClassRecord → ClassFact

abbrev pub strike_at : ℕ → ℕ → List Series → StrikeFact
strike_at m h [] = absent
strike_at m h (s ∷ ss) = cond (is_at m h s) (standing s.on_ground s.put s.call) (strike_at m h ss)

abbrev pub class_at : ℕ → List OpenClass → ClassFact
class_at c [] = not_open
class_at c (x ∷ xs) = cond (eqb (number x) c) (opened x.figures) (class_at c xs)

pub record SameFacts (f g : Facts) : Type 0 where
  pub now : f.now ≡ g.now
  pub classes : (c : ℕ) → class_at c f.classes ≡ class_at c g.classes
  pub strikes :
      (c m h : ℕ) → strike_at m h (class_of c f.classes).series ≡ strike_at m h (class_of c g.classes).series
