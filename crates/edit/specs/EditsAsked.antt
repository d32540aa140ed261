-- Inner: what each edit asks of the run ws. Assumes nothing.
use Rattle.std.specs.Prelude.{ℕ, ◌+◌, ◌≤◌, ◌≡◌, Bool, false, cond, not, List, T, eqb, length}
use Rattle.word.specs.declared.class.ClassRecord.{ClassRecord}
use Rattle.word.specs.Class.{designation}
use Rattle.word.specs.Programs.{is_program}
use Rattle.word.specs.Limits.{is_class_number, is_ground, is_mark, is_month, is_strike}
use Rattle.book.specs.Facts.{is_class_open}
use Rattle.book.specs.Layout.{facts_of, used}
use Rattle.word.specs.Figures.{are_figures, figures_length}
use Rattle.book.specs.Books.{is_book}
use Rattle.book.specs.Views.{class, view_of, is_standing}
use Rattle.book.specs.Places.{StrikeStands, class_place, has_expiration, strike_place}

-- figures can be stored at `at`: the class of their number is open, and its words begin there
pub record Storable (ws : List ℕ) (at : ℕ) (figures : ClassRecord) : Type 0 where
  pub book : T (is_book ws)
  pub limits : T (are_figures figures)
  pub is_open : T (is_class_open figures.number (facts_of ws).classes)
  pub place : at ≡ class_place figures.number (facts_of ws)

-- .. with the designations that the class has
abbrev pub Refigured : List ℕ → ClassRecord → Type 0
Refigured ws figures = figures.designations ≡ (class (facts_of ws) figures.number).figures.designations

-- .. with another designation in the program p, where it was `was`
pub record Redesignable (ws : List ℕ) (at : ℕ) (figures : ClassRecord) (p was : ℕ) : Type 0 where
  pub storable : Storable ws at figures
  pub numbered : T (is_program p)
  pub before : was ≡ designation p (class (facts_of ws) figures.number).figures
  pub others :
      (q : ℕ) → T (is_program q) → eqb q p ≡ false
      → designation q figures ≡ designation q (class (facts_of ws) figures.number).figures

-- marks can be stored at `at`: a strike stands there
pub record Markable (ws : List ℕ) (at a b : ℕ) : Type 0 where
  pub book : T (is_book ws)
  pub put : T (is_mark a)
  pub call : T (is_mark b)
  pub strike : StrikeStands (facts_of ws) at

-- the class c can be put in at `at`: it is not open, would begin there, and words are left for it
pub record Openable (ws : List ℕ) (at c : ℕ) : Type 0 where
  pub book : T (is_book ws)
  pub number : T (is_class_number c)
  pub is_closed : T (not (is_class_open c (facts_of ws).classes))
  pub place : at ≡ class_place c (facts_of ws)
  pub room : used (facts_of ws) + figures_length ≤ length ws

-- the strike h of the month m can be put in at `at`: it does not stand, would stand there in a class that is open and
-- whose expiration has strikes where `stands` says so, and words are left for it
pub record Insertable (ws : List ℕ) (at : ℕ) (stands : Bool) (m h on_ground : ℕ) : Type 0 where
  pub book : T (is_book ws)
  pub month : T (is_month m)
  pub strike : T (is_strike h)
  pub on : T (is_ground on_ground)
  pub class : ℕ
  pub is_open : T (is_class_open class (facts_of ws).classes)
  pub absent : T (not (is_standing (view_of class (facts_of ws)) m h))
  pub place : at ≡ strike_place class m h (facts_of ws)
  pub expiration : stands ≡ has_expiration class m (facts_of ws)
  pub room : used (facts_of ws) + cond {A = ℕ} stands 1 2 ≤ length ws
