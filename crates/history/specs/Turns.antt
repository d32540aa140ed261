-- Document 01, "For demand 3 a list holds any number of these eleven calls, none too, in any order and with any
-- numbers.", and request #103, `H`, the twelfth; "Its first call gets the fresh book ..": the calls of a list made in
-- turn, from the contract of each. Assumes nothing.
use Rattle.std.specs.Prelude.{ℕ, ◌≡◌, Bool, not, List, [], ◌∷◌, length, eqb}
use Rattle.word.specs.Answers.{Answer}
use Rattle.word.specs.Answers.{answer_number}
use Rattle.logic.specs.Lists.{every}
use Rattle.book.specs.Calls.{Call}
use Rattle.book.specs.CallLists.{LentCall}
use Rattle.book.specs.Made.{Made, Begun}

-- "each later one [gets] the book as the call before left it, and nobody else writes the book meanwhile", each with a
-- second run of its own, "of any length, apart from the book and with any words in it": the calls made in turn on the
-- words w leave the words w''
pub data Turns : List Call → List ℕ → List ℕ → Type 0 where
  done : {w : List ℕ} → Turns [] w w
  turn :
      {x : Call} {xs : List Call} {w w' w'' v v' : List ℕ} {r : Answer} → Made x w v r w' v' → Turns xs w' w''
      → Turns (x ∷ xs) w w''

-- the calls, each with the length of the second run that it was lent
abbrev pub lent_in : {xs : List Call} {w w'' : List ℕ} → Turns xs w w'' → List LentCall
lent_in done = []
lent_in (turn {x} {v} made later) = record { call = x; room = length v } ∷ lent_in later

-- the answers that the calls got, in turn
abbrev pub answers_of : {xs : List Call} {w w'' : List ℕ} → Turns xs w w'' → List Answer
answers_of done = []
answers_of (turn {r} made later) = r ∷ answers_of later

-- "1 is never drawn" by these answers
abbrev pub never_draw_one : List Answer → Bool
never_draw_one rs = every (λ r. not (eqb (answer_number r) 1)) rs

-- "Its first call gets the fresh book": one made of any n words, which then the calls in turn leave as w
pub record Whole (n : ℕ) (xs : List Call) (w : List ℕ) : Type 0 where
  pub held : List ℕ
  pub book : List ℕ
  pub answer : Answer
  pub size : length held ≡ n
  pub begun : Begun held answer book
  pub turns : Turns xs book w
