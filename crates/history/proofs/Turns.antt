-- The answers of a whole list are the plain book's, and none is 1: every call of it gets a book. By induction on the
-- calls made in turn. Assumes nothing.
use Prim.Native.Nat.{ℕ}
use mathlib.Core.Path.{◌≡◌, refl, sym, ap, ◌∙◌}
use mathlib.Core.Bool.{not}
use mathlib.Core.List.{List}
use lib.ListN.{length}
use lib.Dec.{T, eqb}
use borrow.Author.Tests.{ne_eqb}
use Rattle.word.specs.Answers.{Answer}
use Rattle.word.specs.Answers.{answer_number}
use Rattle.word.specs.Limits.{is_length}
use Rattle.book.specs.Facts.{fresh}
use Rattle.book.specs.Layout.{facts_of}
use Rattle.book.specs.Books.{is_book}
use Rattle.book.specs.Calls.{Call, answer_to}
use Rattle.book.specs.CallLists.{answers_to}
use Rattle.book.specs.Made.{Made}
use Rattle.logic.proofs.Tests.{T_true, and_intro}
use Rattle.book.proofs.Layouts.{facts_of_layout, book_layout, fresh_well_formed}
use Rattle.book.proofs.Order.{never_one}
use Rattle.book.proofs.Followed.{made_book, layout_size}
use Rattle.history.specs.Turns.{Turns, done, turn, lent_in, answers_of, never_draw_one, Whole}
use Rattle.history.proofs.WholeLists.{whole_begins}

-- ---- one call, on a book

module _ {x : Call} {w v w' v' : List ℕ} {r : Answer} (book : T (is_book w)) (m : Made x w v r w' v') where
  answer_made : r ≡ answer_to (length w) (length v) x (facts_of w)
  answer_made = rw (T_true (is_book w) book) at m.answer

  not_one : T (not (eqb (answer_number r) 1))
  not_one =
      let other : answer_number r ≡ 1 → ⊥ =
      λ e. never_one (length w) (length v) x (facts_of w) (sym (ap answer_number answer_made) ∙ e) in
      rw (ne_eqb (answer_number r) 1 other) tt

-- ---- calls in turn

turns_answers :
    {xs : List Call} {w w'' : List ℕ} → T (is_book w) → (t : Turns xs w w'')
    → answers_of t ≡ answers_to (length w) (lent_in t) (facts_of w)
unfolding answers_to
turns_answers book done = refl
turns_answers book (turn m later) =
    let next = made_book book m in
    rw (answer_made book m, turns_answers next.0 later, next.1, next.2)

turns_never_one : {xs : List Call} {w w'' : List ℕ} → T (is_book w) → (t : Turns xs w w'')
    → T (never_draw_one (answers_of t))
turns_never_one book done = tt
turns_never_one book (turn {r} m later) =
    and_intro (not (eqb (answer_number r) 1)) (never_draw_one (answers_of later)) (not_one book m)
    (turns_never_one (made_book book m).0 later)

-- ---- a whole list

module _ {n : ℕ} {xs : List Call} {w : List ℕ} (long : T (is_length n)) (whole : Whole n xs w) where
  first_book : T (is_book whole.book)
  first_book = rw (whole_begins long whole) (book_layout n fresh (fresh_well_formed n long))

  pub whole_answers : answers_of whole.turns ≡ answers_to n (lent_in whole.turns) fresh
  whole_answers =
      let good = fresh_well_formed n long in
      let size : length whole.book ≡ n = ap length (whole_begins long whole) ∙ layout_size n fresh good in
      let facts : facts_of whole.book ≡ fresh = ap facts_of (whole_begins long whole) ∙ facts_of_layout n fresh good in
      rw (size, facts) at (turns_answers first_book whole.turns)

  -- "from a fresh book, 1 is never drawn"
  pub whole_never_one : T (never_draw_one (answers_of whole.turns))
  whole_never_one = turns_never_one first_book whole.turns
