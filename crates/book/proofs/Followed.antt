-- What one call leaves of a book: a book of as many words, with the next facts; from the contract, since every call
-- keeps the facts well formed. Assumes nothing.
use Prim.Native.Nat.{ℕ}
use mathlib.Core.Path.{◌≡◌}
use mathlib.Core.Bool.{true}
use mathlib.Core.List.{List}
use native.Mathlib.Omega.{arith}
use lib.ListN.{length}
use lib.Dec.{T}
use Rattle.word.specs.Answers.{Answer}
use Rattle.book.specs.Facts.{Facts}
use Rattle.book.specs.Layout.{layout, facts_of}
use Rattle.book.specs.Books.{is_well_formed, is_book}
use Rattle.book.specs.Calls.{Call, step}
use Rattle.book.specs.Made.{Made}
use Rattle.logic.proofs.Tests.{T_true}
use Rattle.book.proofs.Forms.{well}
use Rattle.book.proofs.Layouts.{used_taken, layout_length, facts_of_layout, book_layout, book_facts}
use Rattle.book.proofs.Keep.{step_keeps}

-- it leaves the layout of the next facts
pub made_words :
    {x : Call} {w v w' v' : List ℕ} {r : Answer} → is_book w ≡ true → Made x w v r w' v'
    → w' ≡ layout (length w) (step (length w) x (facts_of w))
made_words is m = rw is at m.words

module _ (n : ℕ) (f : Facts) (good : T (is_well_formed n f)) where
  pub layout_is_book : is_book (layout n f) ≡ true
  layout_is_book = T_true (is_book (layout n f)) (book_layout n f good)

  pub layout_size : length (layout n f) ≡ n
  layout_size = layout_length n f (omega (arith, used_taken f, (well n f good).room))

-- the words of the next facts are a book
pub next_book :
    (x : Call) (w : List ℕ) {w' : List ℕ} → T (is_book w) → w' ≡ layout (length w) (step (length w) x (facts_of w))
    → T (is_book w') × (length w' ≡ length w) × (facts_of w' ≡ step (length w) x (facts_of w))
next_book x w book words =
    let n = length w in
    let g = step n x (facts_of w) in
    let good : T (is_well_formed n g) = step_keeps n x (facts_of w) (book_facts w book).0 in
    rw words (book_layout n g good, layout_size n g good, facts_of_layout n g good)

pub made_book :
    {x : Call} {w v w' v' : List ℕ} {r : Answer} → T (is_book w) → Made x w v r w' v'
    → T (is_book w') × (length w' ≡ length w) × (facts_of w' ≡ step (length w) x (facts_of w))
made_book {x} {w} book m = next_book x w book (made_words (T_true (is_book w) book) m)
