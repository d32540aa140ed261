-- A refused call leaves every word of both runs: from the contract, by cases on whether the words are a book. Assumes
-- nothing.
use Prim.Native.Nat.{ℕ}
use mathlib.Core.Path.{◌≡◌, refl, sym, ap, ◌∙◌}
use mathlib.Core.Bool.{Bool, true, false, cond}
use mathlib.Core.List.{List}
use lib.ListN.{length}
use borrow.Author.Tests.{ne_eqb}
use Rattle.std.specs.Prelude.{Err}
use Rattle.word.specs.Answers.{Answer}
use Rattle.word.specs.declared.answer.Refusal.TheVariants.{NotABook}
use Rattle.word.specs.Answers.{answer_number, is_accepted}
use Rattle.word.proofs.Refusals.{accepted_zero}
use Rattle.book.specs.Layout.{layout, facts_of}
use Rattle.book.specs.Books.{is_book}
use Rattle.book.specs.Calls.{Call, answer_to, written, step}
use Rattle.book.specs.Made.{over, Made}
use Rattle.logic.proofs.Tests.{true_T}
use Rattle.book.proofs.Layouts.{book_facts}
use Rattle.book.proofs.Order.{refused_unchanged}

pub refused_same :
    {x : Call} {w v w' v' : List ℕ} {r : Answer} → Made x w v r w' v' → (answer_number r ≡ 0 → ⊥) → (w' ≡ w) × (v' ≡ v)
refused_same {x} {w} {v} {w'} {v'} {r} m refused = go (is_book w) refl m.answer m.words m.second
  where
    go :
        (b : Bool) → is_book w ≡ b → r ≡ cond b (answer_to (length w) (length v) x (facts_of w)) (Err NotABook)
        → w' ≡ cond b (layout (length w) (step (length w) x (facts_of w))) w
        → v' ≡ cond b (over (written (length w) (length v) x (facts_of w)) v) v → (w' ≡ w) × (v' ≡ v)
    go false is answer words second = (words, second)
    go true is answer words second =
        let is-refused = accepted_zero r ∙ ne_eqb (answer_number r) 0 refused in
        let p = refused_unchanged (length w) (length v) x (facts_of w) (sym (ap is_accepted answer) ∙ is-refused) in
        (rw p.0 at words ∙ (book_facts w (true_T (is_book w) is)).1, rw p.1 at second)
