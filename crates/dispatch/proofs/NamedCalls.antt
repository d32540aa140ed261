-- `make_call` keeps the contract of the call that a letter and its numbers name: each path of the code computes which
-- call that is, and by the laws here a call but `A` has nothing to do with the second run, and a malformed one is
-- refused and changes nothing. And the call by how many numbers there are, and the numbers of a caller who holds a few
-- and counts them. Assumes nothing.
use Prim.Native.Nat.{ℕ, min}
use mathlib.Core.Path.{◌≡◌, refl}
use mathlib.Core.Logic.{◌≢◌}
use mathlib.Core.List.{List, [], ◌∷◌}
use native.Mathlib.Omega.{arith}
use lib.Dec.{T}
use lib.ListN.{length, get_or, take, length-take}
use lib.Seq.{take_all, take-take}
use borrow.Author.Tests.{ne_eqb}
use Rattle.std.specs.Prelude.{Err}
use Rattle.word.specs.declared.answer.Refusal.TheVariants.{BeyondLimits}
use Rattle.book.specs.Facts.{Facts}
use Rattle.book.specs.Layout.{layout, facts_of}
use Rattle.book.specs.Books.{is_book}
use Rattle.book.specs.Changes.{list_of}
use Rattle.book.specs.Calls.{Call, malformed, effect_on, effect, answer_to, written, step}
use Rattle.book.specs.Letters.{letter_a, spelled, call_of_one, call_of_two, call_of_three, call_of_five, call_of}
use Rattle.book.specs.Made.{Made}
use Rattle.book.proofs.Answered.{made_refused}
use Rattle.book.proofs.Order.{any_room}
use Rattle.book.proofs.Layouts.{book_facts}

-- ---- a call that is made

-- a call but `A` answers the same with a second run of any length, and writes nothing there
module _ (n room : ℕ) (x : Call) (f : Facts) (other : (spelled x).letter ≢ letter_a) where
  writes_nothing : list_of (effect x f).does ≡ []
  unfolding effect_on
  writes_nothing = grind arith

  pub second_unasked : answer_to n room x f ≡ answer_to n 0 x f
  second_unasked = any_room n room x f writes_nothing

  pub second_unwritten : written n room x f ≡ []
  unfolding written
  second_unwritten = grind (arith, writes_nothing)

pub malformed_answer : (n room : ℕ) (f : Facts) → answer_to n room malformed f ≡ Err BeyondLimits
unfolding answer_to
malformed_answer n room f = refl

pub malformed_kept : (w : List ℕ) → T (is_book w) → layout (length w) (step (length w) malformed (facts_of w)) ≡ w
unfolding step
malformed_kept w book = (book_facts w book).1

pub malformed_refused : (w v : List ℕ) → T (is_book w) → Made malformed w v (Err BeyondLimits) w v
malformed_refused w v book =
    made_refused malformed w v book (Err BeyondLimits) refl (malformed_answer (length w) (length v) (facts_of w))

-- `ne_eqb` is for a letter that names no call
pub ruleset call_laws = (second_unasked, second_unwritten, malformed_answer, malformed_kept, ne_eqb)

-- ---- by how many numbers there are

module _ (letter : ℕ) where
  pub of_one : (ns : List ℕ) → length ns ≡ 1 → call_of letter ns ≡ call_of_one letter (get_or ns 0 0)
  unfolding call_of
  of_one [] one = absurd (omega arith)
  of_one (a ∷ []) one = refl
  of_one (a ∷ b ∷ more) one = absurd (omega arith)

  pub of_two : (ns : List ℕ) → length ns ≡ 2 → call_of letter ns ≡ call_of_two letter (get_or ns 0 0) (get_or ns 1 0)
  unfolding call_of
  of_two [] two = absurd (omega arith)
  of_two (a ∷ []) two = absurd (omega arith)
  of_two (a ∷ b ∷ []) two = refl
  of_two (a ∷ b ∷ c ∷ more) two = absurd (omega arith)

  pub of_three : (ns : List ℕ) → length ns ≡ 3
      → call_of letter ns ≡ call_of_three letter (get_or ns 0 0) (get_or ns 1 0) (get_or ns 2 0)
  unfolding call_of
  of_three [] three = absurd (omega arith)
  of_three (a ∷ []) three = absurd (omega arith)
  of_three (a ∷ b ∷ []) three = absurd (omega arith)
  of_three (a ∷ b ∷ c ∷ []) three = refl
  of_three (a ∷ b ∷ c ∷ d ∷ more) three = absurd (omega arith)

  pub of_five : (ns : List ℕ) → length ns ≡ 5
      → call_of letter ns ≡ call_of_five letter (get_or ns 0 0) (get_or ns 1 0) (get_or ns 2 0) (get_or ns 3 0)
      (get_or ns 4 0)
  unfolding call_of
  of_five [] five = absurd (omega arith)
  of_five (a ∷ []) five = absurd (omega arith)
  of_five (a ∷ b ∷ []) five = absurd (omega arith)
  of_five (a ∷ b ∷ c ∷ []) five = absurd (omega arith)
  of_five (a ∷ b ∷ c ∷ d ∷ []) five = absurd (omega arith)
  of_five (a ∷ b ∷ c ∷ d ∷ e ∷ []) five = refl
  of_five (a ∷ b ∷ c ∷ d ∷ e ∷ f ∷ more) five = absurd (omega arith)

  -- no call has another count of numbers
  pub of_others :
      (ns : List ℕ) → (length ns ≡ 1 → ⊥) → (length ns ≡ 2 → ⊥) → (length ns ≡ 3 → ⊥) → (length ns ≡ 5 → ⊥)
      → call_of letter ns ≡ malformed
  unfolding call_of
  of_others [] one two three five = refl
  of_others (a ∷ []) one two three five = absurd (one refl)
  of_others (a ∷ b ∷ []) one two three five = absurd (two refl)
  of_others (a ∷ b ∷ c ∷ []) one two three five = absurd (three refl)
  of_others (a ∷ b ∷ c ∷ d ∷ []) one two three five = refl
  of_others (a ∷ b ∷ c ∷ d ∷ e ∷ []) one two three five = absurd (five refl)
  of_others (a ∷ b ∷ c ∷ d ∷ e ∷ f ∷ more) one two three five = refl

-- ---- the numbers that are held, of which the first `count` are the call's: so many are handed on, or all

pub counted_of : (held count k : ℕ) (l : List ℕ) → k ≡ min count held → take k l ≡ take count (take held l)
counted_of held count k l e = grind (arith, take-take, take_all, length-take)
