-- #104: the counter of the $1 program counts those strikes less that a review removes, and the other counters stay: as
-- both grounds that a review removes are that program's. Assumes nothing.
use Prim.Native.Nat.{ℕ, ◌+◌}
use mathlib.Core.Path.{◌≡◌, refl, sym, ap, subst, ◌∙◌}
use mathlib.Core.Bool.{Bool, true, false, ◌||◌}
use mathlib.Core.Logic.{⊎_elim}
use mathlib.Core.List.{List, [], ◌∷◌}
use native.Mathlib.Omega.{arith}
use lib.Dec.{T, eqb, eqb→eq}
use lib.ListN.{length}
use Rattle.logic.specs.Lists.{sum, only}
use Rattle.logic.proofs.Tests.{parts, or_cases}
use Rattle.logic.proofs.Lists.{passing_gone, others_gone}
use Rattle.word.specs.Grounds.{dollar_ground, wing_ground}
use Rattle.word.specs.Programs.{program, is_program, is_of}
use Rattle.word.specs.Counters.{AreAmong, strikes_for, strikes_said, without, strikes_taken}
use Rattle.word.specs.Class.{designation}
use Rattle.word.specs.Caps.{own}
use Rattle.word.proofs.EachProgram.{each_program}
use Rattle.book.specs.Facts.{Series, OpenClass, Facts, owned, strikes_on}
use Rattle.book.specs.Layout.{layout, facts_of}
use Rattle.book.specs.Uncounted.{uncounted}
use Rattle.book.specs.Views.{class}
use Rattle.book.specs.Changes.{update}
use Rattle.book.proofs.ClassLaws.{number_of, sum_put}
use Rattle.book.proofs.Recounted.{strikes_less, strikes_among_lem, strikes_written}
use Rattle.place.proofs.Heads.{book_good}
use Rattle.review.specs.ReviewSteps.{is_gone, after_steps, gone_count}
use Rattle.review.specs.ReviewsAsked.{Reviewable}

-- so many strikes of the $1 program, and none of the others
abbrev dollar_strikes : ℕ → List ℕ
dollar_strikes n = n ∷ 0 ∷ 0 ∷ []

abbrev is_theirs : ℕ → Series → Bool
is_theirs p s = is_of s.on_ground (program p)

-- what holds of both grounds that a review removes
gone_ground :
    (n : ℕ) (x : OpenClass) (P : ℕ → Type 0) → P dollar_ground → P wing_ground
    → (s : Series) → is_gone n x s ≡ true → P s.on_ground
gone_ground n x P dollar wing s e =
    let t : T (eqb s.on_ground dollar_ground || eqb s.on_ground wing_ground) = search parts in
    ⊎_elim
    (λ u. subst P (sym (eqb→eq s.on_ground dollar_ground u)) dollar)
    (λ u. subst P (sym (eqb→eq s.on_ground wing_ground u)) wing)
    (or_cases (eqb s.on_ground dollar_ground) (eqb s.on_ground wing_ground) t)

module _ {ws : List ℕ} {from to price : ℕ} (X : Reviewable ws from to price) (n : ℕ) where
  abbrev f : Facts
  f = facts_of ws

  abbrev x : OpenClass
  x = class f X.number

  abbrev g : Facts
  g = update (after_steps n x) f

  -- of anything that classes add to
  sum_after : (size : OpenClass → ℕ) → sum size g.classes + size x ≡ sum size f.classes + size (after_steps n x)
  sum_after size =
      let is = number_of X.number f.classes in
      ap (λ (k : ℕ). sum size g.classes + size (class f k)) (sym is)
      ∙ sum_put size (after_steps n x) f.classes (rw is X.is_open)

  own_stay : (p : ℕ) → T (is_program p) → owned p f.classes ≡ owned p g.classes
  own_stay p k = omega (arith, sum_after (λ y. own (designation p y.figures)))

  strikes_gone :
      (p : ℕ) → T (is_program p)
      → strikes_on p g.classes + strikes_for (dollar_strikes (gone_count n x)) p ≡ strikes_on p f.classes
  strikes_gone =
      each_program _ (
        omega (arith, less 1, theirs),
        (omega (arith, less 2, others 2 refl refl), (omega (arith, less 3, others 3 refl refl), tt)),
      )
    where
      less :
          (p : ℕ)
          → strikes_on p g.classes + length (only (is_theirs p) x.series)
          ≡ strikes_on p f.classes + length (only (is_theirs p) (after_steps n x).series)
      less p = sum_after (λ y. length (only (is_theirs p) y.series))

      theirs :
          length (only (is_theirs 1) (after_steps n x).series) + gone_count n x ≡ length (only (is_theirs 1) x.series)
      theirs =
          passing_gone (is_theirs 1) (is_gone n x) (gone_ground n x (λ k. is_of k (program 1) ≡ true) refl refl)
          x.series

      others :
          (p : ℕ) → is_of dollar_ground (program p) ≡ false → is_of wing_ground (program p) ≡ false
          → length (only (is_theirs p) (after_steps n x).series) ≡ length (only (is_theirs p) x.series)
      others p dollar wing =
          others_gone (is_theirs p) (is_gone n x) (gone_ground n x (λ k. is_of k (program p) ≡ false) dollar wing)
          x.series

  -- on a run that has the class's words after the steps and the counters of before
  module _ {run : List ℕ} {removed : ℕ} (is : run ≡ uncounted (length ws) f g) (all : removed ≡ gone_count n x) where
    removed_are :
        (p : ℕ) → T (is_program p)
        → strikes_on p g.classes + strikes_for (dollar_strikes removed) p ≡ strikes_on p f.classes
    removed_are p k =
        ap (λ (m : ℕ). strikes_on p g.classes + strikes_for (dollar_strikes m) p) all ∙ strikes_gone p k

    pub removed_among : AreAmong (strikes_said run) (dollar_strikes removed)
    removed_among =
        rw is (strikes_among_lem (length ws) f g (book_good ws X.book) (dollar_strikes removed) removed_are)

    pub recounted : strikes_taken (dollar_strikes removed) run ≡ layout (length ws) g
    recounted =
        ap (strikes_taken (dollar_strikes removed)) is
        ∙ strikes_written (length ws) f g (book_good ws X.book)
        (without (strikes_said (uncounted (length ws) f g)) (dollar_strikes removed)) own_stay
        (strikes_less (length ws) f g (book_good ws X.book) (dollar_strikes removed) removed_are)
