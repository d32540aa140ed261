-- The n highest strikes of a class, told by how many stand above each, are the last n of its series, which rise: by
-- induction on the series. Assumes nothing.
use Prim.Native.Nat.{ℕ, suc, ◌-◌}
use mathlib.Core.Path.{◌≡◌, refl, sym, ap, ◌∙◌}
use mathlib.Core.Bool.{Bool, true, false, cond, not, ◌&&◌}
use mathlib.Core.List.{List, [], ◌∷◌, ◌++◌, append-nil}
use mathlib.Core.Logic.{inl, inr}
use native.Mathlib.Omega.{arith}
use lib.Dec.{T, ltb}
use lib.ListN.{length, take, drop}
use lib.Seq.{take-nil, drop-nil}
use borrow.Author.Tests.{ltb-true, ltb-false}
use Rattle.logic.specs.Lists.{only}
use Rattle.logic.proofs.Tests.{ands, true_T}
use Rattle.logic.proofs.Lists.{every_true, only_same, ordered, rises_ordered}
use Rattle.logic.proofs.Parts.{only_all}
use Rattle.book.specs.Facts.{Series, OpenClass, precedes}
use Rattle.book.specs.Books.{is_class}
use Rattle.book.specs.Views.{is_reviewed}
use Rattle.book.proofs.SeriesLaws.{Precedes, to_precedes, is_with, series_order}
use Rattle.review.specs.ReviewSteps.{is_highest, is_gone, after_steps, below}
use Rattle.review.specs.StepStates.{stayed}
use Rattle.review.proofs.StepTaken.{left, gone}

-- ---- the order

never_back : (s t : Series) → T (precedes s t) → precedes t s ≡ false
never_back s t a = go (precedes t s) refl
  where
    clash : Precedes s t → Precedes t s → ⊥
    clash (inl p) (inl q) = omega arith
    clash (inl p) (inr q) = omega arith
    clash (inr p) (inl q) = omega arith
    clash (inr p) (inr q) = omega arith

    go : (b : Bool) → precedes t s ≡ b → b ≡ false
    go true e = absurd (clash (to_precedes s t a) (to_precedes t s (true_T (precedes t s) e)))
    go false e = refl

never_itself : (s : Series) → precedes s s ≡ false
never_itself s = go (precedes s s) refl
  where
    go : (b : Bool) → precedes s s ≡ b → b ≡ false
    go true e = sym e ∙ never_back s s (true_T (precedes s s) e)
    go false e = refl

-- ---- the last n

module _ (p r : Series → Bool) (n : ℕ) where
  -- r is asked of a series above which fewer than n stand, and p of the others
  abbrev chosen : List Series → Series → Bool
  chosen ss s = cond (ltb (length (only (precedes s) ss)) n) (r s) (p s)

  chosen_last :
      (ss : List Series) → T (ordered precedes ss)
      → only (chosen ss) ss ≡ only p (take (length ss - n) ss) ++ only r (drop (length ss - n) ss)
  chosen_last [] t = sym (λ i. only p (take-nil {A = Series} (0 - n) i) ++ only r (drop-nil {A = Series} (0 - n) i))
  chosen_last (s ∷ ss) t =
      let first : length (only (precedes s) (s ∷ ss)) ≡ length ss =
      rw (never_itself s) (ap length (only_all (precedes s) ss (search ands))) in
      let rest : only (chosen (s ∷ ss)) ss ≡ x ++ y =
      only_same (precedes s) (chosen (s ∷ ss)) (chosen ss) (λ u a. rw (never_back s u a)) ss (search ands)
      ∙ chosen_last ss (search ands) in
      (λ i. cond (cond (ltb (first i) n) (r s) (p s)) (s ∷ rest i) (rest i)) ∙ go (ltb (length ss) n) refl
    where
      x : List Series
      x = only p (take (length ss - n) ss)

      y : List Series
      y = only r (drop (length ss - n) ss)

      head : (b : Bool) → cond b (s ∷ (x ++ y)) (x ++ y) ≡ cond b (s ∷ x) x ++ y
      head true = refl
      head false = refl

      go :
          (b : Bool) → ltb (length ss) n ≡ b
          → cond (cond b (r s) (p s)) (s ∷ (x ++ y)) (x ++ y)
          ≡ only p (take (suc (length ss) - n) (s ∷ ss)) ++ only r (drop (suc (length ss) - n) (s ∷ ss))
      go true e =
          let l = ltb-true (length ss) n e in
          let z : length ss - n ≡ 0 = omega arith in
          let z' : suc (length ss) - n ≡ 0 = omega arith in
          rw (z, z')
      go false e =
          let l = ltb-false (length ss) n e in
          let z : suc (length ss) - n ≡ suc (length ss - n) = omega arith in
          rw z (head (p s))

-- ---- of a class

module _ (now : ℕ) (x : OpenClass) (t : T (is_class now x)) (n : ℕ) where
  abbrev pub low : List Series
  low = take (length x.series - n) x.series

  abbrev pub high : List Series
  high = drop (length x.series - n) x.series

  told :
      (f p r : Series → Bool) → ((s : Series) → f s ≡ cond (is_highest n x s) (r s) (p s))
      → only f x.series ≡ only p low ++ only r high
  told f p r same =
      only_same (λ s. true) f (chosen p r n x.series) (λ s u. same s) x.series (every_true x.series)
      ∙ chosen_last p r n x.series (rises_ordered is_with precedes series_order x.series (search ands))

  all_low : only (λ s. true) low ≡ low
  all_low = only_all (λ s. true) low (every_true low)

  nobody : (ss : List Series) → only (λ s. false) ss ≡ []
  nobody [] = refl
  nobody (s ∷ ss) = nobody ss

  pub below_is : below n x ≡ low
  below_is =
      told (λ s. not (is_highest n x s)) (λ s. true) (λ s. false) (λ s. go (is_highest n x s))
      ∙ (λ i. all_low i ++ nobody high i)
      ∙ append-nil low
    where
      go : (a : Bool) → not a ≡ cond a false true
      go true = refl
      go false = refl

  pub after_is : (after_steps n x).series ≡ low ++ left x high
  after_is =
      told (λ s. not (is_gone n x s)) (λ s. true) (λ s. not (is_reviewed x s))
      (λ s. go (is_highest n x s) (is_reviewed x s))
      ∙ ap (λ (l : List Series). l ++ left x high) all_low
    where
      go : (a b : Bool) → not (a && b) ≡ cond a (not b) true
      go true b = refl
      go false b = refl

  both : (a b : Bool) → (a && b) ≡ cond a b false
  both true b = refl
  both false b = refl

  pub gone_is : only (is_gone n x) x.series ≡ gone x high
  gone_is =
      told (is_gone n x) (λ s. false) (is_reviewed x) (λ s. both (is_highest n x s) (is_reviewed x s))
      ∙ ap (λ (l : List Series). l ++ gone x high) (nobody low)

  pub stayed_is : stayed n x ≡ left x high
  stayed_is =
      told (λ s. is_highest n x s && not (is_reviewed x s)) (λ s. false) (λ s. not (is_reviewed x s))
      (λ s. both (is_highest n x s) (not (is_reviewed x s)))
      ∙ ap (λ (l : List Series). l ++ left x high) (nobody low)
