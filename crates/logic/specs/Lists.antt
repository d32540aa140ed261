-- Inner: the words that definitions are said in: tests and sums over lists, orders of lists, and the numbers from one
-- on. Assumes nothing.
use Rattle.std.specs.Prelude.{ℕ, zero, suc, ◌+◌, ◌<◌, Bool, true, false, cond, ◌&&◌, ◌||◌, List, [], ◌∷◌}

module _ {A : Type 0} (test : A → Bool) where
  abbrev pub every : List A → Bool
  every [] = true
  every (x ∷ xs) = test x && every xs

  abbrev pub some : List A → Bool
  some [] = false
  some (x ∷ xs) = test x || some xs

  -- those that pass the test
  abbrev pub only : List A → List A
  only [] = []
  only (x ∷ xs) = cond (test x) (x ∷ only xs) (only xs)

  -- how many stand before the first that passes the test
  abbrev pub first_at : List A → ℕ
  first_at [] = 0
  first_at (x ∷ xs) = cond {A = ℕ} (test x) 0 (suc (first_at xs))

-- n numbers from h up
abbrev pub up_from : ℕ → ℕ → List ℕ
up_from zero h = []
up_from (suc n) h = h ∷ up_from n (suc h)

-- the first of the n numbers from g up that passes the test, or g + n where none does
abbrev pub first_from : (ℕ → Bool) → ℕ → ℕ → ℕ
first_from test zero g = g
first_from test (suc n) g = cond (test g) g (first_from test n (g + 1))

-- each number is below the next one
abbrev pub Rising : List ℕ → Type 0
Rising [] = Unit {0}
Rising (x ∷ []) = Unit {0}
Rising (x ∷ y ∷ ys) = (x < y) × Rising (y ∷ ys)

module _ {A : Type 0} (size : A → ℕ) where
  abbrev pub sum : List A → ℕ
  sum [] = 0
  sum (x ∷ xs) = size x + sum xs

module _ {A : Type 0} (before : A → A → Bool) where
  -- each stands before the next one
  abbrev pub rises : List A → Bool
  rises [] = true
  rises (x ∷ []) = true
  rises (x ∷ y ∷ ys) = before x y && rises (y ∷ ys)

  -- y put before the first that it stands before
  abbrev pub inserted : A → List A → List A
  inserted y [] = y ∷ []
  inserted y (x ∷ xs) = cond (before y x) (y ∷ x ∷ xs) (x ∷ inserted y xs)
