-- The order of classes, and what a class put in its place and a new class leave of limits, order, sums and the class of
-- a number: by induction on the classes, and from the laws of lists. Assumes nothing.
use Prim.Native.Nat.{ℕ, ◌+◌, ◌<◌}
use mathlib.Core.Path.{◌≡◌, refl, sym, ap, ◌∙◌}
use mathlib.Core.Bool.{Bool, true, false, cond, not, ◌||◌}
use mathlib.Core.List.{List, [], ◌∷◌, map}
use mathlib.Core.Logic.{◌⊎◌, inl, inr}
use native.Mathlib.Omega.{arith}
use lib.Dec.{T, eqb, ltb, not_T, eqb→eq, ltb→lt, lt→ltb, eqb_refl}
use borrow.Author.Tests.{eqb-true, not-true}
use Rattle.logic.specs.Lists.{rises, sum, every}
use Rattle.book.specs.Facts.{OpenClass, number, new_class, is_class_open, class_of, put_class, insert_class, is_below}
use Rattle.book.specs.Books.{is_class}
use Rattle.logic.proofs.Tests.{and_intro, ands, T_true, or_cases, or_left, or_right, nor_left, nor_right, trichotomy}
use Rattle.book.proofs.Forms.{are_series}
use Rattle.logic.proofs.Lists.{every_imply, same_keys, StrictOrder}

-- ---- the order

-- y has the number of x
abbrev pub is_numbered : OpenClass → OpenClass → Bool
is_numbered x y = eqb (number y) (number x)

pub class_order : StrictOrder is_numbered is_below
class_order = record {
  transitive = λ x y z a b. lt→ltb (number x) (number z) (omega (arith, below x y a, below y z b));
  total = λ x y. compare x y (trichotomy (number x) (number y));
  apart = λ x y a. not_T (is_numbered x y || is_numbered y x)
      (λ e. elim (or_cases (is_numbered x y) (is_numbered y x) e) [
        | inl b ↦ omega (arith, below x y a, eqb→eq (number y) (number x) b)
        | inr b ↦ omega (arith, below x y a, eqb→eq (number x) (number y) b)
      ]);
  reflexive = λ x. eqb_refl (number x);
}
  where
    below : (x y : OpenClass) → T (is_below x y) → number x < number y
    below x y t = ltb→lt (number x) (number y) t

    compare :
        (x y : OpenClass) → (number x < number y) ⊎ ((number x ≡ number y) ⊎ (number y < number x))
        → T (is_numbered x y || (is_below x y || is_below y x))
    compare x y (inl a) = let b : T (is_below x y) = lt→ltb (number x) (number y) a in search (or_left, or_right)
    compare x y (inr (inr a)) = let b : T (is_below y x) = lt→ltb (number y) (number x) a in search (or_left, or_right)
    compare x y (inr (inl e)) = let b : T (is_numbered x y) = rw e (eqb_refl (number y)) in search or_left

-- ---- the class of a number

pub number_of : (c : ℕ) (xs : List OpenClass) → number (class_of c xs) ≡ c
number_of c [] = refl
number_of c (x ∷ xs) = go (eqb (number x) c) refl (number_of c xs)
  where
    go : (b : Bool) → eqb (number x) c ≡ b → number (class_of c xs) ≡ c → number (cond b x (class_of c xs)) ≡ c
    go true e r = eqb-true (number x) c e
    go false e r = r

pub every_of :
    (p : OpenClass → Bool) (c : ℕ) (xs : List OpenClass) → T (p (new_class c)) → T (every p xs) → T (p (class_of c xs))
every_of p c [] new t = new
every_of p c (x ∷ xs) new t = go (eqb (number x) c) (every_of p c xs new (search ands))
  where
    go : (b : Bool) → T (p (class_of c xs)) → T (p (cond b x (class_of c xs)))
    go true r = search ands
    go false r = r

pub series_of :
    (now c : ℕ) (xs : List OpenClass) → T (every (is_class now) xs) → T (are_series now (class_of c xs).series)
series_of now c xs t =
    let good : OpenClass → Bool = λ x. are_series now x.series in
    every_of good c xs tt (every_imply (is_class now) good (λ x l. search ands) xs t)

-- ---- a class put in its place

pub every_put :
    (p : OpenClass → Bool) (y : OpenClass) (xs : List OpenClass) → T (p y) → T (every p xs)
    → T (every p (put_class y xs))
every_put p y [] a t = tt
every_put p y (x ∷ xs) a t = go (eqb (number x) (number y)) (every_put p y xs a (search ands))
  where
    go : (b : Bool) → T (every p (put_class y xs)) → T (every p (cond b (y ∷ xs) (x ∷ put_class y xs)))
    go true r = let c : T (every p xs) = search ands in search and_intro
    go false r = let c : T (p x) = search ands in search and_intro

pub numbers_put : (y : OpenClass) (xs : List OpenClass) → map number (put_class y xs) ≡ map number xs
numbers_put y [] = refl
numbers_put y (x ∷ xs) = go (eqb (number x) (number y)) refl (numbers_put y xs)
  where
    go : (b : Bool) → eqb (number x) (number y) ≡ b → map number (put_class y xs) ≡ map number xs
        → map number (cond b (y ∷ xs) (x ∷ put_class y xs)) ≡ number x ∷ map number xs
    go true e r = ap (λ (k : ℕ). k ∷ map number xs) (sym (eqb-true (number x) (number y) e))
    go false e r = ap (λ (l : List ℕ). number x ∷ l) r

pub rises_put : (y : OpenClass) (xs : List OpenClass) → T (rises is_below xs) → T (rises is_below (put_class y xs))
rises_put y xs t = same_keys number ltb (put_class y xs) xs (numbers_put y xs) t

pub sum_put :
    (size : OpenClass → ℕ) (y : OpenClass) (xs : List OpenClass) → T (is_class_open (number y) xs)
    → sum size (put_class y xs) + size (class_of (number y) xs) ≡ sum size xs + size y
sum_put size y [] o = absurd o
sum_put size y (x ∷ xs) o = go (eqb (number x) (number y)) o (sum_put size y xs)
  where
    go :
        (b : Bool) → T (b || is_class_open (number y) xs)
        → (T (is_class_open (number y) xs)
        → sum size (put_class y xs) + size (class_of (number y) xs) ≡ sum size xs + size y)
        → sum size (cond b (y ∷ xs) (x ∷ put_class y xs)) + size (cond b x (class_of (number y) xs))
        ≡ size x + sum size xs + size y
    go true u r = omega arith
    go false u r = omega (arith, r u)

-- ---- each class changed, and a new class

pub class_of_map :
    (g : OpenClass → OpenClass) → ((x : OpenClass) → number (g x) ≡ number x) → (c : ℕ) → g (new_class c) ≡ new_class c
    → (xs : List OpenClass) → class_of c (map g xs) ≡ g (class_of c xs)
class_of_map g same c new [] = sym new
class_of_map g same c new (x ∷ xs) =
    ap (λ (k : ℕ). cond (eqb k c) (g x) (class_of c (map g xs))) (same x)
    ∙ go (eqb (number x) c) (class_of_map g same c new xs)
  where
    go :
        (b : Bool) → class_of c (map g xs) ≡ g (class_of c xs)
        → cond b (g x) (class_of c (map g xs)) ≡ g (cond b x (class_of c xs))
    go true r = refl
    go false r = r

-- a number that is not open
class_of_none : (c : ℕ) (xs : List OpenClass) → T (not (is_class_open c xs)) → class_of c xs ≡ new_class c
class_of_none c [] t = refl
class_of_none c (x ∷ xs) t =
    rw (not-true (eqb (number x) c)
    (T_true (not (eqb (number x) c)) (nor_left (eqb (number x) c) (is_class_open c xs) t)))
    (class_of_none c xs (nor_right (eqb (number x) c) (is_class_open c xs) t))

class_of_front :
    (d c : ℕ) (xs : List OpenClass) → T (not (is_class_open d xs)) → class_of c (new_class d ∷ xs) ≡ class_of c xs
class_of_front d c xs t = go (eqb d c) refl
  where
    go : (b : Bool) → eqb d c ≡ b → cond b (new_class d) (class_of c xs) ≡ class_of c xs
    go true e = sym (class_of_none d xs t) ∙ ap (λ (k : ℕ). class_of k xs) (eqb-true d c e)
    go false e = refl

pub class_of_inserted :
    (d c : ℕ) (xs : List OpenClass) → T (not (is_class_open d xs))
    → class_of c (insert_class (new_class d) xs) ≡ class_of c xs
class_of_inserted d c [] t = class_of_front d c [] t
class_of_inserted d c (x ∷ xs) t =
    go (ltb d (number x)) (class_of_inserted d c xs (nor_right (eqb (number x) d) (is_class_open d xs) t))
  where
    go :
        (b : Bool) → class_of c (insert_class (new_class d) xs) ≡ class_of c xs
        → class_of c (cond b (new_class d ∷ x ∷ xs) (x ∷ insert_class (new_class d) xs)) ≡ class_of c (x ∷ xs)
    go true r = class_of_front d c (x ∷ xs) t
    go false r = ap (cond (eqb (number x) c) x) r
