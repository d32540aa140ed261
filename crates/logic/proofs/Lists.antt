-- Lists under any test and any order: what keeping some, changing each and inserting one leave of `every`, `some`,
-- `rises` and sums, through the form in which each element stands before all later ones. Assumes nothing.
use Prim.Native.Nat.{ℕ, zero, suc, ◌+◌, ◌-◌, ◌≤◌, ◌<◌, zero-le}
use mathlib.Core.Path.{◌≡◌, refl, sym, ap, ◌∙◌, subst}
use mathlib.Core.Bool.{Bool, true, false, cond, not, ◌&&◌, ◌||◌, or-true, true≢false}
use mathlib.Core.List.{List, [], ◌∷◌, ◌++◌, map}
use mathlib.Core.Logic.{◌⊎◌, inl, inr, ⊎_elim}
use native.Mathlib.Omega.{arith}
use lib.ListN.{length, get_or}
use lib.Dec.{T, T_not, ltb, ltb→lt}
use Rattle.logic.specs.Lists.{every, some, only, sum, Rising, rises, inserted}
use Rattle.logic.proofs.Tests.{and_intro, ands, or_cases, or_left, or_right, refuted}

pub not_some : {A : Type 0} (test : A → Bool) (xs : List A) → not (some test xs) ≡ every (λ x. not (test x)) xs
not_some test [] = refl
not_some test (x ∷ xs) = go (test x) (not_some test xs)
  where
    go :
        (t : Bool) → not (some test xs) ≡ every (λ x. not (test x)) xs
        → not (t || some test xs) ≡ (not t && every (λ x. not (test x)) xs)
    go true r = refl
    go false r = r

-- ---- a test of each element

module _ {A : Type 0} where
  pub every_true : (xs : List A) → T (every (λ x. true) xs)
  every_true [] = tt
  every_true (x ∷ xs) = every_true xs

  pub every_imply : (p q : A → Bool) → ((x : A) → T (p x) → T (q x)) → (xs : List A) → T (every p xs) → T (every q xs)
  every_imply p q f [] t = tt
  every_imply p q f (x ∷ xs) t =
      let a : T (q x) = f x (search ands) in
      let b : T (every q xs) = every_imply p q f xs (search ands) in
      search and_intro

  -- by the places of the list
  pub every_at :
      (p : A → Bool) (none : A) (xs : List A) (i : ℕ) → i < length xs → T (every p xs) → T (p (get_or xs i none))
  every_at p none [] i l t = absurd (omega arith)
  every_at p none (x ∷ xs) zero l t = search ands
  every_at p none (x ∷ xs) (suc i) l t = every_at p none xs i (omega arith) (search ands)

  pub every_places :
      (p : A → Bool) (none : A) (xs : List A) → ((i : ℕ) → i < length xs → T (p (get_or xs i none))) → T (every p xs)
  every_places p none [] each = tt
  every_places p none (x ∷ xs) each =
      and_intro (p x) (every p xs) (each 0 (omega arith))
      (every_places p none xs (λ i l. each (suc i) (omega arith)))

  pub every_not :
      (p : A → Bool) (none : A) (xs : List A) (i : ℕ) → i < length xs → p (get_or xs i none) ≡ false
      → every p xs ≡ false
  every_not p none xs i l e = sym (refuted (every p xs) (λ t. rw e at (every_at p none xs i l t)))

  pub every_mapped :
      {B : Type 0} (p : B → Bool) (g : A → B) (xs : List A) → every p (map g xs) ≡ every (λ x. p (g x)) xs
  every_mapped p g [] = refl
  every_mapped p g (x ∷ xs) = ap (λ (t : Bool). p (g x) && t) (every_mapped p g xs)

  pub every_map :
      {B : Type 0} (p : A → Bool) (q : B → Bool) (g : A → B) → ((x : A) → T (p x) → T (q (g x))) → (xs : List A)
      → T (every p xs) → T (every q (map g xs))
  every_map p q g f xs t = rw (every_mapped q g xs) (every_imply p (λ x. q (g x)) f xs t)

  pub every_only :
      (p q keep : A → Bool) → ((x : A) → T (keep x) → T (p x) → T (q x)) → (xs : List A) → T (every p xs)
      → T (every q (only keep xs))
  every_only p q keep f [] t = tt
  every_only p q keep f (x ∷ xs) t = go (keep x) refl (every_only p q keep f xs (search ands))
    where
      go : (b : Bool) → keep x ≡ b → T (every q (only keep xs)) → T (every q (cond b (x ∷ only keep xs) (only keep xs)))
      go true e rest = let a : T (q x) = f x (rw e tt) (search ands) in search and_intro
      go false e rest = rest

  -- what follows from each that passes
  pub some_cases : {P : Type 0} (p : A → Bool) (xs : List A) → ((x : A) → T (p x) → P) → T (some p xs) → P
  some_cases p [] each t = absurd t
  some_cases p (x ∷ xs) each t = ⊎_elim (each x) (some_cases p xs each) (or_cases (p x) (some p xs) t)

  pub some_imply : (p q : A → Bool) → ((x : A) → T (p x) → T (q x)) → (xs : List A) → T (some p xs) → T (some q xs)
  some_imply p q f [] t = t
  some_imply p q f (x ∷ xs) t =
      ⊎_elim
      (λ u. or_left (q x) (some q xs) (f x u))
      (λ u. or_right (q x) (some q xs) (some_imply p q f xs u))
      (or_cases (p x) (some p xs) t)

  pub some_either : (p q : A → Bool) (xs : List A) → T (some (λ x. p x || q x) xs) → T (some p xs) ⊎ T (some q xs)
  some_either p q [] t = absurd t
  some_either p q (x ∷ xs) t =
      ⊎_elim
      (λ u.
      ⊎_elim (λ a. inl (or_left (p x) (some p xs) a)) (λ a. inr (or_left (q x) (some q xs) a)) (or_cases (p x) (q x) u))
      (λ u.
      ⊎_elim (λ a. inl (or_right (p x) (some p xs) a)) (λ a. inr (or_right (q x) (some q xs) a)) (some_either p q xs u))
      (or_cases (p x || q x) (some (λ x. p x || q x) xs) t)

  pub some_map :
      {B : Type 0} (p : B → Bool) (q : A → Bool) (g : A → B) → ((x : A) → p (g x) ≡ q x) → (xs : List A)
      → some p (map g xs) ≡ some q xs
  some_map p q g f [] = refl
  some_map p q g f (x ∷ xs) = let r = some_map p q g f xs in λ i. f x i || r i

  -- two tests keep the same where they agree
  pub only_same :
      (p f g : A → Bool) → ((x : A) → T (p x) → f x ≡ g x) → (xs : List A) → T (every p xs) → only f xs ≡ only g xs
  only_same p f g agree [] t = refl
  only_same p f g agree (x ∷ xs) t =
      let here : f x ≡ g x = agree x (search ands) in
      let rest : only f xs ≡ only g xs = only_same p f g agree xs (search ands) in
      λ i. cond (here i) (x ∷ rest i) (rest i)

  pub length_only : (keep : A → Bool) (xs : List A) → length (only keep xs) ≤ length xs
  length_only keep [] = zero-le
  length_only keep (x ∷ xs) = go (keep x) (length_only keep xs)
    where
      go :
          (b : Bool) → length (only keep xs) ≤ length xs
          → length (cond b (x ∷ only keep xs) (only keep xs)) ≤ suc (length xs)
      go true l = omega arith
      go false l = omega arith

  pub sum_map :
      (size : A → ℕ) (g : A → A) → ((x : A) → size (g x) ≤ size x) → (xs : List A) → sum size (map g xs) ≤ sum size xs
  sum_map size g l [] = zero-le
  sum_map size g l (x ∷ xs) = omega (arith, l x, sum_map size g l xs)

  pub sum_append : (size : A → ℕ) (xs ys : List A) → sum size (xs ++ ys) ≡ sum size xs + sum size ys
  sum_append size [] ys = omega arith
  sum_append size (x ∷ xs) ys = omega (arith, sum_append size xs ys)

  -- where each adds at most one, they add at most as many as they are
  pub sum_few : (size : A → ℕ) → ((x : A) → size x ≤ 1) → (xs : List A) → sum size xs ≤ length xs
  sum_few size l [] = zero-le
  sum_few size l (x ∷ xs) = omega (arith, l x, sum_few size l xs)

  -- how many pass a test where some are gone that pass it, and where some are gone that do not
  module _ (test gone : A → Bool) where
    abbrev left : List A → List A
    left xs = only (λ x. not (gone x)) xs

    pub passing_gone :
        ((x : A) → gone x ≡ true → test x ≡ true) → (xs : List A)
        → length (only test (left xs)) + length (only gone xs) ≡ length (only test xs)
    passing_gone pass [] = refl
    passing_gone pass (x ∷ xs) = go (gone x) refl (test x) refl (passing_gone pass xs)
      where
        go :
            (g : Bool) → gone x ≡ g → (t : Bool) → test x ≡ t
            → length (only test (left xs)) + length (only gone xs) ≡ length (only test xs)
            → length (only test (cond (not g) (x ∷ left xs) (left xs)))
            + length (cond g (x ∷ only gone xs) (only gone xs))
            ≡ length (cond t (x ∷ only test xs) (only test xs))
        go true d true e r = omega arith
        go true d false e r = absurd (true≢false (sym (pass x d) ∙ e))
        go false d true e r = rw e (omega arith)
        go false d false e r = rw e (omega arith)

    pub others_gone :
        ((x : A) → gone x ≡ true → test x ≡ false) → (xs : List A)
        → length (only test (left xs)) ≡ length (only test xs)
    others_gone fail [] = refl
    others_gone fail (x ∷ xs) = go (gone x) refl (test x) refl (others_gone fail xs)
      where
        go :
            (g : Bool) → gone x ≡ g → (t : Bool) → test x ≡ t → length (only test (left xs)) ≡ length (only test xs)
            → length (only test (cond (not g) (x ∷ left xs) (left xs)))
            ≡ length (cond t (x ∷ only test xs) (only test xs))
        go true d true e r = absurd (true≢false (sym e ∙ fail x d))
        go true d false e r = r
        go false d true e r = rw e (omega arith)
        go false d false e r = rw e r

-- ---- lists that rise

-- numbers that rise do so by at least one from place to place
pub rising_at :
    {A : Type 0} (f : A → ℕ) (none : A) (xs : List A) → Rising (map f xs) → (i j : ℕ) → i ≤ j → j < length xs
    → f (get_or xs i none) + (j - i) ≤ f (get_or xs j none)
rising_at f none [] r i j l k = absurd (omega arith)
rising_at f none (x ∷ xs) r zero zero l k = omega arith
rising_at f none (x ∷ xs) r (suc i) zero l k = absurd (omega arith)
rising_at f none (x ∷ []) r i (suc j) l k = absurd (omega arith)
rising_at f none (x ∷ y ∷ ys) r zero (suc j) l k =
    let m = rising_at f none (y ∷ ys) r.1 zero j (omega arith) (omega arith) in
    omega (arith, r.0)
rising_at f none (x ∷ y ∷ ys) r (suc i) (suc j) l k =
    let m = rising_at f none (y ∷ ys) r.1 i j (omega arith) (omega arith) in
    omega arith

-- the order depends on a key alone
rises_keys :
    {A B : Type 0} (key : A → B) (before : B → B → Bool) (xs : List A)
    → rises (λ x y. before (key x) (key y)) xs ≡ rises before (map key xs)
rises_keys key before [] = refl
rises_keys key before (x ∷ []) = refl
rises_keys key before (x ∷ y ∷ ys) = ap (λ (b : Bool). before (key x) (key y) && b) (rises_keys key before (y ∷ ys))

pub same_keys : {A B : Type 0} (key : A → B) (before : B → B → Bool) (xs ys : List A) → map key xs ≡ map key ys
    → T (rises (λ x y. before (key x) (key y)) ys) → T (rises (λ x y. before (key x) (key y)) xs)
same_keys key before xs ys e t =
    subst T (rises_keys key before ys ∙ ap (rises before) (sym e) ∙ sym (rises_keys key before xs)) t

-- a strict order, and the test that two elements have the same place in it
pub record StrictOrder {A : Type 0} (same before : A → A → Bool) : Type 0 where
  pub transitive : (x y z : A) → T (before x y) → T (before y z) → T (before x z)
  pub total : (x y : A) → T (same x y || (before x y || before y x))
  pub apart : (x y : A) → T (before x y) → T (not (same x y || same y x))
  pub reflexive : (x : A) → T (same x x)

-- each element stands before all later ones
abbrev pub ordered : {A : Type 0} → (A → A → Bool) → List A → Bool
ordered before [] = true
ordered before (x ∷ xs) = every (before x) xs && ordered before xs

pub rising_keys :
    {A : Type 0} (key : A → ℕ) (xs : List A) → T (ordered (λ x y. ltb (key x) (key y)) xs) → Rising (map key xs)
rising_keys key [] t = tt
rising_keys key (x ∷ []) t = tt
rising_keys key (x ∷ y ∷ ys) t = (ltb→lt (key x) (key y) (search ands), rising_keys key (y ∷ ys) (search ands))

module _ {A : Type 0} (same before : A → A → Bool) (order : StrictOrder same before) where
  pub before_every : (x y : A) (ys : List A) → T (before x y) → T (every (before y) ys) → T (every (before x) ys)
  before_every x y ys b t = every_imply (before y) (before x) (λ z c. order.transitive x y z b c) ys t

  pub rises_ordered : (xs : List A) → T (rises before xs) → T (ordered before xs)
  rises_ordered [] t = tt
  rises_ordered (x ∷ []) t = tt
  rises_ordered (x ∷ y ∷ ys) t =
      let a : T (ordered before (y ∷ ys)) = rises_ordered (y ∷ ys) (search ands) in
      let b : T (before x y) = search ands in
      let c : T (every (before x) ys) = before_every x y ys b (search ands) in
      search and_intro

  ordered_rises : (xs : List A) → T (ordered before xs) → T (rises before xs)
  ordered_rises [] t = tt
  ordered_rises (x ∷ []) t = tt
  ordered_rises (x ∷ y ∷ ys) t =
      let a : T (rises before (y ∷ ys)) = ordered_rises (y ∷ ys) (search ands) in
      let b : T (before x y) = search ands in
      search and_intro

  ordered_only : (keep : A → Bool) (xs : List A) → T (ordered before xs) → T (ordered before (only keep xs))
  ordered_only keep [] t = tt
  ordered_only keep (x ∷ xs) t = go (keep x) (ordered_only keep xs (search ands))
    where
      go :
          (b : Bool) → T (ordered before (only keep xs)) → T (ordered before (cond b (x ∷ only keep xs) (only keep xs)))
      go true rest =
          let a : T (every (before x) (only keep xs)) =
          every_only (before x) (before x) keep (λ y k c. c) xs (search ands) in
          search and_intro
      go false rest = rest

  pub rises_only : (keep : A → Bool) (xs : List A) → T (rises before xs) → T (rises before (only keep xs))
  rises_only keep xs t = ordered_rises (only keep xs) (ordered_only keep xs (rises_ordered xs t))

-- ---- an element put where it has its place

module _ {A : Type 0} (before : A → A → Bool) where
  pub every_inserted :
      (p : A → Bool) (y : A) (xs : List A) → T (p y) → T (every p xs) → T (every p (inserted before y xs))
  every_inserted p y [] a t = search and_intro
  every_inserted p y (x ∷ xs) a t = go (before y x) (every_inserted p y xs a (search ands))
    where
      go :
          (b : Bool) → T (every p (inserted before y xs))
          → T (every p (cond b (y ∷ x ∷ xs) (x ∷ inserted before y xs)))
      go true rest = search and_intro
      go false rest = let c : T (p x) = search ands in search and_intro

  pub some_inserted : (p : A → Bool) (y : A) (xs : List A) → some p (inserted before y xs) ≡ (p y || some p xs)
  some_inserted p y [] = refl
  some_inserted p y (x ∷ xs) = go (before y x) (some_inserted p y xs)
    where
      swapped : (a b c : Bool) → (a || (b || c)) ≡ (b || (a || c))
      swapped a true c = or-true a
      swapped a false c = refl

      go :
          (b : Bool) → some p (inserted before y xs) ≡ (p y || some p xs)
          → some p (cond b (y ∷ x ∷ xs) (x ∷ inserted before y xs)) ≡ (p y || (p x || some p xs))
      go true e = refl
      go false e = ap (λ (b : Bool). p x || b) e ∙ swapped (p x) (p y) (some p xs)

  pub sum_inserted : (size : A → ℕ) (y : A) (xs : List A) → sum size (inserted before y xs) ≡ size y + sum size xs
  sum_inserted size y [] = refl
  sum_inserted size y (x ∷ xs) = go (before y x) (sum_inserted size y xs)
    where
      go :
          (b : Bool) → sum size (inserted before y xs) ≡ size y + sum size xs
          → sum size (cond b (y ∷ x ∷ xs) (x ∷ inserted before y xs)) ≡ size y + (size x + sum size xs)
      go true e = refl
      go false e = omega arith

module _ {A : Type 0} (same before : A → A → Bool) (order : StrictOrder same before) where
  ordered_inserted :
      (y : A) (xs : List A) → T (every (λ x. not (same y x)) xs) → T (ordered before xs)
      → T (ordered before (inserted before y xs))
  ordered_inserted y [] n t = tt
  ordered_inserted y (x ∷ xs) n t = go (before y x) refl (ordered_inserted y xs (search ands) (search ands))
    where
      other : before y x ≡ false → T (before x y)
      other e = elim (or_cases (same y x) (before y x || before x y) (order.total y x)) [
        | inl a ↦ absurd (T_not (same y x) (search ands) a)
        | inr b ↦ rw e at b
      ]

      go :
          (b : Bool) → before y x ≡ b → T (ordered before (inserted before y xs))
          → T (ordered before (cond b (y ∷ x ∷ xs) (x ∷ inserted before y xs)))
      go true e rest =
          let a : T (before y x) = rw e tt in
          let b : T (every (before y) xs) = before_every same before order y x xs a (search ands) in
          search and_intro
      go false e rest =
          let a : T (every (before x) (inserted before y xs)) =
          every_inserted before (before x) y xs (other e) (search ands) in
          search and_intro

  pub rises_inserted :
      (y : A) (xs : List A) → T (not (some (same y) xs)) → T (rises before xs) → T (rises before (inserted before y xs))
  rises_inserted y xs n t =
      ordered_rises same before order (inserted before y xs)
      (ordered_inserted y xs (subst T (not_some (same y) xs) n) (rises_ordered same before order xs t))
