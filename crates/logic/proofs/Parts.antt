-- A list that rises by a number of its elements is what stands below a number, at it and above it, and an edit at that
-- number leaves what stands beside it: by induction on the list. Assumes nothing.
use Prim.Native.Nat.{ℕ, suc, ◌≤◌, ◌<◌}
use mathlib.Core.Path.{◌≡◌, refl, sym, ap, ◌∙◌, subst}
use mathlib.Core.Bool.{Bool, true, false, cond, not, ◌&&◌, ◌||◌, and_comm}
use mathlib.Core.List.{List, [], ◌∷◌, ◌++◌, map}
use mathlib.Core.Logic.{◌⊎◌, inl, inr}
use native.Mathlib.Omega.{arith}
use lib.ListN.{length}
use lib.Dec.{T, eqb, leb, ltb, leb→le, le→leb, ltb→lt, eqb→eq}
use borrow.Author.Tests.{eqb-true, lt-ltb, le-ltb, eq-eqb, ne_eqb, not-true}
use Rattle.logic.specs.Lists.{every, some, only, inserted}
use Rattle.logic.proofs.Tests.{and_intro, ands, T_true, or_left, or_right, trichotomy}
use Rattle.logic.proofs.Lists.{not_some, every_true, every_imply, ordered}

module _ {A : Type 0} where
  -- none is kept by p where each passes q, which p excludes
  only_none :
      (p q : A → Bool) → ((x : A) → T (q x) → p x ≡ false) → (xs : List A) → T (every q xs) → only p xs ≡ []
  only_none p q f [] t = refl
  only_none p q f (x ∷ xs) t = rw (f x (search ands)) (only_none p q f xs (search ands))

  pub only_absent : (p : A → Bool) (xs : List A) → T (not (some p xs)) → only p xs ≡ []
  only_absent p xs t =
      only_none p (λ x. not (p x)) (λ x u. not-true (p x) (T_true (not (p x)) u)) xs (subst T (not_some p xs) t)

  pub every_kept : (p : A → Bool) (xs : List A) → T (every p (only p xs))
  every_kept p [] = tt
  every_kept p (x ∷ xs) = go (p x) refl (every_kept p xs)
    where
      go : (b : Bool) → p x ≡ b → T (every p (only p xs)) → T (every p (cond b (x ∷ only p xs) (only p xs)))
      go true e t = let a : T (p x) = rw e tt in search and_intro
      go false e t = t

  pub only_all : (p : A → Bool) (xs : List A) → T (every p xs) → only p xs ≡ xs
  only_all p [] t = refl
  only_all p (x ∷ xs) t = rw (T_true (p x) (search ands)) (ap (λ (l : List A). x ∷ l) (only_all p xs (search ands)))

  -- all but one, which does not pass
  pub only_others :
      (p : A → Bool) (xs : List A) (y : A) (zs : List A) → T (every p xs) → p y ≡ false → T (every p zs)
      → only p (xs ++ (y ∷ zs)) ≡ xs ++ zs
  only_others p [] y zs t e u = rw e (only_all p zs u)
  only_others p (x ∷ xs) y zs t e u =
      rw (T_true (p x) (search ands)) (ap (λ (l : List A). x ∷ l) (only_others p xs y zs (search ands) e u))

  pub some_only : (p : A → Bool) (xs : List A) → some p (only p xs) ≡ some p xs
  some_only p [] = refl
  some_only p (x ∷ xs) = go (p x) refl (some_only p xs)
    where
      go :
          (b : Bool) → p x ≡ b → some p (only p xs) ≡ some p xs
          → some p (cond b (x ∷ only p xs) (only p xs)) ≡ (b || some p xs)
      go true e r = rw e
      go false e r = r

  -- where all pass
  pub some_all : (p : A → Bool) (xs : List A) → T (every p xs) → some p xs ≡ ltb 0 (length xs)
  some_all p [] t = refl
  some_all p (x ∷ xs) t = rw (T_true (p x) (search ands)) (sym (lt-ltb 0 (suc (length xs)) (omega arith)))

  pub only_append : (p : A → Bool) (xs ys : List A) → only p (xs ++ ys) ≡ only p xs ++ only p ys
  only_append p [] ys = refl
  only_append p (x ∷ xs) ys = go (p x) (only_append p xs ys)
    where
      go :
          (b : Bool) → only p (xs ++ ys) ≡ only p xs ++ only p ys
          → cond b (x ∷ only p (xs ++ ys)) (only p (xs ++ ys)) ≡ cond b (x ∷ only p xs) (only p xs) ++ only p ys
      go true r = ap (λ (l : List A). x ∷ l) r
      go false r = r

  pub only_both : (p q : A → Bool) (xs : List A) → only q (only p xs) ≡ only (λ x. p x && q x) xs
  only_both p q [] = refl
  only_both p q (x ∷ xs) = go (p x) (only_both p q xs)
    where
      go :
          (b : Bool) → only q (only p xs) ≡ only (λ x. p x && q x) xs
          → only q (cond b (x ∷ only p xs) (only p xs))
          ≡ cond (b && q x) (x ∷ only (λ x. p x && q x) xs) (only (λ x. p x && q x) xs)
      go true r = ap (λ (l : List A). cond (q x) (x ∷ l) l) r
      go false r = r

  pub only_either_way : (p q : A → Bool) (xs : List A) → only q (only p xs) ≡ only p (only q xs)
  only_either_way p q xs = only_both p q xs ∙ (λ i. only (λ x. and_comm (p x) (q x) i) xs) ∙ sym (only_both q p xs)

  pub some_both : (p q : A → Bool) (xs : List A) → some q (only p xs) ≡ some (λ x. p x && q x) xs
  some_both p q [] = refl
  some_both p q (x ∷ xs) = go (p x) (some_both p q xs)
    where
      go :
          (b : Bool) → some q (only p xs) ≡ some (λ x. p x && q x) xs
          → some q (cond b (x ∷ only p xs) (only p xs)) ≡ ((b && q x) || some (λ x. p x && q x) xs)
      go true r = ap (λ (b : Bool). q x || b) r
      go false r = r

  pub some_after : (p : A → Bool) (xs : List A) (y : A) (zs : List A) → T (p y) → T (some p (xs ++ (y ∷ zs)))
  some_after p [] y zs t = or_left (p y) (some p zs) t
  some_after p (x ∷ xs) y zs t = or_right (p x) (some p (xs ++ (y ∷ zs))) (some_after p xs y zs t)

  pub map_same :
      (p : A → Bool) (g : A → A) → ((x : A) → T (p x) → g x ≡ x) → (xs : List A) → T (every p xs) → map g xs ≡ xs
  map_same p g f [] t = refl
  map_same p g f (x ∷ xs) t = let e = f x (search ands) in let r = map_same p g f xs (search ands) in λ i. e i ∷ r i

  pub every_append : (p : A → Bool) (xs ys : List A) → T (every p xs) → T (every p ys) → T (every p (xs ++ ys))
  every_append p [] ys t u = u
  every_append p (x ∷ xs) ys t u =
      let a : T (p x) = search ands in
      let b : T (every p (xs ++ ys)) = every_append p xs ys (search ands) u in
      search and_intro

  -- another order that follows from the first among elements that pass p
  pub ordered_imply :
      (p : A → Bool) (before before' : A → A → Bool)
      → ((x y : A) → T (p x) → T (p y) → T (before x y) → T (before' x y))
      → (xs : List A) → T (every p xs) → T (ordered before xs) → T (ordered before' xs)
  ordered_imply p before before' f [] t o = tt
  ordered_imply p before before' f (x ∷ xs) t o =
      let a : T (every (before' x) xs) = later xs (search ands) (search ands) in
      let b : T (ordered before' xs) = ordered_imply p before before' f xs (search ands) (search ands) in
      search and_intro
    where
      later : (ys : List A) → T (every p ys) → T (every (before x) ys) → T (every (before' x) ys)
      later [] u v = tt
      later (y ∷ ys) u v =
          let a : T (before' x y) = f x y (search ands) (search ands) (search ands) in
          let b : T (every (before' x) ys) = later ys (search ands) (search ands) in
          search and_intro

  -- between what it does not stand before and what it stands before
  pub inserted_between :
      (before : A → A → Bool) (y : A) (xs zs : List A) → T (every (λ x. not (before y x)) xs) → T (every (before y) zs)
      → inserted before y (xs ++ zs) ≡ xs ++ (y ∷ zs)
  inserted_between before y [] [] t u = refl
  inserted_between before y [] (z ∷ zs) t u = rw (T_true (before y z) (search ands))
  inserted_between before y (x ∷ xs) zs t u =
      rw (not-true (before y x) (T_true (not (before y x)) (search ands)))
      (ap (λ (l : List A). x ∷ l) (inserted_between before y xs zs (search ands) u))

-- ---- below a number, at it and above it

module _ {A : Type 0} (key : A → ℕ) (k : ℕ) where
  abbrev pub is_under : A → Bool
  is_under x = ltb (key x) k

  abbrev pub is_equal : A → Bool
  is_equal x = eqb (key x) k

  abbrev pub is_over : A → Bool
  is_over x = ltb k (key x)

  pub not_under :
      (xs ys : List A) → T (every is_equal xs) → T (every is_over ys) → T (every (λ x. leb k (key x)) (xs ++ ys))
  not_under xs ys t u =
      every_append (λ x. leb k (key x)) xs ys
      (every_imply is_equal (λ x. leb k (key x)) (λ x e. le→leb k (key x) (omega (arith, eqb→eq (key x) k e))) xs t)
      (every_imply is_over (λ x. leb k (key x)) (λ x l. le→leb k (key x) (omega (arith, ltb→lt k (key x) l))) ys u)

  pub three_parts :
      (xs : List A) → T (ordered (λ x y. leb (key x) (key y)) xs)
      → xs ≡ only is_under xs ++ (only is_equal xs ++ only is_over xs)
  three_parts [] t = refl
  three_parts (x ∷ xs) t = go (trichotomy (key x) k) (three_parts xs (search ands))
    where
      from : T (every (λ y. leb (key x) (key y)) xs)
      from = search ands

      -- none below k after x
      under : k ≤ key x → only is_under xs ≡ []
      under a =
          only_none is_under (λ y. leb (key x) (key y))
          (λ y l. le-ltb (key y) k (omega (arith, leb→le (key x) (key y) l))) xs from

      go :
          (key x < k) ⊎ ((key x ≡ k) ⊎ (k < key x)) → xs ≡ only is_under xs ++ (only is_equal xs ++ only is_over xs)
          → x ∷ xs ≡ only is_under (x ∷ xs) ++ (only is_equal (x ∷ xs) ++ only is_over (x ∷ xs))
      go (inl a) r =
          rw (lt-ltb (key x) k a, ne_eqb (key x) k (λ e. omega arith), le-ltb k (key x) (omega arith))
          (ap (λ (l : List A). x ∷ l) r)
      go (inr (inl e)) r =
          let r' : xs ≡ only is_equal xs ++ only is_over xs = r ∙ rw (under (omega arith)) in
          rw (le-ltb (key x) k (omega arith), eq-eqb (key x) k e, le-ltb k (key x) (omega arith), under (omega arith))
          (ap (λ (l : List A). x ∷ l) r')
      go (inr (inr a)) r =
          let none : only is_equal xs ≡ [] =
          only_none is_equal (λ y. leb (key x) (key y))
          (λ y l. ne_eqb (key y) k (λ e. omega (arith, leb→le (key x) (key y) l))) xs from in
          let r' : xs ≡ only is_over xs = r ∙ rw (under (omega arith), none) in
          rw (
            le-ltb (key x) k (omega arith),
            ne_eqb (key x) k (λ e. omega arith),
            lt-ltb k (key x) a,
            under (omega arith),
            none,
          )
          (ap (λ (l : List A). x ∷ l) r')

  -- the same where none has the number of another
  pub distinct_parts :
      (xs : List A) → T (ordered (λ x y. ltb (key x) (key y)) xs)
      → xs ≡ only is_under xs ++ (only is_equal xs ++ only is_over xs)
  distinct_parts xs t =
      three_parts xs
      (ordered_imply (λ x. true) (λ x y. ltb (key x) (key y)) (λ x y. leb (key x) (key y))
      (λ x y a b l. le→leb (key x) (key y) (omega (arith, ltb→lt (key x) (key y) l))) xs (every_true xs) t)

  -- there one that has the number k has it alone
  pub record Single (xs : List A) : Type 0 where
    pub it : A
    pub has : key it ≡ k
    pub alone : only is_equal xs ≡ it ∷ []

  pub single : (xs : List A) → T (ordered (λ x y. ltb (key x) (key y)) xs) → T (some is_equal xs) → Single xs
  single [] t s = absurd s
  single (x ∷ xs) t s = go (eqb (key x) k) refl s (single xs (search ands))
    where
      go :
          (b : Bool) → eqb (key x) k ≡ b → T (b || some is_equal xs) → (T (some is_equal xs) → Single xs)
          → Single (x ∷ xs)
      go true e u r =
          let here : key x ≡ k = eqb-true (key x) k e in
          let none : only is_equal xs ≡ [] =
          only_none is_equal (λ y. ltb (key x) (key y))
          (λ y l. ne_eqb (key y) k (λ q. omega (arith, ltb→lt (key x) (key y) l))) xs (search ands) in
          record { it = x; has = here; alone = rw (e, none) }
      go false e u r = let one = r u in record { it = one.it; has = one.has; alone = rw e one.alone }
