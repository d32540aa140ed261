-- Tests joined by `and` and `or`, tests that fail, the test of equal numbers and numbers in order: by cases on the
-- tests. That a test passes is said by `T`; `true_T` and its kin lead there from what the branches of code give.
-- Assumes nothing.
use Prim.Native.Nat.{ℕ, ◌+◌, ◌≤◌, ◌<◌, min, max}
use mathlib.Core.Path.{◌≡◌, refl, sym, ap, ◌∙◌}
use mathlib.Core.Bool.{Bool, true, false, cond, not, ◌&&◌, ◌||◌, and-false}
use mathlib.Core.Logic.{◌⊎◌, inl, inr, ⊎_elim}
use native.Mathlib.Omega.{arith}
use lib.Dec.{T, eqb, leb, ltb, leb→le, le→leb, ltb→lt, lt→ltb, eqb→eq, eqb_refl, nleb→lt, nltb→le}
use borrow.Author.Tests.{ltb-true, ltb-false, leb-true, leb-false, lt-ltb, le-ltb, lt-leb, eqb-true, eqb-false, not-true, not-false}

pub and_left : (a b : Bool) → T (a && b) → T a
and_left true b t = tt
and_left false b t = t

pub and_right : (a b : Bool) → T (a && b) → T b
and_right true b t = t
and_right false b t = absurd t

pub and_intro : (a b : Bool) → T a → T b → T (a && b)
and_intro true b s t = t
and_intro false b s t = s

-- `search ands` finds any part of a passed test
pub ruleset ands = (and_left, and_right)

pub T_true : (b : Bool) → T b → b ≡ true
T_true true t = refl
T_true false t = absurd t

pub true_T : (b : Bool) → b ≡ true → T b
true_T b e = rw e tt

-- `search parts` does so where a test is said to be `true`, too
pub ruleset parts = (ands, true_T, T_true)

pub T_false : (b : Bool) → T (not b) → b ≡ false
T_false true t = absurd t
T_false false t = refl

pub false_T : (b : Bool) → b ≡ false → T (not b)
false_T b e = rw e tt

pub equal_test : (m n : ℕ) → m ≡ n → T (eqb m n)
equal_test m n e = rw e (eqb_refl n)

pub same_bool : (a b : Bool) → (T a → T b) → (T b → T a) → a ≡ b
same_bool true true f g = refl
same_bool true false f g = absurd (f tt)
same_bool false true f g = absurd (g tt)
same_bool false false f g = refl

pub equal_either_way : (m n : ℕ) → eqb m n ≡ eqb n m
equal_either_way m n =
    same_bool (eqb m n) (eqb n m) (λ t. equal_test n m (sym (eqb→eq m n t))) (λ t. equal_test m n (sym (eqb→eq n m t)))

pub or_cases : (a b : Bool) → T (a || b) → T a ⊎ T b
or_cases true b t = inl tt
or_cases false b t = inr t

pub or_left : (a b : Bool) → T a → T (a || b)
or_left true b t = tt
or_left false b t = absurd t

pub or_right : (a b : Bool) → T b → T (a || b)
or_right true b t = tt
or_right false b t = t

pub nor_left : (a b : Bool) → T (not (a || b)) → T (not a)
nor_left true b t = t
nor_left false b t = tt

pub nor_right : (a b : Bool) → T (not (a || b)) → T (not b)
nor_right true b t = absurd t
nor_right false b t = t

-- `search nors` finds that a part of a test by `or` fails
pub ruleset nors = (nor_left, nor_right, T_false, false_T)

pub not_not : (b : Bool) → T (not (not b)) → T b
not_not true t = tt
not_not false t = t

-- a test that was not failed
pub passed : (b : Bool) → not b ≡ false → T b
passed b e = true_T b (not-false b e)

-- what the outcome of a test tells of what it tests
pub told_false : {b c : Bool} → b ≡ c → not b ≡ true → c ≡ false
told_false {b} e failed = sym e ∙ not-true b failed

pub told_true : {b c : Bool} → b ≡ c → not b ≡ false → T c
told_true {b} {c} e left = true_T c (sym e ∙ not-false b left)

-- what follows of both choices
pub choose :
    {A : Type 0} (P : A → Type 0) (b : Bool) (x y : A) → (b ≡ true → P x) → (b ≡ false → P y) → P (cond b x y)
choose P true x y p q = p refl
choose P false x y p q = q refl

-- ---- numbers in order

pub trichotomy : (a b : ℕ) → (a < b) ⊎ ((a ≡ b) ⊎ (b < a))
trichotomy a b = go (ltb a b) refl (ltb b a) refl
  where
    go : (x : Bool) → ltb a b ≡ x → (y : Bool) → ltb b a ≡ y → (a < b) ⊎ ((a ≡ b) ⊎ (b < a))
    go true e y e' = inl (ltb-true a b e)
    go false e true e' = inr (inr (ltb-true b a e'))
    go false e false e' = inr (inl (omega (arith, ltb-false)))

pub at_most : (a b : ℕ) → leb a b ≡ not (ltb b a)
at_most a b = go (leb a b) refl
  where
    go : (x : Bool) → leb a b ≡ x → x ≡ not (ltb b a)
    go true e = rw (le-ltb b a (leb-true a b e))
    go false e = rw (lt-ltb b a (leb-false a b e))

pub not_leb : (a b : ℕ) → T (not (leb a b)) → T (leb b a)
not_leb a b t = le→leb b a (omega (arith, nleb→lt a b t))

pub not_ltb : (a b : ℕ) → T (not (ltb a b)) → T (leb b a)
not_ltb a b t = le→leb b a (nltb→le a b t)

pub ltb_not : (a b : ℕ) → T (ltb a b) → T (not (leb b a))
ltb_not a b t = rw (lt-leb b a (ltb→lt a b t)) tt

-- a bound that moves up
pub leb_shifted : (a b c k : ℕ) → b ≤ c → T (leb a (b + k)) → T (leb a (c + k))
leb_shifted a b c k l t = le→leb a (c + k) (omega (arith, leb→le a (b + k) t))

-- no number is from a on and below a
pub none_between : (a h : ℕ) (b : Bool) → false ≡ (leb a h && ltb h a && b)
none_between a h b = go (leb a h) refl
  where
    go : (t : Bool) → leb a h ≡ t → false ≡ (leb a h && ltb h a && b)
    go true e = rw (e, le-ltb h a (leb-true a h e))
    go false e = rw e

pub leb_max : (a b h : ℕ) → leb (max a b) h ≡ (leb a h && leb b h)
leb_max a b h =
    same_bool (leb (max a b) h) (leb a h && leb b h)
    (λ t.
    let l : max a b ≤ h = leb→le (max a b) h t in
    and_intro (leb a h) (leb b h) (le→leb a h (omega arith)) (le→leb b h (omega arith)))
    (λ t.
    let l : a ≤ h = leb→le a h (and_left (leb a h) (leb b h) t) in
    let m : b ≤ h = leb→le b h (and_right (leb a h) (leb b h) t) in
    le→leb (max a b) h (omega arith))

pub ltb_min : (a b h : ℕ) → ltb h (min a b) ≡ (ltb h a && ltb h b)
ltb_min a b h =
    same_bool (ltb h (min a b)) (ltb h a && ltb h b)
    (λ t.
    let l : h < min a b = ltb→lt h (min a b) t in
    and_intro (ltb h a) (ltb h b) (lt→ltb h a (omega arith)) (lt→ltb h b (omega arith)))
    (λ t.
    let l : h < a = ltb→lt h a (and_left (ltb h a) (ltb h b) t) in
    let m : h < b = ltb→lt h b (and_right (ltb h a) (ltb h b) t) in
    lt→ltb h (min a b) (omega arith))

-- ---- a test that another one refutes

pub or_else : (a b : Bool) → T (a || b) → (T a → ⊥) → T b
or_else true b t fails = absurd (fails tt)
or_else false b t fails = t

pub refuted : (a : Bool) → (T a → ⊥) → false ≡ a
refuted true fails = absurd (fails tt)
refuted false fails = refl

-- ---- tests that agree

-- two tests need agree only where the one before them passes
pub and_where : (a b b' : Bool) → (T a → b ≡ b') → (a && b) ≡ (a && b')
and_where true b b' e = e tt
and_where false b b' e = refl

-- or those on both sides
pub and_middle : (a b b' c : Bool) → (T a → T c → b ≡ b') → (a && b && c) ≡ (a && b' && c)
and_middle true b b' true e = ap (λ (t : Bool). t && true) (e tt tt)
and_middle true b b' false e = and-false b ∙ sym (and-false b')
and_middle false b b' c e = refl

-- a test that a later one implies may go
pub and_implied : (a b c d : Bool) → (T c → T a) → (a && b && (c && d)) ≡ (c && b && d)
and_implied a b true d e = rw (T_true a (e tt))
and_implied a b false d e = and-false (a && b)

pub same_leb : (a b c d : ℕ) → (a ≤ b → c ≤ d) → (c ≤ d → a ≤ b) → leb a b ≡ leb c d
same_leb a b c d to from =
    same_bool (leb a b) (leb c d) (λ t. le→leb c d (to (leb→le a b t))) (λ t. le→leb a b (from (leb→le c d t)))

-- ---- one way or the other

pub bool_cases : (t : Bool) → (t ≡ true) ⊎ (t ≡ false)
bool_cases true = inl refl
bool_cases false = inr refl

pub lt_or_le : (m n : ℕ) → (m < n) ⊎ (n ≤ m)
lt_or_le m n = ⊎_elim (λ e. inl (ltb-true m n e)) (λ e. inr (ltb-false m n e)) (bool_cases (ltb m n))

pub eq_or_not : (m n : ℕ) → (m ≡ n) ⊎ (m ≡ n → ⊥)
eq_or_not m n = ⊎_elim (λ e. inl (eqb-true m n e)) (λ e. inr (eqb-false m n e)) (bool_cases (eqb m n))

module _ (low high n : ℕ) where
  pub outside : (ltb n low || ltb high n) ≡ true → (n < low) ⊎ (high < n)
  outside e =
      ⊎_elim (λ t. inl (ltb→lt n low t)) (λ t. inr (ltb→lt high n t))
      (or_cases (ltb n low) (ltb high n) (true_T (ltb n low || ltb high n) e))

  pub inside : (ltb n low || ltb high n) ≡ false → (low ≤ n) × (n ≤ high)
  inside e = (ltb-false n low (search nors), ltb-false high n (search nors))
