-- Tests among the numbers from one on: which of them pass, and how many, by induction on how many numbers there are.
-- Assumes nothing.
use mathlib.Core.Path.{◌≡◌, refl, sym, ap, ap₂, ◌∙◌}
use mathlib.Core.Bool.{Bool, true, false, cond, ◌&&◌, ◌||◌, and-false}
use mathlib.Core.List.{List, [], ◌∷◌, ◌++◌, append-nil}
use Prim.Native.Nat.{ℕ, zero, suc, ◌+◌, ◌-◌, ◌≤◌, ◌<◌, min, max}
use native.Mathlib.Nat.{add-zero, suc-add, zero-add}
use native.Mathlib.Omega.{arith}
use lib.Dec.{T, leb, ltb, eqb}
use lib.ListN.{length, length-append}
use borrow.Author.Tests.{eqb-true, eqb-false, leb-true, ltb-true, ltb-false, le-leb, lt-ltb, le-ltb}
use Rattle.logic.specs.Lists.{every, some, only, up_from, Rising}
use Rattle.logic.proofs.Tests.{ands, same_leb}
use Rattle.logic.proofs.Lists.{length_only}

-- each of the n numbers from low up passes a test that is computed for all of them
pub every_number :
    (test : ℕ → Bool) (n low : ℕ) → T (every test (up_from n low)) → (h : ℕ) → low ≤ h → h < low + n → T (test h)
every_number test zero low t h l k = absurd (omega arith)
every_number test (suc n) low t h l k = go (eqb h low) refl (every_number test n (suc low) (search ands) h)
  where
    go : (u : Bool) → eqb h low ≡ u → (suc low ≤ h → h < suc low + n → T (test h)) → T (test h)
    go true e rest = rw (eqb-true h low e) (search ands)
    go false e rest = rest (omega (arith, eqb-false h low e)) (omega arith)

module _ (test : ℕ → Bool) where
  -- ---- those that pass rise

  rises_after : (n low h : ℕ) → low < h → Rising (low ∷ only test (up_from n h))
  rises_after zero low h l = tt
  rises_after (suc n) low h l =
      go (test h) (rises_after n h (suc h) (omega arith)) (rises_after n low (suc h) (omega arith))
    where
      go :
          (t : Bool) → Rising (h ∷ only test (up_from n (suc h))) → Rising (low ∷ only test (up_from n (suc h)))
          → Rising (low ∷ cond t (h ∷ only test (up_from n (suc h))) (only test (up_from n (suc h))))
      go true r q = (l, r)
      go false r q = q

  pub only_rises : (n low : ℕ) → Rising (only test (up_from n low))
  only_rises zero low = tt
  only_rises (suc n) low = go (test low) (rises_after n low (suc low) (omega arith)) (only_rises n (suc low))
    where
      go :
          (t : Bool) → Rising (low ∷ only test (up_from n (suc low))) → Rising (only test (up_from n (suc low)))
          → Rising (cond t (low ∷ only test (up_from n (suc low))) (only test (up_from n (suc low))))
      go true r q = r
      go false r q = q

  -- ---- a number is among them exactly when it passes

  among_only : (h : ℕ) (xs : List ℕ) → some (eqb h) (only test xs) ≡ (some (eqb h) xs && test h)
  among_only h [] = refl
  among_only h (x ∷ xs) = go (test x) refl (eqb h x) refl (among_only h xs)
    where
      go :
          (t : Bool) → test x ≡ t → (u : Bool) → eqb h x ≡ u
          → some (eqb h) (only test xs) ≡ (some (eqb h) xs && test h)
          → some (eqb h) (cond t (x ∷ only test xs) (only test xs)) ≡ ((u || some (eqb h) xs) && test h)
      go true e true q r = rw q (sym (ap test (eqb-true h x q) ∙ e))
      go false e true q r = r ∙ rw (ap test (eqb-true h x q) ∙ e, and-false)
      go true e false q r = rw q r
      go false e false q r = r

among_numbers : (n low h : ℕ) → some (eqb h) (up_from n low) ≡ (leb low h && ltb h (low + n))
among_numbers zero low h = go (leb low h) refl
  where
    go : (t : Bool) → leb low h ≡ t → false ≡ (t && ltb h (low + 0))
    go true e = sym (le-ltb h (low + 0) (omega (arith, leb-true low h e)))
    go false e = refl
among_numbers (suc n) low h = go (eqb h low) refl (among_numbers n (suc low) h)
  where
    go :
        (t : Bool) → eqb h low ≡ t → some (eqb h) (up_from n (suc low)) ≡ (leb (suc low) h && ltb h (suc low + n))
        → (t || some (eqb h) (up_from n (suc low))) ≡ (leb low h && ltb h (low + suc n))
    go true e r =
        let p : h ≡ low = eqb-true h low e in
        sym (ap₂ ◌&&◌ (le-leb low h (omega arith)) (lt-ltb h (low + suc n) (omega arith)))
    go false e r =
        r
        ∙ ap₂ ◌&&◌ (same_leb (suc low) h low h (λ l. omega arith) (λ l. omega (arith, eqb-false h low e)))
        (same_leb (suc h) (suc low + n) (suc h) (low + suc n) (λ l. omega arith) (λ l. omega arith))

pub only_exactly :
    (test : ℕ → Bool) (n low h : ℕ)
    → some (eqb h) (only test (up_from n low)) ≡ (leb low h && ltb h (low + n) && test h)
only_exactly test n low h = among_only test h (up_from n low) ∙ ap (λ (t : Bool). t && test h) (among_numbers n low h)

-- ---- those of the first numbers, and of the rest

cond_append : (t : Bool) (x : ℕ) (xs ys : List ℕ) → cond t (x ∷ (xs ++ ys)) (xs ++ ys) ≡ cond t (x ∷ xs) xs ++ ys
cond_append true x xs ys = refl
cond_append false x xs ys = refl

numbers_long : (n h : ℕ) → length (up_from n h) ≡ n
numbers_long zero h = refl
numbers_long (suc n) h = ap suc (numbers_long n (suc h))

module _ (test : ℕ → Bool) where
  only_parts : (n m h : ℕ) → only test (up_from (n + m) h) ≡ only test (up_from n h) ++ only test (up_from m (h + n))
  only_parts zero m h = rw (zero-add, add-zero)
  only_parts (suc n) m h =
      let next : suc h + n ≡ h + suc n = omega arith in
      rw (suc-add, ← next)
      (ap (λ (xs : List ℕ). cond (test h) (h ∷ xs) xs) (only_parts n m (suc h))
      ∙ cond_append (test h) h (only test (up_from n (suc h))) (only test (up_from m (suc h + n))))

  none_pass : (n h : ℕ) → ((x : ℕ) → h ≤ x → x < h + n → test x ≡ false) → only test (up_from n h) ≡ []
  none_pass zero h none = refl
  none_pass (suc n) h none =
      rw (none h (omega arith) (omega arith)) (none_pass n (suc h) (λ x l k. none x (omega arith) (omega arith)))

  -- where none of the last m numbers passes the test
  pub only_short :
      (n m h : ℕ) → ((x : ℕ) → h + n ≤ x → x < h + n + m → test x ≡ false)
      → only test (up_from (n + m) h) ≡ only test (up_from n h)
  only_short n m h none =
      only_parts n m h
      ∙ ap (λ (xs : List ℕ). only test (up_from n h) ++ xs) (none_pass m (h + n) none)
      ∙ append-nil (only test (up_from n h))

  -- how many of the n numbers from h up pass the test
  abbrev pub passing : ℕ → ℕ → ℕ
  passing n h = length (only test (up_from n h))

  pub passing_all : (n h : ℕ) → passing n h ≤ n
  passing_all n h = omega (arith, length_only test (up_from n h), numbers_long n h)

  pub passing_parts : (m n h : ℕ) → m ≤ n → passing n h ≡ passing m h + passing (n - m) (h + m)
  passing_parts m n h l =
      let sum : n ≡ m + (n - m) = omega arith in
      ap (λ (k : ℕ). passing k h) sum
      ∙ ap length (only_parts m (n - m) h)
      ∙ length-append (only test (up_from m h)) (only test (up_from (n - m) (h + m)))

-- ---- what passes up to an end

module _ (test : ℕ → Bool) (end : ℕ) where
  -- what passes from h up to the end
  abbrev pub left : ℕ → List ℕ
  left h = only test (up_from (end - h) h)

  pub left_here : (h : ℕ) → h < end → left h ≡ cond (test h) (h ∷ left (suc h)) (left (suc h))
  left_here h l =
      let e : end - h ≡ suc (end - suc h) = omega arith in
      rw e

  pub left_none : (h : ℕ) → end ≤ h → left h ≡ []
  left_none h l =
      let e : end - h ≡ 0 = omega arith in
      rw e

  left_next : (h : ℕ) → (h < end → test h ≡ false) → left h ≡ left (suc h)
  left_next h none = go (ltb h end) refl
    where
      go : (t : Bool) → ltb h end ≡ t → left h ≡ left (suc h)
      go true q =
          let l : h < end = ltb-true h end q in
          left_here h l ∙ rw (none l)
      go false q =
          let l : end ≤ h = ltb-false h end q in
          left_none h l ∙ sym (left_none (suc h) (omega arith))

  -- none of the k numbers from h on passes
  pub left_skip : (k h : ℕ) → ((i : ℕ) → h ≤ i → i < h + k → i < end → test i ≡ false) → left h ≡ left (h + k)
  left_skip zero h none = rw add-zero
  left_skip (suc k) h none =
      let e : suc h + k ≡ h + suc k = omega arith in
      left_next h (none h (omega arith) (omega arith))
      ∙ left_skip k (suc h) (λ i l m. none i (omega arith) (omega arith))
      ∙ ap left e

-- what passes below m, and what passes from there on
pub left_parts : (test : ℕ → Bool) (end m h : ℕ) → left test end h ≡ left test (min end m) h ++ left test end (max h m)
left_parts test end m h =
    let sum : end - h ≡ (min end m - h) + (end - max h m) = omega arith in
    ap (λ (n : ℕ). only test (up_from n h)) sum
    ∙ only_parts test (min end m - h) (end - max h m) h
    ∙ ap (λ (xs : List ℕ). left test (min end m) h ++ xs) (go (ltb (max h m) end) refl)
  where
    go :
        (t : Bool) → ltb (max h m) end ≡ t
        → only test (up_from (end - max h m) (h + (min end m - h))) ≡ left test end (max h m)
    go true q =
        let l : max h m < end = ltb-true (max h m) end q in
        ap (λ (x : ℕ). only test (up_from (end - max h m) x)) (omega arith)
    go false q =
        let l : end ≤ max h m = ltb-false (max h m) end q in
        let none : end - max h m ≡ 0 = omega arith in
        rw none
