-- The search for the first number that passes a test, one number at a time, and the walk along a list, one element at a
-- time: what is asked of all is asked of those that are left. Assumes nothing.
use mathlib.Core.Path.{◌≡◌, refl, sym, ap, ◌∙◌}
use mathlib.Core.Bool.{Bool, true, false, cond, ◌||◌, or_assoc}
use mathlib.Core.List.{List}
use Prim.Native.Nat.{ℕ, zero, suc, ◌+◌, ◌-◌, ◌≤◌, ◌<◌}
use native.Mathlib.Omega.{arith}
use native.Mathlib.Numerals.{add-one}
use lib.Dec.{eqb}
use lib.ListN.{length, get_or, drop, drop_of_length-le}
use lib.Seq.{drop-cons}
use borrow.Author.Tests.{eqb-true, eqb-false}
use Rattle.logic.specs.Lists.{every, some, first_from}

-- of the numbers from low up to n none below g passes the test
pub record Passed (test : ℕ → Bool) (low n g : ℕ) : Type 0 where
  pub above : low ≤ g
  pub bound : g ≤ n
  pub same : first_from test (n - low) low ≡ first_from test (n - g) g

pub passed_none : (test : ℕ → Bool) (low n : ℕ) → low ≤ n → Passed test low n low
passed_none test low n l = record { above = omega arith; bound = l; same = refl }

module _ {test : ℕ → Bool} {low n g : ℕ} (passed : Passed test low n g) where
  step : (m : ℕ) → n - g ≡ m → first_from test (n - low) low ≡ first_from test m g
  step m e = passed.same ∙ ap (λ (k : ℕ). first_from test k g) e

  pub passed_here : g < n → test g ≡ true → g ≡ first_from test (n - low) low
  passed_here l e = sym (step (suc (n - (g + 1))) (omega arith) ∙ rw e)

  pub passed_next : g < n → test g ≡ false → Passed test low n (g + 1)
  passed_next l e =
      record { above = omega arith; bound = omega arith; same = step (suc (n - (g + 1))) (omega arith) ∙ rw e }

  pub passed_all : n ≤ g → g ≡ first_from test (n - low) low
  passed_all l = sym (step 0 (omega arith))

-- the first i elements pass the test
pub record Cleared {A : Type 0} (test : A → Bool) (xs : List A) (i : ℕ) : Type 0 where
  pub bound : i ≤ length xs
  pub same : every test xs ≡ every test (drop i xs)

pub cleared_none : {A : Type 0} (test : A → Bool) (xs : List A) → Cleared test xs 0
cleared_none test xs = record { bound = omega arith; same = refl }

module _ {A : Type 0} {test : A → Bool} {xs : List A} {i : ℕ} (none : A) (cleared : Cleared test xs i) where
  pub cleared_next : i < length xs → test (get_or xs i none) ≡ true → Cleared test xs (i + 1)
  cleared_next l e = record { bound = omega arith; same = cleared.same ∙ rw (add-one, drop-cons xs i none, e) }

  pub cleared_not : i < length xs → test (get_or xs i none) ≡ false → every test xs ≡ false
  cleared_not l e = cleared.same ∙ rw (drop-cons xs i none, e)

  pub cleared_all : length xs ≤ i → every test xs ≡ true
  cleared_all l = cleared.same ∙ rw (drop_of_length-le xs {i = i} l)

-- b says whether one of the first i elements passes the test, and b' the same of one more
pub some_step :
    {A : Type 0} (test : A → Bool) (none : A) (xs : List A) (i : ℕ) (b b' : Bool) → i < length xs
    → some test xs ≡ (b || some test (drop i xs)) → b' ≡ (b || test (get_or xs i none))
    → some test xs ≡ (b' || some test (drop (i + 1) xs))
some_step test none xs i b b' l s e =
    rw (e, add-one)
    (s ∙ rw (drop-cons xs i none) (sym (or_assoc b (test (get_or xs i none)) (some test (drop (suc i) xs)))))

-- f is the first of the n numbers from g up that passes the test, or g + n
pub record First (test : ℕ → Bool) (n g f : ℕ) : Type 0 where
  pub least : g ≤ f
  pub most : f ≤ g + n
  pub before : (i : ℕ) → g ≤ i → i < f → test i ≡ false
  pub passes_here : f < g + n → test f ≡ true

pub first_found : (test : ℕ → Bool) (n g : ℕ) → First test n g (first_from test n g)
first_found test zero g =
    record {
      least = omega arith;
      most = omega arith;
      before = λ i l k. absurd (omega arith);
      passes_here = λ l. absurd (omega arith);
    }
first_found test (suc n) g = go (test g) refl (first_found test n (g + 1))
  where
    go :
        (t : Bool) → test g ≡ t → First test n (g + 1) (first_from test n (g + 1))
        → First test (suc n) g (cond t g (first_from test n (g + 1)))
    go true e r =
        record {
          least = omega arith;
          most = omega arith;
          before = λ i l k. absurd (omega arith);
          passes_here = λ l. e;
        }
    go false e r =
        record {
          least = omega arith;
          most = omega arith;
          before = λ i l k. here i l k (eqb i g) refl;
          passes_here = λ l. r.passes_here (omega arith);
        }
      where
        here : (i : ℕ) → g ≤ i → i < first_from test n (g + 1) → (u : Bool) → eqb i g ≡ u → test i ≡ false
        here i l k true q = rw (eqb-true i g q) e
        here i l k false q = r.before i (omega (arith, eqb-false i g q)) k
