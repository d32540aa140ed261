-- Stores of several words one after another, and a loop that makes them: `Filling` says what is still to come. By
-- induction on the words. Assumes nothing.
use Prim.Native.Nat.{ℕ, suc, ◌+◌, ◌≤◌}
use mathlib.Core.Path.{◌≡◌, refl, sym, ap, ◌∙◌}
use mathlib.Core.List.{List, [], ◌∷◌, ◌++◌}
use native.Mathlib.Nat.{add-zero, add-suc, suc-add}
use native.Mathlib.Numerals.{add-one}
use native.Mathlib.Omega.{arith}
use lib.ListN.{length, drop, set, length-set, length-append}
use lib.Seq.{sets, length-sets, set_out, drop-set-lt}

pub sets_append : (l : List ℕ) (i : ℕ) (a b : List ℕ) → sets l i (a ++ b) ≡ sets (sets l i a) (i + length a) b
sets_append l i [] b = ap (λ (k : ℕ). sets l k b) (sym (add-zero i))
sets_append l i (x ∷ a) b =
    sets_append (set l i x) (suc i) a b ∙ ap (λ (k : ℕ). sets (sets (set l i x) (suc i) a) k b) (omega arith)

-- there is no place to store to
pub sets_none : (xs : List ℕ) (i : ℕ) → sets [] i xs ≡ []
sets_none [] i = refl
sets_none (x ∷ xs) i = sets_none xs _

-- nor past the end
pub sets_out : (l : List ℕ) (i : ℕ) (xs : List ℕ) → length l ≤ i → sets l i xs ≡ l
sets_out l i [] h = refl
sets_out l i (x ∷ xs) h = rw (set_out l i x h) (sets_out l (suc i) xs (omega arith))

-- stores below n leave what lies from n on
pub drop_sets : (vs l : List ℕ) (i n : ℕ) → i + length vs ≤ n → drop n (sets l i vs) ≡ drop n l
drop_sets [] l i n h = refl
drop_sets (v ∷ vs) l i n h =
    let e = add-suc i (length vs) in
    let q = suc-add i (length vs) in
    drop_sets vs (set l i v) (suc i) n (omega arith) ∙ drop-set-lt n l i v (omega arith)

-- `all` is to stand in o from `at` on: b is the run now, it is written up to n, `rest` is still to come
pub record Filling (all o : List ℕ) (at : ℕ) (b : List ℕ) (n : ℕ) (rest : List ℕ) : Type 0 where
  pub long : length b ≡ length o
  pub is : sets b n rest ≡ sets o at all
  pub count : n + length rest ≡ at + length all

pub filling_start : {all o rest : List ℕ} {at : ℕ} → all ≡ rest → Filling all o at o at rest
filling_start {o = o} {at = at} e =
    record { long = refl; is = ap (sets o at) (sym e); count = ap (λ (l : List ℕ). at + length l) (sym e) }

pub filling_as : {all o b r r' : List ℕ} {at n : ℕ} → r ≡ r' → Filling all o at b n r → Filling all o at b n r'
filling_as e f = rw (← e) f

pub filling_one :
    {all o b rest : List ℕ} {at n v : ℕ} → Filling all o at b n (v ∷ rest)
    → Filling all o at (set b n v) (n + 1) rest
filling_one {b = b} {n = n} {v = v} f =
    record { long = length-set b n v ∙ f.long; is = rw add-one f.is; count = omega (arith, f.count) }

-- several at once
pub filling_more :
    {all o b b' rest : List ℕ} {at n n' : ℕ} (xs : List ℕ) → n' ≡ n + length xs → b' ≡ sets b n xs
    → Filling all o at b n (xs ++ rest) → Filling all o at b' n' rest
filling_more {o = o} {b = b} {rest = rest} {n = n} xs e w f =
    record {
      long = ap length w ∙ length-sets b n xs ∙ f.long;
      is = rw (e, w) (sym (sets_append b n xs rest) ∙ f.is);
      count = omega (arith, e, f.count, length-append xs rest);
    }

pub filling_done : {all o b : List ℕ} {at n : ℕ} → Filling all o at b n [] → (n ≡ at + length all) × (b ≡ sets o at all)
filling_done {n = n} f = (sym (add-zero n) ∙ f.count, f.is)
