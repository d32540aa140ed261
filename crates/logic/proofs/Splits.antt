-- Tests over the parts of a list: over a list in two or three parts, over those that pass another test, and over the
-- parts by a key. By induction on the list, and by cases on the parts. Assumes nothing.
use Prim.Native.Nat.{ℕ, suc, ◌+◌, ◌-◌, ◌≤◌, ◌<◌}
use mathlib.Core.Path.{◌≡◌, refl, sym, ap, ◌∙◌}
use mathlib.Core.Bool.{Bool, false}
use mathlib.Core.List.{List, [], ◌∷◌, ◌++◌}
use native.Mathlib.Omega.{arith}
use lib.ListN.{length, take, drop, take-append-drop}
use lib.Seq.{drop-drop}
use lib.Dec.{T, eqb, ltb, ltb→lt}
use borrow.Author.Tests.{lt-ltb, ne_eqb}
use Rattle.logic.specs.Lists.{every, some, only}
use Rattle.logic.proofs.Tests.{and_intro, ands, T_true, same_bool, refuted}
use Rattle.logic.proofs.Lists.{every_imply}
use Rattle.logic.proofs.Parts.{every_append, every_kept, some_only, some_all, is_equal, is_over}

module _ {A : Type 0} where
  pub every_split : (p : A → Bool) (xs ys : List A) → T (every p (xs ++ ys)) → T (every p xs) × T (every p ys)
  every_split p [] ys t = (tt, t)
  every_split p (x ∷ xs) ys t =
      let r = every_split p xs ys (search ands) in
      let a : T (p x) = search ands in
      (and_intro (p x) (every p xs) a r.0, r.1)

  -- a test that all before and behind pass is one of those between
  pub every_between :
      (p far : A → Bool) → ((x : A) → T (far x) → T (p x)) → (before near behind : List A)
      → T (every far before) → T (every far behind) → every p (before ++ (near ++ behind)) ≡ every p near
  every_between p far passes before near behind b a =
      same_bool (every p (before ++ (near ++ behind))) (every p near)
      (λ t. (every_split p near behind (every_split p before (near ++ behind) t).1).0)
      (λ t.
      every_append p before (near ++ behind) (every_imply far p passes before b)
      (every_append p near behind t (every_imply far p passes behind a)))

  -- a test that one fails fails among more
  pub every_failed :
      (p : A → Bool) (before near behind : List A) → every p near ≡ false → every p (before ++ (near ++ behind)) ≡ false
  every_failed p before near behind e =
      sym
      (refuted (every p (before ++ (near ++ behind)))
      (λ t. rw e at (every_split p near behind (every_split p before (near ++ behind) t).1).0))

  -- the parts before, between and behind two indices
  pub parted :
      (xs : List A) (from to : ℕ) → from ≤ to → take from xs ++ (take (to - from) (drop from xs) ++ drop to xs) ≡ xs
  parted xs from to order =
      let near : List A = take (to - from) (drop from xs) in
      let sum : from + (to - from) ≡ to = omega arith in
      let rest : drop to xs ≡ drop (to - from) (drop from xs) =
      sym (drop-drop (to - from) from xs ∙ ap (λ (n : ℕ). drop n xs) sum) in
      ap (λ (l : List A). take from xs ++ (near ++ l)) rest
      ∙ ap (λ (l : List A). take from xs ++ l) (take-append-drop (to - from) (drop from xs))
      ∙ take-append-drop from xs

  pub some_length : (p : A → Bool) (xs : List A) → some p xs ≡ ltb 0 (length (only p xs))
  some_length p xs = sym (some_only p xs) ∙ some_all p (only p xs) (every_kept p xs)

module _ {A : Type 0} (key : A → ℕ) (k : ℕ) where
  -- the first of them has the key k
  abbrev pub leads : List A → Bool
  leads [] = false
  leads (x ∷ xs) = eqb (key x) k

  pub some_leads : (xs : List A)
      → some (is_equal key k) xs ≡ leads (only (is_equal key k) xs ++ only (is_over key k) xs)
  some_leads xs =
      some_length (is_equal key k) xs
      ∙ go (only (is_equal key k) xs) (only (is_over key k) xs)
      (every_kept (is_equal key k) xs) (every_kept (is_over key k) xs)
    where
      go :
          (ys zs : List A) → T (every (is_equal key k) ys) → T (every (is_over key k) zs)
          → ltb 0 (length ys) ≡ leads (ys ++ zs)
      go (y ∷ ys) zs t u = lt-ltb 0 (suc (length ys)) (omega arith) ∙ sym (T_true (eqb (key y) k) (search ands))
      go [] [] t u = refl
      go [] (z ∷ zs) t u =
          let l : k < key z = ltb→lt k (key z) (search ands) in
          sym (ne_eqb (key z) k (λ e. omega arith))
