-- The first of a list that passes a test, found one by one or in parts: by induction on the list, and by what is left
-- of it. Assumes nothing.
use Prim.Native.Nat.{ℕ, zero, suc, ◌+◌, ◌-◌, ◌≤◌, ◌<◌, zero-le}
use mathlib.Core.Path.{◌≡◌, refl, sym, ap, ◌∙◌}
use mathlib.Core.Bool.{Bool, true, false, cond, not}
use mathlib.Core.List.{List, [], ◌∷◌, ◌++◌, map}
use native.Mathlib.Omega.{arith}
use native.Mathlib.Numerals.{add-one}
use lib.ListN.{length, take, drop, get_or, take-append-drop, drop_of_length-le, length-drop}
use lib.Seq.{drop-cons, drop-drop, length-take-le, take_all, get_or-take, get_or-drop}
use lib.Dec.{T}
use Rattle.logic.specs.Lists.{every, first_at}
use Rattle.logic.proofs.Tests.{ands, T_false}

-- ---- the first that passes a test

module _ {A : Type 0} (p : A → Bool) where
  first_most : (xs : List A) → first_at p xs ≤ length xs
  first_most [] = zero-le
  first_most (x ∷ xs) = go (p x) (first_most xs)
    where
      go : (b : Bool) → first_at p xs ≤ length xs → cond {A = ℕ} b 0 (suc (first_at p xs)) ≤ suc (length xs)
      go true l = zero-le
      go false l = omega arith

  first_within : (xs ys : List A) → first_at p xs < length xs → first_at p (xs ++ ys) ≡ first_at p xs
  first_within [] ys l = absurd (omega arith)
  first_within (x ∷ xs) ys l = go (p x) l (first_within xs ys)
    where
      go :
          (b : Bool) → cond {A = ℕ} b 0 (suc (first_at p xs)) < suc (length xs)
          → (first_at p xs < length xs → first_at p (xs ++ ys) ≡ first_at p xs)
          → cond {A = ℕ} b 0 (suc (first_at p (xs ++ ys))) ≡ cond {A = ℕ} b 0 (suc (first_at p xs))
      go true h r = refl
      go false h r = ap suc (r (omega arith))

  pub first_beyond : (xs ys : List A) → length xs ≤ first_at p xs → first_at p (xs ++ ys) ≡ length xs + first_at p ys
  first_beyond [] ys l = omega arith
  first_beyond (x ∷ xs) ys l = go (p x) l (first_beyond xs ys)
    where
      go :
          (b : Bool) → suc (length xs) ≤ cond {A = ℕ} b 0 (suc (first_at p xs))
          → (length xs ≤ first_at p xs → first_at p (xs ++ ys) ≡ length xs + first_at p ys)
          → cond {A = ℕ} b 0 (suc (first_at p (xs ++ ys))) ≡ suc (length xs) + first_at p ys
      go true h r = absurd (omega arith)
      go false h r = omega (arith, r (omega arith))

  pub first_none : (xs : List A) → T (every (λ x. not (p x)) xs) → first_at p xs ≡ length xs
  first_none [] t = refl
  first_none (x ∷ xs) t = rw (T_false (p x) (search ands)) (ap suc (first_none xs (search ands)))

  pub first_mapped : (xs : List A) → first_at (λ b. b) (map p xs) ≡ first_at p xs
  first_mapped [] = refl
  first_mapped (x ∷ xs) = ap (λ (k : ℕ). cond {A = ℕ} (p x) 0 (suc k)) (first_mapped xs)

  first_passes : (d : A) (xs : List A) → first_at p xs < length xs → p (get_or xs (first_at p xs) d) ≡ true
  first_passes d [] l = absurd (omega arith)
  first_passes d (x ∷ xs) l = go (p x) refl l (first_passes d xs)
    where
      go :
          (b : Bool) → p x ≡ b → cond {A = ℕ} b 0 (suc (first_at p xs)) < suc (length xs)
          → (first_at p xs < length xs → p (get_or xs (first_at p xs) d) ≡ true)
          → p (get_or (x ∷ xs) (cond {A = ℕ} b 0 (suc (first_at p xs))) d) ≡ true
      go true e h r = e
      go false e h r = r (omega arith)

  -- what is left after some that stand before the first has it
  first_left : (xs : List A) (i : ℕ) → i ≤ first_at p xs → i + first_at p (drop i xs) ≡ first_at p xs
  first_left xs zero l = omega arith
  first_left [] (suc i) l = absurd (omega arith)
  first_left (x ∷ xs) (suc i) l = go (p x) l (first_left xs i)
    where
      go :
          (b : Bool) → suc i ≤ cond {A = ℕ} b 0 (suc (first_at p xs))
          → (i ≤ first_at p xs → i + first_at p (drop i xs) ≡ first_at p xs)
          → suc i + first_at p (drop i xs) ≡ cond {A = ℕ} b 0 (suc (first_at p xs))
      go true h r = absurd (omega arith)
      go false h r = omega (arith, r (omega arith))

-- ---- the elements from i to e, as a part is lent

module _ {A : Type 0} (xs : List A) (i e : ℕ) (high : e ≤ length xs) where
  pub part_length : i ≤ e → length (take (e - i) (drop i xs)) ≡ e - i
  part_length low = length-take-le (e - i) (drop i xs) (simp length-drop (omega arith))

  pub part_passes :
      (p : A → Bool) (d : A) (j : ℕ) → j ≡ first_at p (take (e - i) (drop i xs)) → i + j < e
      → p (get_or xs (i + j) d) ≡ true
  part_passes p d j q l =
      let part = take (e - i) (drop i xs) in
      ap p (sym (get_or-take (e - i) (drop i xs) j d (omega arith) ∙ get_or-drop i xs j d))
      ∙ ap (λ (k : ℕ). p (get_or part k d)) q
      ∙ first_passes p d part (omega (arith, part_length (omega arith)))

-- ---- a search that has come to the index i

pub record Seeking {A : Type 0} (p : A → Bool) (xs : List A) (i : ℕ) : Type 0 where
  pub within : i ≤ length xs
  pub onward : i + first_at p (drop i xs) ≡ first_at p xs

module _ {A : Type 0} (p : A → Bool) (xs : List A) where
  pub seek_start : Seeking p xs 0
  seek_start = record { within = zero-le; onward = omega arith }

  pub seek_before : (i : ℕ) → i ≤ first_at p xs → Seeking p xs i
  seek_before i l = record { within = omega (arith, first_most p xs); onward = first_left p xs i l }

  module _ (d : A) (i : ℕ) (s : Seeking p xs i) (l : i < length xs) where
    pub seek_hit : p (get_or xs i d) ≡ true → i ≡ first_at p xs
    seek_hit e =
        let f : first_at p (drop i xs) ≡ 0 = rw (drop-cons xs i d l, e) in
        omega (arith, s.onward)

    pub seek_miss : p (get_or xs i d) ≡ false → Seeking p xs (i + 1)
    seek_miss e =
        let f : first_at p (drop i xs) ≡ suc (first_at p (drop (suc i) xs)) = rw (drop-cons xs i d l, e) in
        let g : first_at p (drop (i + 1) xs) ≡ first_at p (drop (suc i) xs) = rw (add-one i) in
        record { within = omega arith; onward = omega (arith, s.onward) }

  module _ (i : ℕ) (s : Seeking p xs i) where
    pub seek_end : length xs ≤ i → i ≡ first_at p xs
    seek_end l =
        let f : first_at p (drop i xs) ≡ 0 = rw (drop_of_length-le xs l) in
        omega (arith, s.onward)

    -- those from i to the end
    pub seek_rest :
        (j : ℕ) → j ≡ first_at p (take (length xs - i) (drop i xs)) → (i + j ≡ first_at p xs) × (i + j ≤ length xs)
    seek_rest j q =
        let f = rw (take_all (length xs - i) (drop i xs) (simp length-drop (omega arith))) at q in
        (omega (arith, s.onward), omega (arith, s.onward, first_most p xs))

    module _ (e j : ℕ) (low : i ≤ e) (high : e ≤ length xs) (q : j ≡ first_at p (take (e - i) (drop i xs))) where
      pub seek_inside : i + j < e → i + j ≡ first_at p xs
      seek_inside l =
          let part = take (e - i) (drop i xs) in
          let after = drop (e - i) (drop i xs) in
          let f : first_at p (part ++ after) ≡ first_at p part =
          first_within p part after (omega (arith, part_length xs i e high low)) in
          let g = rw (take-append-drop (e - i) (drop i xs)) at f in
          omega (arith, s.onward)

      pub seek_past : e ≤ i + j → Seeking p xs e
      seek_past l =
          let part = take (e - i) (drop i xs) in
          let after = drop (e - i) (drop i xs) in
          let f : first_at p (part ++ after) ≡ length part + first_at p after =
          first_beyond p part after (omega (arith, part_length xs i e high low)) in
          let g = rw (take-append-drop (e - i) (drop i xs)) at f in
          let end : i + (e - i) ≡ e = omega arith in
          let d : after ≡ drop e xs = drop-drop (e - i) i xs ∙ ap (λ (k : ℕ). drop k xs) end in
          record { within = high; onward = omega (arith, s.onward, part_length xs i e high low, ap (first_at p) d) }
