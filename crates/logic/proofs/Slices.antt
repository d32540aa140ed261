-- Lists by their indices: what is taken, dropped and looked up, a part that is lent and comes back with other words in
-- its place, stretches from one index to another, and lists of zeros. By induction on the list or the index, and by the
-- parts of a list. Assumes nothing.
use Prim.Native.Nat.{ℕ, zero, suc, ◌+◌, ◌-◌, ◌≤◌, ◌<◌, min}
use mathlib.Core.Path.{◌≡◌, refl, sym, ap, ◌∙◌, subst}
use mathlib.Core.Bool.{Bool}
use mathlib.Core.List.{List, [], ◌∷◌, ◌++◌, map, append-nil}
use mathlib.Core.Logic.{⊎_elim}
use native.Mathlib.Nat.{le_refl, zero-add, suc-add}
use native.Mathlib.Numerals.{add-one}
use native.Mathlib.Omega.{arith}
use lib.Dec.{T}
use lib.ListN.{length, get_or, take, drop, replicate, length-drop, drop_of_length-le, take-append-drop, replicate-append-replicate}
use lib.Seq.{take-add, take_all, take_at, take-nil, take-take, drop_at, drop-cons, drop-drop, drop-length, get_or-drop}
use borrow.Rule.Slice.PartMut.{mid_of, put_mid, mid_len}
use Rattle.logic.specs.Lists.{every}
use Rattle.logic.proofs.Tests.{lt_or_le}
use Rattle.logic.proofs.Splits.{every_split}

pub nil_cons : {A : Type 0} (x : A) (xs : List A) → ◌≡◌ {A = List A} [] (x ∷ xs) → ⊥
nil_cons {A} x xs e = let z : ◌≡◌ {A = ℕ} 0 1 = ap (λ (l : List A). min 1 (length l)) e ∙ omega arith in omega arith

-- ---- what is taken, dropped and looked up

pub take_map : {A B : Type 0} (f : A → B) (n : ℕ) (xs : List A) → take n (map f xs) ≡ map f (take n xs)
take_map f zero xs = refl
take_map f (suc n) [] = refl
take_map f (suc n) (x ∷ xs) = ap (λ (l : List _). f x ∷ l) (take_map f n xs)

-- within the list, whatever stands for an element past its end
pub mapped_at :
    {A B : Type 0} (f : A → B) (none : A) (other : B) (xs : List A) (i : ℕ) → i < length xs
    → get_or (map f xs) i other ≡ f (get_or xs i none)
mapped_at f none other [] i l = absurd (omega arith)
mapped_at f none other (x ∷ xs) zero l = refl
mapped_at f none other (x ∷ xs) (suc i) l = mapped_at f none other xs i (omega arith)

-- the element at i and those after it
pub next_word : (l : List ℕ) (i k : ℕ) → i + 1 ≡ k → i < length l → drop i l ≡ get_or l i 0 ∷ drop k l
next_word l i k e h = rw (← e, add-one) (drop-cons l i 0 h)

-- past the end nothing is left
pub drop_min : (l : List ℕ) (k : ℕ) → drop (min k (length l)) l ≡ drop k l
drop_min l k =
    ⊎_elim
    (λ (h : k < length l). let same : min k (length l) ≡ k = omega arith in rw same)
    (λ (h : length l ≤ k).
    let all : min k (length l) ≡ length l = omega arith in
    rw (all, drop-length, drop_of_length-le l h))
    (lt_or_le k (length l))

-- what is the same from k on is the same from a later index on
pub drop_later : (k a : ℕ) (xs ys : List ℕ) → k ≤ a → drop k xs ≡ drop k ys → drop a xs ≡ drop a ys
drop_later k a xs ys l e =
    let q : k + (a - k) ≡ a = omega arith in
    ap (λ (i : ℕ). drop i xs) (sym q)
    ∙ sym (drop-drop (a - k) k xs)
    ∙ ap (drop (a - k)) e
    ∙ drop-drop (a - k) k ys
    ∙ ap (λ (i : ℕ). drop i ys) q

-- the element before the one at i + j, in what is left from the one before i on
pub before_later : (ws : List ℕ) (i j : ℕ) → get_or (get_or ws (i - 1) 0 ∷ drop i ws) j 0 ≡ get_or ws (i + j - 1) 0
before_later ws i zero =
    let here : i + 0 - 1 ≡ i - 1 = omega arith in
    rw here
before_later ws i (suc j) =
    let there : i + suc j - 1 ≡ i + j = omega arith in
    rw there (get_or-drop i ws j 0)

-- the numbers at the front of a list are among its numbers
pub each_front :
    (l : List ℕ) (n : ℕ) {limit : ℕ} → ((k : ℕ) → get_or l k 0 < limit) → (k : ℕ) → get_or (take n l) k 0 < limit
each_front [] n each k = rw (take-nil n) (each k)
each_front (a ∷ l) zero each k = omega (arith, each (suc (length l)))
each_front (a ∷ l) (suc n) each zero = each 0
each_front (a ∷ l) (suc n) each (suc k) = each_front l n (λ j. each (suc j)) k

-- ---- a part from one index to another

-- up to the end
pub tail_all : (a : ℕ) (l : List ℕ) → take (length l - a) (drop a l) ≡ drop a l
tail_all a l = take_all (length l - a) (drop a l) (rw length-drop (le_refl _))

drop_take : {A : Type 0} (n k : ℕ) (xs : List A) → drop n (take (n + k) xs) ≡ take k (drop n xs)
drop_take zero k xs = rw zero-add
drop_take (suc n) k [] = rw suc-add (sym (take-nil k))
drop_take (suc n) k (x ∷ xs) = rw suc-add (drop_take n k xs)

-- a part of a part
pub part_part :
    {A : Type 0} (xs : List A) (from start stop to : ℕ) → from ≤ start → start ≤ stop → stop ≤ to
    → take ((stop - from) - (start - from)) (drop (start - from) (take (to - from) (drop from xs)))
    ≡ take (stop - start) (drop start xs)
part_part xs from start stop to a b c =
    let n : ℕ = start - from in
    let k : ℕ = to - start in
    let size : (stop - from) - (start - from) ≡ stop - start = omega arith in
    let whole : to - from ≡ n + k = omega arith in
    let here : from + n ≡ start = omega arith in
    rw (
      size,
      whole,
      drop_take n k (drop from xs),
      take-take (stop - start) k (drop n (drop from xs)) (omega arith),
      drop-drop n from xs,
      here,
    )

pub every_part : {A : Type 0} (p : A → Bool) (xs : List A) (n i : ℕ) → T (every p xs) → T (every p (take n (drop i xs)))
every_part {A = A} p xs n i t =
    let left =
    (every_split p (take i xs) (drop i xs) (subst (λ (l : List A). T (every p l)) (sym (take-append-drop i xs)) t)).1 in
    (every_split p (take n (drop i xs)) (drop n (drop i xs))
    (subst (λ (l : List A). T (every p l)) (sym (take-append-drop n (drop i xs))) left)).0

-- the part b of a, b and c, lent and come back
module _ (a b c : List ℕ) (n m : ℕ) (from : length a ≡ n) (long : length b ≡ m) where
  pub part_is : mid_of n m (a ++ (b ++ c)) ≡ b
  part_is = ap (take m) (drop_at a (b ++ c) n from) ∙ take_at b c m long

  pub put_part : (y : List ℕ) → put_mid n m (a ++ (b ++ c)) y ≡ a ++ (y ++ c)
  put_part y =
      let past : drop m (drop n (a ++ (b ++ c))) ≡ c = ap (drop m) (drop_at a (b ++ c) n from) ∙ drop_at b c m long in
      let front : take n (a ++ (b ++ c)) ≡ a = take_at a (b ++ c) n from in
      λ i. front i ++ (y ++ past i)

-- ---- stretches: where one ends the next begins

-- the words from a to b, as a part is lent
abbrev pub stretch : ℕ → ℕ → List ℕ → List ℕ
stretch a b ws = mid_of a (b - a) ws

module _ (a b c : ℕ) (ws : List ℕ) (low : a ≤ b) (high : b ≤ c) where
  pub stretch_parts : stretch a c ws ≡ stretch a b ws ++ stretch b c ws
  stretch_parts =
      let e : c - a ≡ b - a + (c - b) = omega arith in
      let q : a + (b - a) ≡ b = omega arith in
      ap (λ (k : ℕ). take k (drop a ws)) e
      ∙ take-add (b - a) (c - b) (drop a ws)
      ∙ ap (λ (l : List ℕ). stretch a b ws ++ take (c - b) l) (drop-drop (b - a) a ws ∙ ap (λ (k : ℕ). drop k ws) q)

  -- a stretch whose words are known, from its first words on
  pub stretch_known :
      c ≤ length ws → (us vs : List ℕ) → stretch a c ws ≡ us ++ vs → length us ≡ b - a
      → (stretch a b ws ≡ us) × (stretch b c ws ≡ vs)
  stretch_known within us vs e long =
      let n : length (stretch a b ws) ≡ b - a = mid_len a b ws (omega arith) in
      let both = sym stretch_parts ∙ e in (
        sym (take_at (stretch a b ws) (stretch b c ws) (b - a) n) ∙ ap (take (b - a)) both ∙ take_at us vs (b - a) long,
        sym (drop_at (stretch a b ws) (stretch b c ws) (b - a) n) ∙ ap (drop (b - a)) both ∙ drop_at us vs (b - a) long,
      )

-- ---- lists of zeros

pub zeros_first : (k : ℕ) → ◌≡◌ {A = ℕ} (get_or (replicate k 0) 0 0) 0
zeros_first zero = refl
zeros_first (suc k) = refl

pub drop_zeros : (k m : ℕ) → ◌≡◌ {A = List ℕ} (drop k (replicate m 0)) (replicate (m - k) 0)
drop_zeros zero m = let e : m ≡ m - 0 = omega arith in ap (λ (j : ℕ). replicate j 0) e
drop_zeros (suc k) zero = let e : 0 ≡ 0 - suc k = omega arith in ap (λ (j : ℕ). replicate j 0) e
drop_zeros (suc k) (suc m) =
    let e : m - k ≡ suc m - suc k = omega arith in
    drop_zeros k m ∙ ap (λ (j : ℕ). replicate j 0) e

pub zeros_joined : (k n j : ℕ) → k + n ≡ j → ◌≡◌ {A = List ℕ} (replicate k 0 ++ replicate n 0) (replicate j 0)
zeros_joined k n j e = replicate-append-replicate k n 0 ∙ ap (λ (i : ℕ). replicate i 0) e

-- the words from w on zeroed
pub tail_zeroed :
    (w : ℕ) (l zs : List ℕ) → w ≤ length l → zs ≡ replicate (length (take (length l - w) (drop w l))) 0
    → put_mid w (length l - w) l zs ≡ take w l ++ replicate (length l - w) 0
tail_zeroed w l zs h e =
    let d : length (drop w l) ≡ length l - w = length-drop w l in
    let p : drop (length l - w) (drop w l) ≡ [] = drop_of_length-le (drop w l) {i = length l - w} (omega arith) in
    rw (e, tail_all w l, d, p, append-nil)
