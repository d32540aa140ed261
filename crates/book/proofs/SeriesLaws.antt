-- The order of series, and what a kept part, a change of marks and a new series leave of their limits, their order and
-- their expirations: from the laws of lists, the order by cases on months and strikes. Assumes nothing.
use Prim.Native.Nat.{ℕ, ◌+◌, ◌≤◌, ◌<◌, zero-le}
use mathlib.Core.Path.{◌≡◌, refl, sym, ap, ◌∙◌}
use mathlib.Core.Bool.{Bool, true, false, cond, not, ◌&&◌, ◌||◌}
use mathlib.Core.List.{List, [], ◌∷◌, map}
use mathlib.Core.Logic.{◌⊎◌, inl, inr}
use native.Mathlib.Omega.{arith}
use lib.Dec.{T, eqb, ltb, not_T, eqb→eq, ltb→lt, lt→ltb, eqb_refl}
use borrow.Author.Tests.{eqb-true, eqb-false}
use Rattle.logic.specs.Lists.{rises, every, only}
use Rattle.word.specs.Limits.{is_mark}
use Rattle.book.specs.Facts.{Series, is_at, stands, with_marks, precedes, insert_series, expirations}
use Rattle.book.specs.Books.{is_series}
use Rattle.logic.proofs.Tests.{and_intro, ands, equal_test, or_cases, or_left, or_right, trichotomy}
use Rattle.book.proofs.Forms.{are_series}
use Rattle.logic.proofs.Lists.{every_map, every_only, same_keys, StrictOrder, rises_only, every_inserted, rises_inserted}

-- ---- the order

abbrev pub Precedes : Series → Series → Type 0
Precedes s t = (s.month < t.month) ⊎ ((s.month ≡ t.month) × (s.strike < t.strike))

pub to_precedes : (s t : Series) → T (precedes s t) → Precedes s t
to_precedes s t p =
    elim (or_cases (ltb s.month t.month) (eqb s.month t.month && ltb s.strike t.strike) p) [
      | inl a ↦ inl (ltb→lt s.month t.month a)
      | inr b ↦ inr (eqb→eq s.month t.month (search ands), ltb→lt s.strike t.strike (search ands))
    ]

pub months_rise : (s t : Series) → T (precedes s t) → s.month ≤ t.month
months_rise s t p = go (to_precedes s t p)
  where
    go : Precedes s t → s.month ≤ t.month
    go (inl a) = omega arith
    go (inr b) = omega arith

of_precedes : (s t : Series) → Precedes s t → T (precedes s t)
of_precedes s t (inl a) =
    let l : T (ltb s.month t.month) = lt→ltb s.month t.month a in
    search or_left
of_precedes s t (inr b) =
    let e : T (eqb s.month t.month) = equal_test s.month t.month b.0 in
    let l : T (ltb s.strike t.strike) = lt→ltb s.strike t.strike b.1 in
    search (or_right, and_intro)

-- t stands where s does
abbrev pub is_with : Series → Series → Bool
is_with s t = is_at s.month s.strike t

pub series_order : StrictOrder is_with precedes
series_order = record {
  transitive = λ s t u a b. of_precedes s u (chain s t u (to_precedes s t a) (to_precedes t u b));
  total = λ s t. compare s t (trichotomy s.month t.month) (trichotomy s.strike t.strike);
  apart = λ s t a. not_T (is_with s t || is_with t s) (λ e. elim (or_cases (is_with s t) (is_with t s) e) [
    | inl b ↦ clash s t (to_precedes s t a) (eqb→eq t.month s.month (search ands))
        (eqb→eq t.strike s.strike (search ands))
    | inr b ↦ clash s t (to_precedes s t a) (sym (eqb→eq s.month t.month (search ands)))
        (sym (eqb→eq s.strike t.strike (search ands)))
  ]);
  reflexive = λ s.
      and_intro (eqb s.month s.month) (eqb s.strike s.strike) (eqb_refl s.month) (eqb_refl s.strike);
}
  where
    chain : (s t u : Series) → Precedes s t → Precedes t u → Precedes s u
    chain s t u (inl a) (inl b) = inl (omega arith)
    chain s t u (inl a) (inr b) = inl (omega arith)
    chain s t u (inr a) (inl b) = inl (omega arith)
    chain s t u (inr a) (inr b) = inr (omega arith, omega arith)

    clash : (s t : Series) → Precedes s t → t.month ≡ s.month → t.strike ≡ s.strike → ⊥
    clash s t (inl a) e e' = omega arith
    clash s t (inr a) e e' = omega arith

    forth : (s t : Series) → Precedes s t → T (is_with s t || (precedes s t || precedes t s))
    forth s t p = let b : T (precedes s t) = of_precedes s t p in search (or_left, or_right)

    back : (s t : Series) → Precedes t s → T (is_with s t || (precedes s t || precedes t s))
    back s t p = let b : T (precedes t s) = of_precedes t s p in search (or_left, or_right)

    compare :
        (s t : Series) → (s.month < t.month) ⊎ ((s.month ≡ t.month) ⊎ (t.month < s.month))
        → (s.strike < t.strike) ⊎ ((s.strike ≡ t.strike) ⊎ (t.strike < s.strike))
        → T (is_with s t || (precedes s t || precedes t s))
    compare s t (inl a) c = forth s t (inl a)
    compare s t (inr (inr a)) c = back s t (inl a)
    compare s t (inr (inl a)) (inl b) = forth s t (inr (a, b))
    compare s t (inr (inl a)) (inr (inr b)) = back s t (inr (sym a, b))
    compare s t (inr (inl a)) (inr (inl b)) =
        let month : T (eqb t.month s.month) = equal_test t.month s.month (sym a) in
        let strike : T (eqb t.strike s.strike) = equal_test t.strike s.strike (sym b) in
        search (or_left, and_intro)

-- ---- the expirations of a kept part

abbrev differ : ℕ → ℕ → ℕ
differ a b = cond {A = ℕ} (eqb a b) 0 1

differ_through : (a b c : ℕ) → differ a c ≤ differ a b + differ b c
differ_through a b c = go (eqb a b) refl (eqb b c) refl (eqb a c) refl
  where
    go :
        (x : Bool) → eqb a b ≡ x → (y : Bool) → eqb b c ≡ y → (z : Bool) → eqb a c ≡ z
        → cond {A = ℕ} z 0 1 ≤ cond {A = ℕ} x 0 1 + cond {A = ℕ} y 0 1
    go x e y e' true q = zero-le
    go true e true e' false q = absurd (eqb-false a c q (eqb-true a b e ∙ eqb-true b c e'))
    go true e false e' false q = omega arith
    go false e y e' false q = omega arith

without_second : (s t : Series) (ss : List Series) → expirations (s ∷ ss) ≤ expirations (s ∷ t ∷ ss)
without_second s t [] = omega arith
without_second s t (u ∷ us) = omega (arith, differ_through s.month t.month u.month)

without_first : (s : Series) (ss : List Series) → expirations ss ≤ expirations (s ∷ ss)
without_first s [] = zero-le
without_first s (t ∷ ts) = omega arith

first_kept :
    (keep : Series → Bool) (s : Series) (ss : List Series) → expirations (s ∷ only keep ss) ≤ expirations (s ∷ ss)
first_kept keep s [] = omega arith
first_kept keep s (t ∷ ts) = go (keep t) (first_kept keep t ts) (first_kept keep s ts)
  where
    go :
        (b : Bool) → expirations (t ∷ only keep ts) ≤ expirations (t ∷ ts)
        → expirations (s ∷ only keep ts) ≤ expirations (s ∷ ts)
        → expirations (s ∷ cond b (t ∷ only keep ts) (only keep ts)) ≤ expirations (s ∷ t ∷ ts)
    go true l l' = omega arith
    go false l l' = omega (arith, without_second s t ts)

pub expirations_only : (keep : Series → Bool) (ss : List Series) → expirations (only keep ss) ≤ expirations ss
expirations_only keep [] = zero-le
expirations_only keep (s ∷ ss) = go (keep s) (expirations_only keep ss)
  where
    go :
        (b : Bool) → expirations (only keep ss) ≤ expirations ss
        → expirations (cond b (s ∷ only keep ss) (only keep ss)) ≤ expirations (s ∷ ss)
    go true l = first_kept keep s ss
    go false l = omega (arith, without_first s ss)

-- ---- limits and order

pub series_only :
    (now now' : ℕ) (keep : Series → Bool) → ((s : Series) → T (keep s) → T (is_series now s) → T (is_series now' s))
    → (ss : List Series) → T (are_series now ss) → T (are_series now' (only keep ss))
series_only now now' keep f ss t =
    let a : T (every (is_series now') (only keep ss)) =
    every_only (is_series now) (is_series now') keep f ss (search ands) in
    let b : T (rises precedes (only keep ss)) = rises_only is_with precedes series_order keep ss (search ands) in
    search and_intro

-- new marks at one strike
module _ (m h a b : ℕ) where
  abbrev pub marked_at : Series → Series
  marked_at s = cond (is_at m h s) (with_marks a b s) s

  -- all but the marks stays
  marks_alone : (ss : List Series) → map (with_marks 0 0) (map marked_at ss) ≡ map (with_marks 0 0) ss
  marks_alone [] = refl
  marks_alone (s ∷ ss) = go (is_at m h s) (marks_alone ss)
    where
      go : (c : Bool) → map (with_marks 0 0) (map marked_at ss) ≡ map (with_marks 0 0) ss
          → with_marks 0 0 (cond c (with_marks a b s) s) ∷ map (with_marks 0 0) (map marked_at ss)
          ≡ with_marks 0 0 s ∷ map (with_marks 0 0) ss
      go true e = ap (λ (l : List Series). with_marks 0 0 s ∷ l) e
      go false e = ap (λ (l : List Series). with_marks 0 0 s ∷ l) e

  marked_limits :
      (now : ℕ) → T (is_mark a) → T (is_mark b) → (s : Series) → T (is_series now s) → T (is_series now (marked_at s))
  marked_limits now ma mb s t = go (is_at m h s)
    where
      go : (c : Bool) → T (is_series now (cond c (with_marks a b s) s))
      go true = search (ands, and_intro) depth 12
      go false = t

  pub series_marked :
      (now : ℕ) → T (is_mark a) → T (is_mark b) → (ss : List Series) → T (are_series now ss)
      → T (are_series now (map marked_at ss))
  series_marked now ma mb ss t =
      let c : T (every (is_series now) (map marked_at ss)) =
      every_map (is_series now) (is_series now) marked_at (marked_limits now ma mb) ss (search ands) in
      let d : T (rises precedes (map marked_at ss)) =
      same_keys (with_marks 0 0) precedes (map marked_at ss) ss (marks_alone ss) (search ands) in
      search and_intro

  pub expirations_marked : (ss : List Series) → expirations (map marked_at ss) ≡ expirations ss
  expirations_marked ss = sym (unmarked (map marked_at ss)) ∙ ap expirations (marks_alone ss) ∙ unmarked ss
    where
      unmarked : (ts : List Series) → expirations (map (with_marks 0 0) ts) ≡ expirations ts
      unmarked [] = refl
      unmarked (s ∷ []) = refl
      unmarked (s ∷ t ∷ ts) = ap (λ (k : ℕ). differ s.month t.month + k) (unmarked (t ∷ ts))

-- a new series
pub series_inserted :
    (now : ℕ) (s : Series) (ss : List Series) → T (is_series now s) → T (not (stands s.month s.strike ss))
    → T (are_series now ss) → T (are_series now (insert_series s ss))
series_inserted now s ss a n t =
    let b : T (every (is_series now) (insert_series s ss)) =
    every_inserted precedes (is_series now) s ss a (search ands) in
    let c : T (rises precedes (insert_series s ss)) =
    rises_inserted is_with precedes series_order s ss n (search ands) in
    and_intro (every (is_series now) (insert_series s ss)) (rises precedes (insert_series s ss)) b c
