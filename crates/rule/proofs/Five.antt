-- The five lowest strikes above a price end at a closed form: a walk finds the strikes that pass up to where it ends,
-- and the ends are computed for each price of at most $20. Assumes nothing.
use mathlib.Core.Path.{◌≡◌, refl, sym, ap, ◌∙◌, fun_ext}
use mathlib.Core.Bool.{Bool, true, false, cond, not, ◌&&◌, ◌||◌, and-false}
use mathlib.Core.List.{◌∷◌}
use Prim.Native.Nat.{ℕ, zero, suc, ◌+◌, ◌≤◌, ◌<◌}
use native.Mathlib.Omega.{arith}
use borrow.Author.Tests.{ltb-false, eqb-true, eqb-false, lt-ltb, le-leb}
use lib.Dec.{T, leb, ltb, eqb, leb-suc-suc, leb→le, le→leb, ltb→lt, eqb→eq}
use Rattle.word.specs.Limits.{highest_strike, cents}
use Rattle.rule.specs.declared.terms.Setting.{Setting}
use Rattle.logic.specs.Lists.{every, some, up_from}
use Rattle.logic.proofs.Tests.{ands, and_middle, and_implied, same_leb, none_between}
use Rattle.logic.proofs.Numbers.{every_number}
use Rattle.rule.specs.Terms.{in_halves, is_dollar_class, is_near}
use Rattle.rule.specs.Grids.{one_dollar, five_dollars, five_fifty, fifty_dollars, multiple, ladder, half_dollars}
use Rattle.rule.specs.Ranges.{low_price, range_count, lowest, among_five, range_grid}
use Rattle.rule.specs.Ends.{fifth_above}

-- the strike past the last one that `lowest` looks at
walk_end : (ℕ → Bool) → ℕ → ℕ → ℕ → ℕ
walk_end test zero n h = h
walk_end test (suc left) zero h = h
walk_end test (suc left) (suc n) h =
    elim (test h) [ true ↦ walk_end test left n (suc h) | false ↦ walk_end test left (suc n) (suc h) ]

-- one strike further, at one that passes and at one that does not
module _ (test : ℕ → Bool) (left n a : ℕ) where
  end_on : test a ≡ true → walk_end test (suc left) (suc n) a ≡ walk_end test left n (suc a)
  unfolding walk_end
  end_on e = rw (e, walk_end)

  end_off : test a ≡ false → walk_end test (suc left) (suc n) a ≡ walk_end test left (suc n) (suc a)
  unfolding walk_end
  end_off e = rw (e, walk_end)

  lowest_on : test a ≡ true → lowest test (suc left) (suc n) a ≡ a ∷ lowest test left n (suc a)
  unfolding lowest
  lowest_on e = rw (e, lowest)

  lowest_off : test a ≡ false → lowest test (suc left) (suc n) a ≡ lowest test left (suc n) (suc a)
  unfolding lowest
  lowest_off e = rw (e, lowest)

end_low : (test : ℕ → Bool) (left n a : ℕ) → a ≤ walk_end test left n a
unfolding walk_end
end_low test zero n a = omega arith
end_low test (suc left) zero a = omega arith
end_low test (suc left) (suc n) a = go (test a) refl (end_low test left n (suc a)) (end_low test left (suc n) (suc a))
  where
    go : (b : Bool) → test a ≡ b → suc a ≤ walk_end test left n (suc a) → suc a ≤ walk_end test left (suc n) (suc a) →
        a ≤ walk_end test (suc left) (suc n) a
    go true e x y = omega (arith, end_on test left n a e)
    go false e x y = omega (arith, end_off test left n a e)

-- the same, of the strikes up to an end
module _ (test : ℕ → Bool) (a end h : ℕ) where
  from_next : (h ≡ a → ⊥) → leb (suc a) h ≡ leb a h
  from_next ne = same_leb (suc a) h a h (λ l. omega arith) (λ l. omega (arith, ne))

  step_on : test a ≡ true → suc a ≤ end →
      (eqb h a || (leb (suc a) h && ltb h end && test h)) ≡ (leb a h && ltb h end && test h)
  step_on on low = go (eqb h a) refl
    where
      go : (t : Bool) → eqb h a ≡ t →
          (eqb h a || (leb (suc a) h && ltb h end && test h)) ≡ (leb a h && ltb h end && test h)
      go true e =
          let p : h ≡ a = eqb-true h a e in
          rw (e, p, le-leb a a (omega arith), lt-ltb a end low) (sym on)
      go false e = rw (e, from_next (eqb-false h a e))

  step_off : test a ≡ false → (leb (suc a) h && ltb h end && test h) ≡ (leb a h && ltb h end && test h)
  step_off off = go (eqb h a) refl
    where
      go : (t : Bool) → eqb h a ≡ t → (leb (suc a) h && ltb h end && test h) ≡ (leb a h && ltb h end && test h)
      go true e =
          let p : test h ≡ false = ap test (eqb-true h a e) ∙ off in
          rw p (and-false (leb (suc a) h && ltb h end) ∙ sym (and-false (leb a h && ltb h end)))
      go false e = rw (from_next (eqb-false h a e))

-- the strikes that `lowest` finds are those that pass, up to where it ends
among : (test : ℕ → Bool) (left n a h : ℕ) →
    some (eqb h) (lowest test left n a) ≡ (leb a h && ltb h (walk_end test left n a) && test h)
unfolding lowest walk_end
among test zero n a h = none_between a h (test h)
among test (suc left) zero a h = none_between a h (test h)
among test (suc left) (suc n) a h = go (test a) refl (among test left n (suc a) h) (among test left (suc n) (suc a) h)
  where
    go : (b : Bool) → test a ≡ b →
        some (eqb h) (lowest test left n (suc a)) ≡ (leb (suc a) h && ltb h (walk_end test left n (suc a)) && test h) →
        some (eqb h) (lowest test left (suc n) (suc a))
        ≡ (leb (suc a) h && ltb h (walk_end test left (suc n) (suc a)) && test h) →
        some (eqb h) (lowest test (suc left) (suc n) a)
        ≡ (leb a h && ltb h (walk_end test (suc left) (suc n) a) && test h)
    go true e x y =
        rw (lowest_on test left n a e, end_on test left n a e)
        (ap (λ (t : Bool). eqb h a || t) x
        ∙ step_on test a (walk_end test left n (suc a)) h e (end_low test left n (suc a)))
    go false e x y =
        rw (lowest_off test left n a e, end_off test left n a e)
        (y ∙ step_off test a (walk_end test left (suc n) (suc a)) h e)

-- where the walk ends that looks for the five lowest strikes above the strike q
end_above : (ℕ → Bool) → ℕ → ℕ
end_above grid q = walk_end (λ x. ltb q x && grid (cents x)) highest_strike range_count 1

-- a strike is above a price when it is above the highest strike at or below the price
above_price : (p h : ℕ) → ltb p (cents h) ≡ ltb (in_halves p) h
above_price p h = same_leb (suc p) (cents h) (suc (in_halves p)) h (λ l. omega arith) (λ l. omega arith)

among_above : (grid : ℕ → Bool) (p h : ℕ) →
    among_five grid p h ≡ (ltb (in_halves p) h && ltb h (end_above grid (in_halves p)) && grid (cents h))
unfolding among_five end_above
among_above grid p h =
    ap (λ (test : ℕ → Bool). some (eqb h) (lowest test highest_strike range_count 1))
    (fun_ext (λ x. ap (λ (t : Bool). t && grid (cents x)) (above_price p x)))
    ∙ among (λ x. ltb (in_halves p) x && grid (cents x)) highest_strike range_count 1 h
    ∙ and_implied (leb 1 h) (ltb h (end_above grid (in_halves p))) (ltb (in_halves p) h) (grid (cents h))
    (λ t. le→leb 1 h (omega (arith, ltb→lt (in_halves p) h t)))

-- the range grid of Standard and Dollar, by what it asks of the class and the expiration
abbrev grid_by : Bool → Bool → ℕ → Bool
grid_by whole dollar k =
    cond whole (multiple one_dollar k)
    (ladder k && not (dollar && ltb k fifty_dollars && not (multiple five_dollars k)))

-- the closed form is right for each strike q of at most $20
end_test : Bool → Bool → ℕ → Bool
end_test whole dollar q = eqb (end_above (grid_by whole dollar) q) (suc (fifth_above whole dollar q))

ends : (whole dollar : Bool) → T (every (end_test whole dollar) (up_from (in_halves low_price + 1) 0))
unfolding end_test end_above walk_end
ends true true = tt
ends true false = tt
ends false true = tt
ends false false = tt

five_by : (whole dollar : Bool) (p h : ℕ) → p ≤ low_price →
    among_five (grid_by whole dollar) p h
    ≡ (ltb (in_halves p) h && leb h (fifth_above whole dollar (in_halves p)) && grid_by whole dollar (cents h))
unfolding end_test
five_by whole dollar p h cheap =
    let fifth : ℕ = fifth_above whole dollar (in_halves p) in
    let end : end_above (grid_by whole dollar) (in_halves p) ≡ suc fifth =
    eqb→eq _ _
    (every_number (end_test whole dollar) (in_halves low_price + 1) 0 (ends whole dollar) (in_halves p) (omega arith)
    (omega arith)) in
    among_above (grid_by whole dollar) p h
    ∙ ap (λ (t : Bool). ltb (in_halves p) h && t && grid_by whole dollar (cents h))
    (ap (ltb h) end ∙ leb-suc-suc h fifth)

pub five : (s : Setting) (p h : ℕ) → p ≤ low_price →
    among_five (range_grid s) p h
    ≡ (ltb (in_halves p) h
    && leb h (fifth_above (is_near s && is_dollar_class s.class) (is_dollar_class s.class) (in_halves p))
    && range_grid s (cents h))
five s p h cheap = five_by (is_near s && is_dollar_class s.class) (is_dollar_class s.class) p h cheap

-- from $3.50 up the half dollars to $5.50 are fewer than five: the walk then goes on to the highest strike
half_end_test : ℕ → Bool
half_end_test q = eqb (end_above half_dollars q) (cond (ltb q 7) (q + range_count + 1) (highest_strike + 1))

half_ends : T (every half_end_test (up_from (in_halves five_fifty) 0))
unfolding half_end_test end_above walk_end
half_ends = tt

half_end_lem : (q h : ℕ) → q < h → h ≤ in_halves five_fifty → ltb h (end_above half_dollars q) ≡ leb h (q + range_count)
unfolding half_end_test
half_end_lem q h low high =
    go (ltb q 7) refl
    (eqb→eq _ _ (every_number half_end_test (in_halves five_fifty) 0 half_ends q (omega arith) (omega arith)))
  where
    go : (t : Bool) → ltb q 7 ≡ t → end_above half_dollars q ≡ cond t (q + range_count + 1) (highest_strike + 1) →
        ltb h (end_above half_dollars q) ≡ leb h (q + range_count)
    go true e end = same_leb (suc h) (end_above half_dollars q) h (q + range_count) (λ l. omega arith)
        (λ l. omega arith)
    go false e end =
        lt-ltb h (end_above half_dollars q) (omega arith)
        ∙ sym (le-leb h (q + range_count) (omega (arith, ltb-false q 7 e)))

pub five_half_dollars : (p h : ℕ) →
    among_five half_dollars p h ≡ (ltb (in_halves p) h && leb h (in_halves p + range_count) && half_dollars (cents h))
five_half_dollars p h =
    among_above half_dollars p h
    ∙ and_middle (ltb (in_halves p) h) (ltb h (end_above half_dollars (in_halves p)))
    (leb h (in_halves p + range_count))
    (half_dollars (cents h))
    (λ low on. half_end_lem (in_halves p) h (ltb→lt (in_halves p) h low) (high on))
  where
    high : T (half_dollars (cents h)) → h ≤ in_halves five_fifty
    high on = omega (arith, leb→le (cents h) five_fifty (search ands))
