-- The permitted strikes end where the range does, and are at most as many as Half can give and half of those above,
-- rounded up on each rung: past Half no two neighbours stand on one rung. Assumes nothing.
use mathlib.Core.Path.{◌≡◌, refl, sym, ap, ◌∙◌}
use mathlib.Core.Bool.{Bool, true, false, cond, and-false}
use mathlib.Core.List.{List, [], ◌∷◌}
use Prim.Native.Nat.{ℕ, zero, suc, ◌+◌, ◌-◌, ◌*◌, ◌%◌, ◌≤◌, ◌<◌, min}
use native.Mathlib.Omega.{arith}
use lib.Dec.{T, leb, leb→le}
use lib.ListN.{length, drop}
use borrow.Author.Tests.{le-leb, lt-leb}
use Rattle.word.specs.Limits.{highest_strike}
use Rattle.rule.specs.declared.bounds.Rung.{Rung}
use Rattle.rule.specs.declared.terms.Setting.{Setting}
use Rattle.logic.specs.Lists.{every, only, up_from}
use Rattle.logic.proofs.Tests.{ands, true_T, refuted}
use Rattle.logic.proofs.Multiples.{between_multiples}
use Rattle.logic.proofs.Numbers.{only_short, passing, passing_all, passing_parts}
use Rattle.rule.specs.Ends.{half_top, top_end, rungs, most_open}
use Rattle.rule.specs.Spacing.{Standing}
use Rattle.word.specs.Answers.{is_accepted}
use Rattle.rule.specs.Judgement.{judgement, is_permitted_beside, permitted}
use Rattle.rule.proofs.Rungs.{On}
use Rattle.rule.proofs.Open.{accepted_open, permitted_open, open_on, closed_above, top_strike, halves_within, halves_most}

-- each rung's step is at least $1
abbrev Coarse : List Rung → Type 0
Coarse rs = T (every (λ r. leb 2 r.step) rs)

module _ (test : ℕ → Bool) where
  -- those of the n numbers from h up that pass the test stand on the rungs
  abbrev Among : List Rung → ℕ → ℕ → Type 0
  Among rs n h = (x : ℕ) → h ≤ x → x < h + n → test x ≡ true → On rs x

  -- on one rung no two neighbours do
  one_rung : (r : Rung) → 2 ≤ r.step → (n h : ℕ) → Among (r ∷ []) n h → 2 * passing test n h ≤ n + 1
  one_rung r k zero h among = omega arith
  one_rung r k (suc zero) h among = omega (arith, passing_all test 1 h)
  one_rung r k (suc (suc n)) h among =
      go (test h) refl (test (suc h)) refl
      (one_rung r k n (suc (suc h)) (λ x l m. among x (omega arith) (omega arith)))
    where
      rest : List ℕ
      rest = only test (up_from n (suc (suc h)))

      go : (t : Bool) → test h ≡ t → (u : Bool) → test (suc h) ≡ u → 2 * length rest ≤ n + 1 →
          2 * length (cond t (h ∷ cond u (suc h ∷ rest) rest) (cond u (suc h ∷ rest) rest)) ≤ suc (suc n) + 1
      go true a true b l =
          absurd
          (between_multiples r.step h (suc h) (among h (omega arith) (omega arith) a)
          (among (suc h) (omega arith) (omega arith) b) (omega arith) (omega arith))
      go true a false b l = omega arith
      go false a true b l = omega arith
      go false a false b l = omega arith

  -- on each rung at most half of its numbers pass, rounded up
  passing_most : (rs : List Rung) → 1 ≤ length rs → Coarse rs → (n h : ℕ) → Among rs n h →
      2 * passing test n h ≤ n + length rs
  passing_most [] some coarse n h among = absurd (omega arith)
  passing_most (r ∷ []) some coarse n h among =
      one_rung r (leb→le 2 r.step (search ands)) n h among
  passing_most (r ∷ q ∷ rs) some coarse n h among =
      let m : ℕ = min n (r.to + 1 - h) in
      let parts : passing test n h ≡ passing test m h + passing test (n - m) (h + m) =
      passing_parts test m n h (omega arith) in
      let low : 2 * passing test m h ≤ m + 1 =
      one_rung r (leb→le 2 r.step (search ands)) m h
      (λ x l k e. here x (omega arith) (among x l (omega arith) e)) in
      let high : 2 * passing test (n - m) (h + m) ≤ n - m + length (q ∷ rs) =
      passing_most (q ∷ rs) (omega arith) (search ands) (n - m) (h + m)
      (λ x l k e. past x (omega arith) (among x (omega arith) (omega arith) e)) in
      omega arith
    where
      here : (x : ℕ) → x ≤ r.to → On (r ∷ q ∷ rs) x → x % r.step ≡ 0
      here x l on = rw (le-leb x r.to l) at on

      past : (x : ℕ) → r.to < x → On (r ∷ q ∷ rs) x → On (q ∷ rs) x
      past x l on = rw (lt-leb x r.to l) at on

module _ (s : Setting) (standing : List Standing) where
  pub refused_above : (h : ℕ) → top_end s < h → h ≤ highest_strike → is_accepted (judgement s standing h) ≡ false
  refused_above h l m =
      sym
      (refuted (is_accepted (judgement s standing h))
      (λ t. rw (closed_above s h l m) at (accepted_open s h standing t)))

  pub permitted_short : permitted s standing ≡ only (is_permitted_beside s standing) (up_from (top_end s) 1)
  unfolding permitted
  permitted_short =
      let e : highest_strike ≡ top_end s + (highest_strike - top_end s) = omega (arith, top_strike s) in
      ap (λ (n : ℕ). only (is_permitted_beside s standing) (up_from n 1)) e
      ∙ only_short (is_permitted_beside s standing) (top_end s) (highest_strike - top_end s) 1
      (λ x k m. rw (refused_above x (omega arith) (omega (arith, top_strike s)), and-false))

  abbrev test : ℕ → Bool
  test = is_permitted_beside s standing

  pub permitted_most : length (permitted s standing) ≤ most_open (top_end s)
  permitted_most =
      let half : ℕ = half_top s in
      let rest : ℕ = top_end s - half in
      let parts : length (permitted s standing) ≡ passing test half 1 + passing test rest (1 + half) =
      ap length permitted_short ∙ passing_parts test half (top_end s) 1 (halves_within s) in
      let above : 2 * passing test rest (1 + half) ≤ rest + length (drop 1 (rungs s)) =
      passing_most test (drop 1 (rungs s)) (omega arith) tt rest (1 + half)
      (λ x l k e. past x l (open_on s x (permitted_open s x standing (true_T _ e)))) in
      omega (arith, passing_all test half 1, halves_within s, halves_most s)
    where
      past : (x : ℕ) → 1 + half_top s ≤ x → On (rungs s) x → On (drop 1 (rungs s)) x
      past x l on = rw (lt-leb x (half_top s) (omega arith)) at on
