-- "a number beyond its limits" is exact though numbers are capped: every limit is below the cap, so that a call with a
-- number that is not is beyond its limits, and so is the call with the cap in its place. Assumes nothing.
use mathlib.Core.Path.{◌≡◌, refl, sym, ap, ◌∙◌}
use mathlib.Core.Logic.{⊎_elim}
use mathlib.Core.Bool.{Bool, true, false, cond}
use mathlib.Core.List.{List, [], ◌∷◌, map}
use Prim.Native.Nat.{ℕ, ◌-◌}
use native.Mathlib.Omega.{arith}
use lib.Dec.{T, eqb, leb, leb→le, le→leb}
use borrow.Author.Tests.{leb-true}
use Rattle.std.specs.Prelude.{Err}
use Rattle.word.specs.declared.answer.Refusal.TheVariants.{BeyondLimits}
use Rattle.logic.specs.Lists.{every}
use Rattle.book.specs.Facts.{Facts}
use Rattle.book.specs.Calls.{Call, call_m, on, call_o, call_c, call_h, call_v, call_d, call_l, call_j, call_x, call_i, call_r, call_a, effect_on, effect, answer_to, written, step}
use Rattle.book.specs.Letters.{letter_m, letter_o, letter_c, letter_h, letter_v, letter_d, letter_l, letter_j, letter_x, letter_i, letter_r, letter_a, call_of}
use Rattle.text.specs.Reading.{number_cap, capped}
use Rattle.logic.proofs.Tests.{and_intro, ands, parts, same_bool, same_leb, bool_cases}

-- ---- numbers below the cap

-- the last of them
abbrev last_kept : ℕ
last_kept = number_cap - 1

abbrev are_small : List ℕ → Bool
are_small ns = every (λ k. leb k last_kept) ns

capped_small : (ns : List ℕ) → are_small (map capped ns) ≡ are_small ns
capped_small [] = refl
capped_small (k ∷ ns) =
    rw (capped_small ns, same_leb (capped k) last_kept k last_kept (λ l. omega arith) (λ l. omega arith))

small_kept : (ns : List ℕ) → are_small ns ≡ true → map capped ns ≡ ns
small_kept [] e = refl
small_kept (k ∷ ns) e =
    let kept : capped k ≡ k = omega (arith, leb-true k last_kept (search parts)) in
    rw (kept, small_kept ns (search parts))

-- a number within a limit
under : (limit v : ℕ) → T (leb v limit) → T (leb limit last_kept) → T (leb v last_kept)
under limit v t low = le→leb v last_kept (omega (arith, leb→le v limit t, leb→le limit last_kept low))

-- ---- the numbers of a call within its limits, by its letter

module _ (f : Facts) where
  either :
      {P : Type 0} (b : Bool) (x y : Call) → (T (effect x f).limits → P) → (T (effect y f).limits → P)
      → T (effect (cond b x y) f).limits → P
  either true x y this other t = this t
  either false x y this other t = other t

  numbers_small : (c : ℕ) (ns : List ℕ) → T (effect (call_of c ns) f).limits → T (are_small ns)
  unfolding call_of effect_on
  numbers_small c [] t = tt
  numbers_small c (a ∷ []) t =
      either (eqb c letter_m) (call_m a) _ (λ t. search (ands, and_intro, under))
      (either (eqb c letter_o) (on a call_o) _ (λ t. search (ands, and_intro, under))
      (either (eqb c letter_r) (on a call_r) _ (λ t. search (ands, and_intro, under)) (λ t. absurd t))) t
  numbers_small c (a ∷ b ∷ []) t =
      either (eqb c letter_c) (on a (call_c b)) _ (λ t. search (ands, and_intro, under))
      (either (eqb c letter_v) (on a (call_v b)) _ (λ t. search (ands, and_intro, under))
      (either (eqb c letter_a) (on a (call_a b)) _ (λ t. search (ands, and_intro, under)) (λ t. absurd t))) t
  numbers_small c (a ∷ b ∷ d ∷ []) t =
      either (eqb c letter_d) (on a (call_d b d)) _ (λ t. search (ands, and_intro, under))
      (either (eqb c letter_l) (on a (call_l b d)) _ (λ t. search (ands, and_intro, under))
      (either (eqb c letter_j) (on a (call_j b d)) _ (λ t. search (ands, and_intro, under))
      (either (eqb c letter_x) (on a (call_x b d)) _ (λ t. search (ands, and_intro, under))
      (either (eqb c letter_h) (on a (call_h b d)) _ (λ t. search (ands, and_intro, under)) (λ t. absurd t))))) t
  numbers_small c (a ∷ b ∷ d ∷ e ∷ []) t = absurd t
  numbers_small c (a ∷ b ∷ d ∷ e ∷ g ∷ []) t =
      either (eqb c letter_i) (on a (call_i b d e g)) _ (λ t. search (ands, and_intro, under) depth 9) (λ t. absurd t) t
  numbers_small c (a ∷ b ∷ d ∷ e ∷ g ∷ h ∷ more) t = absurd t

  -- ---- so the plain book judges the call of the capped numbers as it judges the call on the sheet

  -- what is the same of all calls beyond their limits is the same of the two
  module _ (c : ℕ) (ns : List ℕ) where
    alike :
        {A : Type 0} (g : Call → A) (a : A) → ((x : Call) → (effect x f).limits ≡ false → g x ≡ a)
        → g (call_of c (map capped ns)) ≡ g (call_of c ns)
    alike g a beyond =
        ⊎_elim
        (λ (e : are_small ns ≡ true). ap (λ (ks : List ℕ). g (call_of c ks)) (small_kept ns e))
        (λ (e : are_small ns ≡ false).
        beyond (call_of c (map capped ns)) (unlimited (map capped ns) (capped_small ns ∙ e))
        ∙ sym (beyond (call_of c ns) (unlimited ns e)))
        (bool_cases (are_small ns))
      where
        unlimited : (ks : List ℕ) → are_small ks ≡ false → (effect (call_of c ks) f).limits ≡ false
        unlimited ks e =
            same_bool (effect (call_of c ks) f).limits false (λ t. rw e at (numbers_small c ks t)) (λ t. absurd t)

    pub same_answer : (n room : ℕ) → answer_to n room (call_of c (map capped ns)) f ≡ answer_to n room (call_of c ns) f
    unfolding answer_to
    same_answer n room = alike (λ (x : Call). answer_to n room x f) (Err BeyondLimits) (λ x e. rw e)

    pub same_written : (n room : ℕ) → written n room (call_of c (map capped ns)) f ≡ written n room (call_of c ns) f
    unfolding answer_to written
    same_written n room = alike (λ (x : Call). written n room x f) [] (λ x e. rw e)

    pub same_step : (n : ℕ) → step n (call_of c (map capped ns)) f ≡ step n (call_of c ns) f
    unfolding step
    same_step n = alike (λ (x : Call). step n x f) f (λ x e. rw e)
