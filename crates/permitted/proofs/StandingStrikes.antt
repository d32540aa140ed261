-- The words of standing strikes that rise: only those within reach of a strike bear on it, so that those far below and
-- those far above may be left out. Assumes nothing.
use mathlib.Core.Path.{◌≡◌, refl, sym, ap, ◌∙◌}
use mathlib.Core.Bool.{Bool, true, false, not, ◌&&◌}
use mathlib.Core.List.{List, [], ◌∷◌, map}
use Prim.Native.Nat.{ℕ, zero, suc, ◌+◌, ◌-◌, ◌≤◌, ◌<◌}
use native.Mathlib.Omega.{arith}
use lib.Dec.{ltb, eqb}
use lib.ListN.{length, get_or, take, drop, length-drop}
use lib.Seq.{take_all}
use borrow.Author.Tests.{ltb-true, ltb-false, eq-eqb}
use Rattle.std.specs.List.{list_all}
use Rattle.std.proofs.lemmas.List.Sums.{prefix_len_passes, prefix_len_stops, prefix_len-le-length}
use Rattle.word.specs.Answers.{is_accepted}
use Rattle.logic.specs.Lists.{every, some, Rising}
use Rattle.logic.proofs.Lists.{not_some, every_mapped, rising_at}
use Rattle.rule.specs.declared.terms.Setting.{Setting}
use Rattle.rule.specs.Ends.{reach_of, is_open_strike}
use Rattle.rule.specs.Spacing.{standing_of}
use Rattle.rule.specs.Judgement.{judgement, is_permitted_beside}
use Rattle.rule.proofs.Near.{Between, words_permitted}
use Rattle.permitted.specs.Listing.{strike_in, next_strike, strikes_below, strikes_from, Alike, Triable}

every_all : {A : Type 0} (test : A → Bool) (xs : List A) → every test xs ≡ list_all test xs
every_all test [] = refl
every_all test (x ∷ xs) = ap (λ (b : Bool). test x && b) (every_all test xs)

absent_words : (ws : List ℕ) (h : ℕ) →
    not (some (λ t. eqb t.strike h) (map standing_of ws)) ≡ list_all (λ w. not (eqb (strike_in w) h)) ws
absent_words ws h =
    not_some (λ t. eqb t.strike h) (map standing_of ws)
    ∙ every_mapped (λ t. not (eqb t.strike h)) standing_of ws
    ∙ every_all (λ w. not (eqb (strike_in w) h)) ws

-- ---- how many are below

module _ (ws : List ℕ) (low : ℕ) where
  abbrev is_below : ℕ → Bool
  is_below w = ltb (strike_in w) low

  pub below_within : strikes_below ws low ≤ length ws
  below_within = prefix_len-le-length is_below ws

  pub below_each : (i : ℕ) → i < strikes_below ws low → strike_in (get_or ws i 0) < low
  below_each i l = ltb-true (strike_in (get_or ws i 0)) low (prefix_len_passes is_below ws i 0 l)

  pub below_end : strikes_below ws low < length ws → low ≤ strike_in (get_or ws (strikes_below ws low) 0)
  below_end l = ltb-false (strike_in (get_or ws (strikes_below ws low) 0)) low (prefix_len_stops is_below ws 0 l)

-- ---- those far above, and those far below

module _ {s : Setting} {ws : List ℕ} {h to : ℕ} (t : Triable s ws h)
    (e : to ≡ strikes_below ws (h + reach_of s + 1)) where
  between : Between s h ws 0 to
  between =
      record {
        order = omega arith;
        below = λ i l. absurd (omega arith);
        above = λ i l k.
            let first : to < length ws = omega arith in
            let a : h + reach_of s + 1 ≤ strike_in (get_or ws to 0) =
            rw e (below_end ws (h + reach_of s + 1) (rw e at first)) in
            let b = rising_at strike_in 0 ws t.rising to i l k in
            omega arith;
      }

  -- the words before the index `to` decide
  pub near_permits : (absent : Bool) → absent ≡ list_all (λ w. not (eqb (strike_in w) h)) (take to ws) →
      (absent && is_accepted (judgement s (map standing_of (take to ws)) h))
      ≡ is_permitted_beside s (map standing_of ws) h
  near_permits absent a =
      let whole : to - 0 ≡ to = omega arith in
      ap (λ (b : Bool). b && is_accepted (judgement s (map standing_of (take to ws)) h))
      (a ∙ sym (absent_words (take to ws) h))
      ∙ (rw whole at (words_permitted between))

-- ---- the same strikes are permitted

pub alike_start : (s : Setting) (ws : List ℕ) (h : ℕ) → Rising (map strike_in ws) → Alike s ws ws h
alike_start s ws h rising = record { rising = rising; same = λ x l. refl }

module _ {s : Setting} {ws ws' : List ℕ} {h : ℕ} (alike : Alike s ws ws' h) where
  pub alike_more : (h' : ℕ) → h ≤ h' → Alike s ws ws' h'
  alike_more h' l = record { rising = alike.rising; same = λ x k. alike.same x (omega arith) }

  pub alike_again : {ws'' : List ℕ} → Alike s ws' ws'' h → Alike s ws ws'' h
  alike_again again = record { rising = again.rising; same = λ x l. alike.same x l ∙ again.same x l }

rising_drop : (n : ℕ) (ws : List ℕ) → Rising (map strike_in ws) → Rising (map strike_in (drop n ws))
rising_drop zero ws r = r
rising_drop (suc n) [] r = r
rising_drop (suc n) (w ∷ []) r = rising_drop n [] tt
rising_drop (suc n) (w ∷ v ∷ ws) r = rising_drop n (v ∷ ws) r.1

-- where what stands too far below h is left out
pub alike_above : (s : Setting) (ws : List ℕ) (low h : ℕ) → Rising (map strike_in ws) → low + reach_of s ≤ h →
    Alike s ws (strikes_from ws low) h
alike_above s ws low h rising l =
    record {
      rising = rising_drop (strikes_below ws low) ws rising;
      same = λ x k. sym (words_permitted (between x k)) ∙ rw whole;
    }
  where
    whole : take (length ws - strikes_below ws low) (strikes_from ws low) ≡ strikes_from ws low
    whole =
        take_all (length ws - strikes_below ws low) (strikes_from ws low)
        (omega (arith, length-drop (strikes_below ws low) ws))

    between : (x : ℕ) → h ≤ x → Between s x ws (strikes_below ws low) (length ws)
    between x k =
        record {
          order = below_within ws low;
          below = λ i m. omega (arith, below_each ws low i m);
          above = λ i m n. absurd (omega arith);
        }

-- ---- by the next standing strike

-- an open strike is permitted where it is beyond reach
pub open_permitted : {s : Setting} {h : ℕ} (ws : List ℕ) → Triable s ws h → is_open_strike s h ≡ true →
    h + reach_of s < next_strike ws → is_permitted_beside s (map standing_of ws) h ≡ true
open_permitted [] t is_open beyond = is_open
open_permitted {s} {h} (w ∷ ws) t is_open beyond = sym (words_permitted between) ∙ is_open
  where
    between : Between s h (w ∷ ws) 0 0
    between =
        record {
          order = omega arith;
          below = λ i l. absurd (omega arith);
          above = λ i l k. omega (arith, rising_at strike_in 0 (w ∷ ws) t.rising 0 i l k);
        }

pub standing_refused : {s : Setting} {h : ℕ} (ws : List ℕ) → Triable s ws h → next_strike ws ≡ h →
    is_permitted_beside s (map standing_of ws) h ≡ false
standing_refused [] t e = absurd (omega (arith, t.judged.strike))
standing_refused {h = h} (w ∷ ws) t e = rw (eq-eqb (strike_in w) h e)
