-- Next strikes rise, and are the strikes above the one before them where they are at most the highest: by the parts of
-- their tests, and by induction on the words. Assumes nothing.
use Prim.Native.Nat.{ℕ, suc, ◌+◌, ◌≤◌, ◌<◌}
use mathlib.Core.Path.{◌≡◌, refl, sym}
use mathlib.Core.Bool.{Bool, true, false, cond}
use mathlib.Core.List.{List, [], ◌∷◌}
use native.Mathlib.Omega.{arith}
use lib.ListN.{get_or}
use lib.Dec.{T, leb, ltb, ltb→lt, lt→ltb, le→leb}
use Rattle.word.specs.Limits.{highest_strike}
use Rattle.word.specs.Field.{end}
use Rattle.word.specs.Kinds.{key_of, strike_kind, call_field}
use Rattle.word.specs.Strikes.{signed, order_of, unmarked, lowest_word, highest_word, is_strike_word, is_next_strike, is_first_strike}
use Rattle.word.proofs.RawWords.{IsStrike, bare, is_strike_above}
use Rattle.word.proofs.StrikeOrder.{strike_order, strike_passes, passes_strike}
use Rattle.logic.proofs.Tests.{and_intro, ands, true_T, refuted}
use Rattle.scan.specs.NextStrikes.{next_length}
use Rattle.scan.specs.Stretches.{are_strikes}

-- the last of the next strikes, or the word before them where there is none
abbrev pub last_next : ℕ → List ℕ → ℕ
last_next before ws = get_or (before ∷ ws) (next_length before ws) 0

-- there are next strikes, and they are strikes of a book
abbrev pub HasStrikes : ℕ → List ℕ → Type 0
HasStrikes before ws = (1 ≤ next_length before ws) × T (are_strikes (get_or ws 0 0) (last_next before ws))

module _ (before w : ℕ) (t : T (is_next_strike before w)) where
  -- after a strike it is one, and so it is where it comes after the lowest
  pub next_strike : IsStrike before → T (is_strike_word w)
  next_strike top =
      passes_strike w (search ands)
      (omega (arith, ltb→lt (order_of before) (order_of w) (search ands), strike_order before top))

  pub next_first : T (is_first_strike w) → T (is_strike_word w)
  next_first first =
      passes_strike w (search ands) (omega (arith, ltb→lt (order_of lowest_word) (order_of w) first))

  pub next_rises : IsStrike before → key_of strike_kind before < key_of strike_kind w
  next_rises top =
      let word = next_strike top in
      omega (
        arith,
        ltb→lt (order_of before) (order_of w) (search ands),
        strike_order before top,
        strike_order w (bare strike_kind (end call_field) w (search ands)),
      )

pub next_above :
    (w : ℕ) → T (is_strike_word w) → (h : ℕ) → h < key_of strike_kind w → key_of strike_kind w ≤ highest_strike
    → T (is_strike_above h w)
next_above w t h l few =
    let a : T (ltb h (key_of strike_kind w)) = lt→ltb h (key_of strike_kind w) l in
    let b : T (leb (key_of strike_kind w) highest_strike) = le→leb (key_of strike_kind w) highest_strike few in
    search (ands, and_intro)

-- a strike above h is a next strike, where the word before comes before it
module _ (before h w : ℕ) (low : order_of before ≤ order_of lowest_word + h) where
  pub above_next : T (is_strike_above h w) → T (is_next_strike before w)
  above_next t =
      let top = bare strike_kind (end call_field) w (search ands) in
      let above = ltb→lt h (key_of strike_kind w) (search ands) in
      let word : T (is_strike_word w) = search (ands, and_intro) in
      let a : T (leb (signed (unmarked w)) (signed highest_word)) = strike_passes w word in
      let b : T (ltb (order_of before) (order_of w)) =
      lt→ltb (order_of before) (order_of w) (omega (arith, strike_order w top)) in
      search and_intro

  pub above_none : is_next_strike before w ≡ false → is_strike_above h w ≡ false
  above_none e = sym (refuted (is_strike_above h w) (λ t. rw e at (above_next t)))

-- so no strike is above the last one
pub next_rising :
    (before : ℕ) (ws : List ℕ) → IsStrike before → key_of strike_kind before ≤ key_of strike_kind (last_next before ws)
next_rising before [] top = omega arith
next_rising before (w ∷ ws) top = go (is_next_strike before w) refl (next_rising w ws)
  where
    go :
        (next : Bool) → is_next_strike before w ≡ next
        → (IsStrike w → key_of strike_kind w ≤ key_of strike_kind (last_next w ws))
        → key_of strike_kind before
        ≤ key_of strike_kind (get_or (before ∷ w ∷ ws) (cond {A = ℕ} next (suc (next_length w ws)) 0) 0)
    go true e rest =
        let t = true_T (is_next_strike before w) e in
        let word = next_strike before w t top in
        omega (arith, next_rises before w t top, rest (bare strike_kind (end call_field) w (search ands)))
    go false e rest = omega arith
