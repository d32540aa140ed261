-- The loop that looks up the last strikes and the bounds of the marked ones, from the last word down: the words that
-- are left give what all give. Assumes nothing.
use Prim.Native.Nat.{ℕ, suc, ◌+◌}
use mathlib.Core.Path.{◌≡◌, sym, ap, ◌∙◌}
use mathlib.Core.List.{List, [], ◌∷◌, reverse, reverse-append}
use native.Mathlib.Omega.{arith}
use lib.ListN.{length, length-append}
use Rattle.std.specs.List.{push}
use Rattle.word.specs.Field.{field}
use Rattle.word.specs.Kinds.{kind_of, key_of, strike_kind, put_field, call_field}
use Rattle.review.specs.declared.marks.Bounds.{Bounds}
use Rattle.review.specs.declared.marks.LastStrikes.{LastStrikes}
use Rattle.review.specs.Marks.{none_marked, with_strike, bounds_in, strikes_in, EndsWith}
use Rattle.review.proofs.Said.{said_is, by_other}

-- of the words ws these are left
pub record Looking (ws : List ℕ) (b : Bounds) (rest : List ℕ) : Type 0 where
  pub count : length rest + strikes_in (reverse ws) ≡ length ws + strikes_in (reverse rest)
  pub bounds : bounds_in b (reverse rest) ≡ bounds_in none_marked (reverse ws)

abbrev found : ℕ → Bounds → LastStrikes
found i b = record { first = i; bounds = b }

module _ {ws : List ℕ} {b : Bounds} {rest : List ℕ} (L : Looking ws b rest)
    (before : List ℕ) (w : ℕ) (e : rest ≡ push before w) where
  last_first : reverse rest ≡ w ∷ reverse before
  last_first = ap (λ (l : List ℕ). reverse l) e ∙ reverse-append before (w ∷ [])

  longer : length rest ≡ suc (length before)
  longer = omega (arith, ap length e, length-append before (w ∷ []))

  pub look_more :
      {b' : Bounds} → kind_of w ≡ strike_kind.number
      → b' ≡ with_strike b (key_of strike_kind w) (field w put_field) (field w call_field) → Looking ws b' before
  look_more k eb =
      let one : strikes_in (reverse rest) ≡ suc (strikes_in (reverse before)) =
      rw (last_first, said_is w strike_kind.number k) in
      record {
        count = omega (arith, L.count, longer);
        bounds = rw eb (sym (rw (last_first, said_is w strike_kind.number k)) ∙ L.bounds);
      }

  pub look_stop : (at : ℕ) → at ≡ length before → (kind_of w ≡ strike_kind.number → ⊥) → EndsWith ws (found (at + 1) b)
  look_stop at long n =
      let none : strikes_in (reverse rest) ≡ 0 = rw last_first (by_other _ _ w n) in
      record {
        first = omega (arith, L.count, longer);
        bounds = sym (rw last_first (by_other _ _ w n)) ∙ L.bounds;
      }
