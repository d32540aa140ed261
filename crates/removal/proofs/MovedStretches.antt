-- A stretch of words moved down stands after what was before it: by the library's laws of a copy within a list. Assumes
-- nothing.
use Prim.Native.Nat.{ℕ, ◌+◌, ◌-◌, ◌≤◌}
use mathlib.Core.Path.{◌≡◌, refl, ap, ◌∙◌}
use mathlib.Core.List.{List, ◌++◌}
use native.Mathlib.Omega.{arith}
use lib.ListN.{length, take, drop, length-drop}
use lib.Seq.{take-add}
use Rattle.std.specs.List.{copy_within}
use Rattle.std.proofs.lemmas.List.Edits.{take-paste, drop-paste}
use Rattle.logic.proofs.Slices.{drop_later}
use Rattle.removal.specs.Expiry.{MovedTo}

module _ (to from end : ℕ) (xs : List ℕ) (low : to ≤ from) (high : from ≤ end) where
  pub moved_nowhere : from ≤ to → MovedTo to from end xs xs
  moved_nowhere same =
      record {
        front =
            take-add to (end - from) xs
            ∙ ap (λ (k : ℕ). take to xs ++ take (end - from) (drop k xs)) (omega arith);
        past = refl;
      }

  pub moved_down_lem :
      end ≤ length xs → (ys : List ℕ) → ys ≡ copy_within xs from end to → MovedTo to from end xs ys
  moved_down_lem inside ys e =
      record {
        front =
            ap (take (to + (end - from))) e
            ∙ take-paste xs to (drop from xs) (end - from) (omega arith) (omega (arith, length-drop from xs));
        past =
            drop_later _ end _ xs (omega arith)
            (ap (drop (to + (end - from))) e
            ∙ drop-paste xs to (drop from xs) (end - from) (omega arith) (omega (arith, length-drop from xs)));
      }
