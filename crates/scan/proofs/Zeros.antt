-- Words are all zero exactly where they are a run of zeros: by induction on them; and by their bits together. Assumes
-- nothing.
use Prim.Native.Nat.{ℕ, zero, suc, ◌+◌, ◌≤◌, ◌<◌}
use mathlib.Core.Path.{◌≡◌, refl, sym}
use mathlib.Core.Bool.{◌&&◌, and_assoc, and-true}
use mathlib.Core.List.{List, [], ◌∷◌}
use native.Mathlib.Numerals.{add-one}
use lib.ListN.{length, drop, get_or, replicate, drop_of_length-le}
use lib.Seq.{drop-cons}
use lib.Bits.{bit_or}
use lib.Dec.{T, eqb, eqb→eq}
use Rattle.scan.specs.Stretches.{is_zero}
use Rattle.logic.specs.Lists.{every}
use Rattle.logic.proofs.Tests.{ands}
use Rattle.word.proofs.Digits.{or_zero}

pub zeros_replicate : (k : ℕ) → T (every is_zero (replicate k 0))
zeros_replicate zero = tt
zeros_replicate (suc k) = zeros_replicate k

pub replicate_zeros : (ws : List ℕ) → T (every is_zero ws) → replicate (length ws) 0 ≡ ws
replicate_zeros [] t = refl
replicate_zeros (w ∷ ws) t = λ i. sym (eqb→eq w 0 (search ands)) i ∷ replicate_zeros ws (search ands) i

-- the words before i have the bits of `all`
module _ (all i : ℕ) (ws : List ℕ) where
  pub zeros_more :
      i < length ws
      → (eqb all 0 && every is_zero (drop i ws))
      ≡ (eqb (bit_or all (get_or ws i 0)) 0 && every is_zero (drop (i + 1) ws))
  zeros_more l =
      rw (add-one, drop-cons ws i 0 l, or_zero all (get_or ws i 0))
      (sym (and_assoc (eqb all 0) (eqb (get_or ws i 0) 0) (every is_zero (drop (suc i) ws))))

  pub zeros_done : length ws ≤ i → (eqb all 0 && every is_zero (drop i ws)) ≡ eqb all 0
  zeros_done l = rw (drop_of_length-le ws l) (and-true (eqb all 0))
