-- A word taken out of others and put up before those that are written, over words that are zero: by the parts of the
-- list. Assumes nothing.
use Prim.Native.Nat.{ℕ, zero, suc, ◌+◌, ◌-◌}
use mathlib.Core.Path.{◌≡◌, refl, sym, ap, ◌∙◌}
use mathlib.Core.Bool.{Bool, true, false, cond}
use mathlib.Core.List.{List, ◌∷◌, ◌++◌, append_assoc}
use native.Mathlib.Omega.{arith}
use lib.ListN.{length, set, replicate, length-append, length-replicate}
use lib.Seq.{set_at, get_or_at}
use Rattle.review.specs.StepStates.{lifted}

zeros_end : (g : ℕ) (q : List ℕ) → replicate (suc g) 0 ++ q ≡ replicate g 0 ++ (0 ∷ q)
zeros_end zero q = refl
zeros_end (suc g) q = ap (λ (l : List ℕ). 0 ∷ l) (zeros_end g q)

pub lift_parts :
    (p q : List ℕ) (a g at written : ℕ) (stay : Bool) → length p ≡ at → written ≡ at + suc g
    → lifted at written stay (p ++ (a ∷ (replicate g 0 ++ q)))
    ≡ p ++ (replicate (cond {A = ℕ} stay g (suc g)) 0 ++ cond stay (a ∷ q) q)
lift_parts p q a g at written false e w = set_at p a (replicate g 0 ++ q) 0 at e
lift_parts p q a g at written true e w =
    let zeros = replicate {A = ℕ} g 0 in
    let out : set (p ++ (a ∷ (zeros ++ q))) at 0 ≡ (p ++ zeros) ++ (0 ∷ q) =
    set_at p a (zeros ++ q) 0 at e
    ∙ ap (λ (l : List ℕ). p ++ l) (zeros_end g q)
    ∙ sym (append_assoc p zeros (0 ∷ q)) in
    let long : length (p ++ zeros) ≡ written - 1 = omega (arith, length-append p zeros, length-replicate {A = ℕ} g 0) in
    (λ i. set (out i) (written - 1) (get_or_at p a (zeros ++ q) 0 at e i))
    ∙ set_at (p ++ zeros) 0 q a (written - 1) long
    ∙ append_assoc p zeros (a ∷ q)
