-- Multiples of a number, by division with a remainder. Assumes nothing.
use Prim.Native.Nat.{ℕ, ◌+◌, ◌-◌, ◌*◌, ◌/◌, ◌%◌, ◌<◌}
use mathlib.Core.Path.{◌≡◌, ap, ◌∙◌}
use native.Mathlib.Nat.{mul-mod_right, mul-add-mod_self_left, div-add-mod, mod-eq_of_lt}
use native.Mathlib.Omega.{arith}

pub times : (n h q : ℕ) → h ≡ n * q → h % n ≡ 0
times n h q e = rw (e, mul-mod_right)

-- none stands between two that follow each other
pub between_multiples : (n h i : ℕ) → h % n ≡ 0 → i % n ≡ 0 → h < i → i < h + n → ⊥
between_multiples n h i a b l m =
    let e : i ≡ n * (h / n) + (i - h) = omega (arith, div-add-mod h n) in
    let d : i % n ≡ i - h =
    ap (λ (k : ℕ). k % n) e ∙ mul-add-mod_self_left n (h / n) (i - h) ∙ mod-eq_of_lt (omega arith) in
    omega arith
