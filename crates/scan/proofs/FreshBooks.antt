-- Making a fresh book: a bad length is refused, and zeros with the head and the counters of no class are the layout of
-- a fresh book. Assumes nothing.
use Prim.Native.Nat.{ℕ, zero, suc, ◌-◌}
use mathlib.Core.Path.{◌≡◌, ap}
use mathlib.Core.Bool.{true}
use mathlib.Core.List.{List, ◌∷◌}
use native.Mathlib.Omega.{arith}
use lib.ListN.{length, set, replicate}
use lib.Dec.{T}
use Rattle.std.specs.Prelude.{Ok}
use Rattle.word.specs.Head.{first_place, with_counter}
use Rattle.word.specs.declared.answer.Accepted.TheVariants.{Done}
use Rattle.word.specs.Codec.{Head, Counter, packed}
use Rattle.word.specs.Limits.{is_length}
use Rattle.book.specs.Facts.{fresh}
use Rattle.book.specs.Layout.{layout}
use Rattle.logic.proofs.Tests.{true_T}
use Rattle.book.specs.Made.{Begun}

-- zeros with the head and the counters of no class
abbrev freshened : List ℕ → List ℕ
freshened zeros =
    with_counter 3 0 0 (with_counter 2 0 0 (with_counter 1 0 0 (set zeros 0 (packed (Head 0 first_place)))))

fresh_layout : (n : ℕ) → T (is_length n) → freshened (replicate n 0) ≡ layout n fresh
unfolding layout
fresh_layout zero long = absurd long
fresh_layout (suc zero) long = absurd long
fresh_layout (suc (suc zero)) long = absurd long
fresh_layout (suc (suc (suc zero))) long = absurd long
fresh_layout (suc (suc (suc (suc n)))) long =
    let rest : n ≡ suc (suc (suc (suc n))) - first_place = omega arith in
    let none = packed (Counter 0 0) in
    ap (λ (k : ℕ). packed (Head 0 first_place) ∷ none ∷ none ∷ none ∷ replicate k 0) rest

module _ (ws : List ℕ) where
  -- zeros, the head and the counters are written one after the other
  pub begun :
      {zeros headed one two three : List ℕ} → is_length (length ws) ≡ true → zeros ≡ replicate (length ws) 0
      → headed ≡ set zeros 0 (packed (Head 0 first_place)) → one ≡ with_counter 1 0 0 headed
      → two ≡ with_counter 2 0 0 one → three ≡ with_counter 3 0 0 two → Begun ws (Ok Done) three
  begun t z h e f g =
      record {
        answer = rw t;
        words = rw (t, g, f, e, h, z) (fresh_layout (length ws) (true_T (is_length (length ws)) t));
      }
