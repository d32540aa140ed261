-- What a word says by its kind, unchecked, and what follows of a choice by kind: by cases on the tests. Assumes
-- nothing.
use Prim.Native.Nat.{ℕ}
use mathlib.Core.Path.{◌≡◌, refl, ap}
use lib.Dec.{T, eqb}
use borrow.Author.Tests.{ne_eqb}
use Rattle.word.specs.Kinds.{kind_of, head_kind, class_kind, close_kind, volume_kind, expiration_kind, strike_kind, day_price_kind, counter_kind}
use Rattle.word.specs.Codec.{Word, is_legal, packed, fields_as}
use Rattle.word.proofs.Words.{fields_packed}
use Rattle.word.proofs.RawWords.{fits}
use Rattle.review.specs.Marks.{said, by_kind}
use Rattle.logic.proofs.Tests.{choose}

pub said_is : (w k : ℕ) → kind_of w ≡ k → said w ≡ fields_as k w
unfolding said
said_is w k e = ap (λ (i : ℕ). fields_as i w) e

-- in a book a word says what was packed
pub said_packed : (x : Word) → T (is_legal x) → said (packed x) ≡ x
unfolding said
said_packed x legal = fields_packed x (fits x legal)

-- a word that is no strike
pub by_other :
    {A : Type 0} (strike : (h on_ground put call : ℕ) → A) (other : A) (w : ℕ) → (kind_of w ≡ strike_kind.number → ⊥)
    → by_kind strike other (said w) ≡ other
unfolding said
by_other {A} strike other w n =
    let k = kind_of w in
    let P : Word → Type 0 = λ x. by_kind strike other x ≡ other in
    rw (ne_eqb k strike_kind.number n)
    (choose P (eqb k head_kind.number) _ _ (λ t. refl)
    (λ t. choose P (eqb k class_kind.number) _ _ (λ t. refl)
    (λ t. choose P (eqb k close_kind.number) _ _ (λ t. refl)
    (λ t. choose P (eqb k volume_kind.number) _ _ (λ t. refl)
    (λ t. choose P (eqb k expiration_kind.number) _ _ (λ t. refl)
    (λ t. choose P (eqb k day_price_kind.number) _ _ (λ t. refl)
    (λ t. choose P (eqb k counter_kind.number) _ _ (λ t. refl) (λ t. refl))))))))
