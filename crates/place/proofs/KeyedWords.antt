-- The tests of a search on words and on packed words: by the kind of a word, its lowest field and its grade. Assumes
-- nothing.
use Prim.Native.Nat.{ℕ, ◌^◌, ◌≤◌, ◌<◌}
use mathlib.Core.Path.{◌≡◌, refl, sym, ap, ◌∙◌}
use mathlib.Core.Bool.{Bool, true, false, cond, ◌&&◌, ◌||◌}
use mathlib.Core.List.{List, [], ◌∷◌}
use native.Mathlib.Omega.{arith}
use lib.ListN.{take, drop}
use lib.Dec.{T, eqb, leb, ltb, leb→le}
use borrow.Author.Tests.{eqb-true, eqb-false, leb-true, leb-false, ltb-true, ltb-false, le-leb, lt-leb}
use Rattle.word.specs.declared.kind.Kind.{Kind}
use Rattle.word.specs.Codec.{Word, Head, Class, Close, Volume, Expiration, Strike, DayPrice, Counter, Invalid, is_legal, packed, Fits}
use Rattle.word.specs.Kinds.{kind_field, kind_of, key_of, is_of_kind, grade_at, grade_of, head_kind, class_kind, close_kind, volume_kind, expiration_kind, strike_kind, day_price_kind, counter_kind}
use Rattle.word.proofs.Fields.{field_less}
use Rattle.word.proofs.Words.{class_fields, legal_fits, kind_in, kind_packed}
use Rattle.logic.specs.Lists.{every, first_at}
use Rattle.logic.proofs.Tests.{ands}
use Rattle.logic.proofs.Slices.{every_part}
use Rattle.place.specs.Search.{is_no_lower, is_up_to, is_from}

-- where no word is of a lower kind, one up to the key is of the kind and from the key on
module _ (kind : Kind) (key : ℕ) (small : key < 2 ^ kind_field.low) where
  up_to_from : (w : ℕ) → T (is_no_lower kind w) → is_up_to kind key w ≡ is_from kind key w
  up_to_from w t = go (is_of_kind kind w) refl (leb key (key_of kind w)) refl (leb→le kind.number (kind_of w) t)
    where
      go :
          (a : Bool) → is_of_kind kind w ≡ a → (b : Bool) → leb key (key_of kind w) ≡ b → kind.number ≤ kind_of w
          → is_up_to kind key w ≡ (a && b)
      go true d true e l =
          le-leb (grade_of kind w) (grade_at kind key)
          (omega (arith, eqb-true (kind_of w) kind.number d, leb-true key (key_of kind w) e))
      go true d false e l =
          lt-leb (grade_of kind w) (grade_at kind key)
          (omega (arith, eqb-true (kind_of w) kind.number d, leb-false key (key_of kind w) e))
      go false d b e l =
          lt-leb (grade_of kind w) (grade_at kind key) (omega (arith, eqb-false (kind_of w) kind.number d))

  pub first_from :
      (ws : List ℕ) → T (every (is_no_lower kind) ws) → first_at (is_up_to kind key) ws ≡ first_at (is_from kind key) ws
  first_from [] t = refl
  first_from (w ∷ ws) t = rw (up_to_from w (search ands), first_from ws (search ands))

  -- .. in a part of the words
  pub part_from :
      (ws : List ℕ) (n i : ℕ) → T (every (is_no_lower kind) ws)
      → first_at (is_up_to kind key) (take n (drop i ws)) ≡ first_at (is_from kind key) (take n (drop i ws))
  part_from ws n i t = first_from (take n (drop i ws)) (every_part (is_no_lower kind) ws n i t)

-- the lowest field
abbrev pub key_in : Word → ℕ
key_in (Head now used) = now
key_in (Class number ds) = number
key_in (Close price) = price
key_in (Volume contracts) = contracts
key_in (Expiration month) = month
key_in (Strike h on_ground put call) = h
key_in (DayPrice price) = price
key_in (Counter own strikes) = own
key_in Invalid = 0

-- the width of the key of a word of the kind of this number, and that kind
abbrev width_of : ℕ → ℕ
width_of n =
    cond {A = ℕ} (eqb n head_kind.number) head_kind.width
    (cond {A = ℕ} (eqb n class_kind.number) class_kind.width
    (cond {A = ℕ} (eqb n close_kind.number) close_kind.width
    (cond {A = ℕ} (eqb n volume_kind.number) volume_kind.width
    (cond {A = ℕ} (eqb n expiration_kind.number) expiration_kind.width
    (cond {A = ℕ} (eqb n day_price_kind.number) day_price_kind.width
    (cond {A = ℕ} (eqb n counter_kind.number) counter_kind.width strike_kind.width))))))

abbrev pub kind_numbered : ℕ → Kind
kind_numbered n = record { number = n; width = width_of n }

key_packed : (x : Word) → Fits x → key_of (kind_numbered (kind_in x)) (packed x) ≡ key_in x
key_packed (Head now used) fits = omega arith
key_packed (Class number ds) fits = (class_fields (packed (Class number ds)) number ds fits refl).0
key_packed (Close price) fits = omega arith
key_packed (Volume contracts) fits = omega arith
key_packed (Expiration month) fits = omega arith
key_packed (Strike h on_ground put call) fits = omega arith
key_packed (DayPrice price) fits = omega arith
key_packed (Counter own strikes) fits = omega arith
key_packed Invalid fits = omega arith

-- a word of the kind whose lowest field holds at least the key
abbrev pub is_keyed : ℕ → ℕ → Word → Bool
is_keyed kind key x = eqb (kind_in x) kind && leb key (key_in x)

pub key_said :
    (kind : ℕ) (x : Word) → is_legal x ≡ true → kind_in x ≡ kind → key_of (kind_numbered kind) (packed x) ≡ key_in x
key_said kind x legal e =
    ap (λ (k : ℕ). key_of (kind_numbered k) (packed x)) (sym e) ∙ key_packed x (legal_fits x legal)

pub from_packed :
    (kind key : ℕ) (x : Word) → is_legal x ≡ true
    → is_from (kind_numbered kind) key (packed x) ≡ is_keyed kind key x
from_packed kind key x legal =
    ap (λ (k : ℕ). eqb k kind && leb key (key_of (kind_numbered kind) (packed x)))
    (kind_packed x (packed x) (legal_fits x legal) refl)
    ∙ go (eqb (kind_in x) kind) refl
  where
    go :
        (b : Bool) → eqb (kind_in x) kind ≡ b
        → (b && leb key (key_of (kind_numbered kind) (packed x))) ≡ (b && leb key (key_in x))
    go true e = ap (leb key) (key_said kind x legal (eqb-true (kind_in x) kind e))
    go false e = refl

-- a word of a lower kind, or of the kind and with at least the key
abbrev pub is_ending : ℕ → ℕ → Word → Bool
is_ending kind key x = ltb (kind_in x) kind || is_keyed kind key x

-- a grade by the number of the kind
abbrev grade : ℕ → ℕ → ℕ
grade n key = grade_at (kind_numbered n) key

module _ (kind key : ℕ) (small : key < 2 ^ kind_field.low) where
  ending_by :
      (k v f n : ℕ) → k ≡ n → (n ≡ kind → f ≡ v) → f < 2 ^ kind_field.low
      → leb (grade k f) (grade kind key) ≡ (ltb n kind || (eqb n kind && leb key v))
  ending_by k v f n e d l = go (ltb n kind) refl (eqb n kind) refl (leb key v) refl
    where
      go :
          (a : Bool) → ltb n kind ≡ a → (b : Bool) → eqb n kind ≡ b → (c : Bool) → leb key v ≡ c
          → leb (grade k f) (grade kind key) ≡ (a || (b && c))
      go true x b y c z = le-leb (grade k f) (grade kind key) (omega (arith, ltb-true n kind x))
      go false x true y true z =
          le-leb (grade k f) (grade kind key)
          (omega (arith, eqb-true n kind y, d (eqb-true n kind y), leb-true key v z))
      go false x true y false z =
          lt-leb (grade k f) (grade kind key)
          (omega (arith, eqb-true n kind y, d (eqb-true n kind y), leb-false key v z))
      go false x false y c z =
          lt-leb (grade k f) (grade kind key)
          (omega (arith, eqb-false n kind y, ltb-false n kind x))

-- .. so that a search up to a key in packed words is one in the words
pub up_to_packed :
    (kind key : ℕ) → key < 2 ^ kind_field.low → width_of kind ≤ kind_field.low → (x : Word) → is_legal x ≡ true
    → is_up_to (kind_numbered kind) key (packed x) ≡ is_ending kind key x
up_to_packed kind key small narrow x legal =
    ending_by kind key small (kind_of (packed x)) (key_in x) (key_of (kind_numbered kind) (packed x)) (kind_in x)
    (kind_packed x (packed x) (legal_fits x legal) refl) (λ e. key_said kind x legal e)
    (field_less (packed x) (record { low = 0; width = width_of kind }) kind_field.low narrow)
