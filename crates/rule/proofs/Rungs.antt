-- What holds of the rung at a height is shown rung by rung, and the rung is the same for all strikes up to its end.
-- Assumes nothing.
use mathlib.Core.Path.{◌≡◌, refl, sym, ap, ◌∙◌}
use mathlib.Core.Bool.{Bool, true, false, cond}
use mathlib.Core.List.{List, [], ◌∷◌}
use Prim.Native.Nat.{ℕ, suc, ◌+◌, ◌≤◌, ◌<◌, ◌%◌, min}
use native.Mathlib.Omega.{arith}
use native.Mathlib.Numerals.{add-one}
use lib.Dec.{leb, ltb}
use lib.ListN.{length, get_or, drop, drop_of_length-le, length-drop}
use lib.Seq.{drop-cons}
use borrow.Author.Tests.{leb-true, leb-false, ltb-true, ltb-false, le-leb, lt-leb}
use Rattle.rule.specs.declared.bounds.Rung.{Rung}
use Rattle.rule.specs.Ends.{rung_at}

-- h is a multiple of the step at its height
abbrev pub On : List Rung → ℕ → Type 0
On rs h = h % (rung_at rs h).step ≡ 0

infixr 20 ◌▹◌
-- a row, and those after it
abbrev pub ◌▹◌ : {A B : Type 0} → A → B → A × B
◌▹◌ a b = (a, b)

-- P of each rung where it is the one at the height h: a row for each, which may use that those before it end below h,
-- `past`
abbrev pub EachRung : (Rung → Type 0) → Type 0 → List Rung → ℕ → Type 0
EachRung P past [] h = past → P (rung_at [] h)
EachRung P past (r ∷ []) h = past → P r
EachRung P past (r ∷ q ∷ rs) h = (past → h ≤ r.to → P r) × EachRung P (past × (r.to < h)) (q ∷ rs) h

past_rungs : (P : Rung → Type 0) (past : Type 0) (rs : List Rung) (h : ℕ) → past → EachRung P past rs h →
    P (rung_at rs h)
past_rungs P past [] h before each = each before
past_rungs P past (r ∷ []) h before each = each before
past_rungs P past (r ∷ q ∷ rs) h before each =
    go (leb h r.to) refl (λ l. past_rungs P (past × (r.to < h)) (q ∷ rs) h (before, l) each.1)
  where
    go : (t : Bool) → leb h r.to ≡ t → (r.to < h → P (rung_at (q ∷ rs) h)) →
        P (cond {A = Rung} t r (rung_at (q ∷ rs) h))
    go true e rest = each.0 before (leb-true h r.to e)
    go false e rest = rest (leb-false h r.to e)

pub at_rung : (P : Rung → Type 0) (rs : List Rung) (h : ℕ) → EachRung P (Unit {0}) rs h → P (rung_at rs h)
at_rung P rs h each = past_rungs P (Unit {0}) rs h tt each

pub same_rung : (rs : List Rung) (h x : ℕ) → h ≤ x → x ≤ (rung_at rs h).to → rung_at rs x ≡ rung_at rs h
same_rung [] h x l k = ap (λ (n : ℕ). rung_at [] n) (omega arith)
same_rung (r ∷ []) h x l k = refl
same_rung (r ∷ q ∷ rs) h x l k = go (leb h r.to) refl (same_rung (q ∷ rs) h x l) k
  where
    go : (t : Bool) → leb h r.to ≡ t → (x ≤ (rung_at (q ∷ rs) h).to → rung_at (q ∷ rs) x ≡ rung_at (q ∷ rs) h) →
        x ≤ (cond {A = Rung} t r (rung_at (q ∷ rs) h)).to →
        rung_at (r ∷ q ∷ rs) x ≡ cond {A = Rung} t r (rung_at (q ∷ rs) h)
    go true e past k = rw (le-leb x r.to k)
    go false e past k =
        let far : r.to < h = leb-false h r.to e in
        rw (lt-leb x r.to (omega arith)) (past k)

-- ---- a walk along the rungs

abbrev pub none : Rung
none = record { to = 0; step = 0; all = false }

here : (r : Rung) (rs : List Rung) (x : ℕ) → x ≤ r.to → rung_at (r ∷ rs) x ≡ r
here r [] x l = refl
here r (q ∷ rs) x l = rw (le-leb x r.to l)

past : (r : Rung) (rs : List Rung) (x : ℕ) → r.to < x → 0 < length rs → rung_at (r ∷ rs) x ≡ rung_at rs x
past r [] x l some = absurd (omega arith)
past r (q ∷ rs) x l some = rw (lt-leb x r.to l)

-- from `low` to `high` the rungs are those from the index i on
pub record Climbed (rs : List Rung) (high low i : ℕ) : Type 0 where
  pub within : low ≤ high → i < length rs
  pub same : (x : ℕ) → low ≤ x → x ≤ high → rung_at rs x ≡ rung_at (drop i rs) x

pub climbed_none : (rs : List Rung) (high low : ℕ) → 0 < length rs → Climbed rs high low 0
climbed_none rs high low l = record { within = λ k. l; same = λ x k m. refl }

module _ {rs : List Rung} {high low i : ℕ} (c : Climbed rs high low i) where
  abbrev r : Rung
  r = get_or rs i none

  at_index : (x : ℕ) → low ≤ x → x ≤ high → rung_at rs x ≡ rung_at (r ∷ drop (suc i) rs) x
  at_index x l k = c.same x l k ∙ rw (drop-cons rs i none (c.within (omega arith)))

  pub climbed_here : low ≤ high → low ≤ r.to → r ≡ rung_at rs low
  climbed_here l k = sym (at_index low (omega arith) l ∙ here r (drop (suc i) rs) low k)

  -- it goes on past the rung's end, where a rung is left that reaches there
  pub climbed_next : ((x : ℕ) → low ≤ x → x ≤ high → x ≤ (rung_at rs x).to) → {next : ℕ} → low ≤ next →
      min r.to high < next → Climbed rs high next (i + 1)
  climbed_next reaches {next} l k =
      record {
        within = λ m. more next (omega arith) m;
        same = λ x a m.
            at_index x (omega arith) m ∙ past r (drop (suc i) rs) x (omega arith) (left x a m) ∙ rw add-one;
      }
    where
      more : (x : ℕ) → next ≤ x → x ≤ high → i + 1 < length rs
      more x a m = go (ltb (i + 1) (length rs)) refl
        where
          go : (t : Bool) → ltb (i + 1) (length rs) ≡ t → i + 1 < length rs
          go true e = ltb-true (i + 1) (length rs) e
          go false e =
              let last : drop (suc i) rs ≡ [] =
              drop_of_length-le rs {i = suc i} (omega (arith, ltb-false (i + 1) (length rs) e)) in
              let only : rung_at rs x ≡ r = at_index x (omega arith) m ∙ rw last in
              let far : x ≤ r.to = rw only at (reaches x (omega arith) m) in
              absurd (omega arith)

      left : (x : ℕ) → next ≤ x → x ≤ high → 0 < length (drop (suc i) rs)
      left x a m = omega (arith, length-drop (suc i) rs, more x a m)

pub climbed_done : {rs : List Rung} {high low i : ℕ} → Climbed rs high low i → length rs ≤ i → high < low
climbed_done {high = high} {low = low} c l = go (leb low high) refl
  where
    go : (t : Bool) → leb low high ≡ t → high < low
    go true e = absurd (omega (arith, c.within (leb-true low high e)))
    go false e = leb-false low high e
