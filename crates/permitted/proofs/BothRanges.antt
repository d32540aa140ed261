-- The permitted strikes of the range at the low, and then those above it of the range at the high, are all of them:
-- what is below the one, or between the two, is permitted nowhere. Assumes nothing.
use mathlib.Core.Path.{◌≡◌, refl, sym, ap, ap₂, ◌∙◌}
use mathlib.Core.Bool.{Bool, false}
use mathlib.Core.List.{List, ◌++◌, map, append-nil}
use Prim.Native.Nat.{ℕ, ◌+◌, ◌-◌, ◌≤◌, ◌<◌, min, max}
use native.Mathlib.Nat.{add-sub_cancel}
use native.Mathlib.Omega.{arith}
use lib.ListN.{length, get_or, length-append}
use lib.Seq.{sets}
use Rattle.logic.specs.Lists.{only, up_from}
use Rattle.logic.proofs.Numbers.{left, left_none, left_skip, left_parts}
use Rattle.logic.proofs.Stores.{sets_append}
use Rattle.word.specs.Limits.{highest_strike}
use Rattle.rule.specs.declared.terms.Setting.{Setting}
use Rattle.rule.specs.Ends.{low_end, top_end, rungs, ReadAt, at_low, at_high}
use Rattle.rule.specs.Spacing.{standing_of}
use Rattle.rule.specs.Judgement.{is_permitted_beside, permitted}
use Rattle.rule.proofs.Bound.{low_rises, high_strike}
use Rattle.rule.proofs.Open.{closed_outside, rungs_climb, top_strike}
use Rattle.rule.proofs.Most.{permitted_short}
use Rattle.permitted.specs.declared.Range.{Range}
use Rattle.permitted.specs.declared.Listing.{Listing}
use Rattle.permitted.specs.Listing.{Listable, permitted_between, permitted_in, above, range_at, first_range, second_range, ranges_of, Climbable, Continued}
use Rattle.permitted.proofs.Listed.{closed_refused, same_between, still_listable}

-- from each height of the range at the price p on the strikes can be tried by their rungs
range_climbs : (l : Listing) {s : Setting} {p : ℕ} (least : ℕ) → l.setting ≡ s → ReadAt s p →
    Listable s l.standing.now → 1 ≤ least → l.count < max (low_end p) least →
    Climbable l (rungs s) (range_at s p least)
range_climbs l {s} {p} least e read fits some fewer =
    record {
      listable = rw e fits;
      climbs = λ h a k. rw e (rungs_climb s read h (omega arith) (omega arith) k);
      least = omega arith;
      last = high_strike s p;
      fewer = fewer;
    }

module _ (s : Setting) (ws : List ℕ) (fits : Listable s ws) where
  abbrev one : Range
  one = first_range s

  abbrev two : Range
  two = second_range s

  abbrev all : ℕ → Bool
  all h = is_permitted_beside s (map standing_of ws) h

  -- what is below the range at the low, or between the two ranges, is permitted nowhere
  below_refused : (h : ℕ) → h < low_end s.class.low → all h ≡ false
  below_refused h l =
      closed_refused s ws h
      (λ t.
      rw (closed_outside s h (λ g. omega (arith, g.low))
      (λ g. omega (arith, g.low, low_rises s.class.low s.class.high fits.order)))
      at t)

  between_refused : (h : ℕ) → one.high < h → h < low_end s.class.high → h ≤ highest_strike → all h ≡ false
  between_refused h l k most =
      closed_refused s ws h
      (λ t. rw (closed_outside s h (λ g. omega (arith, g.high most)) (λ g. omega (arith, g.low))) at t)

  -- so the permitted strikes are those of the one range and then of the other
  ranges_all :
      permitted s (map standing_of ws)
      ≡ permitted_between s ws one.low one.high ++ permitted_between s ws two.low two.high
  ranges_all =
      permitted_short s (map standing_of ws)
      ∙ ap (λ (n : ℕ). only all (up_from n 1)) (sym (add-sub_cancel (top_end s) 1))
      ∙ left_skip all end (one.low - 1) 1 (λ i l m k. below_refused i (omega arith))
      ∙ ap (left all end) (from_one (low_end s.class.low))
      ∙ left_parts all end (one.high + 1) one.low
      ∙ ap₂ ◌++◌ (ap (λ (n : ℕ). left all n one.low) (ends_at one.high two.high).0) after
    where
      end : ℕ
      end = top_end s + 1

      from_one : (n : ℕ) → 1 + (max n 1 - 1) ≡ max n 1
      from_one n = omega arith

      ends_at : (a b : ℕ) → (min (max a b + 1) (a + 1) ≡ a + 1) × (min (max a b + 1) (b + 1) ≡ b + 1)
      ends_at a b = omega arith

      up_to : (m n : ℕ) → m ≤ n → m + (n - m) ≡ n
      up_to m n l = omega arith

      after : left all end (above one) ≡ permitted_between s ws two.low two.high
      after =
          left_skip all end (two.low - above one) (above one)
          (λ i l m k. between_refused i (omega arith) (omega arith) (omega (arith, top_strike s)))
          ∙ ap (left all end) (up_to (above one) two.low (omega arith))
          ∙ left_parts all end (two.high + 1) two.low
          ∙ ap₂ ◌++◌ (ap (λ (n : ℕ). left all n two.low) (ends_at one.high two.high).1)
          (left_none all end (above two) (omega arith))
          ∙ append-nil _

-- ---- the two turns

-- so many of the two ranges are listed
pub data Turned (l : Listing) : ℕ → Listing → Type 0 where
  none_listed : Turned l 0 l
  first_listed : {l' : Listing} → Continued l (first_range l.setting) l' → Turned l 1 l'
  both_listed :
      {l' l'' : Listing} → Continued l (first_range l.setting) l' → Continued l' (second_range l.setting) l'' →
      Turned l 2 l''

abbrev no_range : Range
no_range = record { low = 0; high = 0 }

module _ (l : Listing) (none : l.count ≡ 0) (fits : Listable l.setting l.standing.now) where
  -- beside words that permit the same above the first range
  second_same : {l' : Listing} → Continued l (first_range l.setting) l' →
      permitted_in l' (second_range l.setting) ≡ permitted_in l (second_range l.setting)
  second_same c = rw c.setting (sym (same_between c.alike _ _ (omega arith)))

  pub turned_climbs : {i : ℕ} {l' : Listing} → Turned l i l' → i < 2 →
      Climbable l' (rungs l.setting) (get_or (ranges_of l.setting) i no_range)
  turned_climbs none_listed k = range_climbs l 1 refl at_low fits (omega arith) (omega arith)
  turned_climbs (first_listed {l'} c) k =
      range_climbs l' (above (first_range l.setting)) c.setting at_high (still_listable fits c.alike.rising)
      (omega arith) (omega (arith, c.fewer))
  turned_climbs (both_listed c d) k = absurd (omega arith)

  pub turned_next : {i : ℕ} {l' l'' : Listing} → Turned l i l' → i < 2 →
      Continued l' (get_or (ranges_of l.setting) i no_range) l'' → Turned l (i + 1) l''
  turned_next none_listed k d = first_listed d
  turned_next (first_listed c) k d = both_listed c d
  turned_next (both_listed c e) k d = absurd (omega arith)

  pub turned_place : {i : ℕ} {l' : Listing} → Turned l i l' → l.out.ghost_name ≡ l'.out.ghost_name
  turned_place none_listed = refl
  turned_place (first_listed c) = sym c.place
  turned_place (both_listed c d) = sym (d.place ∙ c.place)

  pub turned_all : {i : ℕ} {l' : Listing} → Turned l i l' → 2 ≤ i →
      (l'.count ≡ length (permitted l.setting (map standing_of l.standing.now)))
      × (l'.out.now ≡ sets l.out.now 0 (permitted l.setting (map standing_of l.standing.now)))
  turned_all none_listed k = absurd (omega arith)
  turned_all (first_listed c) k = absurd (omega arith)
  turned_all (both_listed {l'} {l''} c d) k =
      let low : List ℕ = permitted_in l (first_range l.setting) in
      let high : List ℕ = permitted_in l (second_range l.setting) in
      let count : l''.count ≡ l'.count + length high = rw (second_same c) at d.count in
      let out : l''.out.now ≡ sets l'.out.now l'.count high = rw (second_same c) at d.out in
      rw (ranges_all l.setting l.standing.now fits) (
        omega (arith, count, c.count, none, length-append low high),
        out
            ∙ ap₂ (λ (o : List ℕ) (n : ℕ). sets o n high) (rw none at c.out) (rw none at c.count)
            ∙ sym (sets_append l.out.now 0 low high),
      )
