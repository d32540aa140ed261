-- The permitted strikes of a range are listed rung by rung: below the height that is reached all are. Assumes nothing.
use mathlib.Core.Path.{◌≡◌, sym, ap, ap₂, ◌∙◌}
use mathlib.Core.Bool.{Bool}
use mathlib.Core.List.{List, ◌++◌, map}
use Prim.Native.Nat.{ℕ, ◌+◌, ◌≤◌, ◌<◌, min, max}
use native.Mathlib.Omega.{arith}
use lib.ListN.{get_or}
use Rattle.logic.proofs.Numbers.{left, left_parts}
use Rattle.logic.proofs.Stores.{filling_as, filling_more}
use Rattle.rule.specs.declared.terms.Setting.{Setting}
use Rattle.rule.specs.declared.bounds.Rung.{Rung}
use Rattle.rule.specs.Ends.{Climbs}
use Rattle.rule.specs.Spacing.{standing_of}
use Rattle.rule.specs.Judgement.{is_permitted_beside}
use Rattle.rule.proofs.Rungs.{none, Climbed, climbed_here, climbed_next}
use Rattle.permitted.specs.declared.Range.{Range}
use Rattle.permitted.specs.declared.Listing.{Listing}
use Rattle.permitted.specs.Listing.{permitted_between, permitted_in, above, Continuable, Climbable, Continued}
use Rattle.permitted.proofs.StandingStrikes.{alike_more, alike_again}
use Rattle.permitted.proofs.Listed.{same_between, still_listable, Listed}

-- the rungs before i are climbed, to below h
pub record Going (l : Listing) (rs : List Rung) (range : Range) (l' : Listing) (h i : ℕ) : Type 0 where
  pub climbed : Climbed rs range.high h i
  pub most : h ≤ above range
  pub listed : Listed l range l' h

-- from h up to an end
abbrev to : ℕ → ℕ → Range
to h end = record { low = h; high = end }

module _ {l : Listing} {rs : List Rung} {range : Range} (p : Climbable l rs range) where
  abbrev s : Setting
  s = l.setting

  abbrev high : ℕ
  high = range.high

  abbrev test : ℕ → Bool
  test h = is_permitted_beside s (map standing_of l.standing.now) h

  module _ {l' : Listing} {h i : ℕ} (g : Going l rs range l' h i) where
    -- the rung r at i ends in the range at `end`
    module _ {r : Rung} {end : ℕ} (is : r ≡ get_or rs i none) (e : end ≡ min r.to high) where
      next : {n : ℕ} → h ≤ n → end < n → Climbed rs high n (i + 1)
      next a b =
          climbed_next g.climbed (λ x a m. (p.climbs x (omega (arith, g.listed.least)) m).fit.reaches) a
          (rw (← is, ← e) b)

      -- what it does not reach is left to the rungs after it
      pub going_passed : end < h → Going l rs range l' h (i + 1)
      going_passed a = record { climbed = next (omega arith) a; most = g.most; listed = g.listed }

      -- from h it can be listed up to there
      module _ (some : h ≤ end) where
        climbs : Climbs s high h r
        climbs =
            let reached : h ≤ (get_or rs i none).to = rw (← is) (omega arith) in
            rw (is ∙ climbed_here g.climbed (omega arith) reached) (p.climbs h g.listed.least (omega arith))

        pub going_can : Continuable l' r (to h end)
        going_can =
            record {
              listable = rw g.listed.setting (still_listable p.listable g.listed.alike.rising);
              multiples = rw (g.listed.setting, e) climbs.multiples;
              fit = rw g.listed.setting climbs.fit;
              least = omega (arith, p.least, g.listed.least);
              some = some;
              last = omega (arith, p.last);
              fewer = omega (arith, g.listed.fewer);
            }

        pub going_on : {l'' : Listing} → Continued l' (to h end) l'' → Going l rs range l'' (end + 1) (i + 1)
        going_on c =
            let first : min (high + 1) (end + 1) ≡ end + 1 = omega arith in
            let then : max h (end + 1) ≡ end + 1 = omega arith in
            let same : permitted_in l' (to h end) ≡ permitted_between s l.standing.now h end =
            rw g.listed.setting (sym (same_between g.listed.alike h end (omega arith))) in
            let here : ℕ = min (end + 1) (above range) in
            record {
              climbed = next (omega arith) (omega arith);
              most = omega arith;
              listed =
                  record {
                    least = omega (arith, g.listed.least);
                    setting = c.setting ∙ g.listed.setting;
                    place = c.place ∙ g.listed.place;
                    alike =
                        alike_again (alike_more g.listed.alike here (omega arith))
                        (alike_more (rw g.listed.setting at c.alike) here (omega arith));
                    fewer = omega (arith, c.fewer);
                    filling =
                        filling_more (permitted_between s l.standing.now h end) (rw same at c.count) (rw same at c.out)
                        (filling_as
                        (left_parts test (high + 1) (end + 1) h
                        ∙ ap₂ ◌++◌ (ap (λ (n : ℕ). left test n h) first) (ap (left test (high + 1)) then))
                        g.listed.filling);
                  };
            }
