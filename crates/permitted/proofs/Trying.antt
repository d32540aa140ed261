-- The multiples that are tried, one after another from the lowest to the highest: no strike between them is open, so
-- that what is written are the permitted ones. Assumes nothing.
use mathlib.Core.Path.{◌≡◌, refl, sym, ap, ◌∙◌}
use mathlib.Core.Bool.{Bool, true, false, cond}
use mathlib.Core.List.{List, ◌∷◌, map}
use Prim.Native.Nat.{ℕ, suc, ◌+◌, ◌-◌, ◌%◌, ◌≤◌, ◌<◌, min}
use native.Mathlib.Nat.{add-mod_right, mod-eq_of_lt}
use native.Mathlib.Omega.{arith}
use denote.Ref.{MutBor}
use lib.Dec.{ltb}
use borrow.Author.Tests.{ltb-true, ltb-false}
use Rattle.logic.proofs.Tests.{T_true}
use Rattle.logic.proofs.Multiples.{between_multiples}
use Rattle.logic.proofs.Numbers.{left, left_here, left_skip}
use Rattle.logic.proofs.Stores.{Filling, filling_start, filling_as, filling_one}
use Rattle.rule.specs.declared.terms.Setting.{Setting}
use Rattle.rule.specs.declared.bounds.Rung.{Rung}
use Rattle.rule.specs.Ends.{reach_of, is_open_strike}
use Rattle.rule.specs.Spacing.{standing_of}
use Rattle.rule.specs.Judgement.{is_permitted_beside}
use Rattle.permitted.specs.declared.Range.{Range}
use Rattle.permitted.specs.declared.Listing.{Listing}
use Rattle.permitted.specs.Listing.{next_strike, strikes_from, permitted_in, above, Triable, Written, Continuable}
use Rattle.permitted.proofs.StandingStrikes.{alike_start, alike_more, alike_again, alike_above, open_permitted, standing_refused}
use Rattle.permitted.proofs.Listed.{closed_refused, Listed}

-- the multiple h is to be tried, where `next` is the next standing strike
pub record Trying (l : Listing) (r : Rung) (range : Range) (reach : ℕ) (l' : Listing) (next h : ℕ) : Type 0 where
  pub reaches : reach ≡ reach_of l.setting
  pub multiple : h % r.step ≡ 0
  pub nearest : next ≡ next_strike l'.standing.now
  pub listed : Listed l range l' h

module _ {l : Listing} {r : Rung} {range : Range} (p : Continuable l r range) where
  abbrev s : Setting
  s = l.setting

  abbrev ws : List ℕ
  ws = l.standing.now

  abbrev high : ℕ
  high = range.high

  abbrev step : ℕ
  step = r.step

  abbrev test : ℕ → Bool
  test h = is_permitted_beside s (map standing_of ws) h

  untried : (h : ℕ) → range.low ≤ h → h < high + 1 → (h % step ≡ 0 → ⊥) → test h ≡ false
  untried h a b other =
      closed_refused s ws h (λ t. other (p.multiples.among h a (omega arith) (T_true (is_open_strike s h) t)))

  pub trying_start : (reach h : ℕ) → reach ≡ reach_of s → range.low ≤ h → h < range.low + step → h % step ≡ 0 →
      Trying l r range reach l (next_strike ws) h
  trying_start reach h is least first multiple =
      let sum : range.low + (h - range.low) ≡ h = omega arith in
      record {
        reaches = is;
        multiple = multiple;
        nearest = refl;
        listed =
            record {
              least = least;
              setting = refl;
              place = refl;
              alike = alike_start s ws (min h (above range)) p.listable.rising;
              fewer = omega (arith, p.fewer);
              filling =
                  filling_start
                  (left_skip test (high + 1) (h - range.low) range.low
                  (λ i a m k. untried i a k (λ q. between_multiples step i h q multiple (omega arith) (omega arith)))
                  ∙ ap (left test (high + 1)) sum);
            };
      }

  module _ {reach : ℕ} {l' : Listing} {next h : ℕ} (t : Trying l r range reach l' next h) (within : h ≤ high) where
    pub trying_reach : reach ≤ h
    trying_reach = go (ltb h step) refl
      where
        go : (u : Bool) → ltb h step ≡ u → reach ≤ h
        go true q =
            let none : h % step ≡ h = mod-eq_of_lt (ltb-true h step q) in
            absurd (omega (arith, p.least, t.listed.least, t.multiple))
        go false q = omega (arith, t.reaches, ltb-false h step q, p.fit.reach)

    -- what stands too far below is passed
    pub trying_passed : (l'' : Listing) → l''.setting ≡ l'.setting → l''.out ≡ l'.out → l''.count ≡ l'.count →
        l''.standing.now ≡ strikes_from l'.standing.now (h - reach) →
        Trying l r range reach l'' (next_strike l''.standing.now) h
    trying_passed l'' setting out count standing =
        record {
          reaches = t.reaches;
          multiple = t.multiple;
          nearest = refl;
          listed =
              record {
                least = t.listed.least;
                setting = setting ∙ t.listed.setting;
                place = ap (λ (r : MutBor (List ℕ)). r.ghost_name) out ∙ t.listed.place;
                alike =
                    rw standing
                    (alike_again t.listed.alike
                    (alike_above s l'.standing.now (h - reach) (min h (above range)) t.listed.alike.rising
                    (omega (arith, t.reaches, trying_reach))));
                fewer = omega (arith, count, t.listed.fewer);
                filling = rw (out, count) t.listed.filling;
              };
        }

    pub trying_here : Triable l'.setting l'.standing.now h
    trying_here =
        let m = p.listable.measurable in
        rw t.listed.setting
        (record {
          judged = record { low = m.low; high = m.high; current = m.current; strike = omega (arith, p.last) };
          rising = t.listed.alike.rising;
        })

    -- ---- whether it is permitted

    pub trying_judged : {b : Bool} → b ≡ is_permitted_beside l'.setting (map standing_of l'.standing.now) h → b ≡ test h
    trying_judged e =
        e
        ∙ ap (λ (s : Setting). is_permitted_beside s (map standing_of l'.standing.now) h) t.listed.setting
        ∙ sym (t.listed.alike.same h (omega arith))

    pub trying_open : r.all ≡ true → h + reach < next → true ≡ test h
    trying_open all beyond =
        trying_judged
        (sym
        (open_permitted l'.standing.now trying_here
        (rw t.listed.setting (p.multiples.each all h t.listed.least within t.multiple))
        (rw t.listed.setting (omega (arith, t.reaches, t.nearest)))))

    pub trying_standing : next ≡ h → false ≡ test h
    trying_standing e = trying_judged (sym (standing_refused l'.standing.now trying_here (sym t.nearest ∙ e)))

    -- ---- the next one

    -- the strikes up to the next that is tried are none that is permitted
    left_turn :
        left test (high + 1) h
        ≡ cond (test h) (h ∷ left test (high + 1) (h + step)) (left test (high + 1) (h + step))
    left_turn =
        let e : suc h + (step - 1) ≡ h + step = omega (arith, p.fit.least) in
        left_here test (high + 1) h (omega arith)
        ∙ ap (λ (rest : List ℕ). cond (test h) (h ∷ rest) rest)
        (left_skip test (high + 1) (step - 1) (suc h)
        (λ i k m u.
        untried i (omega (arith, t.listed.least)) u
        (λ q. between_multiples step h i t.multiple q (omega arith) (omega arith)))
        ∙ ap (left test (high + 1)) e)

    trying_next : (l'' : Listing) → l''.setting ≡ l'.setting → l''.out.ghost_name ≡ l'.out.ghost_name →
        l''.standing.now ≡ l'.standing.now → l''.count ≤ l'.count + 1 →
        Filling (permitted_in l range) l.out.now l.count l''.out.now l''.count (left test (high + 1) (h + step)) →
        Trying l r range reach l'' next (h + step)
    trying_next l'' setting place standing count filling =
        record {
          reaches = t.reaches;
          multiple = add-mod_right h step ∙ t.multiple;
          nearest = rw standing t.nearest;
          listed =
              record {
                least = omega (arith, t.listed.least);
                setting = setting ∙ t.listed.setting;
                place = place ∙ t.listed.place;
                alike = rw standing (alike_more t.listed.alike (min (h + step) (above range)) (omega arith));
                fewer = omega (arith, t.listed.fewer, p.fit.least, count);
                filling = filling;
              };
        }

    pub trying_taken : true ≡ test h → {l'' : Listing} → Written l' h l'' → Trying l r range reach l'' next (h + step)
    trying_taken e {l''} written =
        trying_next l'' written.setting written.place written.standing (omega (arith, written.count))
        (rw (written.out, written.count) (filling_one (filling_as (left_turn ∙ rw (← e)) t.listed.filling)))

    pub trying_skipped : false ≡ test h → Trying l r range reach l' next (h + step)
    trying_skipped e =
        trying_next l' refl refl refl (omega arith) (filling_as (left_turn ∙ rw (← e)) t.listed.filling)
