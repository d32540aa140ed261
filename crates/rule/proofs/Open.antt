-- The open strikes, those that the rules accept where none stands: each is in range at the day's low or at its high and
-- a multiple of the step at its height, by one law for each ground; where the rung says so each such multiple is open,
-- by one law for each rung. Assumes nothing.
use mathlib.Core.Path.{◌≡◌, sym, ap, ◌∙◌, subst}
use mathlib.Core.Bool.{Bool, true, false, ◌&&◌, true≢false}
use mathlib.Core.Logic.{◌⊎◌, inl, inr, ⊎_elim}
use mathlib.Core.List.{List, []}
use Prim.Native.Nat.{ℕ, zero, suc, ◌+◌, ◌*◌, ◌/◌, ◌%◌, ◌≤◌, ◌<◌, min}
use native.Mathlib.Omega.{arith}
use lib.Dec.{T, ltb, eqb, eqb→eq}
use borrow.Author.Tests.{le-leb, eq-eqb}
use Rattle.word.specs.Limits.{highest_strike, cents}
use Rattle.rule.specs.declared.terms.Setting.{Setting}
use Rattle.logic.specs.Lists.{some}
use Rattle.logic.proofs.Tests.{ands, parts, and_intro, or_left, or_right, true_T, T_true, refuted, lt_or_le, eq_or_not}
use Rattle.logic.proofs.Lists.{some_cases, some_imply, some_either}
use Rattle.logic.proofs.Multiples.{times}
use Rattle.word.specs.Programs.{dollar_price}
use Rattle.rule.specs.Terms.{in_halves, is_dollar_class, is_near}
use Rattle.rule.specs.Grids.{multiple, standard_grid, dollar_grid, half_dollars, half_grid, wing_base, wing_grid, two_fifty_grid}
use Rattle.rule.specs.Grids.{one_dollar, fifty_dollars, five_fifty, grid_of, grounds}
use Rattle.rule.specs.Ranges.{range_by, standard_range, range_of, on_grid, in_range_at, in_range}
use Rattle.rule.specs.declared.bounds.Rung.{Rung}
use Rattle.rule.specs.Ends.{is_program_class, half_end, low_end, high_end, half_top, top_end, rungs, rung_at, is_open_at, is_open_strike}
use Rattle.rule.specs.Ends.{ReadAt, at_low, at_high, reach_of, Multiples, Fit, Climbs}
use Rattle.rule.specs.Ends.{last_dollar, last_two_fifty, last_five}
use Rattle.rule.specs.Spacing.{Standing}
use Rattle.word.specs.Answers.{is_accepted}
use Rattle.rule.specs.Judgement.{row_of, rows_of, passes, judgement, is_permitted_beside}
use Rattle.rule.proofs.Rows.{accepted_passes}
use Rattle.rule.proofs.Rungs.{On, ◌▹◌, at_rung, same_rung}
use Rattle.rule.proofs.Near.{reach_most}
use Rattle.rule.proofs.Steps.{standard_of, fives_standard, dollar_reached, ladder_reached, standard_on}
use Rattle.rule.proofs.Steps.{half_on, whole_on, dollar_whole, Wing, wing_stepped, Laddered, below_reached, Around, around_reached}
use Rattle.rule.proofs.Steps.{two_fifty_stepped, two_fifty_on, two_fifty_low, two_fifty_around}
use Rattle.rule.proofs.Bound.{Ranged, standard_ranged, ranged_standard, ranged_near, standard_range_grid, half_ranged}
use Rattle.rule.proofs.Bound.{high_strike, half_each, half_within, half_most, half_reach}

module _ (s : Setting) (h : ℕ) where
  -- whether the row of a ground passes
  abbrev passes_at : List Standing → ℕ → Bool
  passes_at standing g = passes (row_of s standing h g)

  -- a strike is accepted where some ground passes
  accepted : (standing : List Standing) → T (is_accepted (judgement s standing h))
      → T (some (passes_at standing) grounds)
  accepted standing t = subst T (accepted_passes (rows_of s standing h)) t

  opened : T (some (passes_at []) grounds) → T (is_open_strike s h)
  opened t = subst T (sym (accepted_passes (rows_of s [] h))) t

  beside_none : (g : ℕ) → T (on_grid s g h && in_range s g h) → T (passes_at [] g)
  beside_none g t = and_intro (on_grid s g h && in_range s g h) true t tt

  -- spacing only takes away
  pub accepted_open : (standing : List Standing) → T (is_accepted (judgement s standing h)) → T (is_open_strike s h)
  accepted_open standing t =
      opened
      (some_imply (passes_at standing) (passes_at []) (λ g u. beside_none g (search ands)) grounds
      (accepted standing t))

  pub permitted_open : (standing : List Standing) → T (is_permitted_beside s standing h) → T (is_open_strike s h)
  permitted_open standing t = accepted_open standing (search ands)

  -- what passes at the low or at the high passes
  row_at : {p : ℕ} → ReadAt s p → (g : ℕ) → T (in_range_at s p g h) → T (on_grid s g h && in_range s g h)
  row_at at_low g t =
      and_intro (on_grid s g h) (in_range s g h)
      (or_left (grid_of s s.class.low g h) (grid_of s s.class.high g h) (search ands))
      (or_left (in_range_at s s.class.low g h) (in_range_at s s.class.high g h) t)
  row_at at_high g t =
      and_intro (on_grid s g h) (in_range s g h)
      (or_right (grid_of s s.class.low g h) (grid_of s s.class.high g h) (search ands))
      (or_right (in_range_at s s.class.low g h) (in_range_at s s.class.high g h) t)

  open_either : T (is_open_strike s h) → T (is_open_at s s.class.low h) ⊎ T (is_open_at s s.class.high h)
  open_either t =
      some_either (λ g. in_range_at s s.class.low g h) (λ g. in_range_at s s.class.high g h) grounds
      (some_imply (passes_at []) (λ g. in_range s g h) (λ g u. search ands) grounds (accepted [] t))

  -- ---- at the day's low or at its high

  module _ {p : ℕ} (r : ReadAt s p) where
    at_open : T (is_open_at s p h) → T (is_open_strike s h)
    at_open t =
        opened
        (some_imply (λ g. in_range_at s p g h) (passes_at []) (λ g u. beside_none g (row_at r g u)) grounds t)

    half_top_lem : half_end s p ≤ half_top s
    half_top_lem = go r
      where
        go : {q : ℕ} → ReadAt s q → half_end s q ≤ half_top s
        go at_low = omega arith
        go at_high = omega arith

    -- the ground g gives it
    given_by : (g : ℕ) → T (some (eqb g) grounds) → in_range_at s p g h ≡ true → is_open_strike s h ≡ true
    given_by g t e =
        T_true (is_open_strike s h)
        (at_open
        (some_imply (eqb g) (λ x. in_range_at s p x h)
        (λ x u. subst (λ (k : ℕ). T (in_range_at s p k h)) (eqb→eq g x u) (true_T (in_range_at s p g h) e)) grounds t))

    -- ---- where an open strike stands: in range, and on the rung of its height

    pub record Given : Type 0 where
      pub low : low_end p ≤ h
      pub high : h ≤ highest_strike → h ≤ high_end s p
      pub on : On (rungs s) h

    standard_given : standard_grid s.class (cents h) ≡ true → standard_range s p h ≡ true → Given
    standard_given a b =
        let r : Ranged s p h = standard_ranged s p h b in
        record { low = r.low; high = r.high; on = standard_on s h a }

    dollar_given : dollar_grid s (cents h) ≡ true → standard_range s p h ≡ true → Given
    dollar_given a b =
        let r : Ranged s p h = standard_ranged s p h b in
        record { low = r.low; high = r.high; on = whole_on s h (dollar_whole s h a) }

    half_given : half_grid s (cents h) ≡ true → range_by half_dollars p h ≡ true → Given
    half_given a b =
        let l = half_ranged s p h a b in
        record {
          low = l.0;
          high = λ k. omega (arith, half_within s p);
          on = half_on s h (omega (arith, half_top_lem));
        }

    wing_given : wing_grid s p (cents h) ≡ true → range_of s p 3 h ≡ true → Given
    wing_given a b =
        let l : ℕ = in_halves (wing_base (cents h)) in
        let w : Wing s h = wing_stepped s h p a in
        let r : Ranged s p l = standard_ranged s p l (search parts) in
        let t : Ranged s p (l + 10) = standard_ranged s p (l + 10) (search parts) in
        record {
          low = omega (arith, w.least, r.low);
          high = λ k. omega (arith, w.most, t.high (omega arith));
          on = whole_on s h w.whole;
        }

    two_fifty_given : two_fifty_grid s (cents h) ≡ true → standard_range s p h ≡ true → Given
    two_fifty_given a b =
        let r : Ranged s p h = standard_ranged s p h b in
        record { low = r.low; high = r.high; on = two_fifty_on s h (two_fifty_stepped s h a) }

    ground_given : (g : ℕ) → grid_of s p g h ≡ true → range_of s p g h ≡ true → Given
    ground_given zero = standard_given
    ground_given (suc zero) = dollar_given
    ground_given (suc (suc zero)) = half_given
    ground_given (suc (suc (suc zero))) = wing_given
    ground_given (suc (suc (suc (suc g)))) = two_fifty_given

    at_given : T (is_open_at s p h) → Given
    at_given t =
        some_cases (λ g. in_range_at s p g h) grounds (λ g u. ground_given g (search parts) (search parts)) t

    -- ---- which strikes are open

    standard_open : standard_grid s.class (cents h) ≡ true → low_end p ≤ h → h ≤ high_end s p →
        is_open_strike s h ≡ true
    standard_open grid low high =
        given_by 0 tt (rw (grid, ranged_standard s p h (standard_range_grid s p h grid) low high))

    -- in a near $1 class whose close allows it each whole dollar to $50
    dollar_open : is_near s ≡ true → is_program_class s.class ≡ true → h % 2 ≡ 0 → 1 ≤ h → h ≤ last_dollar →
        low_end p ≤ h → h ≤ high_end s p → is_open_strike s h ≡ true
    dollar_open near program m l k low high =
        let dollar : is_dollar_class s.class ≡ true = search parts in
        let cheap : ltb s.class.close dollar_price ≡ true = search parts in
        let whole : multiple one_dollar (cents h) ≡ true = eq-eqb (cents h % one_dollar) 0 (omega arith) in
        let grid : dollar_grid s (cents h) ≡ true =
        rw (
          near,
          dollar,
          cheap,
          whole,
          le-leb one_dollar (cents h) (omega arith),
          le-leb (cents h) fifty_dollars (omega arith),
        ) in
        let range : standard_range s p h ≡ true = ranged_standard s p h (rw (near, dollar, whole)) low high in
        given_by 1 tt (rw (grid, range))

    half_open : 1 ≤ h → h ≤ half_end s p → is_open_strike s h ≡ true
    half_open l k =
        let g = half_each s p h l k in
        given_by 2 tt (rw (g.0, g.1))

    two_fifty_open : two_fifty_grid s (cents h) ≡ true → low_end p ≤ h → h ≤ high_end s p → is_open_strike s h ≡ true
    two_fifty_open grid low high =
        let range = ranged_near s p h (search parts) (two_fifty_stepped s h grid).least low high in
        given_by 4 tt (rw (grid, range))

  -- Half gives each half dollar up to where it ends at either price
  halves_open : 1 ≤ h → h ≤ half_top s → is_open_strike s h ≡ true
  halves_open least l =
      ⊎_elim (λ k. half_open at_high least (omega arith)) (λ k. half_open at_low least k)
      (lt_or_le (half_end s s.class.low) h)

  module _ {p : ℕ} (r : ReadAt s p) where
    -- where the rung says so each multiple of its step in range is open
    pub rung_open : 1 ≤ h → low_end p ≤ h → h ≤ high_end s p → (rung_at (rungs s) h).all ≡ true → On (rungs s) h →
        is_open_strike s h ≡ true
    rung_open least low high =
        at_rung (λ r. r.all ≡ true → h % r.step ≡ 0 → is_open_strike s h ≡ true) (rungs s) h
        ((λ a l all m. halves_open least l) ▹
        (λ a l near m. dollars (dollar_reached s.class h least l) near m) ▹
        (λ a l all m. ladder (ladder_reached s h least l) m) ▹
        (λ a l all m. fives m (omega (arith, below_reached s h l))) ▹
        (λ a l all m. around (around_reached s h least a.1 l) m) ▹
        (λ a l all m. fives m l) ▹
        (λ a all m. standard_open r (fives_standard s.class h (tens m) (λ j. m)) low high))
      where
        tens : h % 20 ≡ 0 → h % 10 ≡ 0
        tens m = times 10 h (2 * (h / 20)) (omega arith)

        dollars : (is_program_class s.class ≡ true) × (h ≤ last_dollar) → is_near s ≡ true → h % 2 ≡ 0 →
            is_open_strike s h ≡ true
        dollars c near m = dollar_open r near c.0 m least c.1 low high

        fives : h % 10 ≡ 0 → h ≤ last_five → is_open_strike s h ≡ true
        fives m l = standard_open r (fives_standard s.class h m (λ j. absurd (omega arith))) low high

        -- past $25 the multiples of $5 are Standard's and the others ground 4's
        ladder : Laddered s h → h % 5 ≡ 0 → is_open_strike s h ≡ true
        ladder c m =
            ⊎_elim
            (λ l.
            ⊎_elim (λ n. fives n (omega (arith, c.most)))
            (λ n.
            two_fifty_open r (two_fifty_low s h (c.program l) c.outside m l (omega (arith, c.most))) low high)
            (eq_or_not (h % 10) 0))
            (λ l.
            standard_open r
            (standard_of s.class h (λ d. absurd (true≢false (sym d ∙ c.outside)))
            record { fine = λ j. m; fives = λ j. absurd (omega arith); tens = λ j. absurd (omega arith) })
            low high)
            (lt_or_le last_two_fifty h)

        around : Around s h → h % 5 ≡ 0 → is_open_strike s h ≡ true
        around c m = two_fifty_open r (two_fifty_around s h c m) low high

  -- an open strike is in range at the low or at the high
  pub open_given : T (is_open_strike s h) → Given at_low ⊎ Given at_high
  open_given t = ⊎_elim (λ u. inl (at_given at_low u)) (λ u. inr (at_given at_high u)) (open_either t)

  -- and on the rung of its height
  pub open_on : T (is_open_strike s h) → On (rungs s) h
  open_on t = ⊎_elim (λ g. g.on) (λ g. g.on) (open_given t)

  -- none is open that is out of both ranges
  pub closed_outside : (Given at_low → ⊥) → (Given at_high → ⊥) → is_open_strike s h ≡ false
  closed_outside a b = sym (refuted (is_open_strike s h) (λ t. ⊎_elim a b (open_given t)))

  pub closed_above : top_end s < h → h ≤ highest_strike → is_open_strike s h ≡ false
  closed_above l k =
      closed_outside (λ g. omega (arith, g.high k)) (λ g. omega (arith, g.high k))

-- the open strikes from a height in range on, up to where its rung or the range ends
open_multiples : (s : Setting) {p : ℕ} → ReadAt s p → (low : ℕ) → 1 ≤ low → low_end p ≤ low →
    let r = rung_at (rungs s) low in
    Multiples s r low (min r.to (high_end s p))
open_multiples s {p} read low least start =
    record {
      among = λ h l k e. ap (λ (r : Rung). h % r.step) (sym (same h l k)) ∙ open_on s h (true_T _ e);
      each =
          λ a h l k m.
          rung_open s h read (omega arith) (omega arith) (omega arith)
          (ap (λ (r : Rung). r.all) (same h l k) ∙ a)
          (ap (λ (r : Rung). h % r.step) (same h l k) ∙ m);
    }
  where
    same : (h : ℕ) → low ≤ h → h ≤ min (rung_at (rungs s) low).to (high_end s p) →
        rung_at (rungs s) h ≡ rung_at (rungs s) low
    same h l k = same_rung (rungs s) low h l (omega arith)

-- Half's rung is in reach of no standing strike but the next ones
halves_reach : (s : Setting) → 1 ≤ half_top s → reach_of s ≤ 1
halves_reach s l =
    ⊎_elim (λ k. half_reach s s.class.low k) (λ k. half_reach s s.class.high (omega arith))
    (lt_or_le 0 (half_end s s.class.low))

rung_fit : (s : Setting) (h : ℕ) → 1 ≤ h → h ≤ highest_strike → Fit s h (rung_at (rungs s) h)
rung_fit s h least most =
    at_rung (Fit s h) (rungs s) h
    ((λ a l. record { reaches = l; least = omega arith; most = omega arith; reach = halves_reach s (omega arith) }) ▹
    (λ a l. record { reaches = l; least = omega arith; most = omega arith; reach = reach_most s }) ▹
    (λ a l. record { reaches = l; least = omega arith; most = omega arith; reach = omega (arith, reach_most s) }) ▹
    (λ a l. record { reaches = l; least = omega arith; most = omega arith; reach = omega (arith, reach_most s) }) ▹
    (λ a l. record { reaches = l; least = omega arith; most = omega arith; reach = omega (arith, reach_most s) }) ▹
    (λ a l. record { reaches = l; least = omega arith; most = omega arith; reach = omega (arith, reach_most s) }) ▹
    (λ a. record { reaches = most; least = omega arith; most = omega arith; reach = omega (arith, reach_most s) }))

-- from each height in range the strikes can be tried by its rung
pub rungs_climb : (s : Setting) {p : ℕ} → ReadAt s p → (h : ℕ) → 1 ≤ h → low_end p ≤ h → h ≤ high_end s p →
    Climbs s (high_end s p) h (rung_at (rungs s) h)
rungs_climb s {p} read h least low high =
    record {
      fit = rung_fit s h least (omega (arith, high_strike s p));
      multiples = open_multiples s read h least low;
    }

pub top_strike : (s : Setting) → top_end s ≤ highest_strike
top_strike s = omega (arith, high_strike s s.class.low, high_strike s s.class.high)

pub halves_within : (s : Setting) → half_top s ≤ top_end s
halves_within s = omega (arith, half_within s s.class.low, half_within s s.class.high)

pub halves_most : (s : Setting) → half_top s ≤ in_halves five_fifty
halves_most s = omega (arith, half_most s s.class.low, half_most s s.class.high)
