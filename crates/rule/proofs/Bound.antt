-- The ranges in half dollars: a strike in range stands from the lowest end to the highest, and each strike of the range
-- grid between them is in range, so that on each grid the ends tell the range. Assumes nothing.
use mathlib.Core.Path.{◌≡◌, refl, subst}
use mathlib.Core.Bool.{Bool, true, false, not, cond, ◌&&◌, ◌||◌}
use mathlib.Core.Logic.{⊎_elim}
use Prim.Native.Nat.{ℕ, ◌+◌, ◌*◌, ◌-◌, ◌/◌, ◌%◌, ◌≤◌, ◌<◌, min, max}
use native.Mathlib.Omega.{arith}
use lib.Dec.{T, leb, ltb, leb→le}
use borrow.Author.Tests.{ltb-true, ltb-false, leb-true, leb-false, le-leb, lt-ltb, le-ltb, eq-eqb}
use Rattle.logic.proofs.Tests.{ands, parts, true_T, T_true, or_cases, same_bool, lt_or_le}
use Rattle.logic.proofs.Multiples.{times}
use Rattle.word.specs.Limits.{highest_strike, half_dollar, cents}
use Rattle.rule.specs.declared.terms.Setting.{Setting}
use Rattle.word.specs.Programs.{half_price, half_volume}
use Rattle.rule.specs.Terms.{in_halves, is_dollar_class, is_half_class, is_long, is_near}
use Rattle.rule.specs.Grids.{multiple, standard_grid, dollar_grid, half_dollars, has_halves, half_grid, wing_base, wing_grid, two_fifty_grid}
use Rattle.rule.specs.Grids.{one_dollar, two_fifty, five_dollars, five_fifty}
use Rattle.rule.specs.Ranges.{range_count, low_price, among_five, range_by, range_grid, standard_range, range_of}
use Rattle.rule.specs.Ends.{fifth_on, fifteen_dollars, fifth_above, quarter_dollar, half_end, low_end, high_end, last_dollar, last_two_fifty, reach_of}
use Rattle.rule.proofs.Five.{five, five_half_dollars}
use Rattle.rule.proofs.Steps.{standard_five, fives_standard, Wing, wing_stepped, two_fifty_stepped}

-- the fifth strike above a price of at most $20
module _ (whole dollar : Bool) (q : ℕ) where
  fifth_most : q ≤ in_halves low_price → fifth_above whole dollar q ≤ last_dollar
  fifth_most l = go whole dollar (ltb q (in_halves fifteen_dollars))
    where
      go : (w d t : Bool) →
          cond w (fifth_on (in_halves one_dollar) q)
          (cond d (fifth_on (in_halves five_dollars) q)
          (cond t (fifth_on (in_halves two_fifty) q) (q / in_halves two_fifty * in_halves five_dollars)))
          ≤ last_dollar
      go true d t = omega arith
      go false true t = omega arith
      go false false true = omega arith
      go false false false = omega arith

  fifth_least : q < in_halves fifteen_dollars → q + range_count ≤ fifth_above whole dollar q
  fifth_least l = rw (lt-ltb q (in_halves fifteen_dollars) l) (go whole dollar)
    where
      go : (w d : Bool) →
          q + range_count
          ≤ cond w (fifth_on (in_halves one_dollar) q)
          (cond d (fifth_on (in_halves five_dollars) q) (fifth_on (in_halves two_fifty) q))
      go true d = omega arith
      go false true = omega arith
      go false false = omega arith

-- near, past $25, the fifth strike is no higher than twice the price
fifth_low : (dollar : Bool) (p : ℕ) → p ≤ low_price →
    fifth_above dollar dollar (in_halves p) ≤ max last_two_fifty (p / quarter_dollar)
fifth_low dollar p l = go dollar (ltb (in_halves p) (in_halves fifteen_dollars)) refl
  where
    go : (d t : Bool) → ltb (in_halves p) (in_halves fifteen_dollars) ≡ t →
        cond d (fifth_on (in_halves one_dollar) (in_halves p))
        (cond d (fifth_on (in_halves five_dollars) (in_halves p))
        (cond t (fifth_on (in_halves two_fifty) (in_halves p))
        (in_halves p / in_halves two_fifty * in_halves five_dollars)))
        ≤ max last_two_fifty (p / quarter_dollar)
    go true t e = omega arith
    go false true e = omega (arith, ltb-true (in_halves p) (in_halves fifteen_dollars) e)
    go false false e = omega arith

-- a higher price has no lower end
pub low_rises : (p q : ℕ) → p ≤ q → low_end p ≤ low_end q
low_rises p q l = go (ltb low_price p) refl (ltb low_price q) refl
  where
    go : (t : Bool) → ltb low_price p ≡ t → (u : Bool) → ltb low_price q ≡ u →
        cond {A = ℕ} t ((p + (one_dollar - 1)) / one_dollar) 0
        ≤ cond {A = ℕ} u ((q + (one_dollar - 1)) / one_dollar) 0
    go true a true b = omega arith
    go true a false b = absurd (omega (arith, ltb-true low_price p a, ltb-false low_price q b))
    go false a u b = omega arith

module _ (s : Setting) (p : ℕ) where
  abbrev dollar : Bool
  dollar = is_dollar_class s.class

  abbrev fifth : ℕ
  fifth = fifth_above (is_near s && dollar) dollar (in_halves p)

  -- where a strike in range stands
  pub record Ranged (h : ℕ) : Type 0 where
    pub low : low_end p ≤ h
    pub high : h ≤ highest_strike → h ≤ high_end s p

  pub standard_ranged : (h : ℕ) → standard_range s p h ≡ true → Ranged h
  standard_ranged h = go (ltb low_price p) refl
    where
      go : (t : Bool) → ltb low_price p ≡ t →
          cond t (leb p (2 * cents h) && leb (2 * cents h) (3 * p))
          (leb (cents h) (2 * p) || among_five (range_grid s) p h)
          ≡ true →
          Ranged h
      go true q e =
          record {
            low = rw q (omega (arith, leb-true p (2 * cents h) (search parts)));
            high = λ l. rw q (omega (arith, leb-true (2 * cents h) (3 * p) (search parts)));
          }
      go false q e =
          record {
            low = rw q (omega arith);
            high =
                λ l.
                rw q
                (⊎_elim double among (or_cases (leb (cents h) (2 * p)) (among_five (range_grid s) p h) (true_T _ e)));
          }
        where
          double : T (leb (cents h) (2 * p)) → h ≤ max (p / quarter_dollar) fifth
          double a = omega (arith, leb→le (cents h) (2 * p) a)

          among : T (among_five (range_grid s) p h) → h ≤ max (p / quarter_dollar) fifth
          among a =
              let b : T (ltb (in_halves p) h && leb h fifth && range_grid s (cents h)) =
              subst T (five s p h (ltb-false low_price p q)) a in
              omega (arith, leb→le h fifth (search ands))

  pub ranged_standard : (h : ℕ) → range_grid s (cents h) ≡ true → low_end p ≤ h → h ≤ high_end s p →
      standard_range s p h ≡ true
  ranged_standard h on = go (ltb low_price p) refl (leb (cents h) (2 * p)) refl
    where
      go : (t : Bool) → ltb low_price p ≡ t → (u : Bool) → leb (cents h) (2 * p) ≡ u →
          cond {A = ℕ} t ((p + (one_dollar - 1)) / one_dollar) 0 ≤ h →
          h ≤ cond {A = ℕ} t (min (3 * p / one_dollar) highest_strike) (max (p / quarter_dollar) fifth) →
          cond t (leb p (2 * cents h) && leb (2 * cents h) (3 * p))
          (leb (cents h) (2 * p) || among_five (range_grid s) p h)
          ≡ true
      go true q u a low high = rw (le-leb p (2 * cents h) (omega arith), le-leb (2 * cents h) (3 * p) (omega arith))
      go false q true a low high = rw a
      go false q false a low high =
          let above : 2 * p < cents h = leb-false (cents h) (2 * p) a in
          let over : ltb (in_halves p) h ≡ true = lt-ltb (in_halves p) h (omega arith) in
          rw (a, five s p h (ltb-false low_price p q), on, over, le-leb h fifth (omega arith))

  -- near, past $25, a strike that isn't on the range grid too
  pub ranged_near : (h : ℕ) → is_near s ≡ true → last_two_fifty < h → low_end p ≤ h → h ≤ high_end s p →
      standard_range s p h ≡ true
  ranged_near h near l = go (ltb low_price p) refl
    where
      go : (t : Bool) → ltb low_price p ≡ t → cond {A = ℕ} t ((p + (one_dollar - 1)) / one_dollar) 0 ≤ h →
          h ≤ cond {A = ℕ} t (min (3 * p / one_dollar) highest_strike) (max (p / quarter_dollar) fifth) →
          cond t (leb p (2 * cents h) && leb (2 * cents h) (3 * p))
          (leb (cents h) (2 * p) || among_five (range_grid s) p h)
          ≡ true
      go true q low high = rw (le-leb p (2 * cents h) (omega arith), le-leb (2 * cents h) (3 * p) (omega arith))
      go false q low high =
          let top : h ≤ max (p / quarter_dollar) (fifth_above dollar dollar (in_halves p)) = rw near at high in
          rw (le-leb (cents h) (2 * p) (omega (arith, fifth_low dollar p (ltb-false low_price p q))))

  -- where each strike between the ends is in range the ends tell the range
  told_by_ends : (h : ℕ) → h ≤ highest_strike → (low_end p ≤ h → h ≤ high_end s p → standard_range s p h ≡ true) →
      standard_range s p h ≡ (leb (low_end p) h && leb h (high_end s p))
  told_by_ends h most within = same_bool (standard_range s p h) (leb (low_end p) h && leb h (high_end s p)) to from
    where
      to : T (standard_range s p h) → T (leb (low_end p) h && leb h (high_end s p))
      to t =
          let r : Ranged h = standard_ranged h (T_true (standard_range s p h) t) in
          rw (le-leb (low_end p) h r.low, le-leb h (high_end s p) (r.high most)) tt

      from : T (leb (low_end p) h && leb h (high_end s p)) → T (standard_range s p h)
      from t =
          true_T (standard_range s p h)
          (within (leb→le (low_end p) h (search ands)) (leb→le h (high_end s p) (search ands)))

  -- so they do on the range grid
  range_ends : (h : ℕ) → range_grid s (cents h) ≡ true → h ≤ highest_strike →
      standard_range s p h ≡ (leb (low_end p) h && leb h (high_end s p))
  range_ends h on most = told_by_ends h most (ranged_standard h on)

  -- and on the grid of ground 4
  pub two_fifty_ends : (h : ℕ) → two_fifty_grid s (cents h) ≡ true → h ≤ highest_strike →
      standard_range s p h ≡ (leb (low_end p) h && leb h (high_end s p))
  two_fifty_ends h e most = told_by_ends h most (ranged_near h (search parts) (two_fifty_stepped s h e).least)

  -- the range grid holds the Standard strikes
  pub standard_range_grid : (h : ℕ) → standard_grid s.class (cents h) ≡ true → range_grid s (cents h) ≡ true
  standard_range_grid h e = go (is_near s && dollar) refl
    where
      go : (t : Bool) → (is_near s && dollar) ≡ t →
          cond t (multiple one_dollar (cents h)) (standard_grid s.class (cents h)) ≡ true
      go true q = eq-eqb (cents h % one_dollar) 0 (omega (arith, standard_five s.class h (search parts) e))
      go false q = e

  pub standard_ends : (h : ℕ) → standard_grid s.class (cents h) ≡ true → h ≤ highest_strike →
      standard_range s p h ≡ (leb (low_end p) h && leb h (high_end s p))
  standard_ends h e most = range_ends h (standard_range_grid h e) most

  -- a Dollar strike is a whole dollar in a near $1 class
  pub dollar_ends : (h : ℕ) → dollar_grid s (cents h) ≡ true → h ≤ highest_strike →
      standard_range s p h ≡ (leb (low_end p) h && leb h (high_end s p))
  dollar_ends h e most =
      let near : (is_near s && dollar) ≡ true = search parts in
      let whole : multiple one_dollar (cents h) ≡ true = search parts in
      range_ends h (rw (near, whole)) most

  -- the L of a wing and the strike $5 above it are Standard strikes
  pub wing_ends : (h : ℕ) → wing_grid s p (cents h) ≡ true →
      let l = in_halves (wing_base (cents h)) in
      range_of s p 3 h ≡ (leb (low_end p) l && leb (l + 10) (high_end s p))
  wing_ends h e = same_bool (range_of s p 3 h) (leb (low_end p) l && leb (l + 10) (high_end s p)) to from
    where
      l : ℕ
      l = in_halves (wing_base (cents h))

      in_range : (n : ℕ) → n % 10 ≡ 0 → n ≤ last_dollar → low_end p ≤ n → n ≤ high_end s p → standard_range s p n ≡ true
      in_range n m k =
          ranged_standard n (standard_range_grid n (fives_standard s.class n m (λ j. absurd (omega arith))))

      to : T (range_of s p 3 h) → T (leb (low_end p) l && leb (l + 10) (high_end s p))
      to r =
          let w : Wing s h = wing_stepped s h p e in
          let low : low_end p ≤ l = (standard_ranged l (search parts)).low in
          let high : l + 10 ≤ high_end s p = (standard_ranged (l + 10) (search parts)).high (omega (arith, w.most)) in
          rw (le-leb (low_end p) l low, le-leb (l + 10) (high_end s p) high) tt

      from : T (leb (low_end p) l && leb (l + 10) (high_end s p)) → T (range_of s p 3 h)
      from r =
          let w : Wing s h = wing_stepped s h p e in
          let low : low_end p ≤ l = leb→le (low_end p) l (search ands) in
          let high : l + 10 ≤ high_end s p = leb→le (l + 10) (high_end s p) (search ands) in
          let m : l % 10 ≡ 0 = times 10 l (cents h / five_dollars) (omega arith) in
          rw (
            in_range l m (omega (arith, w.most)) low (omega arith),
            in_range (l + 10) (omega arith) (omega (arith, w.most)) (omega arith) high,
          )
          tt

  pub high_strike : high_end s p ≤ highest_strike
  high_strike = go (ltb low_price p) refl
    where
      go : (t : Bool) → ltb low_price p ≡ t →
          cond {A = ℕ} t (min (3 * p / one_dollar) highest_strike) (max (p / quarter_dollar) fifth) ≤ highest_strike
      go true q = omega arith
      go false q =
          let cheap : p ≤ low_price = ltb-false low_price p q in
          omega (arith, fifth_most (is_near s && dollar) dollar (in_halves p) (omega arith))

  abbrev half_asked : Bool
  half_asked = has_halves s && leb p low_price

  half_price_lem : half_asked ≡ true → p ≤ low_price
  half_price_lem a = leb-true p low_price (search parts)

  pub half_within : half_end s p ≤ high_end s p
  half_within = go half_asked refl
    where
      go : (t : Bool) → half_asked ≡ t →
          cond {A = ℕ} t (min (max (p / quarter_dollar) (in_halves p + range_count)) (in_halves five_fifty)) 0
          ≤ high_end s p
      go true a =
          let l : p ≤ low_price = half_price_lem a in
          rw (le-ltb low_price p l)
          (⊎_elim (λ k. omega (arith, fifth_least (is_near s && dollar) dollar (in_halves p) k)) (λ k. omega arith)
          (lt_or_le (in_halves p) (in_halves fifteen_dollars)))
      go false a = omega arith

  pub half_most : half_end s p ≤ in_halves five_fifty
  half_most = go half_asked
    where
      go : (t : Bool) →
          cond {A = ℕ} t (min (max (p / quarter_dollar) (in_halves p + range_count)) (in_halves five_fifty)) 0
          ≤ in_halves five_fifty
      go true = omega arith
      go false = omega arith

  -- Half gives strikes in near expirations only
  pub half_reach : 1 ≤ half_end s p → reach_of s ≤ 1
  half_reach = go (is_long s)
    where
      go : (long : Bool) →
          1
          ≤ cond {A = ℕ}
          (not long && is_half_class s.class && leb s.class.close half_price && leb half_volume s.class.volume
          && leb p low_price)
          (min (max (p / quarter_dollar) (in_halves p + range_count)) (in_halves five_fifty))
          0 →
          cond {A = ℕ} long 2 1 ≤ 1
      go true l = absurd (omega arith)
      go false l = omega arith

  -- a strike of Half's grid is in range at no price above $20
  half_cheap : (h : ℕ) → half_grid s (cents h) ≡ true → range_by half_dollars p h ≡ true → p ≤ low_price
  half_cheap h grid = go (ltb low_price p) refl
    where
      go : (t : Bool) → ltb low_price p ≡ t →
          cond t (leb p (2 * cents h) && leb (2 * cents h) (3 * p))
          (leb (cents h) (2 * p) || among_five half_dollars p h)
          ≡ true →
          p ≤ low_price
      go true q e =
          let most : cents h ≤ five_fifty = leb-true (cents h) five_fifty (search parts) in
          absurd (omega (arith, ltb-true low_price p q, leb-true p (2 * cents h) (search parts)))
      go false q e = ltb-false low_price p q

  pub half_ranged : (h : ℕ) → half_grid s (cents h) ≡ true → range_by half_dollars p h ≡ true →
      (low_end p ≤ h) × (h ≤ half_end s p)
  half_ranged h grid range =
      let l : p ≤ low_price = half_cheap h grid range in
      let has : has_halves s ≡ true = search parts in
      let most : cents h ≤ five_fifty = leb-true (cents h) five_fifty (search parts) in
      let within : (leb (cents h) (2 * p) || among_five half_dollars p h) ≡ true =
      rw (le-ltb low_price p l) at range in
      let near : h ≤ max (p / quarter_dollar) (in_halves p + range_count) =
      ⊎_elim double among (or_cases (leb (cents h) (2 * p)) (among_five half_dollars p h) (true_T _ within)) in
      (rw (le-ltb low_price p l) (omega arith), rw (has, le-leb p low_price l) (omega arith))
    where
      double : T (leb (cents h) (2 * p)) → h ≤ max (p / quarter_dollar) (in_halves p + range_count)
      double b = omega (arith, leb→le (cents h) (2 * p) b)

      among : T (among_five half_dollars p h) → h ≤ max (p / quarter_dollar) (in_halves p + range_count)
      among b =
          let c : T (ltb (in_halves p) h && leb h (in_halves p + range_count) && half_dollars (cents h)) =
          subst T (five_half_dollars p h) b in
          omega (arith, leb→le h (in_halves p + range_count) (search ands))

  half_near :
      (h : ℕ) → half_asked ≡ true →
      h ≤ min (max (p / quarter_dollar) (in_halves p + range_count)) (in_halves five_fifty) →
      (half_grid s (cents h) ≡ true) × (range_by half_dollars p h ≡ true)
  half_near h a m =
      let cheap : p ≤ low_price = half_price_lem a in
      let has : has_halves s ≡ true = search parts in
      let on : half_dollars (cents h) ≡ true =
      rw (eq-eqb (cents h % half_dollar) 0 (omega arith), le-leb (cents h) five_fifty (omega arith)) in
      (rw (has, on), rw (le-ltb low_price p cheap) (near (leb (cents h) (2 * p)) refl on))
    where
      near : (u : Bool) → leb (cents h) (2 * p) ≡ u → half_dollars (cents h) ≡ true →
          (leb (cents h) (2 * p) || among_five half_dollars p h) ≡ true
      near true q on = rw q
      near false q on =
          let above : 2 * p < cents h = leb-false (cents h) (2 * p) q in
          let over : ltb (in_halves p) h ≡ true = lt-ltb (in_halves p) h (omega arith) in
          rw (q, five_half_dollars p h, on, over, le-leb h (in_halves p + range_count) (omega arith))

  pub half_each : (h : ℕ) → 1 ≤ h → h ≤ half_end s p
      → (half_grid s (cents h) ≡ true) × (range_by half_dollars p h ≡ true)
  half_each h l = go half_asked refl
    where
      go : (t : Bool) → half_asked ≡ t →
          h ≤ cond {A = ℕ} t (min (max (p / quarter_dollar) (in_halves p + range_count)) (in_halves five_fifty)) 0 →
          (half_grid s (cents h) ≡ true) × (range_by half_dollars p h ≡ true)
      go true a m = half_near h a m
      go false a m = absurd (omega arith)

  pub half_ends : (h : ℕ) → half_grid s (cents h) ≡ true →
      range_by half_dollars p h ≡ (leb (low_end p) h && leb h (half_end s p))
  half_ends h grid = same_bool (range_by half_dollars p h) (leb (low_end p) h && leb h (half_end s p)) to from
    where
      to : T (range_by half_dollars p h) → T (leb (low_end p) h && leb h (half_end s p))
      to t =
          let r = half_ranged h grid (T_true (range_by half_dollars p h) t) in
          rw (le-leb (low_end p) h r.0, le-leb h (half_end s p) r.1) tt

      from : T (leb (low_end p) h && leb h (half_end s p)) → T (range_by half_dollars p h)
      from t = go (leb p low_price) refl (leb→le h (half_end s p) (search ands))
        where
          has : has_halves s ≡ true
          has = search parts

          -- past $20 the range begins above the last strike of Half's grid
          go : (u : Bool) → leb p low_price ≡ u →
              h
              ≤ cond {A = ℕ} (has_halves s && u)
              (min (max (p / quarter_dollar) (in_halves p + range_count)) (in_halves five_fifty))
              0 →
              T (range_by half_dollars p h)
          go true e l = true_T (range_by half_dollars p h) (half_near h (rw (has, e)) (rw has at l)).1
          go false e l =
              let low : low_end p ≤ h = leb→le (low_end p) h (search ands) in
              let over : low_price < p = leb-false p low_price e in
              let above : (p + (one_dollar - 1)) / one_dollar ≤ h = rw (lt-ltb low_price p over) at low in
              let none : h ≤ 0 = rw has at l in
              absurd (omega arith)
