-- The grids in half dollars: what the strikes of each ground but Half are multiples of, and which multiples Standard
-- holds. Assumes nothing.
use mathlib.Core.Path.{◌≡◌, refl, sym, ap, ◌∙◌}
use mathlib.Core.Bool.{Bool, true, false, not, cond, ◌&&◌, ◌||◌, and-false, true≢false}
use mathlib.Core.Logic.{⊎_elim}
use Prim.Native.Nat.{ℕ, ◌+◌, ◌*◌, ◌/◌, ◌%◌, ◌≤◌, ◌<◌}
use native.Mathlib.Omega.{arith}
use native.Mathlib.Nat.{mod-one}
use lib.Dec.{T, leb, ltb, eqb, leb→le, ltb→lt, eqb→eq}
use borrow.Author.Tests.{leb-true, leb-false, eqb-true, le-leb, lt-ltb, le-ltb, eq-eqb}
use Rattle.logic.proofs.Tests.{ands, parts, true_T, or_cases, lt_or_le}
use Rattle.logic.proofs.Multiples.{times}
use Rattle.word.specs.Programs.{dollar_price}
use Rattle.word.specs.declared.class.ClassRecord.{ClassRecord}
use Rattle.rule.specs.declared.terms.Setting.{Setting}
use Rattle.word.specs.Limits.{cents}
use Rattle.rule.specs.Terms.{is_dollar_class, is_long, is_near, has_two_fifties, apart}
use Rattle.rule.specs.Grids.{one_dollar, two_dollars, two_fifty, three_dollars, five_dollars, ten_dollars}
use Rattle.rule.specs.Grids.{twenty_five_dollars, forty_five_dollars, fifty_dollars, hundred_dollars, two_hundred_dollars}
use Rattle.rule.specs.Grids.{multiple, ladder, is_barred, standard_grid, dollar_grid, wing_base, wing_at, wing_grid, two_fifty_grid}
use Rattle.rule.specs.declared.bounds.Rung.{Rung}
use Rattle.rule.specs.Ends.{is_program_class, half_top, dollar_end, ladder_end, below_end, around_end, rungs}
use Rattle.rule.specs.Ends.{last_dollar, last_two_fifty, last_five, last_hundred, last_below, last_around}
use Rattle.rule.proofs.Rungs.{On, ◌▹◌, at_rung}

-- what the ladder asks of a strike
pub record Stepped (h : ℕ) : Type 0 where
  pub fine : h ≤ last_two_fifty → h % 5 ≡ 0
  pub fives : last_two_fifty < h → h % 10 ≡ 0
  pub tens : last_five < h → h % 20 ≡ 0

-- the three parts of the ladder
abbrev to_twenty_five : ℕ → Bool
to_twenty_five k = leb k twenty_five_dollars && multiple two_fifty k

abbrev to_two_hundred : ℕ → Bool
to_two_hundred k = ltb twenty_five_dollars k && leb k two_hundred_dollars && multiple five_dollars k

abbrev past_two_hundred : ℕ → Bool
past_two_hundred k = ltb two_hundred_dollars k && multiple ten_dollars k

ladder_stepped : (h : ℕ) → ladder (cents h) ≡ true → Stepped h
ladder_stepped h e =
    ⊎_elim
    (λ d. ⊎_elim to_25 to_200 (or_cases (to_twenty_five (cents h)) (to_two_hundred (cents h)) d))
    past_200
    (or_cases (to_twenty_five (cents h) || to_two_hundred (cents h)) (past_two_hundred (cents h)) (true_T _ e))
  where
    to_25 : T (to_twenty_five (cents h)) → Stepped h
    to_25 a =
        let most : cents h ≤ twenty_five_dollars = leb→le (cents h) twenty_five_dollars (search ands) in
        let m : cents h % two_fifty ≡ 0 = eqb→eq (cents h % two_fifty) 0 (search ands) in
        record {
          fine = λ l. times 5 h (cents h / two_fifty) (omega arith);
          fives = λ l. absurd (omega arith);
          tens = λ l. absurd (omega arith);
        }

    to_200 : T (to_two_hundred (cents h)) → Stepped h
    to_200 a =
        let most : cents h ≤ two_hundred_dollars = leb→le (cents h) two_hundred_dollars (search ands) in
        let m : cents h % five_dollars ≡ 0 = eqb→eq (cents h % five_dollars) 0 (search ands) in
        record {
          fine = λ l. times 5 h (2 * (cents h / five_dollars)) (omega arith);
          fives = λ l. times 10 h (cents h / five_dollars) (omega arith);
          tens = λ l. absurd (omega arith);
        }

    past_200 : T (past_two_hundred (cents h)) → Stepped h
    past_200 a =
        let m : cents h % ten_dollars ≡ 0 = eqb→eq (cents h % ten_dollars) 0 (search ands) in
        record {
          fine = λ l. times 5 h (4 * (cents h / ten_dollars)) (omega arith);
          fives = λ l. times 10 h (2 * (cents h / ten_dollars)) (omega arith);
          tens = λ l. times 20 h (cents h / ten_dollars) (omega arith);
        }

stepped_ladder : (h : ℕ) → Stepped h → ladder (cents h) ≡ true
stepped_ladder h r = go (leb (cents h) twenty_five_dollars) refl (leb (cents h) two_hundred_dollars) refl
  where
    go : (t : Bool) → leb (cents h) twenty_five_dollars ≡ t → (u : Bool) → leb (cents h) two_hundred_dollars ≡ u →
        ladder (cents h) ≡ true
    go true a u b =
        let l : h ≤ last_two_fifty = omega (arith, leb-true (cents h) twenty_five_dollars a) in
        rw (a, eq-eqb (cents h % two_fifty) 0 (omega (arith, r.fine l)))
    go false a true b =
        let l : last_two_fifty < h = omega (arith, leb-false (cents h) twenty_five_dollars a) in
        rw (
          a,
          b,
          lt-ltb twenty_five_dollars (cents h) (omega arith),
          eq-eqb (cents h % five_dollars) 0 (omega (arith, r.fives l)),
        )
    go false a false b =
        let l : last_five < h = omega (arith, leb-false (cents h) two_hundred_dollars b) in
        rw (
          a,
          b,
          lt-ltb twenty_five_dollars (cents h) (omega arith),
          lt-ltb two_hundred_dollars (cents h) (omega arith),
          eq-eqb (cents h % ten_dollars) 0 (omega (arith, r.tens l)),
        )

module _ (c : ClassRecord) (h : ℕ) where
  pub standard_ladder : standard_grid c (cents h) ≡ true → Stepped h
  standard_ladder e = ladder_stepped h (search parts)

  -- in a $1 class what isn't barred below $50 is a multiple of $5
  unbarred_five : is_dollar_class c ≡ true → not (is_barred c (cents h)) ≡ true → h < last_dollar → h % 10 ≡ 0
  unbarred_five d e l =
      go (multiple five_dollars (cents h)) refl
      (ap less (sym d) ∙ e)
    where
      less : Bool → Bool
      less t = not (t && ltb (cents h) fifty_dollars && not (multiple five_dollars (cents h)))

      go : (u : Bool) → multiple five_dollars (cents h) ≡ u
          → not (true && ltb (cents h) fifty_dollars && not u) ≡ true →
          h % 10 ≡ 0
      go true b n = times 10 h (cents h / five_dollars) (omega (arith, eqb-true (cents h % five_dollars) 0 b))
      go false b n = absurd (true≢false (sym n ∙ rw (lt-ltb (cents h) fifty_dollars (omega arith))))

  -- in a $1 class Standard is the multiples of $5 on the ladder
  pub standard_five : is_dollar_class c ≡ true → standard_grid c (cents h) ≡ true → h % 10 ≡ 0
  standard_five d e =
      ⊎_elim (λ l. unbarred_five d (search parts) l)
      (λ l. (ladder_stepped h (search parts)).fives (omega arith))
      (lt_or_le h last_dollar)

  -- a Standard strike is a multiple of $2.50
  standard_fine : standard_grid c (cents h) ≡ true → h % 5 ≡ 0
  standard_fine e =
      ⊎_elim (λ l. times 5 h (2 * (h / 10)) (omega (arith, (standard_ladder e).fives l))) (standard_ladder e).fine
      (lt_or_le last_two_fifty h)

  pub standard_of : (is_dollar_class c ≡ true → h % 10 ≡ 0) → Stepped h → standard_grid c (cents h) ≡ true
  standard_of five r = go (is_dollar_class c) refl
    where
      go : (d : Bool) → is_dollar_class c ≡ d → standard_grid c (cents h) ≡ true
      go true d = rw (stepped_ladder h r, d, eq-eqb (cents h % five_dollars) 0 (omega (arith, five d)), and-false)
      go false d = rw (stepped_ladder h r, d)

  -- each multiple of $5 on the ladder is a Standard strike
  pub fives_standard : h % 10 ≡ 0 → (last_five < h → h % 20 ≡ 0) → standard_grid c (cents h) ≡ true
  fives_standard m tens =
      standard_of (λ d. m) record { fine = λ l. times 5 h (2 * (h / 10)) (omega arith); fives = λ l. m; tens = tens }

  -- a strike up to where whole dollars, or multiples of $2.50, reach
  pub dollar_reached : 0 < h → h ≤ dollar_end c → (is_program_class c ≡ true) × (h ≤ last_dollar)
  dollar_reached l = go (is_program_class c)
    where
      go : (t : Bool) → h ≤ cond {A = ℕ} t last_dollar 0 → (t ≡ true) × (h ≤ last_dollar)
      go true k = (refl, k)
      go false k = absurd (omega arith)

  pub program_dollar : is_program_class c ≡ true → is_dollar_class c ≡ true
  program_dollar e = search parts

-- a strike up to where multiples of $2.50 reach, from the lowest on or around the close, or past these
module _ (s : Setting) (h : ℕ) where
  -- past $25 it is one of the $2.50 program
  pub record Laddered : Type 0 where
    pub outside : is_dollar_class s.class ≡ false
    pub most : h ≤ last_dollar
    pub program : last_two_fifty < h → has_two_fifties s ≡ true

  pub ladder_reached : 0 < h → h ≤ ladder_end s → Laddered
  ladder_reached l = go (is_dollar_class s.class) refl (has_two_fifties s) refl
    where
      go : (d : Bool) → is_dollar_class s.class ≡ d → (t : Bool) → has_two_fifties s ≡ t →
          h ≤ cond {A = ℕ} d 0 (cond {A = ℕ} t last_dollar last_two_fifty) → Laddered
      go true d t e k = absurd (omega arith)
      go false d true e k = record { outside = d; most = k; program = λ j. e }
      go false d false e k = record { outside = d; most = omega arith; program = λ j. absurd (omega arith) }

  -- a Standard strike past these is a multiple of $5
  past_ladder : standard_grid s.class (cents h) ≡ true → ladder_end s < h → h % 10 ≡ 0
  past_ladder e = go (is_dollar_class s.class) refl (has_two_fifties s)
    where
      go : (d : Bool) → is_dollar_class s.class ≡ d → (t : Bool) →
          cond {A = ℕ} d 0 (cond {A = ℕ} t last_dollar last_two_fifty) < h → h % 10 ≡ 0
      go true d t l = standard_five s.class h d e
      go false d true l = (standard_ladder s.class h e).fives (omega arith)
      go false d false l = (standard_ladder s.class h e).fives l

  pub below_reached : h ≤ below_end s → h ≤ last_hundred
  below_reached = go (has_two_fifties s)
    where
      go : (t : Bool) → h ≤ cond {A = ℕ} t (last_below s.class.close) 0 → h ≤ last_hundred
      go true k = omega arith
      go false k = omega arith

  -- it is no more than $10 from the close
  abbrev pub IsClose : Type 0
  IsClose = (s.class.close ≤ cents h + ten_dollars) × (cents h ≤ s.class.close + ten_dollars)

  -- a strike of ground 4 from $50 to $100
  pub record Around : Type 0 where
    pub asked : has_two_fifties s ≡ true
    pub least : last_dollar ≤ h
    pub most : h ≤ last_hundred
    pub close : IsClose

  pub around_reached : 0 < h → below_end s < h → h ≤ around_end s → Around
  around_reached positive = go (has_two_fifties s) refl
    where
      go : (t : Bool) → has_two_fifties s ≡ t → cond {A = ℕ} t (last_below s.class.close) 0 < h →
          h ≤ cond {A = ℕ} t (last_around s.class.close) 0 → Around
      go true e l k =
          record { asked = e; least = omega arith; most = omega arith; close = (omega arith, omega arith) }
      go false e l k = absurd (omega arith)

-- ---- each ground's strikes are on the rungs

module _ (s : Setting) (h : ℕ) where
  abbrev c : ClassRecord
  c = s.class

  abbrev OnStep : Rung → Type 0
  OnStep r = h % r.step ≡ 0

  pub standard_on : standard_grid c (cents h) ≡ true → On (rungs s) h
  standard_on e =
      at_rung OnStep (rungs s) h
      ((λ a l. mod-one h) ▹
      (λ a l. times 2 h (5 * (h / 10)) (omega (arith, dollar_five (dollar_reached c h (omega arith) l).0))) ▹
      (λ a l. standard_fine c h e) ▹
      (λ a l. past_ladder s h e a.1) ▹
      (λ a l. standard_fine c h e) ▹
      (λ a l. past_ladder s h e (omega arith)) ▹
      (λ a. (standard_ladder c h e).tens a.1))
    where
      dollar_five : is_program_class c ≡ true → h % 10 ≡ 0
      dollar_five p = standard_five c h (program_dollar c h p) e

  -- the strikes of Half
  pub half_on : h ≤ half_top s → On (rungs s) h
  half_on l = rw (le-leb h (half_top s) l) (mod-one h)

  -- a whole dollar to $50 in a $1 class whose close allows it
  pub record Whole : Type 0 where
    pub program : is_program_class c ≡ true
    pub whole : h % 2 ≡ 0
    pub most : h ≤ last_dollar

  pub whole_on : Whole → On (rungs s) h
  whole_on w = go (leb h (half_top s)) refl
    where
      reached : h ≤ dollar_end c
      reached = rw w.program w.most

      go : (t : Bool) → leb h (half_top s) ≡ t → On (rungs s) h
      go true q = rw q (mod-one h)
      go false q = rw (q, le-leb h (dollar_end c) reached) w.whole

  -- the last two of the three conditions of Dollar and of Wing
  program : (term : Bool) → (term && is_dollar_class c && ltb s.class.close dollar_price) ≡ true →
      is_program_class c ≡ true
  program term e =
      let dollar : is_dollar_class c ≡ true = search parts in
      let cheap : ltb s.class.close dollar_price ≡ true = search parts in
      rw (dollar, cheap)

  pub dollar_whole : dollar_grid s (cents h) ≡ true → Whole
  dollar_whole e =
      record {
        program = program (is_near s) (search parts);
        whole = times 2 h (cents h / one_dollar) (omega (arith, eqb-true (cents h % one_dollar) 0 (search parts)));
        most = omega (arith, leb-true (cents h) fifty_dollars (search parts));
      }

  abbrev base : ℕ
  base = wing_base (cents h)

  abbrev at_2 : Bool
  at_2 = eqb (cents h) (base + two_dollars)

  abbrev at_3 : Bool
  at_3 = eqb (cents h) (base + three_dollars)

  -- a wing stands $2 or $3 above a multiple of $5
  wing_whole : (p : ℕ) → wing_at p base (cents h) ≡ true → h % 2 ≡ 0
  wing_whole p e =
      ⊎_elim
      (λ d.
      ⊎_elim (λ a. two (search ands)) (λ a. three (search ands))
      (or_cases (at_2 && leb p base) (at_3 && leb (base + five_dollars) p) d))
      (λ a. two (search ands))
      (or_cases (at_2 && leb p base || at_3 && leb (base + five_dollars) p)
      (at_2 && (ltb base p && leb p (base + five_dollars))) (true_T _ e))
    where
      two : T at_2 → h % 2 ≡ 0
      two a = times 2 h (5 * (cents h / five_dollars) + 2) (omega (arith, eqb→eq (cents h) (base + two_dollars) a))

      three : T at_3 → h % 2 ≡ 0
      three a = times 2 h (5 * (cents h / five_dollars) + 3) (omega (arith, eqb→eq (cents h) (base + three_dollars) a))

  -- what the grid of Wing says of the strike, and of its L
  pub record Wing : Type 0 where
    pub whole : Whole
    pub least : five_dollars ≤ base
    pub most : base ≤ forty_five_dollars

  pub wing_stepped : (p : ℕ) → wing_grid s p (cents h) ≡ true → Wing
  wing_stepped p e =
      let most : base ≤ forty_five_dollars = leb-true base forty_five_dollars (search parts) in
      record {
        whole =
            record {
              program = program (is_long s) (search parts);
              whole = wing_whole p (search parts);
              most = omega arith;
            };
        least = leb-true five_dollars base (search parts);
        most = most;
      }

  -- what the grid of ground 4 says of the strike
  pub record TwoFifty : Type 0 where
    pub asked : has_two_fifties s ≡ true
    pub five : h % 5 ≡ 0
    pub least : last_two_fifty < h
    pub most : h ≤ last_hundred
    pub dollar : is_dollar_class c ≡ true → h ≤ last_dollar → h % 10 ≡ 0
    pub close : last_dollar ≤ h → IsClose s h

  abbrev low : Bool
  low = ltb twenty_five_dollars (cents h) && ltb (cents h) fifty_dollars

  abbrev high : Bool
  high =
      leb fifty_dollars (cents h) && leb (cents h) hundred_dollars && leb (apart (cents h) s.class.close) ten_dollars

  pub two_fifty_stepped : two_fifty_grid s (cents h) ≡ true → TwoFifty
  two_fifty_stepped e =
      let m : cents h % two_fifty ≡ 0 = eqb-true (cents h % two_fifty) 0 (search parts) in
      let bars : not (is_barred c (cents h)) ≡ true = search parts in
      let place : (low || high) ≡ true = search parts in
      let five : h % 5 ≡ 0 = times 5 h (cents h / two_fifty) (omega arith) in
      ⊎_elim
      (λ a.
      let under : cents h < fifty_dollars = ltb→lt (cents h) fifty_dollars (search ands) in
      record {
        asked = search parts;
        five = five;
        least = omega (arith, ltb→lt twenty_five_dollars (cents h) (search ands));
        most = omega arith;
        dollar = λ d k. unbarred_five c h d bars (omega arith);
        close = λ k. absurd (omega arith);
      })
      (λ a.
      let over : fifty_dollars ≤ cents h = leb→le fifty_dollars (cents h) (search ands) in
      record {
        asked = search parts;
        five = five;
        least = omega arith;
        most = omega (arith, leb→le (cents h) hundred_dollars (search ands));
        dollar = λ d k. let is : h ≡ last_dollar = omega arith in rw is;
        close = λ k.
            let near : apart (cents h) s.class.close ≤ ten_dollars =
            leb→le (apart (cents h) s.class.close) ten_dollars (search ands) in
            (omega arith, omega arith);
      })
      (or_cases low high (true_T _ place))

  pub two_fifty_on : TwoFifty → On (rungs s) h
  two_fifty_on w =
      at_rung OnStep (rungs s) h
      ((λ a l. mod-one h) ▹
      (λ a l. dollars (dollar_reached c h (omega arith) l)) ▹
      (λ a l. w.five) ▹
      (λ a l. below (is_dollar_class c) refl a.1 l) ▹
      (λ a l. w.five) ▹
      (λ a l. absurd (past a.0.1 a.1)) ▹
      (λ a. absurd (omega (arith, w.most))))
    where
      dollars : (is_program_class c ≡ true) × (h ≤ last_dollar) → h % 2 ≡ 0
      dollars p = times 2 h (5 * (h / 10)) (omega (arith, w.dollar (program_dollar c h p.0) p.1))

      near_close : last_dollar ≤ h → h ≤ below_end s → ⊥
      near_close k l =
          let under : h ≤ last_below s.class.close = rw w.asked at l in
          omega (arith, w.close k)

      below : (d : Bool) → is_dollar_class c ≡ d → ladder_end s < h → h ≤ below_end s → h % 10 ≡ 0
      below true d k l =
          ⊎_elim (λ j. absurd (near_close (omega arith) l)) (λ j. w.dollar d j) (lt_or_le last_dollar h)
      below false d k l =
          let over : last_dollar < h = rw (d, w.asked) at k in
          absurd (near_close (omega arith) l)

      past : below_end s < h → around_end s < h → ⊥
      past l m =
          let over : last_below s.class.close < h = rw w.asked at l in
          let above : last_around s.class.close < h = rw w.asked at m in
          omega (arith, w.most, w.close (omega arith))

  -- and which strikes are on it: outside the $1 classes those below $50, and those no more than $10 from the close
  pub two_fifty_low : has_two_fifties s ≡ true → is_dollar_class c ≡ false → h % 5 ≡ 0 → last_two_fifty < h
      → h < last_dollar →
      two_fifty_grid s (cents h) ≡ true
  two_fifty_low asked d m l k =
      rw (
        asked,
        d,
        eq-eqb (cents h % two_fifty) 0 (omega arith),
        lt-ltb twenty_five_dollars (cents h) (omega arith),
        lt-ltb (cents h) fifty_dollars (omega arith),
      )

  pub two_fifty_around : Around s h → h % 5 ≡ 0 → two_fifty_grid s (cents h) ≡ true
  two_fifty_around r m =
      let l = r.least in
      let k = r.most in
      rw (
        r.asked,
        eq-eqb (cents h % two_fifty) 0 (omega arith),
        le-ltb (cents h) fifty_dollars (omega arith),
        le-leb fifty_dollars (cents h) (omega arith),
        le-leb (cents h) hundred_dollars (omega arith),
        le-leb (apart (cents h) s.class.close) ten_dollars (omega (arith, r.close)),
        and-false,
        and-false,
      )
