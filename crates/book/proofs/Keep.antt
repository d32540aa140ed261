-- Every accepted call keeps the facts well formed, and so does a list of calls: one class put in its place, its series
-- or its figures changed, by the conditions that the call has passed. The current month again changes nothing. Assumes
-- nothing.
use Prim.Native.Nat.{ℕ, ◌+◌, ◌-◌, ◌≤◌, ◌<◌, zero-le}
use mathlib.Core.Path.{◌≡◌, refl, sym, ap, ◌∙◌, subst}
use mathlib.Core.Bool.{Bool, true, false, cond, not, ◌&&◌, ◌||◌}
use mathlib.Core.List.{List, [], ◌∷◌, map, map-map}
use mathlib.Core.Logic.{◌⊎◌, inl, inr}
use native.Mathlib.Omega.{arith}
use lib.ListN.{length, get_or, set, length-map, get_or-replicate}
use lib.Seq.{get_or-set_same, get_or-set_other}
use lib.Dec.{T, eqb, leb, ltb, leb→le, nleb→lt, nltb→le}
use borrow.Author.Tests.{eqb-true, eqb-false, le-ltb}
use Rattle.std.specs.Prelude.{Ok, Err}
use Rattle.logic.specs.Lists.{sum, every, some, only}
use Rattle.word.specs.declared.class.ClassRecord.{ClassRecord}
use Rattle.word.specs.Answers.{Answer}
use Rattle.word.specs.Limits.{is_class_number, is_strike, is_month, is_length, is_designation, is_ground, is_mark, is_price, is_volume, are_day_prices}
use Rattle.word.specs.Caps.{own}
use Rattle.word.specs.Class.{with_close, with_low_high, with_volume, designation, with_designation}
use Rattle.word.specs.declared.answer.Accepted.TheVariants.{Ground}
use Rattle.word.specs.declared.answer.Refusal.TheVariants.{OffGrid, OutOfRange, TooClose}
use Rattle.word.specs.Answers.{answer_value, refusal_value}
use Rattle.word.proofs.Counts.{own_at_most_one}
use Rattle.word.proofs.RangeTests.{none_yet, rising}
use Rattle.rule.specs.declared.terms.Setting.{Setting}
use Rattle.rule.specs.Terms.{is_outside}
use Rattle.rule.specs.Spacing.{Standing}
use Rattle.rule.specs.Judgement.{rows_of, passes_grid, passes_range, passes, refusal_of, ground_from, judgement}
use Rattle.word.specs.Programs.{programs, program_count, is_program, program, are_designations}
use Rattle.book.specs.Facts.{Series, OpenClass, Facts, fresh, is_below, number, new_class, is_class_open, class_of, put_class, insert_class, with_figures, with_series, is_at, insert_series, owned, expirations, words_of, words_taken}
use Rattle.word.specs.Figures.{are_figures}
use Rattle.book.specs.Books.{is_listed, is_series, is_class, is_well_formed}
use Rattle.book.specs.Views.{view_of, class, is_not_open, is_standing, is_close_outside, setting, standing_in, rows, ground_of, is_new, is_reviewed}
use Rattle.book.specs.Changes.{update, month_set, class_opened, class_grown}
use Rattle.book.specs.Calls.{Call, call_m, on, call_o, call_c, call_h, call_v, call_d, call_l, call_j, call_x, call_i, call_r, call_a, malformed, effect_on, is_cap_reached, is_granted, step, steps, after, accepted_facts}
use Rattle.book.specs.Permission.{facts_with_strike}
use Rattle.logic.proofs.Tests.{and_intro, ands, true_T, or_right, nor_left, nor_right, not_not, not_leb, not_ltb, leb_shifted}
use Rattle.logic.proofs.Lists.{every_imply, every_map, length_only, sum_map, same_keys, every_inserted, rises_inserted, sum_inserted}
use Rattle.logic.proofs.Parts.{only_all, map_same}
use Rattle.book.proofs.ClassWords.{class_good, series_good}
use Rattle.book.proofs.ProgramTable.{designations_length, designations_set}
use Rattle.book.proofs.Forms.{are_series, Well, well, well_formed}
use Rattle.book.proofs.Layouts.{fresh_well_formed}
use Rattle.book.proofs.SeriesLaws.{expirations_only, series_only, marked_at, series_marked, expirations_marked, series_inserted}
use Rattle.book.proofs.ClassLaws.{is_numbered, class_order, number_of, every_put, rises_put, sum_put}

-- ---- designations

-- the designations of a class after one of them is set
pub set_designation :
    (p q d : ℕ) (r : ClassRecord) → T (is_program p) → T (is_program q) → T (are_designations programs r.designations)
    → (designation q (with_designation p d r) ≡ designation q r)
    ⊎ ((designation q (with_designation p d r) ≡ d) × (p ≡ q))
set_designation p q d r program-p program-q good = go (eqb p q) refl
  where
    ds : List ℕ
    ds = r.designations

    low_p : 1 ≤ p
    low_p = leb→le 1 p (search ands)

    low_q : 1 ≤ q
    low_q = leb→le 1 q (search ands)

    within : p - 1 < length ds
    within =
        omega (arith, low_p, leb→le p program_count (search ands), designations_length programs ds good)

    go : (b : Bool) → eqb p q ≡ b
        → (get_or (set ds (p - 1) d) (q - 1) 0 ≡ get_or ds (q - 1) 0)
        ⊎ ((get_or (set ds (p - 1) d) (q - 1) 0 ≡ d) × (p ≡ q))
    go true e =
        let same : p ≡ q = eqb-true p q e in
        inr (
          ap (λ (k : ℕ). get_or (set ds (p - 1) d) (k - 1) 0) (sym same)
              ∙ get_or-set_same ds (p - 1) d 0 within,
          same,
        )
    go false e =
        inl (get_or-set_other ds (p - 1) (q - 1) d 0 (λ k. eqb-false p q e (omega (arith, low_p, low_q, k))))

-- a designation that is no new 1, or a cap with room
newly_cases :
    (d old : ℕ) (reached : Bool) → T (not ((eqb d 1 && not (eqb old 1)) && reached))
    → (own d ≤ own old) ⊎ T (not reached)
newly_cases d old reached t = go (eqb d 1) (eqb old 1) reached t
  where
    go : (a b x : Bool) → T (not ((a && not b) && x)) → (cond {A = ℕ} a 1 0 ≤ cond {A = ℕ} b 1 0) ⊎ T (not x)
    go false b x u = inl zero-le
    go true true x u = inl (omega arith)
    go true false x u = inr u

-- ---- prices

-- a close with a low and a high that it is not outside of
pub close_between :
    (low close high : ℕ) → T (is_price low) → T (is_price high) → T (not (ltb close low || ltb high close))
    → T (are_day_prices low close high)
close_between low close high a b inside =
    let under : T (leb low close) = not_ltb close low (search nor_left) in
    let over : T (leb close high) = not_ltb high close (search nor_right) in
    or_right (none_yet low close high) (rising low close high) (search (ands, and_intro))

-- .. and one that is both
pub close_alone : (p : ℕ) → T (is_price p) → T (are_day_prices p p p)
close_alone p t = close_between p p p t t (rw (le-ltb p p (omega arith)) tt)

-- ---- one class put in its place

module _
    (n : ℕ) (f : Facts) (c : ℕ) (w : Well n f) (k : T (is_class_number c))
    (o : T (not (is_not_open (view_of c f)))) where
  is_open : T (is_class_open c f.classes)
  is_open = not_not (is_class_open c f.classes) o

  good : T (is_well_formed n f)
  good = well_formed n f w

  class_number : number (class f c) ≡ c
  class_number = number_of c f.classes

  sum_after :
      (count : OpenClass → ℕ) (y : OpenClass) → number y ≡ c
      → sum count (put_class y f.classes) + count (class f c) ≡ sum count f.classes + count y
  sum_after count y e =
      ap (λ (i : ℕ). sum count (put_class y f.classes) + count (class_of i f.classes)) (sym e)
      ∙ sum_put count y f.classes (subst (λ (i : ℕ). T (is_class_open i f.classes)) (sym e) is_open)

  cap_kept :
      (y : OpenClass) → number y ≡ c → (p : ℕ) → T (is_program p)
      → own (designation p y.figures) ≤ own (designation p (class f c).figures)
      → owned p (put_class y f.classes) ≤ (program p).cap
  cap_kept y e p k l = omega (arith, sum_after (λ x. own (designation p x.figures)) y e, w.caps p k)

  keep_update :
      (y : OpenClass) → T (is_class f.now y) → words_taken (update y f) ≤ n
      → ((p : ℕ) → T (is_program p) → owned p (put_class y f.classes) ≤ (program p).cap) → Well n (update y f)
  keep_update y t room caps =
      record {
        run = w.run;
        room = room;
        month = w.month;
        limits = every_put (is_class f.now) y f.classes t w.limits;
        order = rises_put y f.classes w.order;
        caps = caps;
      }

  keep_figures :
      (r : ClassRecord) → r.number ≡ c → T (are_figures r)
      → ((p : ℕ) → T (is_program p) → owned p (put_class (with_figures r (class f c)) f.classes) ≤ (program p).cap)
      → Well n (update (with_figures r (class f c)) f)
  keep_figures r e t caps =
      let s = series_good n f c good is_open in
      keep_update (with_figures r (class f c)) (search and_intro)
      (omega (arith, sum_after words_of (with_figures r (class f c)) e, w.room)) caps

  keep_series :
      (ss : List Series) → T (are_series f.now ss) → words_taken (update (with_series ss (class f c)) f) ≤ n
      → Well n (update (with_series ss (class f c)) f)
  keep_series ss t room =
      let l = class_good n f c good is_open in
      let r : T (are_figures (class f c).figures) = search ands in
      keep_update (with_series ss (class f c)) (search and_intro) room
      (λ p k. cap_kept (with_series ss (class f c)) class_number p k (omega arith))

  fewer_words :
      (ss : List Series) → expirations ss + length ss ≤ expirations (class f c).series + length (class f c).series
      → words_taken (update (with_series ss (class f c)) f) ≤ n
  fewer_words ss l = omega (arith, sum_after words_of (with_series ss (class f c)) class_number, w.room)

  pub keep_only : (keep : Series → Bool) → Well n (update (with_series (only keep (class f c).series) (class f c)) f)
  keep_only keep =
      let ss = (class f c).series in
      keep_series (only keep ss) (series_only f.now f.now keep (λ s k t. t) ss (series_good n f c good is_open))
      (fewer_words (only keep ss) (omega (arith, expirations_only keep ss, length_only keep ss)))

  keep_marks :
      (m h a b : ℕ) → T (is_mark a) → T (is_mark b)
      → Well n (update (with_series (map (marked_at m h a b) (class f c).series) (class f c)) f)
  keep_marks m h a b ma mb =
      let ss = (class f c).series in
      keep_series (map (marked_at m h a b) ss) (series_marked m h a b f.now ma mb ss (series_good n f c good is_open))
      (fewer_words (map (marked_at m h a b) ss)
      (omega (arith, expirations_marked m h a b ss, length-map ss (marked_at m h a b))))

  keep_close : (p : ℕ) → T (is_price p)
      → Well n (update (with_figures (with_close p (class f c).figures) (class f c)) f)
  keep_close p t =
      let l = class_good n f c good is_open in
      let prices = close_alone p t in
      keep_figures (with_close p (class f c).figures) class_number (search (ands, and_intro) depth 12)
      (λ q k. cap_kept (with_figures (with_close p (class f c).figures) (class f c)) class_number q k (omega arith))

  keep_low_high :
      (low high : ℕ) → T (is_price low) → T (is_price high) → T (not (is_close_outside (view_of c f) low high))
      → Well n (update (with_figures (with_low_high low high (class f c).figures) (class f c)) f)
  keep_low_high low high a b o =
      let l = class_good n f c good is_open in
      let prices = close_between low (class f c).figures.close high a b o in
      keep_figures (with_low_high low high (class f c).figures) class_number (search (ands, and_intro) depth 12)
      (λ q k.
      cap_kept (with_figures (with_low_high low high (class f c).figures) (class f c)) class_number q k (omega arith))

  keep_volume :
      (v : ℕ) → T (is_volume v) → Well n (update (with_figures (with_volume v (class f c).figures) (class f c)) f)
  keep_volume v t =
      let l = class_good n f c good is_open in
      keep_figures (with_volume v (class f c).figures) class_number (search (ands, and_intro) depth 12)
      (λ q k. cap_kept (with_figures (with_volume v (class f c).figures) (class f c)) class_number q k (omega arith))

  keep_designation :
      (p d : ℕ) → T (is_program p) → T (is_designation d)
      → T (not (is_new p d (class f c).figures && is_cap_reached p f))
      → Well n (update (with_figures (with_designation p d (class f c).figures) (class f c)) f)
  keep_designation p d k t new =
      keep_figures (with_designation p d r) class_number figures (λ q j. cap q j (set_designation p q d r k j all))
    where
      r : ClassRecord
      r = (class f c).figures

      y : OpenClass
      y = with_figures (with_designation p d r) (class f c)

      all : T (are_designations programs r.designations)
      all = let l = class_good n f c good is_open in search ands

      figures : T (are_figures (with_designation p d r))
      figures =
          let l = class_good n f c good is_open in
          let each = designations_set programs r.designations (p - 1) d t all in
          search (ands, and_intro) depth 12

      cap :
          (q : ℕ) → T (is_program q)
          → (designation q y.figures ≡ designation q r) ⊎ ((designation q y.figures ≡ d) × (p ≡ q))
          → owned q (put_class y f.classes) ≤ (program q).cap
      cap q j (inl e) = cap_kept y class_number q j (omega (arith, ap own e))
      cap q j (inr (e, same)) =
          let here : T (not (is_new q d r && is_cap_reached q f)) = rw (sym same) new in
          let count = sum_after (λ x. own (designation q x.figures)) y class_number in
          elim (newly_cases d (designation q r) (is_cap_reached q f) here) [
            | inl l ↦ omega (arith, count, ap own e, w.caps q j)
            | inr room ↦ omega (
              arith,
              count,
              ap own e,
              own_at_most_one d,
              nleb→lt (program q).cap (owned q f.classes) room,
            )
          ]

-- ---- a month that begins

abbrev is_from_month : ℕ → Series → Bool
is_from_month m s = leb m s.month

abbrev expired : ℕ → OpenClass → OpenClass
expired m x = with_series (only (is_from_month m) x.series) x

module _ (n : ℕ) (f : Facts) (m : ℕ) (w : Well n f) (l : f.now ≤ m) where
  later_limits : (s : Series) → T (is_from_month m s) → T (is_series f.now s) → T (is_series m s)
  later_limits s k t = search (ands, and_intro, leb_shifted) depth 12

  class_expired : (x : OpenClass) → T (is_class f.now x) → T (is_class m (expired m x))
  class_expired x t =
      let a : T (are_figures x.figures) = search ands in
      let b : T (are_series m (only (is_from_month m) x.series)) =
      series_only f.now m (is_from_month m) later_limits x.series (search ands) in
      search and_intro

  words_expired : (x : OpenClass) → words_of (expired m x) ≤ words_of x
  words_expired x = omega (arith, expirations_only (is_from_month m) x.series, length_only (is_from_month m) x.series)

  keep_month : T (is_month m) → Well n (record { now = m; classes = map (expired m) f.classes })
  keep_month t =
      record {
        run = w.run;
        room = omega (arith, sum_map words_of (expired m) words_expired f.classes, w.room);
        month = t;
        limits = every_map (is_class f.now) (is_class m) (expired m) class_expired f.classes w.limits;
        order =
            same_keys number ltb (map (expired m) f.classes) f.classes (map-map number (expired m) f.classes)
            w.order;
        caps = λ p k.
            let count = sum_map (λ x. own (designation p x.figures)) (expired m) (λ x. omega arith) f.classes in
            omega (arith, count, w.caps p k);
      }

-- the current month again: no expiration is earlier
pub month_again : (n : ℕ) (f : Facts) → Well n f → month_set f.now f ≡ f
unfolding month_set
month_again n f w =
    let classes = map_same (is_class f.now) (expired f.now) none_expires f.classes w.limits in
    λ i. record { now = f.now; classes = classes i }
  where
    none_expires : (x : OpenClass) → T (is_class f.now x) → expired f.now x ≡ x
    none_expires x t =
        let series =
        only_all (is_from_month f.now) x.series
        (every_imply (is_series f.now) (is_from_month f.now) (λ s u. search ands) x.series (search ands)) in
        λ i. record { figures = x.figures; series = series i }

-- ---- a new class

keep_open :
    (n c : ℕ) (f : Facts) → Well n f → T (is_class_number c) → T (not (is_class_open c f.classes))
    → words_taken (record { now = f.now; classes = insert_class (new_class c) f.classes }) ≤ n
    → Well n (record { now = f.now; classes = insert_class (new_class c) f.classes })
keep_open n c f w t o room =
    record {
      run = w.run;
      room = room;
      month = w.month;
      limits =
          every_inserted is_below (is_class f.now) (new_class c) f.classes (search and_intro) w.limits;
      order = rises_inserted is_numbered is_below class_order (new_class c) f.classes o w.order;
      caps = cap;
    }
  where
    cap : (p : ℕ) → T (is_program p) → owned p (insert_class (new_class c) f.classes) ≤ (program p).cap
    cap p k =
        let count = sum_inserted is_below (λ x. own (designation p x.figures)) (new_class c) f.classes in
        let within : p - 1 < program_count =
        omega (arith, leb→le 1 p (search ands), leb→le p program_count (search ands)) in
        omega (arith, count, ap own (get_or-replicate program_count (p - 1) 0 0 within), w.caps p k)

-- ---- a new series

month_listed :
    (f : Facts) (c m : ℕ) → T (is_month m) → T (not (is_outside (setting (view_of c f) m))) → T (is_listed f.now m)
month_listed f c m t o = search (not_leb, not_ltb, nor_left, nor_right, and_intro) depth 12

-- the grounds of rows that begin at g
abbrev grounds_from : ℕ → List (List Bool) → List ℕ
grounds_from g [] = []
grounds_from g (row ∷ rows) = g ∷ grounds_from (g + 1) rows

ground_from_lem :
    (v : Answer) (g : ℕ) (rows : List (List Bool)) → T (is_ground (answer_value v))
    → T (every is_ground (grounds_from g rows)) → T (is_ground (answer_value (ground_from v g rows)))
ground_from_lem v g [] t each = t
ground_from_lem v g (row ∷ rows) t each = go (passes row) (ground_from_lem v (g + 1) rows t (search ands))
  where
    go :
        (b : Bool) → T (is_ground (answer_value (ground_from v (g + 1) rows)))
        → T (is_ground (answer_value (cond b (Ok (Ground g)) (ground_from v (g + 1) rows))))
    go true r = search ands
    go false r = r

-- the ground of a judgement, and the value of one that refuses
pub ground_limit :
    (s : Setting) (standing : List Standing) (h : ℕ) → T (is_ground (answer_value (judgement s standing h)))
ground_limit s standing h =
    let rows = rows_of s standing h in
    ground_from_lem (Err (refusal_of rows)) 0 rows (refused (some passes_range rows) (some passes_grid rows)) tt
  where
    refused : (a b : Bool) → T (is_ground (refusal_value (cond a TooClose (cond b OutOfRange OffGrid))))
    refused true b = tt
    refused false true = tt
    refused false false = tt

keep_strike :
    (n c m h : ℕ) (f : Facts) → Well n f → T (is_class_number c) → T (not (is_not_open (view_of c f))) → T (is_month m)
    → T (is_strike h) → T (not (is_outside (setting (view_of c f) m))) → T (not (is_standing (view_of c f) m h))
    → words_taken (facts_with_strike c m h f) ≤ n → Well n (facts_with_strike c m h f)
unfolding class_grown
keep_strike n c m h f w number o month strike inside new room =
    let s : Series = record { month = m; strike = h; on_ground = ground_of (view_of c f) m h; put = 0; call = 0 } in
    let a : T (is_listed f.now m) = month_listed f c m month inside in
    let b : T (is_ground (ground_of (view_of c f) m h)) =
    ground_limit (setting (view_of c f) m) (standing_in (view_of c f) m) h in
    let t : T (is_series f.now s) = search and_intro depth 12 in
    let ss = (class f c).series in
    keep_series n f c w number o (insert_series s ss)
    (series_inserted f.now s ss t new (series_good n f c (good n f c w number o) (is_open n f c w number o))) room

-- ---- every call

effect_well :
    (n : ℕ) (x : Call) (f : Facts) → Well n f → T (is_granted n x f)
    → Well n (accepted_facts x f)
unfolding effect_on month_set class_opened
effect_well n (call_m m) f w t = keep_month n f m w (nltb→le m f.now (search ands)) (search ands)
effect_well n (on c call_o) f w t =
    keep_open n c f w (search ands) (search ands) (nltb→le n (words_taken (class_opened c f)) (search ands))
effect_well n (on c (call_c p)) f w t = keep_close n f c w (search ands) (search ands) p (search ands)
effect_well n (on c (call_h low high)) f w t =
    keep_low_high n f c w (search ands) (search ands) low high (search ands) (search ands) (search ands)
effect_well n (on c (call_v v)) f w t = keep_volume n f c w (search ands) (search ands) v (search ands)
effect_well n (on c (call_d p d)) f w t =
    keep_designation n f c w (search ands) (search ands) p d (search ands) (search ands) (search ands)
effect_well n (on c (call_l m h)) f w t =
    keep_strike n c m h f w (search ands) (search ands) (search ands) (search ands) (search ands) (search ands)
    (nltb→le n (words_taken (facts_with_strike c m h f)) (search ands depth 12))
effect_well n (on c (call_j m h)) f w t = w
effect_well n (on c (call_x m h)) f w t = keep_only n f c w (search ands) (search ands) (λ s. not (is_at m h s))
effect_well n (on c (call_i m h a b)) f w t =
    keep_marks n f c w (search ands) (search ands) m h a b (search ands depth 12) (search ands depth 12)
effect_well n (on c call_r) f w t = keep_only n f c w (search ands) (search ands) (λ s. not (is_reviewed (class f c) s))
effect_well n (on c (call_a m)) f w t = w
effect_well n malformed f w t = absurd t

pub step_keeps : (n : ℕ) (x : Call) (f : Facts) → T (is_well_formed n f) → T (is_well_formed n (step n x f))
unfolding step
step_keeps n x f t = go (is_granted n x f) refl
  where
    go : (b : Bool) → is_granted n x f ≡ b → T (is_well_formed n (cond b (accepted_facts x f) f))
    go true e = well_formed n (accepted_facts x f) (effect_well n x f (well n f t) (true_T (is_granted n x f) e))
    go false e = t

pub steps_keep : (n : ℕ) (xs : List Call) (f : Facts) → T (is_well_formed n f) → T (is_well_formed n (steps n xs f))
unfolding steps
steps_keep n [] f t = t
steps_keep n (x ∷ xs) f t = steps_keep n xs (step n x f) (step_keeps n x f t)

-- ---- after any calls

pub after_well_formed : (n : ℕ) (xs : List Call) → T (is_length n) → T (is_well_formed n (after n xs))
after_well_formed n xs t = steps_keep n xs fresh (fresh_well_formed n t)
