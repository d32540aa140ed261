-- The conditions of the rules answer as the judgement does, and no strike above the rules' bound is permitted: by the
-- first row that passes. Assumes nothing.
use mathlib.Core.Path.{◌≡◌, refl, sym, ap, ◌∙◌}
use mathlib.Core.Bool.{Bool, true, false, cond, not, ◌&&◌, ◌||◌, true≢false}
use mathlib.Core.List.{List, [], ◌∷◌}
use Prim.Native.Nat.{ℕ, ◌+◌, ◌-◌, ◌≤◌, ◌<◌}
use native.Mathlib.Omega.{arith}
use lib.Dec.{eqb}
use Rattle.std.specs.Prelude.{Ok, Err}
use Rattle.word.specs.Limits.{highest_strike}
use Rattle.word.specs.Answers.{Answer}
use Rattle.word.specs.declared.answer.Accepted.TheVariants.{Ground}
use Rattle.word.specs.Answers.{answer_value, is_accepted}
use Rattle.word.specs.declared.answer.Refusal.TheVariants.{NotOpen, MonthOutside, AlreadyStanding, NoClose, OffGrid, OutOfRange, TooClose}
use Rattle.logic.specs.Lists.{some, only, up_from}
use Rattle.rule.specs.Terms.{is_outside}
use Rattle.rule.specs.Ends.{top_end}
use Rattle.rule.specs.Spacing.{Standing}
use Rattle.rule.specs.Judgement.{passes_grid, passes_range, passes, refusal_of, ground_from, decided, judgement, is_permitted_beside, permitted}
use Rattle.rule.proofs.Most.{refused_above}
use Rattle.book.specs.Facts.{in_month}
use Rattle.book.specs.Views.{View, is_not_open, is_standing, has_no_close, setting, standing_in, rows, ground_of}
use Rattle.book.specs.Calls.{Condition, draws, first_or, none_applies, judging, permitted_in}
use Rattle.book.specs.Permission.{is_permitted_by}
use Rattle.logic.proofs.Tests.{parts}
use Rattle.logic.proofs.Lists.{some_map}
use Rattle.logic.proofs.Numbers.{only_short}
use Rattle.book.proofs.Order.{first_accepted}
use Rattle.logic.proofs.Parts.{some_both}

-- what the rules ask, of the rows of the grounds
abbrev pub ruled : List (List Bool) → List Condition
ruled rs =
    draws OffGrid (not (some passes_grid rs))
    ∷ draws OutOfRange (not (some passes_range rs))
    ∷ draws TooClose (not (some passes rs))
    ∷ []

-- the first ground that passes, or the other answer
ground_passed :
    (v : Answer) (g : ℕ) (rs : List (List Bool))
    → ground_from v g rs ≡ cond (some passes rs) (Ok (Ground (answer_value (ground_from v g rs)))) v
ground_passed v g [] = refl
ground_passed v g (r ∷ rs) = go (passes r) (ground_passed v (g + 1) rs)
  where
    later : Answer
    later = ground_from v (g + 1) rs

    go : (b : Bool) → later ≡ cond (some passes rs) (Ok (Ground (answer_value later))) v
        → cond b (Ok (Ground g)) later ≡ cond (b || some passes rs) (Ok (Ground (answer_value (cond b (Ok (Ground g)) later)))) v
    go true e = refl
    go false e = e

-- a row that passes more passes less
some_less :
    (p q : List Bool → Bool) → ((r : List Bool) → p r ≡ true → q r ≡ true) → (rs : List (List Bool)) → some p rs ≡ true
    → some q rs ≡ true
some_less p q less [] e = e
some_less p q less (r ∷ rs) e = go (p r) refl (q r) refl e (some_less p q less rs)
  where
    go : (a : Bool) → p r ≡ a → (b : Bool) → q r ≡ b → (a || some p rs) ≡ true → (some p rs ≡ true → some q rs ≡ true)
        → (b || some q rs) ≡ true
    go a x true y t rest = refl
    go true x false y t rest = absurd (true≢false (sym (less r x) ∙ y))
    go false x false y t rest = rest t

passes_range_lem : (r : List Bool) → passes r ≡ true → passes_range r ≡ true
passes_range_lem r e = search parts

range_grid : (r : List Bool) → passes_range r ≡ true → passes_grid r ≡ true
range_grid r e = search parts

-- the lowest refusal that the rules draw is the judgement's, and so is the ground
pub ruled_answer : (rs : List (List Bool)) → first_or (Ok (Ground (answer_value (decided rs)))) (ruled rs) ≡ decided rs
ruled_answer rs =
    go (some passes_grid rs) refl (some passes_range rs) refl (some passes rs) refl
    ∙ sym (ground_passed (Err (refusal_of rs)) 0 rs)
  where
    on_ground : Answer
    on_ground = Ok (Ground (answer_value (decided rs)))

    go : (g : Bool) → some passes_grid rs ≡ g → (r : Bool) → some passes_range rs ≡ r → (p : Bool) → some passes rs ≡ p
        → cond (not g) (Err OffGrid) (cond (not r) (Err OutOfRange) (cond (not p) (Err TooClose) on_ground))
        ≡ cond p on_ground (Err (cond r TooClose (cond g OutOfRange OffGrid)))
    go true a true b true c = refl
    go true a true b false c = refl
    go true a false b true c = absurd (true≢false (sym (some_less passes passes_range passes_range_lem rs c) ∙ b))
    go true a false b false c = refl
    go false a true b p c = absurd (true≢false (sym (some_less passes_range passes_grid range_grid rs b) ∙ a))
    go false a false b true c = absurd (true≢false (sym (some_less passes passes_range passes_range_lem rs c) ∙ b))
    go false a false b false c = refl

-- what `J` answers: the first of the conditions before the rules, else the judgement
abbrev pub before_rules : Bool → Bool → Bool → Bool → Answer → Answer
before_rules not_open outside stands no_close judgement =
    cond not_open (Err NotOpen)
    (cond outside (Err MonthOutside)
    (cond stands (Err AlreadyStanding) (cond no_close (Err NoClose) judgement)))

module _ (m : ℕ) (v : View) where
  pub judged_answer :
      (h : ℕ)
      → first_or (Ok (Ground (ground_of v m h))) (judging m h v)
      ≡ before_rules (is_not_open v) (is_outside (setting v m)) (is_standing v m h) (has_no_close v)
      (judgement (setting v m) (standing_in v m) h)
  judged_answer h =
      ap (before_rules (is_not_open v) (is_outside (setting v m)) (is_standing v m h) (has_no_close v))
      (ruled_answer (rows v m h))

  -- nothing refuses the strike exactly where the conditions before the rules and the judgement accept it
  pub judged_none :
      (h : ℕ)
      → none_applies (judging m h v)
      ≡ is_accepted
      (before_rules (is_not_open v) (is_outside (setting v m)) (is_standing v m h) (has_no_close v)
      (judgement (setting v m) (standing_in v m) h))
  judged_none h =
      sym (first_accepted (Ok (Ground (ground_of v m h))) (judging m h v) refl) ∙ ap is_accepted (judged_answer h)

  -- .. and that is the permitted strikes
  pub none_permitted : (h : ℕ) → none_applies (judging m h v) ≡ is_permitted_by m h v
  none_permitted h =
      judged_none h ∙ go (is_not_open v) (is_outside (setting v m)) (is_standing v m h) (has_no_close v)
    where
      a : Answer
      a = judgement (setting v m) (standing_in v m) h

      go : (not_open outside stands no_close : Bool)
          → is_accepted (before_rules not_open outside stands no_close a)
          ≡ (not not_open && (not outside && (not stands && (not no_close && is_accepted a))))
      go true d e g = refl
      go false true e g = refl
      go false false true g = refl
      go false false false true = refl
      go false false false false = refl

  beyond : (h : ℕ) → top_end (setting v m) < h → h ≤ highest_strike → none_applies (judging m h v) ≡ false
  beyond h l most =
      judged_none h
      ∙ go (is_not_open v) (is_outside (setting v m)) (is_standing v m h) (has_no_close v)
    where
      go : (a b d e : Bool) → is_accepted (before_rules a b d e (judgement (setting v m) (standing_in v m) h)) ≡ false
      go true b d e = refl
      go false true d e = refl
      go false false true e = refl
      go false false false true = refl
      go false false false false = refused_above (setting v m) (standing_in v m) h l most

  -- the permitted strikes are found among those up to the bound of the rules
  pub permitted_short :
      (b : ℕ) → top_end (setting v m) ≤ b → b ≤ highest_strike
      → permitted_in m v ≡ only (λ h. none_applies (judging m h v)) (up_from b 1)
  unfolding permitted_in
  permitted_short b l k =
      let test : ℕ → Bool = λ h. none_applies (judging m h v) in
      let e : highest_strike ≡ b + (highest_strike - b) = omega arith in
      ap (λ (n : ℕ). only test (up_from n 1)) e
      ∙ only_short test b (highest_strike - b) 1 (λ x j i. beyond x (omega arith) (omega arith))

  standing_is : (h : ℕ) → is_standing v m h ≡ some (λ t. eqb t.strike h) (standing_in v m)
  standing_is h =
      let ss = v.class.series in
      sym
      (some_map (λ (t : Standing). eqb t.strike h) (λ s. eqb s.strike h)
      (λ s. record { strike = s.strike; on_ground = s.on_ground })
      (λ s. refl) (in_month m ss)
      ∙ some_both (λ s. eqb s.month m) (λ s. eqb s.strike h) ss)

  -- the permitted strikes are those that the rules permit beside the standing ones
  pub permitted_beside :
      is_not_open v ≡ false → is_outside (setting v m) ≡ false → has_no_close v ≡ false
      → permitted_in m v ≡ permitted (setting v m) (standing_in v m)
  unfolding permitted_in permitted
  permitted_beside opened inside priced = λ i. only (λ h. tested h i) (up_from highest_strike 1)
    where
      go :
          (stands : Bool) (a : Answer)
          → is_accepted (before_rules false false stands false a) ≡ (not stands && is_accepted a)
      go true a = refl
      go false a = refl

      tested : (h : ℕ) → none_applies (judging m h v) ≡ is_permitted_beside (setting v m) (standing_in v m) h
      tested h =
          let a = judgement (setting v m) (standing_in v m) h in
          judged_none h
          ∙ rw (opened, inside, priced) (go (is_standing v m h) a)
          ∙ ap (λ (b : Bool). not b && is_accepted a) (standing_is h)
