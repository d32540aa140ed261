-- A strike stands on a ground exactly when some `L` of the list added it and no later call removed it: each accepted
-- call by what it leaves of the series at one month and strike, then by induction on the list. Assumes nothing.
use Prim.Native.Nat.{ℕ}
use mathlib.Core.Path.{◌≡◌, refl, sym, ap, ◌∙◌, subst}
use mathlib.Core.Bool.{Bool, true, false, cond, not, ◌&&◌, ◌||◌, and-true, and-false, or-false}
use mathlib.Core.List.{List, [], ◌∷◌, ◌++◌}
use mathlib.Core.Logic.{◌⊎◌, inl, inr, ◌↔◌}
use lib.Dec.{T, eqb, leb, ltb, eqb→eq, eqb_refl}
use borrow.Author.Tests.{eqb-true, eqb-false, eq-eqb}
use Rattle.word.specs.Limits.{is_length}
use Rattle.logic.specs.Lists.{some, only}
use Rattle.book.specs.Facts.{Series, OpenClass, Facts, fresh, is_class_open, with_series, is_at, stands, with_marks, precedes, insert_series}
use Rattle.book.specs.Books.{is_well_formed}
use Rattle.book.specs.Views.{View, view_of, class, is_not_open, ground_of, is_reviewed}
use Rattle.book.specs.Changes.{new_series, month_set, facts_after}
use Rattle.book.specs.Calls.{ClassCall, Call, call_m, on, call_o, call_c, call_h, call_v, call_d, call_l, call_j, call_x, call_i, call_r, call_a, malformed, is_granted, step, steps, after, effect_on, accepted_facts}
use Rattle.book.specs.Permission.{is_permitted, are_words_left}
use Rattle.book.specs.Added.{stands_on, takes_from, takes_away, removes, stays_through, Added}
use Rattle.logic.proofs.Tests.{and_left, and_right, and_intro, ands, T_true, true_T, equal_either_way, not_not, at_most}
use Rattle.logic.proofs.Lists.{some_map, some_inserted}
use Rattle.book.proofs.Forms.{are_series, well}
use Rattle.book.proofs.Layouts.{fresh_well_formed}
use Rattle.book.proofs.SeriesLaws.{marked_at}
use Rattle.book.proofs.ClassLaws.{series_of, class_of_map}
use Rattle.book.proofs.Views.{view_after, call_elsewhere, call_here}
use Rattle.book.proofs.Keep.{step_keeps, after_well_formed}
use Rattle.book.proofs.Permission.{listing_exactly}
use Rattle.logic.proofs.Parts.{only_absent, only_both, only_either_way, some_both}
use Rattle.book.proofs.SeriesParts.{stander}

-- ---- the series at one month and strike

abbrev is_on_ground : ℕ → Series → Bool
is_on_ground g s = eqb s.on_ground g

module _ (g m h : ℕ) where
  abbrev is_standing_on : Series → Bool
  is_standing_on s = is_at m h s && is_on_ground g s

  -- at most one series is at the month and strike, so that whether it is kept decides
  kept_stands :
      (now : ℕ) (ss : List Series) → T (are_series now ss) → (keep : Series → Bool) (away : Bool)
      → ((s : Series) → s.month ≡ m → s.strike ≡ h → only (is_at m h) ss ≡ s ∷ [] → keep s ≡ not away)
      → some is_standing_on (only keep ss) ≡ (some is_standing_on ss && not away)
  kept_stands now ss t keep away one =
      sym (some_both (is_at m h) (is_on_ground g) (only keep ss))
      ∙ ap (some (is_on_ground g)) (only_either_way keep (is_at m h) ss)
      ∙ go (stands m h ss) refl
      ∙ ap (λ (b : Bool). b && not away) (some_both (is_at m h) (is_on_ground g) ss)
    where
      decided :
          (s : Series) (b : Bool)
          → some (is_on_ground g) (cond (not b) (s ∷ []) []) ≡ ((is_on_ground g s || false) && not b)
      decided s true = sym (and-false (is_on_ground g s || false))
      decided s false = sym (and-true (is_on_ground g s || false))

      go :
          (b : Bool) → stands m h ss ≡ b
          → some (is_on_ground g) (only keep (only (is_at m h) ss))
          ≡ (some (is_on_ground g) (only (is_at m h) ss) && not away)
      go false e = rw (only_absent (is_at m h) ss (rw e tt))
      go true e =
          let s = stander ss m h now t (rw e tt) in
          let alone = sym (only_both (λ u. eqb u.month m) (λ u. eqb u.strike h) ss) ∙ s.alone in
          rw (alone, one s.it s.month s.strike alone) (decided s.it away)

-- ---- one call

-- the strike is permitted on the ground, and words are left for it
abbrev Addition : ℕ → ℕ → ℕ → ℕ → ℕ → Facts → Type 0
Addition n g c m h f = T (is_permitted c m h f) × (ground_of (view_of c f) m h ≡ g) × T (are_words_left n c m h f)

module _ (n g c m h : ℕ) (f : Facts) (w : T (is_well_formed n f)) where
  abbrev standing : Bool
  standing = stands_on g c m h f

  abbrev stands_in : OpenClass → Bool
  stands_in x = some (is_standing_on g m h) x.series

  unchanged : standing ≡ (standing && true)
  unchanged = sym (and-true standing)

  -- some of the series of the class c are kept
  kept_of_class :
      (keep : Series → Bool) (away : Bool)
      → ((s : Series) → s.month ≡ m → s.strike ≡ h → only (is_at m h) (class f c).series ≡ s ∷ [] → keep s ≡ not away)
      → some (is_standing_on g m h) (only keep (class f c).series) ≡ (standing && not away)
  kept_of_class =
      kept_stands g m h f.now (class f c).series (series_of f.now c f.classes (well n f w).limits)

  -- a class that is open is what the call makes of it
  made : T (not (is_not_open (view_of c f))) → (y : OpenClass) → cond (is_class_open c f.classes) y (class f c) ≡ y
  made o y = rw (T_true (is_class_open c f.classes) (not_not (is_class_open c f.classes) o))

  -- with one series more
  listing_stands :
      (s : Series)
      → stands_in (with_series (insert_series s (class f c).series) (class f c)) ≡ (is_standing_on g m h s || standing)
  listing_stands s = some_inserted precedes (is_standing_on g m h) s (class f c).series

  -- a call on the class takes the strike away or leaves it, unless it is the `L` of the strike
  call_stands :
      (x : ClassCall) → T (is_granted n (on c x) f)
      → (x ≡ call_l m h)
      ⊎ (stands_in (view_after (effect_on c x (view_of c f)).does (view_of c f)).class
      ≡ (standing && not (takes_from x m h (class f c))))
  unfolding effect_on takes_from
  call_stands call_o t = inr unchanged
  call_stands (call_c p) t = inr (ap stands_in (made (search ands) _) ∙ unchanged)
  call_stands (call_h low high) t = inr (ap stands_in (made (search ands) _) ∙ unchanged)
  call_stands (call_v v) t = inr (ap stands_in (made (search ands) _) ∙ unchanged)
  call_stands (call_d p d) t = inr (ap stands_in (made (search ands) _) ∙ unchanged)
  call_stands (call_l k i) t = go (eqb k m && eqb i h) refl (ap stands_in (made (search ands) _) ∙ listing_stands s)
    where
      s : Series
      s = new_series k i (ground_of (view_of c f) k i)

      after : Bool
      after =
          stands_in
          (cond (is_class_open c f.classes) (with_series (insert_series s (class f c).series) (class f c)) (class f c))

      go :
          (at : Bool) → (eqb k m && eqb i h) ≡ at → after ≡ ((at && is_on_ground g s) || standing)
          → (call_l k i ≡ call_l m h) ⊎ (after ≡ (standing && true))
      go false r e = inr (e ∙ unchanged)
      go true r e =
          let same : T (eqb k m && eqb i h) = rw r tt in
          let month = eqb→eq k m (search ands) in
          let strike = eqb→eq i h (search ands) in
          inl (λ j. call_l (month j) (strike j))
  call_stands (call_j k i) t = inr unchanged
  call_stands (call_x k i) t =
      inr
      (ap stands_in (made (search ands) _)
      ∙ kept_of_class (λ s. not (is_at k i s)) (eqb k m && eqb i h)
      (λ s e e' alone. rw (e, e') (λ j. not (equal_either_way m k j && equal_either_way h i j))))
  call_stands (call_i k i a b) t =
      inr
      (ap stands_in (made (search ands) _)
      ∙ some_map (is_standing_on g m h) (is_standing_on g m h) (marked_at k i a b) (λ s. go s (is_at k i s))
      (class f c).series
      ∙ unchanged)
    where
      go : (s : Series) (at : Bool) → is_standing_on g m h (cond at (with_marks a b s) s) ≡ is_standing_on g m h s
      go s true = refl
      go s false = refl
  call_stands call_r t =
      let reviewed : Series → Bool = is_reviewed (class f c) in
      inr
      (ap stands_in (made (search ands) _)
      ∙ kept_of_class (λ s. not (reviewed s)) (some (λ s. is_at m h s && reviewed s) (class f c).series)
      (λ s e e' alone.
      ap not
      (sym (or-false (reviewed s))
      ∙ sym (ap (some reviewed) alone)
      ∙ some_both (is_at m h) reviewed (class f c).series)))
  call_stands (call_a k) t = inr unchanged

  abbrev stands_seen : View → Bool
  stands_seen v = stands_in v.class

  -- an accepted call takes the strike away or leaves it, unless it is the `L` of the strike
  effect_stands :
      (x : Call) → T (is_granted n x f)
      → (x ≡ on c (call_l m h)) ⊎ (stands_on g c m h (accepted_facts x f) ≡ (standing && not (takes_away x c m h f)))
  unfolding month_set
  effect_stands (call_m k) t =
      inr
      (ap stands_in
      (class_of_map (λ x. with_series (only (λ s. leb k s.month) x.series) x) (λ x. refl) c refl f.classes)
      ∙ kept_of_class (λ s. leb k s.month) (ltb m k) (λ s e e' alone. ap (leb k) e ∙ at_most k m))
  effect_stands (on d x) t = go (eqb d c) refl
    where
      go :
          (b : Bool) → eqb d c ≡ b
          → (on d x ≡ on c (call_l m h))
          ⊎ (stands_on g c m h (facts_after d (effect_on d x (view_of d f)).does f)
          ≡ (standing && not (b && takes_from x m h (class f c))))
      go false q = inr (ap stands_seen (call_elsewhere n d x f c (eqb-false d c q)) ∙ unchanged)
      go true q =
          let same = eqb-true d c q in
          let u : T (is_granted n (on c x) f) = subst (λ (k : ℕ). T (is_granted n (on k x) f)) same t in
          elim (call_stands x u) [
            | inl e ↦ inl (λ j. on (same j) (e j))
            | inr e ↦ inr
                (ap (λ (k : ℕ). stands_on g c m h (facts_after k (effect_on k x (view_of k f)).does f)) same
                ∙ ap stands_seen (call_here n c x f u)
                ∙ e)
          ]
  effect_stands malformed t = absurd t

  -- so any call removes the strike or leaves it, unless it is the `L` of the strike, and accepted
  step_stands :
      (x : Call)
      → ((x ≡ on c (call_l m h)) × T (is_permitted c m h f) × T (are_words_left n c m h f))
      ⊎ (stands_on g c m h (step n x f) ≡ (standing && not (removes n x c m h f)))
  unfolding step
  step_stands x = go (is_granted n x f) refl
    where
      go :
          (b : Bool) → is_granted n x f ≡ b
          → ((x ≡ on c (call_l m h)) × T (is_permitted c m h f) × T (are_words_left n c m h f))
          ⊎ (stands_on g c m h (cond b (accepted_facts x f) f) ≡ (standing && not (b && takes_away x c m h f)))
      go false q = inr unchanged
      go true q = elim (effect_stands x (true_T (is_granted n x f) q)) [
        | inl e ↦
            let t : T (is_permitted c m h f && are_words_left n c m h f) =
            rw (sym (listing_exactly n c m h f) ∙ ap (λ (y : Call). is_granted n y f) (sym e) ∙ q) tt in
            inl (
              e,
              and_left (is_permitted c m h f) (are_words_left n c m h f) t,
              and_right (is_permitted c m h f) (are_words_left n c m h f) t,
            )
        | inr e ↦ inr e
      ]

  not_standing : T (is_permitted c m h f) → standing ≡ false
  not_standing t =
      sym (some_both (is_at m h) (is_on_ground g) (class f c).series)
      ∙ ap (some (is_on_ground g)) (only_absent (is_at m h) (class f c).series (search ands))

  -- that `L` adds it on the ground of the rules
  added_stands :
      T (is_permitted c m h f) → T (are_words_left n c m h f)
      → stands_on g c m h (step n (on c (call_l m h)) f) ≡ eqb (ground_of (view_of c f) m h) g
  unfolding step effect_on
  added_stands p r =
      let new = new_series m h (ground_of (view_of c f) m h) in
      let granted : is_granted n (on c (call_l m h)) f ≡ true =
      listing_exactly n c m h f ∙ rw (T_true (is_permitted c m h f) p, T_true (are_words_left n c m h f) r) in
      rw granted
      (ap stands_seen (call_here n c (call_l m h) f (true_T (is_granted n (on c (call_l m h)) f) granted))
      ∙ ap stands_in (made (search ands) (with_series (insert_series new (class f c).series) (class f c)))
      ∙ listing_stands new
      ∙ rw (eq-eqb m m refl, eq-eqb h h refl, not_standing p) (or-false (eqb (ground_of (view_of c f) m h) g)))

  step_kept : (x : Call) → T standing → T (not (removes n x c m h f)) → T (stands_on g c m h (step n x f))
  step_kept x s k = elim (step_stands x) [
    | inl p ↦ absurd (rw (not_standing p.1) at s)
    | inr e ↦ rw e (and_intro standing (not (removes n x c m h f)) s k)
  ]

  step_origin :
      (x : Call) → T (stands_on g c m h (step n x f))
      → T (standing && not (removes n x c m h f)) ⊎ ((x ≡ on c (call_l m h)) × Addition n g c m h f)
  step_origin x t = elim (step_stands x) [
    | inl p ↦
        let on_ground = rw (p.0, added_stands p.1 p.2) at t in
        inr (p.0, (p.1, eqb→eq (ground_of (view_of c f) m h) g on_ground, p.2))
    | inr e ↦ inl (rw e at t)
  ]

-- ---- a list of calls

pub steps_append : (n : ℕ) (xs ys : List Call) (f : Facts) → steps n (xs ++ ys) f ≡ steps n ys (steps n xs f)
unfolding steps
steps_append n [] ys f = refl
steps_append n (x ∷ xs) ys f = steps_append n xs ys (step n x f)

module _ (n g c m h : ℕ) where
  stays_standing :
      (xs : List Call) (f : Facts) → T (is_well_formed n f) → T (stands_on g c m h f) → T (stays_through n xs c m h f)
      → T (stands_on g c m h (steps n xs f))
  unfolding steps stays_through
  stays_standing [] f w s t = s
  stays_standing (x ∷ xs) f w s t =
      stays_standing xs (step n x f) (step_keeps n x f w) (step_kept n g c m h f w x s (search ands)) (search ands)

  -- `Added`, from the facts f on
  abbrev AddedFrom : List Call → Facts → Type 0
  AddedFrom xs f =
      (earlier : List Call) × (later : List Call) × (xs ≡ earlier ++ (on c (call_l m h) ∷ later))
      × Addition n g c m h (steps n earlier f)
      × T (stays_through n later c m h (step n (on c (call_l m h)) (steps n earlier f)))

  -- where it stands after the list, it stood and no call removed it, or some call added it
  origin :
      (xs : List Call) (f : Facts) → T (is_well_formed n f) → T (stands_on g c m h (steps n xs f))
      → (T (stands_on g c m h f) × T (stays_through n xs c m h f)) ⊎ AddedFrom xs f
  unfolding steps stays_through
  origin [] f w t = inl (t, tt)
  origin (x ∷ xs) f w t = elim (origin xs (step n x f) (step_keeps n x f w) t) [
    | inl p ↦ go (step_origin n g c m h f w x p.0) p.1
    | inr a ↦ inr (x ∷ a.0, a.1, ap (λ (l : List Call). x ∷ l) a.2, a.3, a.4)
  ]
    where
      go :
          T (stands_on g c m h f && not (removes n x c m h f)) ⊎ ((x ≡ on c (call_l m h)) × Addition n g c m h f)
          → T (stays_through n xs c m h (step n x f))
          → (T (stands_on g c m h f) × T (stays_through n (x ∷ xs) c m h f)) ⊎ AddedFrom (x ∷ xs) f
      go (inl s) stays =
          inl (
            search ands,
            and_intro (not (removes n x c m h f)) (stays_through n xs c m h (step n x f)) (search ands) stays,
          )
      go (inr a) stays = inr ([], xs, ap (λ (y : Call). y ∷ xs) a.0, a.1, rw a.0 at stays)

-- after any list of calls
pub stands_exactly :
    {n : ℕ} (xs : List Call) (g c m h : ℕ) → T (is_length n)
    → T (stands_on g c m h (after n xs)) ↔ Added n xs g c m h
unfolding steps
stands_exactly {n} xs g c m h long = (forth, back)
  where
    forth : T (stands_on g c m h (after n xs)) → Added n xs g c m h
    forth t = elim (origin n g c m h xs fresh (fresh_well_formed n long) t) [
      | inl p ↦ absurd p.0
      | inr a ↦ record {
        earlier = a.0;
        later = a.1;
        split = a.2;
        permitted = a.3.0;
        on_ground = a.3.1;
        room = a.3.2;
        stays = a.4;
      }
    ]

    back : Added n xs g c m h → T (stands_on g c m h (after n xs))
    back a =
        let f = after n a.earlier in
        let w = after_well_formed n a.earlier long in
        let s : T (stands_on g c m h (step n (on c (call_l m h)) f)) =
        rw (added_stands n g c m h f w a.permitted a.room, a.on_ground) (eqb_refl g) in
        let t =
        stays_standing n g c m h a.later (step n (on c (call_l m h)) f)
        (step_keeps n (on c (call_l m h)) f w) s a.stays in
        rw (a.split, steps_append n a.earlier (on c (call_l m h) ∷ a.later) fresh) t
