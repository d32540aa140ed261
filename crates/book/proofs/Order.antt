-- The refusal that a call draws applies, and none of a lower rank does; a call is accepted exactly when nothing refuses
-- it, and a refused one changes nothing: the conditions of each call rise by rank, by computation. Assumes nothing.
use Prim.Native.Nat.{ℕ, suc, ◌≤◌, zero-le}
use mathlib.Core.Path.{◌≡◌, refl, sym, ap, ◌∙◌}
use mathlib.Core.Logic.{◌⊎◌, inl, inr}
use lib.ListN.{length}
use mathlib.Core.Bool.{Bool, true, false, cond, not, ◌&&◌, ◌||◌, true≢false, and-true}
use mathlib.Core.List.{List, [], ◌∷◌, ◌++◌}
use native.Mathlib.Omega.{arith}
use borrow.Author.Tests.{le-ltb, ltb-false, not-true}
use lib.Dec.{T, eqb, leb, ltb, eqb→eq, leb→le, le→leb, eqb_refl}
use Rattle.std.specs.Prelude.{Ok, Err}
use Rattle.word.specs.Answers.{Answer}
use Rattle.word.specs.declared.answer.Accepted.TheVariants.{Done, Ground, Removed, Listed}
use Rattle.word.specs.declared.answer.Refusal.{Refusal}
use Rattle.word.specs.declared.answer.Refusal.TheVariants.{BeyondLimits, OutOfWords}
use Rattle.word.specs.Answers.{refusal_number, answer_number, rank, is_accepted, strikes_listed}
use Rattle.word.proofs.Refusals.{accepted_zero}
use Rattle.logic.proofs.Tests.{and_intro, ands, parts, T_true, equal_test, or_left, or_right}
use Rattle.book.specs.Facts.{Facts, number}
use Rattle.book.specs.Views.{View, view_of}
use Rattle.book.specs.Changes.{Deed, month_becomes, opens, becomes, grows, designates, writes, nothing, facts_after, list_of}
use Rattle.book.specs.Calls.{ClassCall, Call, call_m, on, call_o, call_c, call_h, call_v, call_d, call_l, call_j, call_x, call_i, call_r, call_a, malformed, named, Condition, draws, first_or, none_applies, Effect, effect_on, effect, asked, conditions, answer_to, written, is_granted, step, accepted_facts}

-- the number k applies
abbrev pub applies : ℕ → List Condition → Bool
applies k [] = false
applies k (draws why b ∷ cs) = (eqb (refusal_number why) k && b) || applies k cs

-- no condition draws the number k
abbrev never_draws : ℕ → List Condition → Bool
never_draws k [] = true
never_draws k (draws why b ∷ cs) = not (eqb (refusal_number why) k) && never_draws k cs

-- no condition of a rank below k applies
abbrev pub none_below : ℕ → List Condition → Bool
none_below k [] = true
none_below k (draws why b ∷ cs) = (not b || leb k (rank why)) && none_below k cs

-- the ranks rise from k
abbrev rises_from : ℕ → List Condition → Bool
rises_from k [] = true
rises_from k (draws why b ∷ cs) = leb k (rank why) && rises_from (rank why) cs

-- the answer a where no condition applies, else a refusal that applies, and none of a lower rank does
pub data Lowest (cs : List Condition) (a : Answer) : Answer → Type 0 where
  granted : T (none_applies cs) → Lowest cs a a
  refused :
      {why : Refusal} → T (applies (refusal_number why) cs) → T (none_below (rank why) cs) → Lowest cs a (Err why)

rising_above : (j k : ℕ) (cs : List Condition) → j ≤ k → T (rises_from k cs) → T (none_below j cs)
rising_above j k [] l r = tt
rising_above j k (draws why b ∷ cs) l r =
    let up = leb→le k (rank why) (search ands) in
    and_intro (not b || leb j (rank why)) (none_below j cs)
    (or_right (not b) (leb j (rank why)) (le→leb j (rank why) (omega arith)))
    (rising_above j (rank why) cs (omega arith) (search ands))

first_lowest : (k : ℕ) (a : Answer) (cs : List Condition) → T (rises_from k cs) → Lowest cs a (first_or a cs)
first_lowest k a [] r = granted tt
first_lowest k a (draws why true ∷ cs) r =
    refused
    (or_left (eqb (refusal_number why) (refusal_number why) && true) (applies (refusal_number why) cs)
    (and_intro (eqb (refusal_number why) (refusal_number why)) true (eqb_refl (refusal_number why)) tt))
    (and_intro (leb (rank why) (rank why)) (none_below (rank why) cs) (le→leb (rank why) (rank why) (omega arith))
    (rising_above (rank why) (rank why) cs (omega arith) (search ands)))
first_lowest k a (draws why false ∷ cs) r = go (first_lowest (rank why) a cs (search ands))
  where
    go : {x : Answer} → Lowest cs a x → Lowest (draws why false ∷ cs) a x
    go (granted t) = granted t
    go (refused {why = other} t least) =
        refused
        (or_right (eqb (refusal_number why) (refusal_number other) && false) (applies (refusal_number other) cs) t)
        least

-- a number that is drawn applies
pub drawn_applies :
    (a : Answer) (cs : List Condition) (k : ℕ) → answer_number a ≡ 0 → answer_number (first_or a cs) ≡ suc k
    → T (applies (suc k) cs)
drawn_applies a [] k zero e = absurd (omega (arith, zero, e))
drawn_applies a (draws why true ∷ cs) k zero e =
    or_left (eqb (refusal_number why) (suc k) && true) (applies (suc k) cs)
    (and_intro (eqb (refusal_number why) (suc k)) true (equal_test (refusal_number why) (suc k) e) tt)
drawn_applies a (draws why false ∷ cs) k zero e =
    or_right (eqb (refusal_number why) (suc k) && false) (applies (suc k) cs) (drawn_applies a cs k zero e)

-- a number that no condition draws does not apply
never_applies : (k : ℕ) (cs : List Condition) → T (never_draws k cs) → T (applies k cs) → ⊥
never_applies k [] never t = t
never_applies k (draws why b ∷ cs) never t = go (eqb (refusal_number why) k) never t (never_applies k cs)
  where
    go : (e : Bool) → T (not e && never_draws k cs) → T ((e && b) || applies k cs)
        → (T (never_draws k cs) → T (applies k cs) → ⊥) → ⊥
    go true n u rest = n
    go false n u rest = rest n u

pub granted_answer : (a : Answer) (cs : List Condition) → is_accepted (first_or a cs) ≡ true → first_or a cs ≡ a
granted_answer a [] e = refl
granted_answer a (draws why true ∷ cs) e = absurd (true≢false (sym e))
granted_answer a (draws why false ∷ cs) e = granted_answer a cs e

-- an answer that accepts is given exactly where none applies
pub first_accepted :
    (a : Answer) (cs : List Condition) → is_accepted a ≡ true → is_accepted (first_or a cs) ≡ none_applies cs
first_accepted a [] e = e
first_accepted a (draws why true ∷ cs) e = refl
first_accepted a (draws why false ∷ cs) e = first_accepted a cs e

pub none_last :
    (cs : List Condition) (why : Refusal) (b : Bool)
    → none_applies (cs ++ (draws why b ∷ [])) ≡ (none_applies cs && not b)
none_last [] why b = and-true (not b)
none_last (draws other true ∷ cs) why b = refl
none_last (draws other false ∷ cs) why b = none_last cs why b

-- what follows is asked where nothing before it refuses
pub first_append :
    (a : Answer) (cs ds : List Condition)
    → first_or a (cs ++ ds) ≡ cond (none_applies cs) (first_or a ds) (first_or a cs)
first_append a [] ds = refl
first_append a (draws why true ∷ cs) ds = refl
first_append a (draws why false ∷ cs) ds = first_append a cs ds

-- a refusal that applies after conditions that don't
pub first_after :
    (a : Answer) (cs : List Condition) (why : Refusal) (ds : List Condition) → T (none_applies cs)
    → first_or a (cs ++ (draws why true ∷ ds)) ≡ Err why
first_after a cs why ds t = first_append a cs (draws why true ∷ ds) ∙ rw (T_true (none_applies cs) t)

-- ---- of every call

-- what the deed of a call on a class is: it sets no month, opens a class only where it is not open, and leaves a class
-- its number
abbrev pub Sound : View → List Condition → Deed → Type 0
Sound v asks (month_becomes m) = ⊥
Sound v asks opens = T (none_applies asks) → T (not v.is_there)
Sound v asks (becomes y) = number y ≡ number v.class
Sound v asks (grows y) = number y ≡ number v.class
Sound v asks (designates p d) = T true
Sound v asks (writes ws) = T true
Sound v asks nothing = T true

-- the conditions rise by rank and never draw 1, and the answer for a call that is granted accepts
abbrev Ranked : (n room : ℕ) → Call → Facts → Type 0
Ranked n room x f =
    T
    (rises_from 0 (conditions n room x f)
    && (never_draws 1 (conditions n room x f) && is_accepted (effect x f).answer))

-- the answer for a call that is granted tells how many words it writes
abbrev Told : Effect → Type 0
Told e = length (list_of e.does) ≡ strikes_listed e.answer

pub effect_sound :
    (n room c : ℕ) (x : ClassCall) (f : Facts)
    → Ranked n room (on c x) f
    × Sound (view_of c f) (effect_on c x (view_of c f)).asks (effect_on c x (view_of c f)).does
    × Told (effect_on c x (view_of c f))
unfolding effect_on
effect_sound n room c call_o f = (tt, λ t. search ands, refl)
effect_sound n room c (call_c p) f = (tt, refl, refl)
effect_sound n room c (call_h low high) f = (tt, refl, refl)
effect_sound n room c (call_v v) f = (tt, refl, refl)
effect_sound n room c (call_d p d) f = (tt, tt, refl)
effect_sound n room c (call_l m h) f = (tt, refl, refl)
effect_sound n room c (call_j m h) f = (tt, tt, refl)
effect_sound n room c (call_x m h) f = (tt, refl, refl)
effect_sound n room c (call_i m h a b) f = (tt, refl, refl)
effect_sound n room c call_r f = (tt, refl, refl)
effect_sound n room c (call_a m) f = (tt, tt, refl)

ranked : (n room : ℕ) (x : Call) (f : Facts) → Ranked n room x f
ranked n room (call_m m) f = tt
ranked n room (on c x) f = (effect_sound n room c x f).0
ranked n room malformed f = tt

effect_told : (x : Call) (f : Facts) → Told (effect x f)
effect_told (call_m m) f = refl
effect_told (on c x) f = (effect_sound 0 0 c x f).2
effect_told malformed f = refl

-- "An accepted call answers 0"
pub effect_zero : (n : ℕ) (x : Call) (f : Facts) → answer_number (effect x f).answer ≡ 0
effect_zero n x f =
    let s = ranked n 0 x f in
    let t : T (is_accepted (effect x f).answer) = search ands in
    eqb→eq (answer_number (effect x f).answer) 0 (rw accepted_zero at t)

-- "1 is never drawn": no condition draws it
pub never_one : (n room : ℕ) (x : Call) (f : Facts) → answer_number (answer_to n room x f) ≡ 1 → ⊥
unfolding answer_to
never_one n room x f e =
    let s = ranked n room x f in
    never_applies 1 (conditions n room x f) (search ands)
    (drawn_applies (effect x f).answer (conditions n room x f) 0 (effect_zero n x f) e)

-- a call that writes to the second run changes no fact
writes_alone : (c : ℕ) (d : Deed) (f : Facts) → (list_of d ≡ []) ⊎ (facts_after c d f ≡ f)
writes_alone c (month_becomes m) f = inl refl
writes_alone c opens f = inl refl
writes_alone c (becomes x) f = inl refl
writes_alone c (grows x) f = inl refl
writes_alone c (designates p d) f = inl refl
writes_alone c (writes ws) f = inr refl
writes_alone c nothing f = inl refl

module _ (n room : ℕ) (x : Call) (f : Facts) where
  abbrev exceeds : Bool
  exceeds = ltb room (length (list_of (effect x f).does))

  pub lowest : Lowest (conditions n room x f) (effect x f).answer (answer_to n room x f)
  unfolding answer_to
  lowest = let s = ranked n room x f in first_lowest 0 (effect x f).answer (conditions n room x f) (search ands)

  -- an accepted call answers what its effect says
  pub accepted_answer : is_accepted (answer_to n room x f) ≡ true → answer_to n room x f ≡ (effect x f).answer
  unfolding answer_to
  accepted_answer e = granted_answer (effect x f).answer (conditions n room x f) e

  -- a call is accepted exactly when nothing in the book refuses it and its words fit the second run
  pub accepted_exactly : is_accepted (answer_to n room x f) ≡ (is_granted n x f && not exceeds)
  unfolding answer_to
  accepted_exactly =
      first_accepted (effect x f).answer (conditions n room x f) (T_true (is_accepted (effect x f).answer) accepts)
      ∙ go (effect x f).limits
    where
      accepts : T (is_accepted (effect x f).answer)
      accepts = let s = ranked n room x f in search ands

      last : List Condition
      last = draws (OutOfWords (length (list_of (effect x f).does))) exceeds ∷ []

      go :
          (b : Bool)
          → (not (not b) && none_applies (asked n x f ++ last))
          ≡ ((b && none_applies (asked n x f)) && not exceeds)
      go true = none_last (asked n x f) (OutOfWords (length (list_of (effect x f).does))) exceeds
      go false = refl

  pub accepted_granted : is_accepted (answer_to n room x f) ≡ true → is_granted n x f ≡ true
  accepted_granted e =
      let both : (is_granted n x f && not exceeds) ≡ true = sym accepted_exactly ∙ e in
      search parts

  -- what a call writes fits the second run
  pub written_fits : length (written n room x f) ≤ room
  unfolding written
  written_fits = go (is_accepted (answer_to n room x f)) refl
    where
      go : (b : Bool) → is_accepted (answer_to n room x f) ≡ b → length (cond b (list_of (effect x f).does) []) ≤ room
      go true e =
          let both : (is_granted n x f && not exceeds) ≡ true = sym accepted_exactly ∙ e in
          ltb-false room (length (list_of (effect x f).does)) (not-true exceeds (search parts))
      go false e = zero-le

  -- the answer tells how many words are written
  pub written_count : length (written n room x f) ≡ strikes_listed (answer_to n room x f)
  unfolding written
  written_count = go (is_accepted (answer_to n room x f)) refl
    where
      none : (a : Answer) → is_accepted a ≡ false → strikes_listed a ≡ 0
      none (Ok Done) e = refl
      none (Ok (Ground g)) e = refl
      none (Ok (Removed count)) e = refl
      none (Ok (Listed count)) e = absurd (true≢false e)
      none (Err why) e = refl

      go :
          (b : Bool) → is_accepted (answer_to n room x f) ≡ b
          → length (cond b (list_of (effect x f).does) []) ≡ strikes_listed (answer_to n room x f)
      go true e = effect_told x f ∙ ap strikes_listed (sym (accepted_answer e))
      go false e = sym (none (answer_to n room x f) e)

  -- a call that writes nothing answers the same with a second run of any length
  pub any_room : list_of (effect x f).does ≡ [] → answer_to n room x f ≡ answer_to n 0 x f
  unfolding answer_to
  any_room none =
      let fits : exceeds ≡ ltb 0 (length (list_of (effect x f).does)) =
      ap (λ (ws : List ℕ). ltb room (length ws)) none
      ∙ le-ltb room 0 (omega arith)
      ∙ ap (λ (ws : List ℕ). ltb 0 (length ws)) (sym none) in
      ap
      (λ (b : Bool).
      first_or (effect x f).answer
      (draws BeyondLimits (not (effect x f).limits)
      ∷ asked n x f ++ draws (OutOfWords (length (list_of (effect x f).does))) b ∷ []))
      fits

  pub refused_unchanged : is_accepted (answer_to n room x f) ≡ false → (step n x f ≡ f) × (written n room x f ≡ [])
  unfolding step written
  refused_unchanged r = (
    elim (writes_alone (named x) (effect x f).does f) [
      | inl none ↦ go (is_granted n x f) refl none
      | inr same ↦ either (is_granted n x f) same
    ],
    rw r,
  )
    where
      either : (b : Bool) → accepted_facts x f ≡ f → cond b (accepted_facts x f) f ≡ f
      either true same = same
      either false same = refl

      go : (b : Bool) → is_granted n x f ≡ b → list_of (effect x f).does ≡ [] → cond b (accepted_facts x f) f ≡ f
      go false e none = refl
      go true e none =
          let fits : exceeds ≡ false = ap (λ (ws : List ℕ). ltb room (length ws)) none ∙ le-ltb room 0 (omega arith) in
          absurd (true≢false (sym (accepted_exactly ∙ rw (e, fits)) ∙ r))
