-- Demand 2, of the contract that every call ensures: `L` accepts a strike exactly when `J` does and words are left, `A`
-- writes exactly the strikes that `J` accepts, 15 and 10 are drawn only where words and places are not: by the order of
-- conditions. Assumes nothing.
use Prim.Native.Nat.{ℕ, suc, ◌<◌, ◌≤◌}
use mathlib.Core.Path.{◌≡◌, refl, sym, ap, ◌∙◌, subst}
use mathlib.Core.Bool.{Bool, true, false, not, ◌&&◌, and-true, or-false}
use mathlib.Core.List.{List, [], ◌∷◌, ◌++◌}
use native.Mathlib.Omega.{arith}
use lib.ListN.{length}
use lib.Dec.{T, leb, ltb, eqb, ltb→lt, leb→le, leb-suc-suc}
use Rattle.std.specs.Prelude.{Ok, Err}
use Rattle.word.specs.Answers.{Answer}
use Rattle.word.specs.declared.answer.Accepted.TheVariants.{Ground, Listed}
use Rattle.word.specs.declared.answer.Refusal.TheVariants.{BeyondLimits, NotOpen, MonthOutside, NoClose, OutOfWords}
use Rattle.word.specs.Answers.{answer_number, answer_value, is_accepted}
use Rattle.word.specs.Limits.{is_class_number, is_month, highest_strike}
use Rattle.logic.proofs.Tests.{ands, parts, T_true, at_most}
use Rattle.logic.proofs.Numbers.{only_rises, only_exactly}
use Rattle.logic.specs.Lists.{some, Rising}
use Rattle.rule.specs.Terms.{is_outside}
use Rattle.word.specs.Programs.{program}
use Rattle.book.specs.Facts.{Facts, owned, words_taken}
use Rattle.book.specs.Layout.{facts_of}
use Rattle.book.specs.Books.{is_book}
use Rattle.book.specs.Views.{View, view_of, class, is_not_open, has_no_close, setting, ground_of, is_new}
use Rattle.book.specs.Changes.{class_opened, list_of}
use Rattle.book.specs.Calls.{Call, on, call_o, call_d, call_l, call_j, call_a, Condition, draws, first_or, none_applies, is_place, judging, permitted_in, effect, is_cap_reached, conditions, answer_to, written, is_granted, effect_on}
use Rattle.book.specs.Permission.{is_permitted, are_words_left, facts_with_strike}
use Rattle.book.specs.Made.{over, Made}
use Rattle.book.proofs.Order.{applies, drawn_applies, none_last, first_after, effect_zero, accepted_answer, accepted_exactly}
use Rattle.book.proofs.Permits.{none_permitted}

-- `J` accepts exactly the permitted strikes
pub judged_exactly : (n c m h : ℕ) (f : Facts) → is_granted n (on c (call_j m h)) f ≡ is_permitted c m h f
unfolding effect_on
judged_exactly n c m h f = ap (λ (b : Bool). is_place c m h && b) (none_permitted m (view_of c f) h)

-- `L` accepts exactly the permitted strikes that words are left for
pub listing_exactly :
    (n c m h : ℕ) (f : Facts) → is_granted n (on c (call_l m h)) f ≡ (is_permitted c m h f && are_words_left n c m h f)
unfolding effect_on
listing_exactly n c m h f =
    go (is_place c m h)
    ∙ (λ i. judged_exactly n c m h f i && sym (at_most (words_taken (facts_with_strike c m h f)) n) i)
  where
    short : Bool
    short = ltb n (words_taken (facts_with_strike c m h f))

    go :
        (b : Bool)
        → (b && none_applies (judging m h (view_of c f) ++ (draws (OutOfWords 0) short ∷ [])))
        ≡ ((b && none_applies (judging m h (view_of c f))) && not short)
    go true = none_last (judging m h (view_of c f)) (OutOfWords 0) short
    go false = refl

module _ {w w' : List ℕ} {r : Answer} (book : T (is_book w)) where
  module _ {x : Call} {v v' : List ℕ} (made : Made x w v r w' v') where
    answered : r ≡ answer_to (length w) (length v) x (facts_of w)
    answered = rw (T_true (is_book w) book) at made.answer

    -- an accepted call answers as its row says
    granted : is_accepted r ≡ true → r ≡ (effect x (facts_of w)).answer
    granted e = answered ∙ accepted_answer (length w) (length v) x (facts_of w) (sym (ap is_accepted answered) ∙ e)

    -- a number that is drawn applies
    drawn : (k : ℕ) → answer_number r ≡ suc k → T (applies (suc k) (conditions (length w) (length v) x (facts_of w)))
    unfolding answer_to
    drawn k e =
        drawn_applies (effect x (facts_of w)).answer (conditions (length w) (length v) x (facts_of w)) k
        (effect_zero (length w) x (facts_of w)) (sym (ap answer_number answered) ∙ e)

  -- a call that writes nothing is accepted exactly when nothing in the book refuses it
  exactly :
      {x : Call} → list_of (effect x (facts_of w)).does ≡ [] → Made x w [] r w' []
      → is_accepted r ≡ is_granted (length w) x (facts_of w)
  exactly {x} none made =
      ap is_accepted (answered made)
      ∙ accepted_exactly (length w) 0 x (facts_of w)
      ∙ rw none (and-true (is_granted (length w) x (facts_of w)))

  module _ {c m h : ℕ} (made : Made (on c (call_l m h)) w [] r w' []) where
    -- where words are left, a strike is accepted exactly when it is permitted
    pub listed_exactly : (answer_number r ≡ 15 → ⊥) → is_accepted r ≡ is_permitted c m h (facts_of w)
    unfolding effect_on answer_to
    listed_exactly left =
        go (is_permitted c m h (facts_of w)) (judged_exactly (length w) c m h (facts_of w))
        (ltb (length w) (words_taken (facts_with_strike c m h (facts_of w)))) refl
        (exactly refl made
        ∙ listing_exactly (length w) c m h (facts_of w)
        ∙ ap (λ (b : Bool). is_permitted c m h (facts_of w) && b)
        (at_most (words_taken (facts_with_strike c m h (facts_of w))) (length w)))
      where
        asked : List Condition
        asked = draws BeyondLimits (not (is_place c m h)) ∷ judging m h (view_of c (facts_of w))

        go :
            (permitted : Bool) → is_granted (length w) (on c (call_j m h)) (facts_of w) ≡ permitted
            → (short : Bool) → ltb (length w) (words_taken (facts_with_strike c m h (facts_of w))) ≡ short
            → is_accepted r ≡ (permitted && not short) → is_accepted r ≡ permitted
        go false p short s e = e
        go true p false s e = e
        go true p true s e =
            let place : is_place c m h ≡ true = search parts in
            let judged : none_applies (judging m h (view_of c (facts_of w))) ≡ true = search parts in
            let none : T (none_applies asked) = rw (place, judged) tt in
            let drew : answer_to (length w) 0 (on c (call_l m h)) (facts_of w) ≡ Err (OutOfWords 0) =
            rw s
            (first_after (Ok (Ground (ground_of (view_of c (facts_of w)) m h))) asked (OutOfWords 0)
            (draws (OutOfWords 0) false ∷ [])
            none) in
            absurd (left (ap answer_number (answered made ∙ drew)))

    -- .. and on the ground that the rules give
    pub listed_ground : is_accepted r ≡ true → r ≡ Ok (Ground (ground_of (view_of c (facts_of w)) m h))
    unfolding effect_on
    listed_ground e = granted made e

    -- 15 is drawn only where the words needed exceed the run
    pub listed_room : answer_number r ≡ 15 → length w < words_taken (facts_with_strike c m h (facts_of w))
    unfolding effect_on
    listed_room e =
        ltb→lt (length w) (words_taken (facts_with_strike c m h (facts_of w)))
        (subst T (or-false (ltb (length w) (words_taken (facts_with_strike c m h (facts_of w))))) (drawn made 14 e))

  -- `J` gives the same judgement
  module _ {c m h : ℕ} (made : Made (on c (call_j m h)) w [] r w' []) where
    pub judged_permitted : is_accepted r ≡ is_permitted c m h (facts_of w)
    unfolding effect_on
    judged_permitted = exactly refl made ∙ judged_exactly (length w) c m h (facts_of w)

    pub judged_ground : is_accepted r ≡ true → r ≡ Ok (Ground (ground_of (view_of c (facts_of w)) m h))
    unfolding effect_on
    judged_ground e = granted made e

  pub opened_room :
      {c : ℕ} → Made (on c call_o) w [] r w' [] → answer_number r ≡ 15
      → length w < words_taken (class_opened c (facts_of w))
  unfolding effect_on
  opened_room {c} made e =
      ltb→lt (length w) (words_taken (class_opened c (facts_of w)))
      (subst T (or-false (ltb (length w) (words_taken (class_opened c (facts_of w))))) (drawn made 14 e))

  -- 10 is drawn only where the program has no place left
  pub designated_cap :
      {c p d : ℕ} → Made (on c (call_d p d)) w [] r w' [] → answer_number r ≡ 10
      → (program p).cap ≤ owned p (facts_of w).classes
  unfolding effect_on
  designated_cap {c} {p} {d} made e =
      let new = is_new p d (class (facts_of w) c).figures in
      let t : T (new && is_cap_reached p (facts_of w)) =
      subst T (or-false (new && is_cap_reached p (facts_of w))) (drawn made 9 e) in
      leb→le (program p).cap (owned p (facts_of w).classes) (search ands)

  -- the permitted list: what `A` counts and writes
  module _ {c m : ℕ} {v v' : List ℕ} (made : Made (on c (call_a m)) w v r w' v') where
    abbrev count : ℕ
    count = length (permitted_in m (view_of c (facts_of w)))

    -- each permitted strike once, rising, and no more; "words past the count are unchanged"
    pub permitted_written : is_accepted r ≡ true → v' ≡ over (permitted_in m (view_of c (facts_of w))) v
    unfolding written effect_on
    permitted_written e =
        (rw (T_true (is_book w) book) at made.second) ∙ rw (sym (ap is_accepted (answered made)) ∙ e)

    pub permitted_count : is_accepted r ≡ true → r ≡ Ok (Listed count)
    unfolding effect_on
    permitted_count e = granted made e

    -- 15 is drawn only where they exceed the second run, "and then their count is the value"
    pub permitted_room : answer_number r ≡ 15 → (length v < count) × (answer_value r ≡ count)
    unfolding effect_on answer_to
    permitted_room e = (
      ltb→lt (length v) count (subst T (or-false (ltb (length v) count)) (drawn made 14 e)),
      ap answer_value (answered made)
          ∙ value (not (is_class_number c && is_month m)) (is_not_open (view_of c (facts_of w)))
          (is_outside (setting (view_of c (facts_of w)) m))
          (has_no_close (view_of c (facts_of w))) (ltb (length v) count) (sym (ap answer_number (answered made)) ∙ e),
    )
      where
        answer : Bool → Bool → Bool → Bool → Bool → Answer
        answer beyond not_open outside no_close short =
            first_or (Ok (Listed count))
            (draws BeyondLimits beyond
            ∷ draws NotOpen not_open
            ∷ draws MonthOutside outside
            ∷ draws NoClose no_close
            ∷ draws (OutOfWords count) short
            ∷ [])

        value : (a b d e s : Bool) → answer_number (answer a b d e s) ≡ 15 → answer_value (answer a b d e s) ≡ count
        value true b d e s k = absurd (omega (arith, k))
        value false true d e s k = absurd (omega (arith, k))
        value false false true e s k = absurd (omega (arith, k))
        value false false false true s k = absurd (omega (arith, k))
        value false false false false true k = refl
        value false false false false false k = refl

-- the permitted list rises, so that it holds no strike twice
pub permitted_rises : (m : ℕ) (v : View) → Rising (permitted_in m v)
unfolding permitted_in
permitted_rises m v = only_rises (λ h. none_applies (judging m h v)) highest_strike 1

-- it holds a strike exactly when `J` would accept it
pub permitted_exactly :
    (c m h : ℕ) (f : Facts) → (is_class_number c && is_month m) ≡ true
    → some (eqb h) (permitted_in m (view_of c f)) ≡ is_permitted c m h f
unfolding permitted_in effect_on
permitted_exactly c m h f limits =
    let class : is_class_number c ≡ true = search parts in
    let month : is_month m ≡ true = search parts in
    only_exactly (λ i. none_applies (judging m i (view_of c f))) highest_strike 1 h
    ∙ ap (λ (t : Bool). leb 1 h && t && none_applies (judging m h (view_of c f))) (leb-suc-suc h highest_strike)
    ∙ (rw (class, month))
    ∙ judged_exactly 0 c m h f
