-- One law for each way out of `X` and `I`, which ask for a strike that stands: the answer by the conditions of the call
-- in their order, the words by what the inner function leaves. Assumes nothing.
use Prim.Native.Nat.{ℕ, ◌+◌, ◌-◌, ◌≤◌, ◌<◌}
use mathlib.Core.Path.{◌≡◌, refl, sym, ap, ◌∙◌}
use mathlib.Core.Bool.{Bool, true, false, not, ◌&&◌}
use mathlib.Core.List.{List, []}
use native.Mathlib.Omega.{arith}
use lib.Dec.{T, eqb}
use lib.ListN.{length, get_or}
use Rattle.std.specs.Prelude.{Ok, Err}
use Rattle.word.specs.Strikes.{is_marked_in}
use Rattle.word.specs.declared.answer.Accepted.TheVariants.{Done}
use Rattle.word.specs.declared.answer.Refusal.TheVariants.{NotStanding, OpenInterest}
use Rattle.word.specs.Limits.{is_mark}
use Rattle.book.specs.Facts.{is_class_open}
use Rattle.book.specs.Layout.{layout, facts_of}
use Rattle.book.specs.Books.{is_book}
use Rattle.book.specs.Views.{View, view_of, class, is_not_open, is_standing, has_open_interest}
use Rattle.book.specs.Changes.{update, strike_removed, marks_set}
use Rattle.book.specs.Calls.{on, call_x, call_i, is_place, effect_on, answer_to}
use Rattle.book.specs.Places.{StrikeStands, strikes_place, strikes_end, strike_place}
use Rattle.book.specs.Made.{Made}
use Rattle.logic.proofs.Tests.{passed}
use Rattle.book.proofs.Layouts.{book_facts}
use Rattle.book.proofs.Runs.{strike_stands, standing_within, interest_says, used_within}
use Rattle.book.proofs.Answered.{made_refused, made_accepted}
use Rattle.place.specs.declared.lookup.StrikeSearch.{StrikeSearch}
use Rattle.place.specs.Lookups.{strike_search_of}
use Rattle.removal.specs.RemovalsAsked.{Delistable}
use Rattle.strike_call.proofs.Beside.{is_strike_at, strike_alone}
use Rattle.strike_call.proofs.Settings.{class_open}

module _
    (w : List ℕ) (book : T (is_book w)) (c m h : ℕ) (o : T (is_class_open c (facts_of w).classes)) (r : StrikeSearch)
    (e : r ≡ strike_search_of c m h (facts_of w)) where
  abbrev seen : View
  seen = view_of c (facts_of w)

  -- ---- a strike that was looked up

  opened : is_not_open seen ≡ false
  opened = class_open w book c o

  said : not (is_standing seen m h) ≡ not r.standing
  said = ap (λ (x : StrikeSearch). not x.standing) (sym e)

  pub found_place : r.at ≡ strike_place c m h (facts_of w)
  found_place = ap (λ (x : StrikeSearch). x.at) e

  module _ (s : not r.standing ≡ false) where
    pub strike_standing : T (is_standing seen m h)
    strike_standing = passed (is_standing seen m h) (said ∙ s)

    place_inside : (strikes_place c m (facts_of w) ≤ r.at) × (r.at < strikes_end c m (facts_of w))
    place_inside =
        let x = strike_stands (length w) (facts_of w) c m h (book_facts w book).0 o strike_standing in
        omega (arith, x.1.within, found_place)

    pub place_within : (1 ≤ r.at) × (r.at < length w)
    place_within =
        let good = (book_facts w book).0 in
        omega (
          arith,
          found_place,
          standing_within (length w) (facts_of w) c m h good o strike_standing,
          used_within (length w) (facts_of w) good,
        )

    pub found_alone :
        (not (is_strike_at w (r.at - 1)) && not (is_strike_at w (r.at + 1)))
        ≡ eqb (strikes_end c m (facts_of w)) (strikes_place c m (facts_of w) + 1)
    found_alone = strike_alone w book c m o r.at place_inside.0 place_inside.1

    abbrev pub stands : StrikeStands (facts_of w) r.at
    stands =
        record { class = c; month = m; strike = h; is_open = o; standing = strike_standing; place = found_place }

    abbrev pub delistable :
        (alone : Bool) → alone ≡ (not (is_strike_at w (r.at - 1)) && not (is_strike_at w (r.at + 1)))
        → Delistable w r.at alone
    delistable alone beside =
        record {
          book = book;
          class = c;
          month = m;
          strike = h;
          is_open = o;
          standing = strike_standing;
          place = found_place;
          last = beside ∙ found_alone;
        }

    -- what the word of the strike says
    interest : is_marked_in (get_or w r.at 0) ≡ has_open_interest seen m h
    interest =
        let b = book_facts w book in
        (λ i. is_marked_in (get_or (sym b.1 i) (found_place i) 0))
        ∙ interest_says (length w) (facts_of w) c m h b.0 o strike_standing

  -- ---- the ways out of `X`

  module _ (l : not (is_place c m h) ≡ false) where
    pub delist_not_standing : not r.standing ≡ true → Made (on c (call_x m h)) w [] (Err NotStanding) w []
    unfolding answer_to effect_on
    delist_not_standing s =
        made_refused (on c (call_x m h)) w [] book (Err NotStanding) refl (rw (l, opened, said ∙ s))

    module _ (s : not r.standing ≡ false) where
      pub delist_marked :
          is_marked_in (get_or w r.at 0) ≡ true → Made (on c (call_x m h)) w [] (Err OpenInterest) w []
      unfolding answer_to effect_on
      delist_marked marked =
          made_refused (on c (call_x m h)) w [] book (Err OpenInterest) refl
          (rw (l, opened, said ∙ s, sym (interest s) ∙ marked))

      pub delist_done :
          is_marked_in (get_or w r.at 0) ≡ false → (w' : List ℕ)
          → w' ≡ layout (length w) (update (strike_removed m h (class (facts_of w) c)) (facts_of w))
          → Made (on c (call_x m h)) w [] (Ok Done) w' []
      unfolding answer_to effect_on
      delist_done unmarked w' left =
          made_accepted (on c (call_x m h)) w [] book (Ok Done) w' refl
          (rw (l, opened, said ∙ s, sym (interest s) ∙ unmarked)) left

  -- ---- the ways out of `I`

  module _ (a b : ℕ) (l : not (is_place c m h && (is_mark a && is_mark b)) ≡ false) where
    pub mark_not_standing : not r.standing ≡ true → Made (on c (call_i m h a b)) w [] (Err NotStanding) w []
    unfolding answer_to effect_on
    mark_not_standing s =
        made_refused (on c (call_i m h a b)) w [] book (Err NotStanding) refl (rw (l, opened, said ∙ s))

    pub mark_done :
        not r.standing ≡ false → (w' : List ℕ)
        → w' ≡ layout (length w) (update (marks_set m h a b (class (facts_of w) c)) (facts_of w))
        → Made (on c (call_i m h a b)) w [] (Ok Done) w' []
    unfolding answer_to effect_on
    mark_done s w' stored =
        made_accepted (on c (call_i m h a b)) w [] book (Ok Done) w' refl (rw (l, opened, said ∙ s)) stored
