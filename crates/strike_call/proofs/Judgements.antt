-- What `judge_found` asks and answers: each test on the way is a condition of the judgement in its turn, and the words
-- next to the strike's place stand for all that stand. Assumes nothing.
use Prim.Native.Nat.{ℕ, ◌+◌, ◌-◌, ◌≤◌}
use mathlib.Core.Path.{◌≡◌, sym, ap, ◌∙◌}
use mathlib.Core.Bool.{Bool, true, false, cond, not, ◌&&◌}
use mathlib.Core.List.{List, map}
use native.Mathlib.Omega.{arith}
use lib.Dec.{T, leb→le}
use lib.ListN.{length, take, drop}
use Rattle.std.specs.Prelude.{Err}
use Rattle.word.specs.Limits.{highest_strike, is_month, is_strike}
use Rattle.word.specs.declared.class.ClassRecord.{ClassRecord}
use Rattle.word.proofs.RangeTests.{Ordered}
use Rattle.word.specs.Answers.{Answer}
use Rattle.word.specs.declared.answer.Refusal.TheVariants.{MonthOutside, AlreadyStanding, NoClose}
use Rattle.rule.specs.declared.terms.Setting.{Setting}
use Rattle.rule.specs.Terms.{is_outside}
use Rattle.rule.specs.Spacing.{standing_of}
use Rattle.rule.specs.Judgement.{judgement}
use Rattle.book.specs.Layout.{used, facts_of}
use Rattle.book.specs.Views.{View, view_of, is_not_open, is_standing, setting, standing_in}
use Rattle.book.specs.Books.{is_book}
use Rattle.book.specs.Calls.{is_place}
use Rattle.book.specs.Places.{strike_place}
use Rattle.logic.proofs.Tests.{ands, passed}
use Rattle.book.proofs.Permits.{judged_answer}
use Rattle.book.proofs.Runs.{strike_within}
use Rattle.place.specs.declared.lookup.StrikeSearch.{StrikeSearch}
use Rattle.place.specs.Lookups.{ClassFound, strike_search_of}
use Rattle.place.proofs.Heads.{book_good}
use Rattle.strike_call.specs.Judging.{Sought, judged}
use Rattle.strike_call.proofs.Beside.{is_strike_at}
use Rattle.strike_call.proofs.StrikeWords.{judged_beside}
use Rattle.strike_call.proofs.Settings.{class_open, prices_known, close_none, close_known, setting_is}

module _ {w : List ℕ} {figures : ClassRecord} {r : StrikeSearch} {m h : ℕ} (x : Sought w figures r m h) where
  abbrev c : ℕ
  c = x.number

  abbrev seen : View
  seen = view_of c (facts_of w)

  place_is : r.at ≡ strike_place c m h (facts_of w)
  place_is = ap (λ (y : StrikeSearch). y.at) x.place

  standing_is : is_standing seen m h ≡ r.standing
  standing_is = ap (λ (y : StrikeSearch). y.standing) (sym x.place)

  opened : is_not_open seen ≡ false
  opened = class_open w x.book c x.is_open

  -- what follows of the run and the numbers
  pub place_among : (1 ≤ r.at) × (r.at ≤ used (facts_of w))
  place_among =
      omega (arith, place_is, strike_within (length w) (facts_of w) c m (book_good w x.book) x.is_open h)

  pub strike_most : h ≤ highest_strike
  strike_most = let t = x.strike in leb→le h highest_strike (search ands)

  pub class_prices : Ordered figures.low figures.close figures.high
  class_prices = prices_known w x.book c x.is_open figures x.said

  -- the ways out
  module _ (current : ℕ) (d : current ≡ (facts_of w).now) where
    abbrev here : Setting
    here = record { class = figures; current = current; month = m }

    is_here : here ≡ setting seen m
    is_here = setting_is w x.book c x.is_open figures x.said m current d

    outside : is_outside (setting seen m) ≡ is_outside here
    outside = ap is_outside (sym is_here)

    pub found_outside : is_outside here ≡ true → Err MonthOutside ≡ judged m h seen
    found_outside t = rw (opened, outside ∙ t)

    module _ (t : is_outside here ≡ false) where
      pub found_standing : r.standing ≡ true → Err AlreadyStanding ≡ judged m h seen
      found_standing s = rw (opened, outside ∙ t, standing_is ∙ s)

      module _ (s : r.standing ≡ false) where
        pub found_no_close : figures.close ≡ 0 → Err NoClose ≡ judged m h seen
        found_no_close z =
            let none = close_none w x.book c x.is_open figures x.said z in
            rw (opened, outside ∙ t, standing_is ∙ s, none)

        pub found_judged :
            (figures.close ≡ 0 → ⊥) → (start stop : ℕ)
            → start ≡ cond {A = ℕ} (r.expiration && is_strike_at w (r.at - 1)) (r.at - 1) r.at
            → stop ≡ cond {A = ℕ} (is_strike_at w r.at) (r.at + 1) r.at → (y : Answer)
            → y ≡ judgement here (map standing_of (take (stop - start) (drop start w))) h → y ≡ judged m h seen
        found_judged n start stop first last y e =
            let has = ap (λ (z : StrikeSearch). z.expiration) x.place in
            let known = close_known w x.book c x.is_open figures x.said n in
            e
            ∙ judged_beside w x.book c m x.is_open h (standing_is ∙ s) here r.at start stop place_is
            (first ∙ ap (λ (b : Bool). cond {A = ℕ} (b && is_strike_at w (r.at - 1)) (r.at - 1) r.at) has) last
            ∙ ap (λ (t : Setting). judgement t (standing_in seen m) h) is_here
            ∙ sym (judged_answer m seen h ∙ rw (opened, outside ∙ t, standing_is ∙ s, known))

-- what the limits say of the month and the strike
pub place_limits : (c m h : ℕ) → not (is_place c m h) ≡ false → T (is_month m) × T (is_strike h)
place_limits c m h l = let numbers = passed (is_place c m h) l in (search ands, search ands)

-- a strike within its limits that was looked up in a class that was found can be judged
abbrev pub sought :
    {w : List ℕ} {at : ℕ} {figures : ClassRecord} {r : StrikeSearch} (c m h : ℕ) → T (is_book w)
    → not (is_place c m h) ≡ false → ClassFound w c at figures → r ≡ strike_search_of c m h (facts_of w)
    → Sought w figures r m h
sought c m h book l found place =
    let numbers = place_limits c m h l in
    record {
      book = book;
      month = numbers.0;
      strike = numbers.1;
      number = c;
      is_open = found.is_open;
      said = found.figures;
      place = place;
    }
