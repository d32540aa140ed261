-- The ways out of `A`, over plain variables: each test on the way is a condition of the call in its turn, and the words
-- of the expiration's strikes read as those that stand. Assumes nothing.
use Prim.Native.Nat.{ℕ, ◌-◌, ◌≤◌}
use native.Mathlib.Omega.{arith}
use mathlib.Core.Path.{◌≡◌, refl, sym, ap, ◌∙◌}
use mathlib.Core.Bool.{Bool, true, false, cond, not, ◌&&◌}
use mathlib.Core.List.{List, map}
use lib.Dec.{T, ltb}
use lib.ListN.{length, take, drop}
use Rattle.std.specs.Prelude.{Ok, Err}
use Rattle.word.specs.Answers.{Answer}
use Rattle.word.specs.declared.answer.Accepted.TheVariants.{Listed}
use Rattle.word.specs.declared.answer.Refusal.TheVariants.{MonthOutside, NoClose, OutOfWords}
use Rattle.word.specs.declared.class.ClassRecord.{ClassRecord}
use Rattle.word.specs.Limits.{is_class_number, is_month}
use Rattle.rule.specs.declared.terms.Setting.{Setting}
use Rattle.rule.specs.Terms.{is_outside}
use Rattle.rule.specs.Spacing.{standing_of}
use Rattle.rule.specs.Judgement.{permitted}
use Rattle.permitted.specs.Listing.{Listable, Filled}
use Rattle.book.specs.Facts.{is_class_open}
use Rattle.book.specs.Layout.{facts_of}
use Rattle.book.specs.Books.{is_book}
use Rattle.book.specs.Views.{View, class, view_of, is_not_open, has_no_close, setting}
use Rattle.book.specs.Calls.{Call, on, call_a, permitted_in, effect_on, answer_to}
use Rattle.book.specs.Places.{strikes_place, strikes_end}
use Rattle.book.specs.Made.{over, Made}
use Rattle.book.proofs.Answered.{made_refused, made_accepted}
use Rattle.book.proofs.Layouts.{book_facts}
use Rattle.book.proofs.Permits.{permitted_beside}
use Rattle.book.proofs.Runs.{strikes_within, used_within}
use Rattle.place.specs.declared.lookup.Expiration.{Expiration}
use Rattle.place.specs.Lookups.{expiration_of}
use Rattle.place.proofs.Heads.{book_month}
use Rattle.strike_call.proofs.StrikeWords.{standing_words, strikes_rising}
use Rattle.strike_call.proofs.Settings.{class_open, prices_known, close_none, close_known, setting_is}

-- the part that is lent is one of the run
pub part_within :
    (w : List ℕ) (book : T (is_book w)) (c m : ℕ) → T (is_class_open c (facts_of w).classes) → (r : Expiration)
    → r ≡ expiration_of c m (facts_of w) → (r.from ≤ r.to) × (r.to ≤ length w)
part_within w book c m o r e =
    let b = (book_facts w book).0 in
    let from = ap (λ (x : Expiration). x.from) e in
    let to = ap (λ (x : Expiration). x.to) e in
    omega (arith, strikes_within (length w) (facts_of w) c m b o, used_within (length w) (facts_of w) b)

module _
    (w v : List ℕ) (book : T (is_book w)) (c m : ℕ) (l : not (is_class_number c && is_month m) ≡ false)
    (o : T (is_class_open c (facts_of w).classes)) (figures : ClassRecord)
    (g : figures ≡ (class (facts_of w) c).figures) (current : ℕ) (d : current ≡ (facts_of w).now) where
  abbrev call : Call
  call = on c (call_a m)

  abbrev seen : View
  seen = view_of c (facts_of w)

  abbrev here : Setting
  here = record { class = figures; current = current; month = m }

  opened : is_not_open seen ≡ false
  opened = class_open w book c o

  is_here : here ≡ setting seen m
  is_here = setting_is w book c o figures g m current d

  outside : is_outside (setting seen m) ≡ is_outside here
  outside = ap is_outside (sym is_here)

  pub permitting_outside : is_outside here ≡ true → Made call w v (Err MonthOutside) w v
  unfolding answer_to effect_on
  permitting_outside t = made_refused call w v book (Err MonthOutside) refl (rw (l, opened, outside ∙ t))

  module _ (t : is_outside here ≡ false) where
    pub permitting_no_close : figures.close ≡ 0 → Made call w v (Err NoClose) w v
    unfolding answer_to effect_on
    permitting_no_close z =
        made_refused call w v book (Err NoClose) refl
        (rw (l, opened, outside ∙ t, close_none w book c o figures g z))

    module _ (r : Expiration) (e : r ≡ expiration_of c m (facts_of w)) where
      -- the words of the strikes that stand
      abbrev words : List ℕ
      words = take (r.to - r.from) (drop r.from w)

      from_is : r.from ≡ strikes_place c m (facts_of w)
      from_is = ap (λ (x : Expiration). x.from) e

      to_is : r.to ≡ strikes_end c m (facts_of w)
      to_is = ap (λ (x : Expiration). x.to) e

      pub permitting_listable : Listable here words
      permitting_listable =
          let prices = prices_known w book c o figures g in
          record {
            measurable = record { low = omega arith; high = prices.most; current = rw d (book_month w book) };
            close = omega arith;
            order = omega arith;
            rising = strikes_rising w book c m o r.from r.to from_is to_is;
          }

      module _ (n : figures.close ≡ 0 → ⊥) where
        abbrev strikes : List ℕ
        strikes = permitted_in m seen

        abbrev is_short : Bool
        is_short = ltb (length v) (length strikes)

        priced : has_no_close seen ≡ false
        priced = close_known w book c o figures g n

        strikes_are : permitted here (map standing_of words) ≡ strikes
        strikes_are =
            (λ i. permitted (is_here i) (standing_words w book c m o r.from r.to from_is to_is i))
            ∙ sym (permitted_beside m seen opened (outside ∙ t) priced)

        answer :
            answer_to (length w) (length v) call (facts_of w)
            ≡ cond is_short (Err (OutOfWords (length strikes))) (Ok (Listed (length strikes)))
        unfolding answer_to effect_on
        answer = rw (l, opened, outside ∙ t, priced)

        pub permitting_filled :
            {a : Answer} {v' : List ℕ} → Filled (permitted here (map standing_of words)) v a v' → Made call w v a w v'
        unfolding effect_on
        permitting_filled {a} {v'} filled =
            go is_short refl (rw strikes_are at filled.answer) (rw strikes_are at filled.second)
          where
            go :
                (short : Bool) → is_short ≡ short
                → a ≡ cond is_short (Err (OutOfWords (length strikes))) (Ok (Listed (length strikes)))
                → v' ≡ cond is_short v (over strikes v) → Made call w v a w v'
            go true q answered second =
                rw (rw q at answered, rw q at second)
                (made_refused call w v book (Err (OutOfWords (length strikes))) refl (answer ∙ rw q))
            go false q answered second =
                rw (rw q at answered, rw q at second)
                (made_accepted call w v book (Ok (Listed (length strikes))) w refl (answer ∙ rw q)
                (sym (book_facts w book).1))
