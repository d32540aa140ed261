-- What the words of a class and the head say is what a call on it sees: the setting of the rules, its prices in their
-- limits and order, and whether there is a close. By the figures that are read at the class's place. Assumes nothing.
use Prim.Native.Nat.{ℕ}
use mathlib.Core.Path.{◌≡◌, ap, sym, ◌∙◌}
use mathlib.Core.Bool.{true, false, not}
use mathlib.Core.List.{List}
use lib.Dec.{T}
use lib.ListN.{length}
use borrow.Author.Tests.{eq-eqb, ne_eqb}
use Rattle.word.specs.declared.class.ClassRecord.{ClassRecord}
use Rattle.word.proofs.RangeTests.{Ordered, day_prices}
use Rattle.rule.specs.declared.terms.Setting.{Setting}
use Rattle.book.specs.Facts.{is_class_open}
use Rattle.book.specs.Layout.{facts_of}
use Rattle.book.specs.Books.{is_book}
use Rattle.book.specs.Views.{View, view_of, class, is_not_open, has_no_close, setting}
use Rattle.logic.proofs.Tests.{ands, T_true}
use Rattle.book.proofs.ClassWords.{class_good}
use Rattle.place.proofs.Heads.{book_good}

module _ (w : List ℕ) (book : T (is_book w)) (c : ℕ) (o : T (is_class_open c (facts_of w).classes)) where
  abbrev seen : View
  seen = view_of c (facts_of w)

  pub class_open : is_not_open seen ≡ false
  class_open = ap not (T_true (is_class_open c (facts_of w).classes) o)

  module _ (figures : ClassRecord) (figures_are : figures ≡ seen.class.figures) where
    close_is : figures.close ≡ seen.class.figures.close
    close_is i = (figures_are i).close

    pub prices_known : Ordered figures.low figures.close figures.high
    prices_known =
        let good = class_good (length w) (facts_of w) c (book_good w book) o in
        let r = (class (facts_of w) c).figures in
        rw figures_are (day_prices r.low r.close r.high (search ands))

    pub close_none : figures.close ≡ 0 → has_no_close seen ≡ true
    close_none e = eq-eqb seen.class.figures.close 0 (sym close_is ∙ e)

    pub close_known : (figures.close ≡ 0 → ⊥) → has_no_close seen ≡ false
    close_known other = ne_eqb seen.class.figures.close 0 (λ e. other (close_is ∙ e))

    pub setting_is :
        (m current : ℕ) → current ≡ (facts_of w).now
        → ◌≡◌ {A = Setting} (record { class = figures; current = current; month = m }) (setting seen m)
    setting_is m current e i = record { class = figures_are i; current = e i; month = m }
