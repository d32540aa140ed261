-- The ways out of `M`, `O` and `R`, and what calls on an open class share, over plain variables: an answer is the first
-- of the call's own conditions, computed from the tests that are known. Assumes nothing.
use Prim.Native.Nat.{ℕ, ◌+◌, ◌-◌, ◌≤◌, ◌<◌}
use mathlib.Core.Path.{◌≡◌, refl, sym, ap, ◌∙◌}
use mathlib.Core.Bool.{true, false, not}
use mathlib.Core.List.{List, []}
use native.Mathlib.Omega.{arith}
use lib.ListN.{length, take, drop}
use lib.Dec.{T, leb→le}
use borrow.Author.Tests.{lt-ltb, le-ltb, eq-eqb, ne_eqb}
use Rattle.std.specs.Prelude.{Ok, Err}
use Rattle.word.specs.Kinds.{class_kind}
use Rattle.word.specs.declared.class.ClassRecord.{ClassRecord}
use Rattle.word.specs.declared.answer.Accepted.TheVariants.{Done, Removed}
use Rattle.word.specs.declared.answer.Refusal.TheVariants.{AlreadyOpen, MonthOutside, NoClose, OutOfWords}
use Rattle.word.specs.Limits.{is_month, is_class_number, last_month, longest_run}
use Rattle.book.specs.Facts.{new_class, is_class_open, words_of, words_taken}
use Rattle.book.specs.Layout.{used, layout, facts_of}
use Rattle.word.specs.Figures.{are_figures, figures_length}
use Rattle.book.specs.Books.{is_book}
use Rattle.book.specs.Views.{class, view_of, is_not_open, is_reviewed}
use Rattle.book.specs.Changes.{month_set, class_opened, update, class_reviewed, reviewed_count}
use Rattle.book.specs.Calls.{call_m, on, call_o, call_r, effect_on, answer_to}
use Rattle.book.specs.Places.{class_place}
use Rattle.book.specs.Made.{Made}
use Rattle.logic.proofs.Tests.{ands, passed, T_true}
use Rattle.logic.proofs.Lists.{length_only}
use Rattle.logic.specs.Lists.{first_at}
use Rattle.book.proofs.Keep.{month_again}
use Rattle.book.proofs.ClassLaws.{number_of, sum_put}
use Rattle.book.proofs.Layouts.{used_taken}
use Rattle.book.proofs.Splices.{words_opened}
use Rattle.book.proofs.ClassWords.{class_good}
use Rattle.book.proofs.Answered.{made_refused, made_accepted}
use Rattle.place.specs.Search.{is_from}
use Rattle.place.proofs.Heads.{book_good, book_form, book_is, book_long}
use Rattle.place.specs.Lookups.{ClassFound}
use Rattle.place.proofs.Found.{class_ended}
use Rattle.edit.specs.EditsAsked.{Openable}
use Rattle.review.specs.ReviewsAsked.{Reviewable}

-- ---- an open class that was found

module _ (w : List ℕ) (c at : ℕ) (r : ClassRecord) (found : ClassFound w c at r) where
  pub found_seen : is_not_open (view_of c (facts_of w)) ≡ false
  found_seen = ap not (T_true _ found.is_open)

  pub found_number : r.number ≡ c
  found_number = ap (λ (x : ClassRecord). x.number) found.figures ∙ number_of c (facts_of w).classes

  pub found_limits : T (is_book w) → T (are_figures r)
  found_limits book =
      let g = class_good (length w) (facts_of w) c (book_good w book) found.is_open in
      rw found.figures (search ands)

-- ---- `M`

module _ (m : ℕ) (w : List ℕ) (book : T (is_book w)) (within : not (is_month m) ≡ false) where
  pub month_limit : m ≤ last_month
  month_limit = leb→le m last_month (passed (is_month m) within)

  pub month_outside : m < (facts_of w).now → Made (call_m m) w [] (Err MonthOutside) w []
  unfolding answer_to
  month_outside l =
      made_refused (call_m m) w [] book (Err MonthOutside) refl (rw (within, lt-ltb m (facts_of w).now l))

  pub month_set_lem :
      (w' : List ℕ) → (facts_of w).now ≤ m → w' ≡ layout (length w) (month_set m (facts_of w))
      → Made (call_m m) w [] (Ok Done) w' []
  unfolding answer_to
  month_set_lem w' l words =
      made_accepted (call_m m) w [] book (Ok Done) w' refl (rw (within, le-ltb m (facts_of w).now l)) words

  pub month_kept : m ≡ (facts_of w).now → Made (call_m m) w [] (Ok Done) w []
  month_kept e =
      let f = facts_of w in
      month_set_lem w (omega arith)
      (sym (book_is w book)
      ∙ ap (layout (length w)) (sym (ap (λ (k : ℕ). month_set k f) e ∙ month_again (length w) f (book_form w book))))

-- ---- `O`

module _ (c : ℕ) (w : List ℕ) (book : T (is_book w)) (within : not (is_class_number c) ≡ false) where
  pub already_open : is_class_open c (facts_of w).classes ≡ true → Made (on c call_o) w [] (Err AlreadyOpen) w []
  unfolding answer_to effect_on
  already_open e = made_refused (on c call_o) w [] book (Err AlreadyOpen) refl (rw (within, e))

  module _ (closed : is_class_open c (facts_of w).classes ≡ false) (end : ℕ) (e : end ≡ used (facts_of w)) where
    pub out_of_words : length w < end + figures_length → Made (on c call_o) w [] (Err (OutOfWords 0)) w []
    unfolding answer_to effect_on
    out_of_words l =
        let k : length w < words_taken (class_opened c (facts_of w)) =
        omega (arith, words_opened c (facts_of w), used_taken (facts_of w)) in
        made_refused (on c call_o) w [] book (Err (OutOfWords 0)) refl (rw (within, closed, lt-ltb (length w) _ k))

    module _ (room : end + figures_length ≤ length w) where
      pub class_openable : (at : ℕ) → at ≡ class_place c (facts_of w) → Openable w at c
      class_openable at place =
          record {
            book = book;
            number = passed (is_class_number c) within;
            is_closed = rw closed tt;
            place = place;
            room = omega arith;
          }

      pub class_opened_lem :
          (w' : List ℕ) → w' ≡ layout (length w) (class_opened c (facts_of w)) → Made (on c call_o) w [] (Ok Done) w' []
      unfolding answer_to effect_on
      class_opened_lem w' words =
          let k : words_taken (class_opened c (facts_of w)) ≤ length w =
          omega (arith, words_opened c (facts_of w), used_taken (facts_of w)) in
          made_accepted (on c call_o) w [] book (Ok Done) w' refl (rw (within, closed, le-ltb (length w) _ k)) words

-- ---- `R`

module _
    (c : ℕ) (w : List ℕ) (book : T (is_book w)) (within : not (is_class_number c) ≡ false) (at : ℕ) (r : ClassRecord)
    (found : ClassFound w c at r) where
  pub review_no_close : r.close ≡ 0 → Made (on c call_r) w [] (Err NoClose) w []
  unfolding answer_to effect_on
  review_no_close e =
      made_refused (on c call_r) w [] book (Err NoClose) refl
      (rw (within, found_seen w c at r found, ← found.figures, eq-eqb r.close 0 e))

  -- with what `next_class` ensures
  module _
      (to : ℕ)
      (e : to ≡ at + figures_length + first_at (is_from class_kind 0)
      (take (used (facts_of w) - (at + figures_length)) (drop (at + figures_length) w))) where
    abbrev pub class_reviewable : Reviewable w (at + figures_length) to r.close
    class_reviewable =
        let o = found.is_open in
        let p : at + figures_length ≡ class_place c (facts_of w) + figures_length =
        omega (arith, found.place) in
        record {
          book = book;
          number = c;
          is_open = o;
          begins = p;
          ends = class_ended w book c o (at + figures_length) to p e;
          close = ap (λ (x : ClassRecord). x.close) found.figures;
        }

  pub review_count : (k : ℕ) → k ≡ reviewed_count (class (facts_of w) c) → k ≤ longest_run
  unfolding reviewed_count
  review_count k count =
      let x = class (facts_of w) c in
      omega (
        arith,
        length_only (is_reviewed x) x.series,
        sum_put words_of (new_class c) (facts_of w).classes found.is_open,
        (book_form w book).room,
        book_long w book,
      )

  pub review_made :
      (k : ℕ) (w' : List ℕ)
      → (k ≡ reviewed_count (class (facts_of w) c))
      × (w' ≡ layout (length w) (update (class_reviewed (class (facts_of w) c)) (facts_of w)))
      → (r.close ≡ 0 → ⊥) → Made (on c call_r) w [] (Ok (Removed k)) w' []
  unfolding answer_to effect_on
  review_made k w' done n =
      made_accepted (on c call_r) w [] book (Ok (Removed k)) w' refl
      (rw (within, found_seen w c at r found, ← found.figures, ne_eqb r.close 0 n)
      (ap (λ (n : ℕ). Ok (Removed n)) (sym done.0)))
      done.1
