-- Two runs compared: word by word from the front; and the answer says of the words and of the facts what two whole
-- lists say of them. Assumes nothing.
use Prim.Native.Nat.{ℕ, ◌+◌, ◌<◌, ◌≤◌}
use mathlib.Core.Path.{◌≡◌, refl, sym, ap, ◌∙◌}
use mathlib.Core.Bool.{Bool, true, false, cond, ◌&&◌, false≢true}
use mathlib.Core.List.{List}
use mathlib.Core.Logic.Iff
use mathlib.Core.Logic.{◌↔◌}
use lib.ListN.{length, get_or, drop, drop_of_length-le}
use lib.Dec.{T, eqb}
use borrow.Author.Tests.{eq-eqb, ne_eqb}
use Rattle.std.specs.Prelude.{Ok, Err, is_err}
use Rattle.std.specs.Bool.{Decides}
use Rattle.word.specs.Answers.{Answer}
use Rattle.word.specs.declared.answer.Accepted.TheVariants.{Done}
use Rattle.word.specs.declared.answer.Refusal.TheVariants.{NotABook}
use Rattle.word.specs.Limits.{is_length}
use Rattle.book.specs.Books.{same_words}
use Rattle.book.specs.CallLists.{calls_alone}
use Rattle.logic.proofs.Tests.{true_T}
use Rattle.logic.proofs.Slices.{next_word}
use Rattle.history.specs.declared.Comparison.{Comparison}
use Rattle.history.specs.declared.Comparison.TheVariants.{Equal, Different, BadLength}
use Rattle.history.specs.Turns.{Whole}
use Rattle.history.specs.Records.{calls_of}
use Rattle.history.specs.ExecutedLists.{Ran}
use Rattle.history.specs.Comparisons.{are_lengths, Compared}
use Rattle.history.proofs.WholeLists.{whole_words, two_lists, two_lists_same, run_whole}
use Rattle.history.proofs.ExecutedLists.{refused_bad}

-- ---- word by word

module _ (left right : List ℕ) (i : ℕ) where
  same_next :
      i < length left → i < length right
      → same_words (drop i left) (drop i right)
      ≡ eqb (get_or left i 0) (get_or right i 0) && same_words (drop (i + 1) left) (drop (i + 1) right)
  same_next h k = rw (next_word left i (i + 1) refl h, next_word right i (i + 1) refl k)

  pub same_step :
      i < length left → i < length right → get_or left i 0 ≡ get_or right i 0
      → same_words (drop (i + 1) left) (drop (i + 1) right) ≡ same_words (drop i left) (drop i right)
  same_step h k e = rw (same_next h k, eq-eqb (get_or left i 0) (get_or right i 0) e)

  pub same_stop :
      i < length left → i < length right → (get_or left i 0 ≡ get_or right i 0 → ⊥)
      → false ≡ same_words (drop i left) (drop i right)
  same_stop h k ne = rw (same_next h k, ne_eqb (get_or left i 0) (get_or right i 0) ne)

  pub same_end : length left ≤ i → length right ≤ i → true ≡ same_words (drop i left) (drop i right)
  same_end h k = rw (drop_of_length-le left h, drop_of_length-le right k)

-- ---- the answer

abbrev answering : Bool → Comparison
answering same = cond same Equal Different

compared_words :
    {v w : List ℕ} (same : Bool) → Decides same (v ≡ w)
    → (answering same ≡ BadLength → ⊥) × ((answering same ≡ Equal) ↔ (v ≡ w))
compared_words true is = (λ q. cc, (λ q. is.0 refl, λ q. refl))
compared_words false is = (λ q. cc, (λ q. cc, λ q. absurd (false≢true (is.1 q))))

-- the length is good where the list is not refused
not_refused : (good : Bool) {r : Answer} → r ≡ cond good (Ok Done) (Err NotABook) → is_err r ≡ false → good ≡ true
not_refused true e done = refl
not_refused false e done = absurd (false≢true (sym done ∙ ap is_err e))

-- ---- both lists run

module _ {left right pool calls others left' right' pool' pool'' : List ℕ} {a b : Answer}
    (size : length left ≡ length right) (first : Ran left pool calls a left' pool')
    (second : Ran right pool' others b right' pool'') (done : is_err a ≡ false) where
  good : is_length (length left) ≡ true
  good = not_refused (is_length (length left)) first.answer done

  long : T (is_length (length left))
  long = true_T (is_length (length left)) good

  left_whole : Whole (length left) (calls_alone (calls_of calls)) left'
  left_whole = (run_whole long first left').1 refl

  right_whole : Whole (length left) (calls_alone (calls_of others)) right'
  right_whole = rw size ((run_whole (rw size at long) second right').1 refl)

  pub compared :
      (same : Bool) → Decides same (left' ≡ right')
      → Compared left right pool calls others (answering same) left' right' pool''
  compared same is =
      let words = compared_words same is in
      let facts = two_lists long left_whole right_whole in
      let points = two_lists_same long left_whole right_whole in
      record {
        refused = λ bad. absurd (false≢true (sym bad ∙ rw (eq-eqb (length left) (length right) size, good)));
        accepted = λ are. record {
          left = whole_words long left_whole;
          right = whole_words long right_whole;
          second = rw (← size, good, rw good at first.second) at second.second;
          run = words.0;
          by_words = words.1;
          by_facts = Iff.trans words.1 facts;
          by_points = Iff.trans words.1 points;
        };
      }

-- ---- refused

refused_lengths :
    {left right pool calls others left' pool' : List ℕ} → are_lengths (length left) (length right) ≡ false
    → left' ≡ left
    → pool' ≡ pool → Compared left right pool calls others BadLength left' right pool'
refused_lengths bad kept-left kept-pool =
    record {
      refused = λ e. record { answer = refl; left_kept = kept-left; right_kept = refl; pool_kept = kept-pool };
      accepted = λ e. absurd (false≢true (sym bad ∙ e));
    }

pub other_lengths :
    {left right pool calls others : List ℕ} → (length left ≡ length right → ⊥)
    → Compared left right pool calls others BadLength left right pool
other_lengths {left} {right} ne = refused_lengths (rw (ne_eqb (length left) (length right) ne)) refl refl

pub bad_length :
    {left right pool calls others left' pool' : List ℕ} {a : Answer} → length left ≡ length right
    → Ran left pool calls a left' pool' → (a ≡ Ok Done → ⊥)
    → Compared left right pool calls others BadLength left' right pool'
bad_length {left} {right} size first refused =
    let bad = refused_bad (is_length (length left)) first.answer refused in
    refused_lengths (rw (eq-eqb (length left) (length right) size, bad)) (rw bad at first.words)
    (rw bad at first.second)
