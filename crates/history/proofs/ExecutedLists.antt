-- A list of calls run from its words: what the rest of the list makes of the book and the pool so far is what the whole
-- list makes of the first ones, a record a turn. Assumes nothing.
use Prim.Native.Nat.{ℕ, zero, suc, ◌+◌, ◌/◌, ◌<◌, ◌≤◌}
use mathlib.Core.Path.{◌≡◌, refl, sym, ap, ◌∙◌}
use mathlib.Core.Bool.{Bool, true, false, cond}
use mathlib.Core.List.{List, [], ◌∷◌, map}
use native.Mathlib.Omega.{arith}
use native.Mathlib.Numerals.{add-one}
use lib.ListN.{length, get_or, drop, drop_of_length-le}
use lib.Seq.{drop-cons}
use lib.Dec.{T}
use Rattle.std.specs.Prelude.{Ok, Err}
use Rattle.std.specs.Simd.{first_chunks}
use Rattle.word.specs.Answers.{Answer}
use Rattle.word.specs.declared.answer.Accepted.{Accepted}
use Rattle.word.specs.declared.answer.Accepted.TheVariants.{Done}
use Rattle.word.specs.declared.answer.Refusal.TheVariants.{NotABook}
use Rattle.word.specs.Limits.{is_length}
use Rattle.book.specs.Facts.{fresh}
use Rattle.book.specs.Layout.{layout, facts_of}
use Rattle.book.specs.Books.{is_well_formed, is_book}
use Rattle.book.specs.Calls.{steps}
use Rattle.book.specs.Made.{Begun}
use Rattle.book.specs.CallLists.{LentCall, calls_alone, second_after}
use Rattle.logic.proofs.Tests.{true_T}
use Rattle.book.proofs.Layouts.{facts_of_layout, book_layout, book_facts, fresh_well_formed}
use Rattle.book.proofs.Followed.{next_book, layout_size}
use Rattle.history.specs.Records.{record_length, call_of_record, calls_of}
use Rattle.history.specs.ExecutedLists.{lent_within, Lent, MadeInTurn, Ran}

-- ---- the records of a list

-- the calls of a list are those of its whole records
records_called :
    (k : ℕ) (l : List ℕ) → k ≡ length l / record_length
    → calls_of l ≡ map call_of_record (first_chunks record_length k l)
unfolding calls_of
records_called k [] is = let none : k ≡ 0 = omega arith in rw none
records_called k (letter ∷ []) is = let none : k ≡ 0 = omega arith in rw none
records_called k (letter ∷ count ∷ []) is = let none : k ≡ 0 = omega arith in rw none
records_called k (letter ∷ count ∷ a ∷ []) is = let none : k ≡ 0 = omega arith in rw none
records_called k (letter ∷ count ∷ a ∷ b ∷ []) is = let none : k ≡ 0 = omega arith in rw none
records_called k (letter ∷ count ∷ a ∷ b ∷ c ∷ []) is = let none : k ≡ 0 = omega arith in rw none
records_called k (letter ∷ count ∷ a ∷ b ∷ c ∷ d ∷ []) is = let none : k ≡ 0 = omega arith in rw none
records_called k (letter ∷ count ∷ a ∷ b ∷ c ∷ d ∷ e ∷ []) is = let none : k ≡ 0 = omega arith in rw none
records_called zero (letter ∷ count ∷ a ∷ b ∷ c ∷ d ∷ e ∷ room ∷ rest) is = absurd (omega arith)
records_called (suc k) (letter ∷ count ∷ a ∷ b ∷ c ∷ d ∷ e ∷ room ∷ rest) is =
    let first = call_of_record (letter ∷ count ∷ a ∷ b ∷ c ∷ d ∷ e ∷ room ∷ []) in
    ap (λ (xs : List LentCall). first ∷ xs) (records_called k rest (omega arith))

-- ---- the loop

-- the calls of the records from the place i on
abbrev left_from : ℕ → List (List ℕ) → List LentCall
left_from i records = map call_of_record (drop i records)

-- the records before i are made: `held` and `start` are the book and the pool before the first of them, `run` and
-- `pool` those now
pub record Going (held start : List ℕ) (records : List (List ℕ)) (run pool : List ℕ) (i : ℕ) : Type 0 where
  pub book : T (is_book run)
  pub size : length run ≡ length held
  pub pool_size : length pool ≡ length start
  pub facts :
      steps (length held) (calls_alone (left_from i records)) (facts_of run)
      ≡ steps (length held) (calls_alone (left_from 0 records)) (facts_of held)
  pub second :
      second_after (length held) (map (lent_within (length start)) (left_from i records)) (facts_of run) pool
      ≡ second_after (length held) (map (lent_within (length start)) (left_from 0 records)) (facts_of held) start

pub going_start :
    {run pool : List ℕ} {records : List (List ℕ)} → T (is_book run) → Going run pool records run pool 0
going_start book = record { book = book; size = refl; pool_size = refl; facts = refl; second = refl }

pub going_step :
    {held start run pool run' pool' : List ℕ} {records : List (List ℕ)} {i : ℕ} {r : Answer}
    → Going held start records run pool i → i < length records
    → Lent (call_of_record (get_or records i [])) run pool r run' pool' → length pool' ≡ length pool
    → Going held start records run' pool' (i + 1)
unfolding steps second_after
going_step {held} {start} {run} {records = records} {i = i} g h m long =
    let first = get_or records i [] in
    let next = next_book (call_of_record first).call run g.book m.words in
    let split = drop-cons records i [] h in
    record {
      book = next.0;
      size = next.1 ∙ g.size;
      pool_size = long ∙ g.pool_size;
      facts = rw (add-one, next.2, g.size) (rw split at g.facts);
      second = rw (add-one, next.2, m.second, g.size, g.pool_size) (rw split at g.second);
    }

pub going_end :
    {held start calls run pool : List ℕ} {records : List (List ℕ)} {i : ℕ} → Going held start records run pool i
    → length records ≤ i → records ≡ first_chunks record_length (length calls / record_length) calls
    → MadeInTurn held start calls run pool
unfolding steps second_after
going_end {calls = calls} {run} {records = records} {i} g h is =
    let none : drop i records ≡ [] = drop_of_length-le records h in
    let all : left_from 0 records ≡ calls_of calls =
    rw is (sym (records_called (length calls / record_length) calls refl)) in
    record {
      words = sym (rw (g.size, rw (none, all) at g.facts) at (book_facts run g.book).1);
      second = rw (none, all) at g.second;
    }

-- ---- from a fresh book

-- the length is good where a call is accepted, and only there
pub done_good :
    (good : Bool) {r : Answer} {a : Accepted} → r ≡ cond good (Ok Done) (Err NotABook) → r ≡ Ok a → good ≡ true
done_good true e done = refl
done_good false e done = cc

pub refused_bad :
    (good : Bool) {r : Answer} → r ≡ cond good (Ok Done) (Err NotABook) → (r ≡ Ok Done → ⊥) → good ≡ false
refused_bad true e refused = absurd (refused e)
refused_bad false e refused = refl

module _ {w w' : List ℕ} {r : Answer} (begun : Begun w r w') where
  module _ {a : Accepted} (done : r ≡ Ok a) where
    good : is_length (length w) ≡ true
    good = done_good (is_length (length w)) begun.answer done

    fresh_words : w' ≡ layout (length w) fresh
    fresh_words = rw good at begun.words

    well_formed : T (is_well_formed (length w) fresh)
    well_formed = fresh_well_formed (length w) (true_T (is_length (length w)) good)

    pub begun_book : T (is_book w')
    begun_book = rw fresh_words (book_layout (length w) fresh well_formed)

    pub ran_done : {pool calls w'' pool' : List ℕ} → MadeInTurn w' pool calls w'' pool' → Ran w pool calls r w'' pool'
    ran_done made =
        let size = layout_size (length w) fresh well_formed in
        let facts = facts_of_layout (length w) fresh well_formed in
        record {
          answer = begun.answer;
          words = rw good (rw (fresh_words, size, facts) at made.words);
          second = rw good (rw (fresh_words, size, facts) at made.second);
        }

  pub ran_refused : {pool calls : List ℕ} → (r ≡ Ok Done → ⊥) → Ran w pool calls r w' pool
  ran_refused refused =
      let bad = refused_bad (is_length (length w)) begun.answer refused in
      record { answer = begun.answer; words = rw bad (rw bad at begun.words); second = rw bad }
