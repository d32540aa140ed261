-- Two whole lists of calls: equal words exactly when equal facts, since each call leaves the layout of the next facts;
-- by induction on the list. The words of `run_calls` are those of its list. Assumes nothing.
use Prim.Native.Nat.{ℕ}
use mathlib.Core.Path.{◌≡◌, refl, sym, ap, ◌∙◌}
use mathlib.Core.List.{List, [], ◌∷◌}
use mathlib.Core.Logic.Iff
use mathlib.Core.Logic.{◌↔◌}
use lib.ListN.{length, replicate, length-replicate}
use lib.Dec.{T}
use Rattle.std.specs.Prelude.{Ok}
use Rattle.word.specs.Answers.{Answer}
use Rattle.word.specs.declared.answer.Accepted.TheVariants.{Done}
use Rattle.word.specs.Limits.{is_length}
use Rattle.book.specs.Facts.{Facts, fresh}
use Rattle.book.specs.Layout.{layout}
use Rattle.book.specs.Books.{is_well_formed}
use Rattle.book.specs.Calls.{Call, answer_to, written, step, steps, after}
use Rattle.book.specs.Points.{SameFacts}
use Rattle.book.specs.Made.{over, Made}
use Rattle.book.specs.CallLists.{LentCall, calls_alone}
use Rattle.logic.proofs.Tests.{T_true}
use Rattle.book.proofs.Layouts.{facts_of_layout, layout_injective, fresh_well_formed}
use Rattle.book.proofs.Keep.{step_keeps, after_well_formed}
use Rattle.book.proofs.SameFacts.{same_facts}
use Rattle.book.proofs.Followed.{made_words, layout_is_book, layout_size}
use Rattle.history.specs.Turns.{Turns, done, turn, lent_in, Whole}
use Rattle.history.specs.Records.{calls_of}
use Rattle.history.specs.ExecutedLists.{Ran}

-- ---- calls in turn

pub turns_words :
    (n : ℕ) (f : Facts) {xs : List Call} {w w'' : List ℕ} → T (is_well_formed n f) → w ≡ layout n f → Turns xs w w''
    → w'' ≡ layout n (steps n xs f)
unfolding steps
turns_words n f good e done = e
turns_words n f good e (turn {x} m t) =
    let words = made_words (layout_is_book n f good) (rw e at m) in
    let next = rw (layout_size n f good, facts_of_layout n f good) at words in
    turns_words n (step n x f) (step_keeps n x f good) next t

pub whole_begins :
    {n : ℕ} {xs : List Call} {w : List ℕ} → T (is_length n) → (whole : Whole n xs w) → whole.book ≡ layout n fresh
whole_begins {n} long whole = rw (whole.size, T_true (is_length n) long) at whole.begun.words

pub whole_words : {n : ℕ} {xs : List Call} {w : List ℕ} → T (is_length n) → Whole n xs w → w ≡ layout n (after n xs)
whole_words {n} long whole =
    turns_words n fresh (fresh_well_formed n long) (whole_begins long whole) whole.turns

-- demand 3
pub two_lists :
    {n : ℕ} {xs ys : List Call} {a b : List ℕ} → T (is_length n) → Whole n xs a → Whole n ys b
    → (a ≡ b) ↔ (after n xs ≡ after n ys)
two_lists {n} {xs} {ys} long p q =
    let x = whole_words long p in
    let y = whole_words long q in
    let one = after_well_formed n xs long in
    let other = after_well_formed n ys long in (
      λ e. layout_injective n (after n xs) (after n ys) one other (sym x ∙ e ∙ y),
      λ e. x ∙ ap (layout n) e ∙ sym y,
    )

-- the same, with equal facts said point by point
pub two_lists_same :
    {n : ℕ} {xs ys : List Call} {a b : List ℕ} → T (is_length n) → Whole n xs a → Whole n ys b
    → (a ≡ b) ↔ SameFacts (after n xs) (after n ys)
two_lists_same {n} {xs} {ys} long p q =
    let s = same_facts n n (after n xs) (after n ys) (after_well_formed n xs long) (after_well_formed n ys long) in
    let t = two_lists long p q in
    Iff.trans t s

-- ---- every list can be made

-- one call, with any second run
made_exists :
    (n : ℕ) (x : Call) (f : Facts) (v : List ℕ) → T (is_well_formed n f)
    → Made x (layout n f) v (answer_to n (length v) x f) (layout n (step n x f)) (over (written n (length v) x f) v)
made_exists n x f v good =
    let is = layout_is_book n f good in
    let size = layout_size n f good in
    let facts = facts_of_layout n f good in
    record { answer = rw (is, size, facts); words = rw (is, size, facts); second = rw (is, size, facts) }

-- calls in turn, each with a second run of the length that it asks for
turns_exist :
    (n : ℕ) (xs : List LentCall) (f : Facts) → T (is_well_formed n f)
    → (t : Turns (calls_alone xs) (layout n f) (layout n (steps n (calls_alone xs) f))) × (lent_in t ≡ xs)
unfolding steps
turns_exist n [] f good = (done, refl)
turns_exist n (x ∷ xs) f good =
    let later = turns_exist n xs (step n x.call f) (step_keeps n x.call f good) in
    let long : length (replicate {A = ℕ} x.room 0) ≡ x.room = length-replicate {A = ℕ} x.room 0 in
    (turn (made_exists n x.call f (replicate x.room 0) good) later.0, rw (long, later.1))

-- a whole list, with second runs of any lengths
pub whole_exists :
    {n : ℕ} → T (is_length n) → (xs : List LentCall)
    → (whole : Whole n (calls_alone xs) (layout n (after n (calls_alone xs)))) × (lent_in whole.turns ≡ xs)
whole_exists {n} long xs =
    let size : length (replicate {A = ℕ} n 0) ≡ n = length-replicate {A = ℕ} n 0 in
    let is = T_true (is_length n) long in
    let made = turns_exist n xs fresh (fresh_well_formed n long) in (
      record {
        held = replicate n 0;
        book = layout n fresh;
        answer = Ok Done;
        size = size;
        begun = record { answer = rw (size, is); words = rw (size, is) };
        turns = made.0;
      },
      made.1,
    )

-- ---- the words that `run_calls` leaves

-- they are those, and the only ones, that the calls of the list leave when anybody makes them in turn
pub run_whole :
    {w pool calls w' pool' : List ℕ} {r : Answer} → T (is_length (length w)) → Ran w pool calls r w' pool'
    → (u : List ℕ)
    → Whole (length w) (calls_alone (calls_of calls)) u ↔ (u ≡ w')
run_whole {w} {pool} {calls} {w'} long ran u =
    let left : w' ≡ layout (length w) (after (length w) (calls_alone (calls_of calls))) =
    rw (T_true (is_length (length w)) long) at ran.words in
    (λ whole. whole_words long whole ∙ sym left, λ e. rw (e, left) (whole_exists long (calls_of calls)).0)
