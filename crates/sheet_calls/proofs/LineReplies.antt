-- What is printed for a call that has been made is the reply to it: its answer tells how many words of the second run
-- are its strikes. Assumes nothing.
use Prim.Native.Nat.{ℕ, ◌+◌, ◌≤◌, ◌<◌}
use mathlib.Core.Path.{◌≡◌, sym, ap, ◌∙◌}
use mathlib.Core.List.{List}
use native.Mathlib.Omega.{arith}
use lib.Dec.{T}
use lib.ListN.{length, take, drop, get_or, length-append, length-take}
use lib.Seq.{sets, take_at}
use Rattle.word.specs.Answers.{Answer, answer_value, strikes_listed}
use Rattle.book.specs.Layout.{facts_of}
use Rattle.book.specs.Books.{is_book}
use Rattle.book.specs.Calls.{Call, answer_to, written}
use Rattle.book.specs.Made.{over, Made}
use Rattle.text.specs.Printing.{line_room}
use Rattle.logic.proofs.Tests.{T_true}
use Rattle.logic.proofs.Slices.{each_front}
use Rattle.book.proofs.Order.{written_count}
use Rattle.book.proofs.Followed.{made_words, made_book}
use Rattle.text.proofs.Bounds.{word_limit, answer_bound}
use Rattle.sheet_calls.specs.Pieces.{reply_to, printed_text, Ended}

-- it fits the room of a line
pub printed_fits :
    (answer : Answer) (v : List ℕ) → answer_value answer < word_limit → ((k : ℕ) → get_or v k 0 < word_limit)
    → length (printed_text answer v) ≤ line_room (length v)
printed_fits answer v small each =
    let count = strikes_listed answer in
    omega (arith, answer_bound (take count v) (each_front v count each) answer small, length-take count v)

-- the call x has been made on a book
module _
    {x : Call}
    {w v w' v' : List ℕ}
    {answer : Answer}
    (book : T (is_book w))
    (made : Made x w v answer w' v')
  where
    abbrev strikes : List ℕ
    strikes = written (length w) (length v) x (facts_of w)

    answer_said : answer ≡ answer_to (length w) (length v) x (facts_of w)
    answer_said = rw (T_true (is_book w) book) at made.answer

    second_said : v' ≡ over strikes v
    second_said = rw (T_true (is_book w) book) at made.second

    listed_said : strikes_listed answer ≡ length strikes
    listed_said = ap strikes_listed answer_said ∙ sym (written_count (length w) (length v) x (facts_of w))

    pub listed_fits : strikes_listed answer ≤ length v'
    listed_fits = omega (arith, listed_said, ap length second_said, length-append strikes (drop (length strikes) v))

    replied : printed_text answer v' ≡ reply_to (length w) (length v) x (facts_of w)
    replied =
        let front : take (strikes_listed answer) v' ≡ strikes =
        rw second_said (take_at strikes (drop (length strikes) v) (strikes_listed answer) (sym listed_said)) in
        rw (front, answer_said)

    pub line_ended :
        {out out' : List ℕ} {at r : ℕ} → r ≡ at + length (printed_text answer v') → r ≤ length out
        → out' ≡ sets out at (printed_text answer v') → Ended x w v out at r w' v' out'
    line_ended next fits printed =
        record {
          book = (made_book book made).0;
          words = made_words (T_true (is_book w) book) made;
          second = second_said;
          printed = rw replied at printed;
          next = rw replied at next;
          fits = fits;
        }
