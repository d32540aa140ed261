-- `read_known_counter` says what stands in a counter, which of a book is what it counts.
use Rattle.std.proofs.Common.{◌≡◌, ℕ, T, List, length, ap, ◌∙◌, le-leb, Ok}
use borrow.Author.Tests.{lt-leb}
use Rattle.word.specs.Counters.{CounterAnswer}
use Rattle.word.specs.Head.{first_place}
use Rattle.word.specs.Programs.{number_of}
use Rattle.word.proofs.EachProgram.{named}
use Rattle.book.specs.Books.{is_book}
use Rattle.book.specs.CounterReads.{counter_read, counter_said}
use Rattle.book.proofs.Recounted.{known_read}
use Rattle.call.proofs.read_known_counter.Goals as goal

-- what stands there is what a reader of a book is answered
known :
    (p : ℕ) (w : List ℕ) (r : CounterAnswer) → r ≡ counter_said p w
    → (r ≡ counter_said p w) × (T (is_book w) → r ≡ counter_read p w)
known p w r e = (e, λ book. e ∙ known_read p w book)

pub returns-then-run-lt-FIRST : goal.returns-then-run-lt-FIRST
returns-then-run-lt-FIRST c =
    known c.args.p c.args.run.now _ (rw (lt-leb first_place (length c.args.run.now) c.if-run-lt-FIRST.true))

pub returns : goal.returns
returns c =
    let w = c.args.run.now in
    let program = c.in_ok-program.program in
    let said : Ok c.read.result ≡ counter_said (number_of program) w =
    rw (le-leb first_place (length w) c.if-run-lt-FIRST.false, named program) (ap Ok c.read.ensures) in
    rw (← c.in_ok-program.ensures) (known (number_of program) w _ said)
