-- Request #104, "Margin reads the number of own classes in each program at every quote": what a reader of a counter is
-- answered. Assumes nothing.
use Rattle.std.specs.Prelude.{ℕ, cond, List, leb, length, Ok, Err}
use Rattle.word.specs.declared.answer.Refusal.TheVariants.{NotABook, BeyondLimits}
use Rattle.word.specs.declared.counter.Counts.{Counts}
use Rattle.word.specs.Counters.{CounterAnswer}
use Rattle.word.specs.Answers.{refusal_number}
use Rattle.word.specs.Programs.{is_program}
use Rattle.word.specs.Head.{first_place}
use Rattle.word.specs.Counters.{counts_in}
use Rattle.book.specs.Facts.{Facts, owned, strikes_on}
use Rattle.book.specs.Layout.{facts_of}
use Rattle.book.specs.Books.{is_book}

-- "the number of own classes in each program", and "standing strikes on that program's grounds"
abbrev pub counts_of : ℕ → Facts → Counts
counts_of p f = record { own = owned p f.classes; strikes = strikes_on p f.classes }

-- of the program p over any words w: "1 the run is no book", "2 a number beyond its limits"
abbrev pub counter_read : ℕ → List ℕ → CounterAnswer
counter_read p w =
    cond (is_book w) (cond (is_program p) (Ok (counts_of p (facts_of w))) (Err BeyondLimits))
    (Err NotABook)

-- what stands there, whether it is true or not, where the run is not tested: 1 where it is too short to be a book
abbrev pub counter_said : ℕ → List ℕ → CounterAnswer
counter_said p w =
    cond (leb first_place (length w)) (cond (is_program p) (Ok (counts_in p w)) (Err BeyondLimits))
    (Err NotABook)

-- the number of such an answer, and what it tells: "A refusal .. carries value 0"
abbrev pub counter_number : CounterAnswer → ℕ
counter_number (Ok counts) = 0
counter_number (Err r) = refusal_number r

abbrev pub counts_told : CounterAnswer → Counts
counts_told (Ok counts) = counts
counts_told (Err r) = record { own = 0; strikes = 0 }
