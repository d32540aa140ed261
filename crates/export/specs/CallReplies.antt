-- Document 01, clause a, for callers in C: the number and the value of the reply are those of the answer that the
-- contract of the call gives, with every word of both runs; and request #104, the three numbers of a counter's reply.
-- Assumes nothing.
use Rattle.std.specs.Prelude.{ℕ, ◌≡◌, List}
use Rattle.word.specs.Answers.{Answer}
use Rattle.word.specs.Answers.{answer_number, answer_value}
use Rattle.book.specs.Calls.{Call}
use Rattle.book.specs.Made.{Made, Begun}
use Rattle.word.specs.Counters.{CounterAnswer}
use Rattle.book.specs.CounterReads.{counter_number, counts_told}
use Rattle.export.specs.declared.Reply.{Reply}
use Rattle.export.specs.declared.CounterReply.{CounterReply}

-- the reply carries the answer's number and value
pub record Carries (r : Reply) (a : Answer) : Type 0 where
  pub number_is : r.number ≡ answer_number a
  pub value_is : r.value ≡ answer_value a

-- the call x made on any words w, with the second run v: the reply, and the words w' and v' that it leaves
pub record Answered (x : Call) (w v : List ℕ) (r : Reply) (w' v' : List ℕ) : Type 0 where
  pub answer : Answer
  pub carried : Carries r answer
  pub made : Made x w v answer w' v'

-- a fresh book made of any words w
pub record Started (w : List ℕ) (r : Reply) (w' : List ℕ) : Type 0 where
  pub answer : Answer
  pub carried : Carries r answer
  pub begun : Begun w answer w'

-- #104: the reply that carries what a reader of a counter is answered
abbrev pub counter_reply : CounterAnswer → CounterReply
counter_reply a = record { number = counter_number a; own = (counts_told a).own; strikes = (counts_told a).strikes }
