-- Document 01, clause a, of every call of a list, "and for `A` the second run's length": the answers that calls get,
-- and what they write to a second run. Assumes nothing.
use Rattle.std.specs.Prelude.{ℕ, List, [], ◌∷◌, map}
use Rattle.word.specs.Answers.{Answer}
use Rattle.word.specs.Answers.{answer_number, answer_value}
use Rattle.book.specs.Facts.{Facts}
use Rattle.book.specs.Calls.{Call, answer_to, written, step}
use Rattle.book.specs.Made.{over}

-- "and for `A` the second run's length": a call, and the length of the second run that it is lent
pub record LentCall : Type 0 where
  pub call : Call
  pub room : ℕ

-- the calls alone
abbrev pub calls_alone : List LentCall → List Call
calls_alone xs = map (λ x. x.call) xs

-- calls that are each lent a second run of `room` words
abbrev pub lent_each : ℕ → List Call → List LentCall
lent_each room xs = map (λ x. record { call = x; room = room }) xs

-- each call's answer, in a run of n words
unfoldable pub answers_to : ℕ → List LentCall → Facts → List Answer
answers_to n [] f = []
answers_to n (x ∷ xs) f = answer_to n x.room x.call f ∷ answers_to n xs (step n x.call f)

-- the number and the value of each answer
abbrev pub told : List Answer → List ℕ
told [] = []
told (r ∷ rs) = answer_number r ∷ answer_value r ∷ told rs

-- the words of the second run v after calls that are each lent it, from its first word on
unfoldable pub second_after : ℕ → List LentCall → Facts → List ℕ → List ℕ
second_after n [] f v = v
second_after n (x ∷ xs) f v = second_after n xs (step n x.call f) (over (written n x.room x.call f) v)
