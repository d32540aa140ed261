-- Inner: what words add to the counters of a run, and what is asked where counters are written. Assumes nothing.
use Rattle.std.specs.Prelude.{ℕ, ◌+◌, ◌-◌, ◌^◌, ◌<◌, ◌≤◌, Bool, cond, T, Result, List, [], ◌∷◌, map, length, nat_eq, slice_index}
use Rattle.logic.specs.Lists.{some, sum}
use Rattle.word.specs.declared.answer.Refusal.{Refusal}
use Rattle.word.specs.declared.counter.Counts.{Counts}
use Rattle.word.specs.Field.{field}
use Rattle.word.specs.Limits.{longest_run}
use Rattle.word.specs.Kinds.{kind_field, kind_of, strike_kind, ground_field, is_of_kind}
use Rattle.word.specs.Programs.{Program, programs, program, is_program, is_of}
use Rattle.word.specs.Codec.{Counter, Fits, shifted, kind_placed}
use Rattle.word.specs.Head.{first_place, own_in, strikes_in, with_counter}

-- what the counter of the program p says
abbrev pub counts_in : ℕ → List ℕ → Counts
counts_in p ws = record { own = own_in p ws; strikes = strikes_in p ws }

-- what a reader of a counter is answered
abbrev pub CounterAnswer : Type 0
CounterAnswer = Result Counts Refusal

-- a counter can be written
pub record Writable (ws : List ℕ) (counts : Counts) : Type 0 where
  pub room : first_place ≤ length ws
  pub fits : Fits (Counter counts.own counts.strikes)

-- so many strikes, or own classes, can be set in a counter
pub record Settable (ws : List ℕ) (count width : ℕ) : Type 0 where
  pub room : first_place ≤ length ws
  pub small : count < 2 ^ width

-- ---- strikes of each program, in their order

-- so many of each, by its number
abbrev pub by_program : (ℕ → ℕ) → List ℕ
by_program count = map (λ g. count g.number) programs

-- those of the program p
abbrev pub strikes_for : List ℕ → ℕ → ℕ
strikes_for strikes p = slice_index strikes (p - 1)

-- no more than a run can have
abbrev pub AreFew : List ℕ → Type 0
AreFew strikes = (p : ℕ) → T (is_program p) → strikes_for strikes p ≤ longest_run

-- the kind and the ground of a word, without its other fields; those of a strike word on the ground
abbrev pub ground_key : ℕ → ℕ
ground_key w = shifted (kind_of w) kind_field + shifted (field w ground_field) ground_field

abbrev pub key_on : ℕ → ℕ
key_on on_ground = kind_placed strike_kind + shifted on_ground ground_field

abbrev pub is_key_of : ℕ → Program → Bool
is_key_of key g = some (λ on_ground. nat_eq key (key_on on_ground)) g.grounds

-- what a strike on the ground adds to those of the program p, and what the word w does
abbrev pub one_of : ℕ → ℕ → ℕ
one_of on_ground p = cond {A = ℕ} (is_of on_ground (program p)) 1 0

abbrev pub strike_of : ℕ → ℕ → ℕ
strike_of p w = cond {A = ℕ} (is_of_kind strike_kind w) (one_of (field w ground_field) p) 0

-- those among words, and that of one word
abbrev pub strikes_among : List ℕ → List ℕ
strikes_among ws = by_program (λ p. sum (strike_of p) ws)

abbrev pub strike_among : ℕ → List ℕ
strike_among w = by_program (λ p. strike_of p w)

abbrev pub together : List ℕ → List ℕ → List ℕ
together these those = by_program (λ p. strikes_for these p + strikes_for those p)

abbrev pub without : List ℕ → List ℕ → List ℕ
without all some = by_program (λ p. strikes_for all p - strikes_for some p)

-- some are no more than all
abbrev pub AreAmong : List ℕ → List ℕ → Type 0
AreAmong all some = (p : ℕ) → T (is_program p) → strikes_for some p ≤ strikes_for all p

-- ---- the counters of a run

-- the strikes that they say
abbrev pub strikes_said : List ℕ → List ℕ
strikes_said ws = by_program (λ p. strikes_in p ws)

-- the run ws with so many strikes in the counter of the program p, and with so many own classes
abbrev pub strikes_set : ℕ → ℕ → List ℕ → List ℕ
strikes_set p strikes ws = with_counter p (own_in p ws) strikes ws

abbrev pub own_set : ℕ → ℕ → List ℕ → List ℕ
own_set p own ws = with_counter p own (strikes_in p ws) ws

-- the run ws with these strikes in the counters of programs
abbrev pub with_strikes : List Program → List ℕ → List ℕ → List ℕ
with_strikes [] strikes ws = ws
with_strikes (g ∷ gs) strikes ws = with_strikes gs strikes (strikes_set g.number (strikes_for strikes g.number) ws)

-- .. with more strikes, and with some less
abbrev pub strikes_added : List ℕ → List ℕ → List ℕ
strikes_added more ws = with_strikes programs (together (strikes_said ws) more) ws

abbrev pub strikes_taken : List ℕ → List ℕ → List ℕ
strikes_taken some ws = with_strikes programs (without (strikes_said ws) some) ws

-- more strikes can be added to the counters of the run ws
pub record Addable (ws more : List ℕ) : Type 0 where
  pub room : first_place ≤ length ws
  pub few : AreFew more
  pub all : AreFew (together (strikes_said ws) more)
