-- Document 01, "Closes at the edges": T1 to T10, and after them those of requests #101 and #103, as one list of cases,
-- each computed up to the end of the range and so shown for all strikes. Assumes nothing.
use mathlib.Core.Path.{◌≡◌, refl, ◌∙◌}
use mathlib.Core.Bool.{Bool, true, false}
use mathlib.Core.List.{List, [], ◌∷◌, ◌++◌, map}
use Prim.Native.Nat.{ℕ, ◌*◌}
use Rattle.std.specs.Prelude.{Ok, Err}
use Rattle.word.specs.declared.class.ClassRecord.{ClassRecord}
use Rattle.word.specs.declared.answer.Refusal.TheVariants.{OffGrid, OutOfRange, TooClose}
use Rattle.word.specs.Answers.{Answer}
use Rattle.word.specs.declared.answer.Accepted.TheVariants.{Ground}
use Rattle.rule.specs.declared.terms.Setting.{Setting}
use Rattle.logic.specs.Lists.{only, up_from}
use Rattle.rule.specs.Terms.{is_long, is_near, is_outside}
use Rattle.rule.specs.Ranges.{lowest, among_five}
use Rattle.rule.specs.Ends.{top_end}
use Rattle.rule.specs.Spacing.{Standing}
use Rattle.rule.specs.Judgement.{judgement, is_permitted_beside, permitted}
use Rattle.rule.proofs.Most.{permitted_short}

pub data Case : Type 0 where
  -- beside the standing strikes exactly these are permitted
  permits : Setting → List Standing → List ℕ → Case
  -- beside the standing strikes the strike gets this answer
  answers : Setting → List Standing → ℕ → Answer → Case
  -- seen from the first month the second draws 5, or is near, or is long
  refused near long : ℕ → ℕ → Case

-- a class and an expiration of it, by the current month and the other
abbrev pub seen_from : ℕ → ℕ → ClassRecord → Setting
seen_from now month c = record { class = c; current = now; month = month }

-- an expiration that `L` may list in, and of which the test holds
abbrev OfTerm : (Setting → Bool) → ℕ → ℕ → Type 0
OfTerm test now month =
    (c : ClassRecord) → (is_outside (seen_from now month c) ≡ false) × (test (seen_from now month c) ≡ true)

abbrev pub CaseHolds : Case → Type 0
CaseHolds (permits s standing strikes) = permitted s standing ≡ strikes
CaseHolds (answers s standing h answer) = judgement s standing h ≡ answer
CaseHolds (refused now month) = (c : ClassRecord) → is_outside (seen_from now month c) ≡ true
CaseHolds (near now month) = OfTerm is_near now month
CaseHolds (long now month) = OfTerm is_long now month

abbrev pub All : List Case → Type 0
All [] = Unit {0}
All (x ∷ xs) = CaseHolds x × All xs

-- what is computed for a case: the permitted strikes, looked for among those up to the end of the range
data Outcome : Type 0 where
  strikes_of : List ℕ → Outcome
  answer_of : Answer → Outcome
  tests_of : List Bool → Outcome

abbrev computed : ClassRecord → Case → Outcome
computed c (permits s standing strikes) = strikes_of (only (is_permitted_beside s standing) (up_from (top_end s) 1))
computed c (answers s standing h answer) = answer_of (judgement s standing h)
computed c (refused now month) = tests_of (is_outside (seen_from now month c) ∷ [])
computed c (near now month) = tests_of (is_outside (seen_from now month c) ∷ is_near (seen_from now month c) ∷ [])
computed c (long now month) = tests_of (is_outside (seen_from now month c) ∷ is_long (seen_from now month c) ∷ [])

abbrev expected : Case → Outcome
expected (permits s standing strikes) = strikes_of strikes
expected (answers s standing h answer) = answer_of answer
expected (refused now month) = tests_of (true ∷ [])
expected (near now month) = tests_of (false ∷ true ∷ [])
expected (long now month) = tests_of (false ∷ true ∷ [])

holds : (x : Case) → ((c : ClassRecord) → computed c x ≡ expected x) → CaseHolds x
holds (permits s standing strikes) e =
    let e₁ : computed s.class (permits s standing strikes) ≡ strikes_of strikes = e s.class in
    permitted_short s standing ∙ cc
holds (answers s standing h answer) e = let e₁ = e s.class in cc
holds (refused now month) e = λ c. let e₁ = e c in cc
holds (near now month) e = λ c. let e₁ = e c in (cc, cc)
holds (long now month) e = λ c. let e₁ = e c in (cc, cc)

all_hold : (xs : List Case) → ((c : ClassRecord) → map (computed c) xs ≡ map expected xs) → All xs
all_hold [] e = tt
all_hold (x ∷ xs) e = (holds x (λ c. let e₁ = e c in cc), all_hold xs (λ c. let e₁ = e c in cc))

-- class 7 seen from month 4, by its low, close and high, its volume and designations, in the month m
abbrev daily : ℕ → ℕ → ℕ → ℕ → List ℕ → ℕ → Setting
daily low p high v ds m =
    record {
      class = record { number = 7; close = p; volume = v; low = low; high = high; designations = ds };
      current = 4;
      month = m;
    }

-- in no program, a $1 class near and long, a half class, a class in the $2.50 program
abbrev no_program_day : ℕ → ℕ → ℕ → Setting
no_program_day low p high = daily low p high 0 (0 ∷ 0 ∷ 0 ∷ []) 12

abbrev dollar_near_day : ℕ → ℕ → ℕ → Setting
dollar_near_day low p high = daily low p high 0 (1 ∷ 0 ∷ 0 ∷ []) 12

abbrev dollar_long_day : ℕ → ℕ → ℕ → Setting
dollar_long_day low p high = daily low p high 0 (1 ∷ 0 ∷ 0 ∷ []) 13

abbrev half_near_day : ℕ → ℕ → ℕ → Setting
half_near_day low p high = daily low p high 1000 (0 ∷ 1 ∷ 0 ∷ []) 12

abbrev two_fifty_near_day : ℕ → ℕ → ℕ → Setting
two_fifty_near_day low p high = daily low p high 0 (0 ∷ 0 ∷ 1 ∷ []) 12

-- the same after a close, which is its low and its high
abbrev no_program : ℕ → Setting
no_program p = no_program_day p p p

abbrev dollar_near : ℕ → Setting
dollar_near p = dollar_near_day p p p

abbrev dollar_long : ℕ → Setting
dollar_long p = dollar_long_day p p p

abbrev half_near : ℕ → Setting
half_near p = half_near_day p p p

abbrev two_fifty_near : ℕ → Setting
two_fifty_near p = two_fifty_near_day p p p

-- a class in the $2.50 program long, and one in the $1 program too
abbrev two_fifty_long : ℕ → Setting
two_fifty_long p = daily p p p 0 (0 ∷ 0 ∷ 1 ∷ []) 13

abbrev both_near : ℕ → Setting
both_near p = daily p p p 0 (2 ∷ 0 ∷ 2 ∷ []) 12

abbrev one_standing : ℕ → ℕ → List Standing
one_standing h g = record { strike = h; on_ground = g } ∷ []

-- strikes at whole dollars
abbrev dollars : List ℕ → List ℕ
dollars ds = map (λ d. 2 * d) ds

abbrev pub cases : List Case
cases =
    -- T1 "$1 class, near, P 200: $1 to $7"
    permits (dollar_near 200) [] (dollars (up_from 7 1)) ∷
    -- T2 "no program, P 200: h 5, 10, 15, 20, 25"
    permits (no_program 200) [] (5 ∷ 10 ∷ 15 ∷ 20 ∷ 25 ∷ []) ∷
    -- T3 "$1, near, 2400: $12 to $36, 25 strikes"
    permits (dollar_near 2400) [] (dollars (up_from 25 12)) ∷
    -- T4 "$1, near, 4999: $25 to $50, then $55, 60, 65, 70; 30 strikes"
    permits (dollar_near 4999) [] (dollars (up_from 26 25 ++ 55 ∷ 60 ∷ 65 ∷ 70 ∷ [])) ∷
    -- T5 "$1, near, 5000: $25 to $75 by $5; $26 draws 11"
    permits (dollar_near 5000) [] (dollars (25 ∷ 30 ∷ 35 ∷ 40 ∷ 45 ∷ 50 ∷ 55 ∷ 60 ∷ 65 ∷ 70 ∷ 75 ∷ [])) ∷
    answers (dollar_near 5000) [] (2 * 26) (Err OffGrid) ∷
    -- T6 "$1, long, 2450: $15, 18, 20, 22, 25, 27, 30, 32, 35"
    permits (dollar_long 2450) [] (dollars (15 ∷ 18 ∷ 20 ∷ 22 ∷ 25 ∷ 27 ∷ 30 ∷ 32 ∷ 35 ∷ [])) ∷
    -- T7 "$1, long, 2500: T6's and $23; with $22 standing, $23 draws 13"
    permits (dollar_long 2500) [] (dollars (15 ∷ 18 ∷ 20 ∷ 22 ∷ 23 ∷ 25 ∷ 27 ∷ 30 ∷ 32 ∷ 35 ∷ [])) ∷
    answers (dollar_long 2500) (one_standing (2 * 22) 3) (2 * 23) (Err TooClose) ∷
    -- T8 "half class only, volume 1,000, 200: h 1 to 9, 10, 15, 20, 25"
    permits (half_near 200) [] (up_from 9 1 ++ 10 ∷ 15 ∷ 20 ∷ 25 ∷ []) ∷
    -- T9 "$1, near, 1300, a Standard $12.50 standing: $12 and $13 draw 13, $14 is Dollar"
    answers (dollar_near 1300) (one_standing 25 0) (2 * 12) (Err TooClose) ∷
    answers (dollar_near 1300) (one_standing 25 0) (2 * 13) (Err TooClose) ∷
    answers (dollar_near 1300) (one_standing 25 0) (2 * 14) (Ok (Ground 1)) ∷
    -- T10 "`now` 4: m 4 and 44 draw 5, 12 is near, 13 and 43 are long"
    refused 4 4 ∷
    refused 4 44 ∷
    near 4 12 ∷
    long 4 13 ∷
    long 4 43 ∷
    -- "At a close of 4850 the user expects $52.50 and $57.50"; $42.50 and $47.50 too, and $62.50 is $14 away
    answers (two_fifty_near 4850) [] 105 (Ok (Ground 4)) ∷
    answers (two_fifty_near 4850) [] 115 (Ok (Ground 4)) ∷
    answers (two_fifty_near 4850) [] 125 (Err OffGrid) ∷
    permits (two_fifty_near 4850) []
    (50 ∷ 55 ∷ 60 ∷ 65 ∷ 70 ∷ 75 ∷ 80 ∷ 85 ∷ 90 ∷ 95 ∷ 100 ∷ 105 ∷ 110 ∷ 115 ∷ 120 ∷ 130 ∷ 140 ∷ []) ∷
    -- "In a $1 class ground 4 grants no strike below $50 that isn't a multiple of $5."
    answers (both_near 4850) [] 95 (Err OffGrid) ∷
    answers (both_near 4850) [] 105 (Ok (Ground 4)) ∷
    -- a close of $54: $52.50 and $62.50 are ground 4's, and $67.50 is $13.50 away
    answers (two_fifty_near 5400) [] 105 (Ok (Ground 4)) ∷
    answers (two_fifty_near 5400) [] 125 (Ok (Ground 4)) ∷
    answers (two_fifty_near 5400) [] 135 (Err OffGrid) ∷
    -- just $10 away
    answers (two_fifty_near 6250) [] 105 (Ok (Ground 4)) ∷
    answers (two_fifty_near 6251) [] 105 (Err OffGrid) ∷
    -- "The range rule holds as for Standard": at $20 no more than $40
    answers (two_fifty_near 2000) [] 75 (Ok (Ground 4)) ∷
    answers (two_fifty_near 2000) [] 85 (Err OutOfRange) ∷
    -- "Near expirations"
    answers (two_fifty_long 4850) [] 105 (Err OffGrid) ∷
    -- "For spacing it counts as Standard", whichever came first
    answers (both_near 2700) (one_standing 55 4) (2 * 27) (Err TooClose) ∷
    answers (two_fifty_near 2700) (one_standing (2 * 27) 1) 55 (Err TooClose) ∷
    -- #103, low 1900: to $38, or the five above $19; high 2100: $10.50 to $31.50
    permits (no_program_day 1900 1950 2100) []
    (5 ∷ 10 ∷ 15 ∷ 20 ∷ 25 ∷ 30 ∷ 35 ∷ 40 ∷ 45 ∷ 50 ∷ 60 ∷ 70 ∷ []) ∷
    -- T6's positions at the low and T7's at the high; $22 and $23 by the spacing
    permits (dollar_long_day 2450 2475 2500) [] (dollars (15 ∷ 18 ∷ 20 ∷ 22 ∷ 23 ∷ 25 ∷ 27 ∷ 30 ∷ 32 ∷ 35 ∷ [])) ∷
    answers (dollar_long_day 2450 2475 2500) (one_standing (2 * 22) 3) (2 * 23) (Err TooClose) ∷
    answers (dollar_long_day 2450 2475 2500) (one_standing (2 * 23) 3) (2 * 22) (Err TooClose) ∷
    -- not at the close, nor at prices between: $25 is out of range at $2 and at $100
    answers (no_program_day 200 2400 10000) [] 50 (Err OutOfRange) ∷
    -- Half to $3.50 at the low of $1, and none at the high of $25; the other strikes from $2.50 to $35
    permits (half_near_day 100 300 2500) []
    (up_from 7 1 ++ 10 ∷ 15 ∷ 20 ∷ 25 ∷ 30 ∷ 35 ∷ 40 ∷ 45 ∷ 50 ∷ 60 ∷ 70 ∷ []) ∷
    -- $37 is a wing at the low of $10, where $40 is out of range, and none at the high of $41, where it is in range
    answers (dollar_long_day 1000 2000 4100) [] (2 * 37) (Err OutOfRange) ∷
    answers (dollar_long_day 1000 2000 4100) [] (2 * 38) (Ok (Ground 3)) ∷
    -- "The program's price conditions .. keep the close": below $50, and no more than $10 from it
    answers (dollar_near_day 4900 4999 6000) [] (2 * 26) (Ok (Ground 1)) ∷
    answers (dollar_near_day 4900 5000 6000) [] (2 * 26) (Err OffGrid) ∷
    answers (two_fifty_near_day 4000 4850 6250) [] 145 (Err OffGrid) ∷ []

pub closes : All cases
unfolding lowest among_five
closes = all_hold cases (λ c. refl)
