-- Document 01's examples of calls, a few that its own leave open, and those of requests #103 and #104, computed over
-- the plain book. Assumes nothing.
use Prim.Native.Nat.{ℕ, zero, suc}
use mathlib.Core.Path.{◌≡◌, refl, ap}
use mathlib.Core.Bool.{cond, not}
use mathlib.Core.List.{List, [], ◌∷◌, ◌++◌, map}
use native.Mathlib.Omega.{arith}
use lib.ListN.{length}
use lib.Dec.{ltb}
use Rattle.std.specs.Prelude.{Ok}
use Rattle.word.specs.Answers.{Answer}
use Rattle.word.specs.declared.answer.Accepted.TheVariants.{Listed}
use Rattle.word.specs.declared.answer.Refusal.TheVariants.{BeyondLimits, OutOfWords}
use Rattle.word.specs.Answers.{answer_number, answer_value, is_accepted}
use Rattle.rule.specs.Ranges.{lowest, among_five}
use Rattle.book.specs.Facts.{OpenClass, Facts, fresh, owned, strikes_on}
use Rattle.book.specs.Views.{class, view_of}
use Rattle.book.specs.Changes.{month_set, class_opened, reviewed_count, class_grown}
use Rattle.book.specs.Calls.{Call, call_m, on, call_o, call_c, call_h, call_v, call_d, call_l, call_j, call_x, call_i, call_r, call_a, malformed, Condition, draws, first_or, permitted_in, effect, answer_to, written, step, steps, after, effect_on}
use Rattle.book.proofs.Permits.{permitted_short}

-- the answer to each call of a list: its number, its value, and the words that it writes
unfoldable answers : (n room : ℕ) → List Call → Facts → List (List ℕ)
unfolding answer_to step written effect_on month_set class_opened class_grown reviewed_count
answers n room [] f = []
answers n room (x ∷ xs) f =
    (answer_number (answer_to n room x f) ∷ answer_value (answer_to n room x f) ∷ written n room x f)
    ∷ answers n room xs (step n x f)

-- the numbers alone
unfoldable numbers : ℕ → List Call → Facts → List ℕ
unfolding answer_to step effect_on month_set class_opened class_grown
numbers n [] f = []
numbers n (x ∷ xs) f = answer_number (answer_to n 512 x f) ∷ numbers n xs (step n x f)

abbrev done : List ℕ
done = 0 ∷ 0 ∷ []

-- ---- the sample sheet: `M 4` / `O 7` / `C 7 200` / `D 7 1 1` / `A 7 5` / `L 7 5 14` / `L 7 5 16` / `L 7 5 14`

opening : List Call
opening = call_m 4 ∷ on 7 call_o ∷ on 7 (call_c 200) ∷ on 7 (call_d 1 1) ∷ []

opened_facts : Facts
opened_facts =
    record {
      now = 4;
      classes =
          record {
            figures =
                record {
                  number = 7;
                  close = 200;
                  volume = 0;
                  low = 200;
                  high = 200;
                  designations = 1 ∷ 0 ∷ 0 ∷ [];
                };
            series = [];
          }
          ∷ [];
    }

sample_opening : answers 4096 512 opening fresh ≡ done ∷ done ∷ done ∷ done ∷ []
unfolding answers opening
sample_opening = refl

sample_opened : after 4096 opening ≡ opened_facts
unfolding answers steps opened_facts opening
sample_opened = refl

sample_permitted : permitted_in 5 (view_of 7 opened_facts) ≡ 2 ∷ 4 ∷ 6 ∷ 8 ∷ 10 ∷ 12 ∷ 14 ∷ []
unfolding opened_facts lowest among_five
sample_permitted = permitted_short 5 (view_of 7 opened_facts) 100 (omega arith) (omega arith)

-- the answer of `A`, from the strikes that it would list; the second run has `room` words
abbrev listing : List Condition → ℕ → List ℕ → List ℕ
listing before room strikes =
    let a : Answer =
    first_or (Ok (Listed (length strikes)))
    (before ++ draws (OutOfWords (length strikes)) (ltb room (length strikes)) ∷ []) in
    answer_number a ∷ answer_value a ∷ cond (is_accepted a) strikes []

-- what `A` asks but for the second run
abbrev asking : ℕ → ℕ → Facts → List Condition
asking c m f =
    draws BeyondLimits (not (effect (on c (call_a m)) f).limits) ∷ (effect (on c (call_a m)) f).asks

listing_answer :
    (n c m room : ℕ) (f : Facts) (strikes : List ℕ) → permitted_in m (view_of c f) ≡ strikes
    → answers n room (on c (call_a m) ∷ []) f
    ≡ listing (asking c m f) room strikes ∷ []
unfolding answers
listing_answer n c m room f strikes e =
    ap (λ (l : List ℕ). listing (asking c m f) room l ∷ []) e

sample_listing : answers 4096 512 (on 7 (call_a 5) ∷ []) opened_facts ≡ (0 ∷ 7 ∷ 2 ∷ 4 ∷ 6 ∷ 8 ∷ 10 ∷ 12 ∷ 14 ∷ []) ∷ []
unfolding opened_facts effect_on
sample_listing = listing_answer 4096 7 5 512 opened_facts (2 ∷ 4 ∷ 6 ∷ 8 ∷ 10 ∷ 12 ∷ 14 ∷ []) sample_permitted

-- a second run of six words is too short, and the value is the count
sample_short : answers 4096 6 (on 7 (call_a 5) ∷ []) opened_facts ≡ (15 ∷ 7 ∷ []) ∷ []
unfolding opened_facts effect_on
sample_short = listing_answer 4096 7 5 6 opened_facts (2 ∷ 4 ∷ 6 ∷ 8 ∷ 10 ∷ 12 ∷ 14 ∷ []) sample_permitted

sample_adding :
    answers 4096 512 (on 7 (call_l 5 14) ∷ on 7 (call_l 5 16) ∷ on 7 (call_l 5 14) ∷ []) opened_facts
    ≡ (0 ∷ 1 ∷ []) ∷ (12 ∷ 0 ∷ []) ∷ (6 ∷ 0 ∷ []) ∷ []
unfolding answers opened_facts lowest among_five
sample_adding = refl

-- ---- "Review at 1300, Dollar $7, $8, $19, Standard $20"

reviewing : List Call
reviewing =
    on 7 call_o ∷ on 7 (call_c 1300) ∷ on 7 (call_d 1 1)
    ∷ on 7 (call_l 5 14) ∷ on 7 (call_l 5 16) ∷ on 7 (call_l 5 38) ∷ on 7 (call_l 5 40) ∷ []

-- "none marked: $7 and $19 go": the others stand
review_unmarked :
    answers 4096 512
    (on 7 call_r ∷ on 7 (call_x 5 14) ∷ on 7 (call_x 5 16) ∷ on 7 (call_x 5 38) ∷ on 7 (call_x 5 40) ∷ [])
    (after 4096 reviewing)
    ≡ (0 ∷ 2 ∷ []) ∷ (7 ∷ 0 ∷ []) ∷ done ∷ (7 ∷ 0 ∷ []) ∷ done ∷ []
unfolding answers steps lowest among_five reviewing
review_unmarked = refl

-- "With $7 marked, $19 goes."
review_marked :
    answers 4096 512
    (on 7 (call_i 5 14 1 0) ∷ on 7 call_r ∷ on 7 (call_x 5 14) ∷ on 7 (call_x 5 16) ∷ on 7 (call_x 5 38) ∷ [])
    (after 4096 reviewing)
    ≡ done ∷ (0 ∷ 1 ∷ []) ∷ (14 ∷ 0 ∷ []) ∷ done ∷ (7 ∷ 0 ∷ []) ∷ []
unfolding answers steps lowest among_five reviewing
review_marked = refl

-- $19 between the marked $7 and $20 stays; marks of another expiration do not hold it
review_between :
    answers 4096 512
    (on 7 (call_i 5 14 1 0)
    ∷ on 7 (call_i 5 40 0 1)
    ∷ on 7 call_r
    ∷ on 7 (call_i 5 40 0 0)
    ∷ on 7 (call_l 6 40)
    ∷ on 7 (call_i 6 40 1 1)
    ∷ on 7 call_r
    ∷ [])
    (after 4096 reviewing)
    ≡ done ∷ done ∷ done ∷ done ∷ done ∷ done ∷ (0 ∷ 1 ∷ []) ∷ []
unfolding answers steps lowest among_five reviewing
review_between = refl

-- ---- "The 151st class draws 10, and passes after a release."

-- the class c with no close, volume or strike
class_designated : ℕ → List ℕ → OpenClass
class_designated c ds =
    record {
      figures = record { number = c; close = 0; volume = 0; low = 0; high = 0; designations = ds };
      series = [];
    }

-- n classes from number c on with the designations `ours`, then one with none
classes_owned : List ℕ → ℕ → ℕ → List OpenClass
classes_owned ours zero c = class_designated c (0 ∷ 0 ∷ 0 ∷ []) ∷ []
classes_owned ours (suc n) c = class_designated c ours ∷ classes_owned ours n (suc c)

cap_dollar :
    let owned : ℕ → Facts = λ n. record { now = 0; classes = classes_owned (1 ∷ 0 ∷ 0 ∷ []) n 1 } in
    numbers 4096 (on 150 (call_c 4999) ∷ on 150 (call_d 1 1) ∷ []) (owned 149)
    ++ numbers 4096 (on 151 (call_c 4999) ∷ on 151 (call_d 1 1) ∷ on 3 (call_d 1 2) ∷ on 151 (call_d 1 1) ∷ [])
    (owned 150)
    ≡ 0 ∷ 0 ∷ 0 ∷ 10 ∷ 0 ∷ 0 ∷ []
unfolding numbers class_designated classes_owned
cap_dollar = refl

-- #101: "up to 60 classes of our own"; "a new 1 needs the cap only, not a close"
cap_two_fifty :
    let owned : ℕ → Facts = λ n. record { now = 0; classes = classes_owned (0 ∷ 0 ∷ 1 ∷ []) n 1 } in
    numbers 4096 (on 60 (call_d 3 1) ∷ []) (owned 59)
    ++ numbers 4096 (on 61 (call_d 3 1) ∷ on 3 (call_d 3 2) ∷ on 61 (call_d 3 1) ∷ on 61 (call_d 3 1) ∷ []) (owned 60)
    ≡ 0 ∷ 10 ∷ 0 ∷ 0 ∷ 0 ∷ []
unfolding numbers class_designated classes_owned
cap_two_fifty = refl

-- n classes from number c on, opened_facts and made ours in the $0.50 program
claims : ℕ → ℕ → List Call
claims zero c = []
claims (suc n) c = on c call_o ∷ on c (call_c 200) ∷ on c (call_v 1000) ∷ on c (call_d 2 1) ∷ claims n (suc c)

-- the 21st draws 10 and passes after a release; the other program's cap is not tested
cap_half :
    numbers 4096
    (on 21 call_o
    ∷ on 21 (call_c 200)
    ∷ on 21 (call_v 1000)
    ∷ on 21 (call_d 2 1)
    ∷ on 3 (call_d 2 0)
    ∷ on 21 (call_d 2 1)
    ∷ on 3 (call_d 2 1)
    ∷ on 3 (call_d 1 1)
    ∷ [])
    (after 4096 (claims 20 1))
    ≡ 0 ∷ 0 ∷ 0 ∷ 10 ∷ 0 ∷ 0 ∷ 10 ∷ 0 ∷ []
unfolding numbers steps claims
cap_half = refl

-- ---- "Close 4999 qualifies and 5000 doesn't; 500 with 1,000 does, 501 or 999 doesn't"; a repeat is untested

qualification :
    numbers 4096
    (on 1 call_o
    ∷ on 1 (call_c 5000)
    ∷ on 1 (call_d 1 1)
    ∷ on 1 (call_c 4999)
    ∷ on 1 (call_d 1 1)
    ∷ on 1 (call_c 6000)
    ∷ on 1 (call_d 1 1)
    ∷ on 1 (call_v 1000)
    ∷ on 1 (call_c 501)
    ∷ on 1 (call_d 2 1)
    ∷ on 1 (call_c 500)
    ∷ on 1 (call_v 999)
    ∷ on 1 (call_d 2 1)
    ∷ on 1 (call_v 1000)
    ∷ on 1 (call_d 2 1)
    ∷ [])
    fresh
    ≡ 0 ∷ 0 ∷ 9 ∷ 0 ∷ 0 ∷ 0 ∷ 0 ∷ 0 ∷ 0 ∷ 9 ∷ 0 ∷ 0 ∷ 9 ∷ 0 ∷ 0 ∷ []
unfolding numbers
qualification = refl

-- ---- words: head and counters take four (#104), a class five (#103), a strike one, and the first of its expiration
-- one more

words_left :
    numbers 11
    (on 1 call_o
    ∷ on 1 (call_c 200)
    ∷ on 1 (call_l 5 5)
    ∷ on 1 (call_l 5 10)
    ∷ on 2 call_o
    ∷ on 1 (call_x 5 5)
    ∷ on 1 (call_l 6 10)
    ∷ on 2 call_o
    ∷ [])
    fresh
    ≡ 0 ∷ 0 ∷ 0 ∷ 15 ∷ 15 ∷ 0 ∷ 0 ∷ 15 ∷ []
unfolding numbers lowest among_five
words_left = refl

-- ---- the writer's mistakes: limits, months, classes and strikes that are not there

limits :
    numbers 4096
    (on 1 call_o
    ∷ call_m 1024
    ∷ on 0 call_o
    ∷ on 16384 call_o
    ∷ on 1 (call_c 0)
    ∷ on 1 (call_c 1000000)
    ∷ on 1 (call_v 10000000)
    ∷ on 1 (call_d 0 0)
    ∷ on 1 (call_d 4 0)
    ∷ on 1 (call_d 1 3)
    ∷ on 1 (call_j 5 0)
    ∷ on 1 (call_j 5 20000)
    ∷ on 1 (call_x 1024 1)
    ∷ on 1 (call_i 5 1 2 0)
    ∷ on 1 (call_i 5 1 0 2)
    ∷ on 1 (call_a 1024)
    ∷ on 0 call_r
    ∷ malformed
    ∷ [])
    fresh
    ≡ 0 ∷ 2 ∷ 2 ∷ 2 ∷ 2 ∷ 2 ∷ 2 ∷ 2 ∷ 2 ∷ 2 ∷ 2 ∷ 2 ∷ 2 ∷ 2 ∷ 2 ∷ 2 ∷ 2 ∷ 2 ∷ []
unfolding numbers
limits = refl

mistakes :
    numbers 4096
    (call_m 4
    ∷ call_m 3
    ∷ call_m 4
    ∷ on 1 call_o
    ∷ on 1 call_o
    ∷ on 2 (call_c 9)
    ∷ on 2 (call_j 5 9)
    ∷ on 2 call_r
    ∷ on 2 (call_a 5)
    ∷ on 1 (call_l 4 9)
    ∷ on 1 (call_j 44 9)
    ∷ on 1 (call_a 4)
    ∷ on 1 (call_x 5 9)
    ∷ on 1 (call_i 5 9 0 0)
    ∷ on 1 (call_l 5 9)
    ∷ on 1 call_r
    ∷ on 1 (call_a 5)
    ∷ on 1 (call_d 1 1)
    ∷ on 1 (call_d 1 0)
    ∷ on 1 (call_d 1 2)
    ∷ [])
    fresh
    ≡ 0 ∷ 5 ∷ 0 ∷ 0 ∷ 3 ∷ 4 ∷ 4 ∷ 4 ∷ 4 ∷ 5 ∷ 5 ∷ 5 ∷ 7 ∷ 7 ∷ 8 ∷ 8 ∷ 8 ∷ 8 ∷ 0 ∷ 0 ∷ []
unfolding numbers
mistakes = refl

-- ---- #103, `H c low high`: 8 before a close; then 16 with the close outside, 2 beyond the limits, 4 with no class

day_prices :
    numbers 4096
    (on 7 call_o
    ∷ on 7 (call_h 190 210)
    ∷ on 7 (call_c 200)
    ∷ on 7 (call_h 201 210)
    ∷ on 7 (call_h 190 199)
    ∷ on 7 (call_h 0 210)
    ∷ on 7 (call_h 190 1000000)
    ∷ on 8 (call_h 190 210)
    ∷ on 7 (call_h 200 200)
    ∷ on 7 (call_h 1 999999)
    ∷ on 7 (call_c 220)
    ∷ on 7 (call_h 190 210)
    ∷ [])
    fresh
    ≡ 0 ∷ 8 ∷ 0 ∷ 16 ∷ 16 ∷ 2 ∷ 2 ∷ 4 ∷ 0 ∷ 0 ∷ 0 ∷ 16 ∷ []
unfolding numbers
day_prices = refl

-- what stands after a close of $2 and the calls xs
quoted : List Call → Facts
quoted xs = after 4096 (on 7 call_o ∷ on 7 (call_c 200) ∷ xs)

low_and_high : Facts → List ℕ
low_and_high f = (class f 7).figures.low ∷ (class f 7).figures.high ∷ []

-- a close sets both, `H` sets them, and the next close sets both again
close_resets :
    low_and_high (quoted [])
    ++ low_and_high (quoted (on 7 (call_h 190 210) ∷ []))
    ++ low_and_high (quoted (on 7 (call_h 190 210) ∷ on 7 (call_c 205) ∷ []))
    ≡ 200 ∷ 200 ∷ 190 ∷ 210 ∷ 205 ∷ 205 ∷ []
unfolding answers steps quoted low_and_high
close_resets = refl

-- two lists that differ in one `H` leave different books, and with a `C` after it equal ones
low_high_differs : quoted (on 7 (call_h 190 210) ∷ []) ≡ quoted (on 7 (call_h 190 211) ∷ []) → ⊥
unfolding answers steps quoted
low_high_differs e = let high : ◌≡◌ {A = ℕ} 210 211 = ap (λ f. (class f 7).figures.high) e in omega arith

low_high_forgotten :
    quoted (on 7 (call_h 190 210) ∷ on 7 (call_c 205) ∷ []) ≡ quoted (on 7 (call_h 190 211) ∷ on 7 (call_c 205) ∷ [])
unfolding answers steps quoted
low_high_forgotten = refl

-- ---- #104: "Every call keeps them true"

-- the own classes of each program, and its strikes
counts : Facts → List (List ℕ)
counts f =
    map (λ (p : ℕ). owned p f.classes ∷ strikes_on p f.classes ∷ []) (1 ∷ 2 ∷ 3 ∷ [])

-- class 1 in all three programs: $1 is Dollar, $1.50 Half; at $48.50 $52.50 is of the $2.50 program, and $47 a wing
in_programs : List Call
in_programs =
    on 1 call_o
    ∷ on 1 (call_c 200)
    ∷ on 1 (call_v 1000)
    ∷ on 1 (call_d 1 1)
    ∷ on 1 (call_d 2 1)
    ∷ on 1 (call_d 3 1)
    ∷ on 1 (call_l 5 2)
    ∷ on 1 (call_l 5 3)
    ∷ on 1 (call_l 6 4)
    ∷ on 1 (call_c 4850)
    ∷ on 1 (call_l 5 105)
    ∷ on 1 (call_l 9 94)
    ∷ []

-- listed; released, as strikes count by their ground; reviewed, which takes $1 and $2; a month that takes $1, $1.50 and
-- $52.50, one of each program; $1.50 delisted
counted :
    map counts
    (after 64 in_programs
    ∷ after 64 (in_programs ++ (on 1 (call_d 1 2) ∷ on 1 (call_d 2 0) ∷ on 1 (call_d 3 0) ∷ []))
    ∷ after 64 (in_programs ++ (on 1 call_r ∷ []))
    ∷ after 64 (in_programs ++ (call_m 6 ∷ []))
    ∷ after 64 (in_programs ++ (on 1 (call_x 5 3) ∷ []))
    ∷ [])
    ≡ ((1 ∷ 3 ∷ []) ∷ (1 ∷ 1 ∷ []) ∷ (1 ∷ 1 ∷ []) ∷ [])
    ∷ ((0 ∷ 3 ∷ []) ∷ (0 ∷ 1 ∷ []) ∷ (0 ∷ 1 ∷ []) ∷ [])
    ∷ ((1 ∷ 1 ∷ []) ∷ (1 ∷ 1 ∷ []) ∷ (1 ∷ 1 ∷ []) ∷ [])
    ∷ ((1 ∷ 2 ∷ []) ∷ (1 ∷ 0 ∷ []) ∷ (1 ∷ 0 ∷ []) ∷ [])
    ∷ ((1 ∷ 3 ∷ []) ∷ (1 ∷ 0 ∷ []) ∷ (1 ∷ 1 ∷ []) ∷ [])
    ∷ []
unfolding steps step answer_to effect_on month_set class_opened class_grown reviewed_count in_programs counts lowest
    among_five
counted = refl
