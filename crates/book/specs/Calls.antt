-- Document 01, the lines of the eleven calls, "`M m`: sets `now`, removes strikes of earlier months." to "`A c m`:
-- writes all strikes that `J` would accept", and "Who draws which number"; request #103, "A new line `H c low high`":
-- what each call asks, does and answers over the plain book. Assumes nothing.
use Rattle.std.specs.Prelude.{ℕ, Bool, true, false, cond, not, ◌&&◌, List, [], ◌∷◌, ◌++◌, length, leb, ltb, Ok, Err}
use Rattle.word.specs.Answers.{Answer}
use Rattle.word.specs.declared.answer.Accepted.TheVariants.{Done, Ground, Removed, Listed}
use Rattle.word.specs.declared.answer.Refusal.{Refusal}
use Rattle.word.specs.declared.answer.Refusal.TheVariants.{BeyondLimits, AlreadyOpen, NotOpen, MonthOutside, AlreadyStanding, NotStanding, NoClose, NotQualified, CapReached, OffGrid, OutOfRange, TooClose, OpenInterest, OutOfWords, CloseOutside}
use Rattle.word.specs.declared.class.ClassRecord.{ClassRecord}
use Rattle.word.specs.Limits.{highest_strike, is_price, is_strike, is_month, is_class_number, is_volume, is_designation, is_mark}
use Rattle.word.specs.Answers.{is_accepted}
use Rattle.logic.specs.Lists.{some, only, up_from}
use Rattle.rule.specs.Terms.{is_outside}
use Rattle.rule.specs.Judgement.{passes_grid, passes_range, passes}
use Rattle.word.specs.Programs.{is_program, program}
use Rattle.book.specs.Facts.{Facts, fresh, owned, words_taken}
use Rattle.book.specs.Views.{View, class, view_of, is_not_open, is_standing, has_open_interest, has_no_close, is_close_outside, setting, rows, ground_of, is_new, lacks_close}
use Rattle.book.specs.Changes.{Deed, month_becomes, opens, becomes, grows, designates, writes, nothing, facts_after, list_of, close_set, low_high_set, volume_set, new_series, strike_added, strike_removed, marks_set, class_reviewed, reviewed_count}

-- "each call's letter and numbers", any numbers: the calls that name a class, but for its number
pub data ClassCall : Type 0 where
  call_o : ClassCall
  call_c : (p : ℕ) → ClassCall
  call_h : (low high : ℕ) → ClassCall
  call_v : (n : ℕ) → ClassCall
  call_d : (p d : ℕ) → ClassCall
  call_l : (m h : ℕ) → ClassCall
  call_j : (m h : ℕ) → ClassCall
  call_x : (m h : ℕ) → ClassCall
  call_i : (m h a b : ℕ) → ClassCall
  call_r : ClassCall
  call_a : (m : ℕ) → ClassCall

-- `M m`, or a call on the class c; "a malformed line counts as one"
pub data Call : Type 0 where
  call_m : (m : ℕ) → Call
  on : (c : ℕ) → ClassCall → Call
  malformed : Call

-- the class that a call names; `M` and a malformed line name none, and what they do looks at none
abbrev pub named : Call → ℕ
named (call_m m) = 0
named (on c x) = c
named malformed = 0

-- ---- "The lowest number that applies is given."

-- a refusal, and whether it applies
pub data Condition : Type 0 where
  draws : Refusal → Bool → Condition

-- the first refusal that applies, and the answer a where none does; the conditions below rise by rank, so that it is
-- the lowest
abbrev pub first_or : Answer → List Condition → Answer
first_or a [] = a
first_or a (draws why applies ∷ cs) = cond applies (Err why) (first_or a cs)

abbrev pub none_applies : List Condition → Bool
none_applies [] = true
none_applies (draws why applies ∷ cs) = not applies && none_applies cs

-- ---- what a call asks and what it does

pub record Effect : Type 0 where
  -- "2 a number beyond its limits, or a malformed line": here it is not so
  pub limits : Bool
  -- what else may refuse the call, but for the room in the book
  pub asks : List Condition
  -- what it does where it is accepted
  pub does : Deed
  -- "An accepted call answers 0 and a value: the ground for `L` and `J`, strikes removed for `R`, the count for `A`.
  -- Other calls carry 0"
  pub answer : Answer

-- c, m and h in their limits
abbrev pub is_place : ℕ → ℕ → ℕ → Bool
is_place c m h = is_class_number c && (is_month m && is_strike h)

-- what `D` asks of a class with the figures r: "A new d of 1 needs a close ..". "d of 0 or 2 needs nothing."
abbrev pub claiming : ℕ → ℕ → ClassRecord → List Condition
claiming p d r =
    draws NoClose (is_new p d r && lacks_close p r)
    ∷ draws NotQualified (is_new p d r && not ((program p).qualifies r))
    ∷ []

-- what `L` and `J` ask alike; "11 if none passes its grid, 12 if some pass the grid and none the range too, else 13"
abbrev pub judging : ℕ → ℕ → View → List Condition
judging m h v =
    draws NotOpen (is_not_open v)
    ∷ draws MonthOutside (is_outside (setting v m))
    ∷ draws AlreadyStanding (is_standing v m h)
    ∷ draws NoClose (has_no_close v)
    ∷ draws OffGrid (not (some passes_grid (rows v m h)))
    ∷ draws OutOfRange (not (some passes_range (rows v m h)))
    ∷ draws TooClose (not (some passes (rows v m h)))
    ∷ []

-- document 01's term: "A strike that `J` would accept is *permitted*"; all of them, rising
unfoldable pub permitted_in : ℕ → View → List ℕ
permitted_in m v = only (λ h. none_applies (judging m h v)) (up_from highest_strike 1)

-- one row for each call on the class c, by what it sees
unfoldable pub effect_on : ℕ → ClassCall → View → Effect
-- `O c`: "opens a class"
effect_on c call_o v =
    record {
      limits = is_class_number c;
      asks = draws AlreadyOpen v.is_there ∷ [];
      does = opens;
      answer = Ok Done;
    }
-- `C c P`: "close"
effect_on c (call_c p) v =
    record {
      limits = is_class_number c && is_price p;
      asks = draws NotOpen (is_not_open v) ∷ [];
      does = becomes (close_set p v.class);
      answer = Ok Done;
    }
-- `H c low high`, #103: "It refuses with 8 before any close, and with 16, tested straight after 8, a low above the
-- close or a high below it."
effect_on c (call_h low high) v =
    record {
      limits = is_class_number c && (is_price low && is_price high);
      asks =
          draws NotOpen (is_not_open v)
          ∷ draws NoClose (has_no_close v)
          ∷ draws CloseOutside (is_close_outside v low high)
          ∷ [];
      does = becomes (low_high_set low high v.class);
      answer = Ok Done;
    }
-- `V c n`: "volume"
effect_on c (call_v n) v =
    record {
      limits = is_class_number c && is_volume n;
      asks = draws NotOpen (is_not_open v) ∷ [];
      does = becomes (volume_set n v.class);
      answer = Ok Done;
    }
-- `D c p d`: "program p .. gets designation d"
effect_on c (call_d p d) v =
    record {
      limits = is_class_number c && (is_program p && is_designation d);
      asks = draws NotOpen (is_not_open v) ∷ claiming p d v.class.figures;
      does = designates p d;
      answer = Ok Done;
    }
-- `L c m h`: "adds the strike, no open interest"
effect_on c (call_l m h) v =
    record {
      limits = is_place c m h;
      asks = judging m h v;
      does = grows (strike_added (new_series m h (ground_of v m h)) v.class);
      answer = Ok (Ground (ground_of v m h));
    }
-- `J c m h`: "the same judgement without 15, adding nothing"
effect_on c (call_j m h) v =
    record {
      limits = is_place c m h;
      asks = judging m h v;
      does = nothing;
      answer = Ok (Ground (ground_of v m h));
    }
-- `X c m h`: "delists"; "14 `X` on a marked strike"
effect_on c (call_x m h) v =
    record {
      limits = is_place c m h;
      asks =
          draws NotOpen (is_not_open v)
          ∷ draws NotStanding (not (is_standing v m h))
          ∷ draws OpenInterest (has_open_interest v m h)
          ∷ [];
      does = becomes (strike_removed m h v.class);
      answer = Ok Done;
    }
-- `I c m h a b`: "put mark a, call mark b, 0 or 1"
effect_on c (call_i m h a b) v =
    record {
      limits = is_place c m h && (is_mark a && is_mark b);
      asks = draws NotOpen (is_not_open v) ∷ draws NotStanding (not (is_standing v m h)) ∷ [];
      does = becomes (marks_set m h a b v.class);
      answer = Ok Done;
    }
-- `R c`: "the review"
effect_on c call_r v =
    record {
      limits = is_class_number c;
      asks = draws NotOpen (is_not_open v) ∷ draws NoClose (has_no_close v) ∷ [];
      does = becomes (class_reviewed v.class);
      answer = Ok (Removed (reviewed_count v.class));
    }
-- `A c m`: "writes all strikes that `J` would accept"
effect_on c (call_a m) v =
    record {
      limits = is_class_number c && is_month m;
      asks =
          draws NotOpen (is_not_open v)
          ∷ draws MonthOutside (is_outside (setting v m))
          ∷ draws NoClose (has_no_close v)
          ∷ [];
      does = writes (permitted_in m v);
      answer = Ok (Listed (length (permitted_in m v)));
    }

abbrev pub effect : Call → Facts → Effect
-- `M m`: "sets `now`, removes strikes of earlier months. Equal to `now` is accepted."
effect (call_m m) f =
    record {
      limits = is_month m;
      asks = draws MonthOutside (ltb m f.now) ∷ [];
      does = month_becomes m;
      answer = Ok Done;
    }
effect (on c x) f = effect_on c x (view_of c f)
-- "a malformed line counts as" a refused call
effect malformed f = record { limits = false; asks = []; does = nothing; answer = Ok Done }

-- ---- the room in the book, the one thing that a call asks of other classes

-- "15 the words needed exceed the run (`O`, `L`)", a run of n words
abbrev pub lacking : ℕ → Facts → Condition
lacking n f = draws (OutOfWords 0) (ltb n (words_taken f))

-- "and the cap"
abbrev pub is_cap_reached : ℕ → Facts → Bool
is_cap_reached p f = leb (program p).cap (owned p f.classes)

-- "10 the cap": a class with the figures r that becomes ours
abbrev pub capping : ℕ → ℕ → ClassRecord → Facts → Condition
capping p d r f = draws CapReached (is_new p d r && is_cap_reached p f)

-- what a deed to the class c needs
abbrev pub needing : (n c : ℕ) → Deed → Facts → List Condition
needing n c (month_becomes m) f = []
needing n c opens f = lacking n (facts_after c opens f) ∷ []
needing n c (becomes x) f = []
needing n c (designates p d) f = capping p d (class f c).figures f ∷ []
needing n c (grows x) f = lacking n (facts_after c (grows x) f) ∷ []
needing n c (writes ws) f = []
needing n c nothing f = []

-- ---- the answer, in a run of n words and with a second run of `room` words

-- "15 .. `A`'s strikes exceed the second run, and then their count is the value"
abbrev pub exceeding : ℕ → List ℕ → Condition
exceeding room words = draws (OutOfWords (length words)) (ltb room (length words))

-- all that the call asks of the book
abbrev pub asked : ℕ → Call → Facts → List Condition
asked n x f = (effect x f).asks ++ needing n (named x) (effect x f).does f

-- all that a call asks: its limits first, and the second run at last
abbrev pub conditions : (n room : ℕ) → Call → Facts → List Condition
conditions n room x f =
    draws BeyondLimits (not (effect x f).limits) ∷ asked n x f ++ exceeding room (list_of (effect x f).does) ∷ []

unfoldable pub answer_to : (n room : ℕ) → Call → Facts → Answer
answer_to n room x f = first_or (effect x f).answer (conditions n room x f)

-- the words that are written to the front of the second run: "A refusal alters no word of either run"
unfoldable pub written : (n room : ℕ) → Call → Facts → List ℕ
written n room x f = cond (is_accepted (answer_to n room x f)) (list_of (effect x f).does) []

-- ---- the facts after one call, and after a list of calls

-- nothing in the book refuses the call
abbrev pub is_granted : ℕ → Call → Facts → Bool
is_granted n x f = (effect x f).limits && none_applies (asked n x f)

-- the facts after a call that is accepted
abbrev pub accepted_facts : Call → Facts → Facts
accepted_facts x f = facts_after (named x) (effect x f).does f

-- "A refused call changes nothing"; the second run has no say, since a call that writes there changes no fact
unfoldable pub step : ℕ → Call → Facts → Facts
step n x f = cond (is_granted n x f) (accepted_facts x f) f

-- each call in turn
unfoldable pub steps : ℕ → List Call → Facts → Facts
steps n [] f = f
steps n (x ∷ xs) f = steps n xs (step n x f)

-- "it starts as a fresh book and is fed that length, then each call's letter and numbers in turn": the facts after a
-- list of calls
abbrev pub after : ℕ → List Call → Facts
after n xs = steps n xs fresh
