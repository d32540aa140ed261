-- Inner: what the loops test, which proofs/ shows to be `is_book`: words that end a book's classes, or a class's series
-- and the classes after it. Assumes nothing.
use Rattle.std.specs.Prelude.{ℕ, ◌+◌, ◌-◌, ◌%◌, ◌≤◌, min, ◌≡◌, ◌↔◌, Option, Some, None, Bool, true, ◌&&◌, List, [], ◌∷◌, map, length, drop, T, eqb, leb, ltb}
use Rattle.logic.specs.Lists.{rises, every, sum}
use Rattle.word.specs.Limits.{highest_strike, last_month, longest_run}
use Rattle.word.specs.Head.{first_place, own_in, strikes_in}
use Rattle.word.specs.Kinds.{key_of, strike_kind}
use Rattle.word.specs.Strikes.{is_first_strike}
use Rattle.word.specs.Programs.{programs, program, is_program}
use Rattle.word.specs.Counters.{strike_of}
use Rattle.word.specs.Codec.{packed}
use Rattle.book.specs.Facts.{Series, OpenClass, number, is_below, precedes, owned}
use Rattle.book.specs.Layout.{series_words, classes_words}
use Rattle.book.specs.Books.{is_series, is_class}
use Rattle.scan.specs.declared.ahead.Ahead.{Ahead}

-- "Words past those used are zero."
abbrev pub is_zero : ℕ → Bool
is_zero w = eqb w 0

-- the first, if there is one, passes the test
module _ {A : Type 0} (test : A → Bool) where
  abbrev pub leads : List A → Bool
  leads [] = true
  leads (x ∷ xs) = test x

-- of the first and the last of words that follow each other as strikes do: the first is a strike and above 0, and the
-- last is at most the highest
abbrev pub are_strikes : ℕ → ℕ → Bool
are_strikes first last = is_first_strike first && leb (key_of strike_kind last) highest_strike

-- the series may follow the expiration p, 0 for none, else its month + 1, in another one
abbrev pub may_follow : ℕ → Series → Bool
may_follow p s = leb p s.month

-- ws are the words of series in a book of the month `now`, where the expiration p stands already and the first passes
-- the test, then those of the classes xs
pub record SeriesThen (now p : ℕ) (test : Series → Bool) (xs : List OpenClass) (ws : List ℕ) : Type 0 where
  pub series : List Series
  pub words : map packed (series_words p series (classes_words xs [])) ≡ ws
  pub legal : T (every (is_series now) series)
  pub rising : T (rises precedes series)
  pub leading : T (leads test series)

-- classes that may follow the class number `last` and so many own classes of each program, of which something holds;
-- `said` are the own classes that the counters say
pub record ClassesWhere (now last : ℕ) (counts said : ℕ → ℕ) (Holds : List OpenClass → Type 0) : Type 0 where
  pub classes : List OpenClass
  pub holds : Holds classes
  pub legal : T (every (is_class now) classes)
  pub rising : T (rises is_below classes)
  pub leading : T (leads (λ x. ltb last (number x)) classes)
  pub counted : (p : ℕ) → T (is_program p) → counts p + owned p classes ≡ said p
  pub capped : (p : ℕ) → T (is_program p) → said p ≤ (program p).cap

-- ws are the words of such classes
abbrev pub Classes : ℕ → ℕ → (ℕ → ℕ) → (ℕ → ℕ) → List ℕ → Type 0
Classes now last counts said ws = ClassesWhere now last counts said (λ xs. map packed (classes_words xs []) ≡ ws)

-- the words of ws from the first class on are those of all classes of a book, as its counters say
abbrev pub AllClasses : ℕ → List ℕ → Type 0
AllClasses now ws = Classes now 0 (λ p. 0) (λ p. own_in p ws) (drop first_place ws)

-- the strikes that the counters of ws say are those among its words from the first class on
abbrev pub are_counted : List ℕ → Bool
are_counted ws =
    every (λ g. eqb (strikes_in g.number ws) (sum (strike_of g.number) (drop first_place ws))) programs

-- how many words strikes are counted of at once
abbrev pub counted_length : ℕ
counted_length = 8

-- up to where they are counted in a run of n words: past those used, so that none of them is counted singly, or to its
-- end
abbrev pub counted_end : ℕ → ℕ → ℕ
counted_end used n = min (used + (counted_length - (used - first_place) % counted_length) % counted_length) n

-- words that can be those of a book's head, counters and classes
pub record Scannable (now : ℕ) (ws : List ℕ) : Type 0 where
  pub month : now ≤ last_month
  pub head : first_place ≤ length ws
  pub most : length ws ≤ longest_run

-- the series that start at `from` end at `to`, whatever classes follow
pub record SeriesEnd (now : ℕ) (ws : List ℕ) (from to : ℕ) : Type 0 where
  pub onward : from ≤ to
  pub within : to ≤ length ws
  pub rest :
      (xs : List OpenClass) → T (every (is_class now) xs)
      → SeriesThen now 0 (may_follow 0) xs (drop from ws) ↔ (map packed (classes_words xs []) ≡ drop to ws)

-- what the answer says: what is ahead of where the series that start at `from` end, or that no series with classes
-- after them start there
abbrev pub Stretched : ℕ → List ℕ → ℕ → Option Ahead → Type 0
Stretched now ws from (Some ahead) = SeriesEnd now ws from ahead.at × (ahead.words.now ≡ ws)
Stretched now ws from None =
    (xs : List OpenClass) → T (every (is_class now) xs) → SeriesThen now 0 (may_follow 0) xs (drop from ws) → ⊥
