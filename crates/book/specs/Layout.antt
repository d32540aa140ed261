-- Document 01, "the head, first", "One of each follows its class word, close first.", "Words past those used are
-- zero.", and requests #103, "after the volume word, low first", and #104, "one kind 8 word per program after the
-- head": the words that the layout gives to facts, and the facts that it reads in words. Assumes nothing.
use Rattle.std.specs.Prelude.{ℕ, zero, suc, ◌+◌, ◌-◌, Bool, true, false, List, [], ◌∷◌, ◌++◌, map, length, drop, replicate, eqb}
use Rattle.word.specs.Programs.{programs, program_count}
use Rattle.word.specs.Head.{first_place}
use Rattle.word.specs.Figures.{figures_words}
use Rattle.word.specs.Codec.{Word, Head, Class, Close, Volume, Expiration, Strike, DayPrice, Counter, Invalid, packed, reading}
use Rattle.book.specs.Facts.{Series, OpenClass, Facts, owned, strikes_on}

-- ---- from facts to words

abbrev pub strike_word : Series → Word
strike_word s = Strike s.strike s.on_ground s.put s.call

-- an expiration word before the words `rest`, unless the expiration stands already
abbrev pub expiration_unless : Bool → ℕ → List Word → List Word
expiration_unless true m rest = rest
expiration_unless false m rest = Expiration m ∷ rest

-- the words of the series, then `rest`. p is the expiration that stands already: 0 for none, else its month + 1
abbrev pub series_words : ℕ → List Series → List Word → List Word
series_words p [] rest = rest
series_words p (s ∷ ss) rest =
    expiration_unless (eqb p (suc s.month)) s.month (strike_word s ∷ series_words (suc s.month) ss rest)

abbrev pub classes_words : List OpenClass → List Word → List Word
classes_words [] rest = rest
classes_words (x ∷ xs) rest = figures_words x.figures (series_words 0 x.series (classes_words xs rest))

-- the words used: the head, its counters and those of the classes
abbrev pub used : Facts → ℕ
used f = first_place + length (classes_words f.classes [])

-- #104: "own classes in bits 0–7, standing strikes on that program's grounds in bits 8–23"
abbrev pub counter_of : List OpenClass → ℕ → Word
counter_of xs p = Counter (owned p xs) (strikes_on p xs)

-- #104: "one kind 8 word per program after the head, program 1 first"
abbrev pub counter_words : List OpenClass → List Word
counter_words xs = map (λ g. counter_of xs g.number) programs

-- the words before the first class: "the head, first", and its counters
abbrev pub head_words : Facts → List Word
head_words f = Head f.now (used f) ∷ counter_words f.classes

-- the run of n words; "Words past those used are zero."
unfoldable pub layout : ℕ → Facts → List ℕ
layout n f = map packed (head_words f ++ classes_words f.classes []) ++ replicate (n - used f) 0

-- ---- from words to facts

-- what the words from some place on say, the last first: the figures and the series of a class whose word is still to
-- come, and the classes
pub record Tail : Type 0 where
  pub close : ℕ
  pub volume : ℕ
  pub low : ℕ
  pub high : ℕ
  pub series : List Series
  pub classes : List OpenClass

abbrev pub tail_of : List Series → List OpenClass → Tail
tail_of ss xs = record { close = 0; volume = 0; low = 0; high = 0; series = ss; classes = xs }

abbrev pub add_class : ℕ → List ℕ → Tail → Tail
add_class n ds t =
    tail_of []
    (record {
      figures =
          record {
            number = n;
            close = t.close;
            volume = t.volume;
            low = t.low;
            high = t.high;
            designations = ds;
          };
      series = t.series;
    }
    ∷ t.classes)

abbrev pub add_series : Series → Tail → Tail
add_series s t =
    record {
      close = t.close;
      volume = t.volume;
      low = t.low;
      high = t.high;
      series = s ∷ t.series;
      classes = t.classes;
    }

abbrev pub set_close : ℕ → Tail → Tail
set_close p t =
    record {
      close = p;
      volume = t.volume;
      low = t.low;
      high = t.high;
      series = t.series;
      classes = t.classes;
    }

abbrev pub set_volume : ℕ → Tail → Tail
set_volume v t =
    record {
      close = t.close;
      volume = v;
      low = t.low;
      high = t.high;
      series = t.series;
      classes = t.classes;
    }

-- #103: "low first": of two such words the first is the low, and the one after it the high
abbrev pub add_day_price : ℕ → Tail → Tail
add_day_price p t =
    record {
      close = t.close;
      volume = t.volume;
      low = p;
      high = t.low;
      series = t.series;
      classes = t.classes;
    }

-- the month that p stands for
abbrev pub month_before : ℕ → ℕ
month_before zero = zero
month_before (suc m) = m

-- the words from the first class on, to the first that is none of theirs; p is the expiration that the strikes belong
-- to
abbrev pub read_from : ℕ → List Word → Tail
read_from p [] = tail_of [] []
read_from p (Head now k ∷ ws) = tail_of [] []
read_from p (Class n ds ∷ ws) = add_class n ds (read_from 0 ws)
read_from p (Close price ∷ ws) = set_close price (read_from p ws)
read_from p (Volume v ∷ ws) = set_volume v (read_from p ws)
read_from p (Expiration m ∷ ws) = read_from (suc m) ws
read_from p (Strike h g a b ∷ ws) =
    add_series (record { month = month_before p; strike = h; on_ground = g; put = a; call = b }) (read_from p ws)
read_from p (DayPrice price ∷ ws) = add_day_price price (read_from p ws)
read_from p (Counter own strikes ∷ ws) = tail_of [] []
read_from p (Invalid ∷ ws) = tail_of [] []

abbrev pub head_month : Word → ℕ
head_month (Head now k) = now
head_month (Class n ds) = 0
head_month (Close price) = 0
head_month (Volume v) = 0
head_month (Expiration m) = 0
head_month (Strike h g a b) = 0
head_month (DayPrice price) = 0
head_month (Counter own strikes) = 0
head_month Invalid = 0

-- the counters say nothing that the classes do not
abbrev pub facts_in : List Word → Facts
facts_in [] = record { now = 0; classes = [] }
facts_in (w ∷ ws) = record { now = head_month w; classes = (read_from 0 (drop program_count ws)).classes }

-- "what the layout reads in a run"
unfoldable pub facts_of : List ℕ → Facts
facts_of ws = facts_in (map reading ws)
