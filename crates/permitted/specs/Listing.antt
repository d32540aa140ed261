-- Inner: where the permitted strikes of an expiration can be listed beside the words of its standing strikes. Assumes
-- nothing.
use Rattle.std.specs.Prelude.{ℕ, ◌+◌, ◌-◌, ◌≤◌, ◌<◌, max, ◌≡◌, cond, List, [], ◌∷◌, ◌++◌, map, ltb, length, drop, set, Ok, Err}
use Rattle.std.specs.List.{prefix_len}
use Rattle.std.proofs.lemmas.List.Edits.{sets}
use Rattle.word.specs.Limits.{highest_strike, last_month, highest_price}
use Rattle.word.specs.Answers.{Answer}
use Rattle.word.specs.declared.answer.Accepted.TheVariants.{Listed}
use Rattle.word.specs.declared.answer.Refusal.TheVariants.{OutOfWords}
use Rattle.word.specs.Kinds.{key_of, strike_kind}
use Rattle.rule.specs.declared.terms.Setting.{Setting}
use Rattle.logic.specs.Lists.{Rising, only, up_from}
use Rattle.rule.specs.declared.bounds.Rung.{Rung}
use Rattle.rule.specs.Ends.{low_end, high_end, rung_at, Multiples, Fit, Climbs}
use Rattle.rule.specs.Spacing.{standing_of}
use Rattle.rule.specs.Judgement.{Judged, is_permitted_beside, permitted}
use Rattle.permitted.specs.declared.Range.{Range}
use Rattle.permitted.specs.declared.Listing.{Listing}

-- the strike of a strike word: "h in bits 0–14"
abbrev pub strike_in : ℕ → ℕ
strike_in w = key_of strike_kind w

-- above all strikes
abbrev pub no_strike : ℕ
no_strike = 65535

-- the first strike of the words, or one above all strikes where there is none
abbrev pub next_strike : List ℕ → ℕ
next_strike [] = no_strike
next_strike (w ∷ ws) = strike_in w

-- how many words stand before the first whose strike is at least `low`
abbrev pub strikes_below : List ℕ → ℕ → ℕ
strikes_below ws low = prefix_len (λ w. ltb (strike_in w) low) ws

-- the words from there on
abbrev pub strikes_from : List ℕ → ℕ → List ℕ
strikes_from ws low = drop (strikes_below ws low) ws

-- the permitted strikes beside the strikes of the words
abbrev pub permitted_beside : Setting → List ℕ → List ℕ
permitted_beside s ws = permitted s (map standing_of ws)

-- the low, the high and `now` of a book
pub record Measurable (s : Setting) : Type 0 where
  pub low : s.class.low ≤ highest_price
  pub high : s.class.high ≤ highest_price
  pub current : s.current ≤ last_month

-- these and its close, and the strikes of an expiration: they rise
pub record Listable (s : Setting) (ws : List ℕ) : Type 0 where
  pub measurable : Measurable s
  pub close : s.class.close ≤ highest_price
  pub order : s.class.low ≤ s.class.high
  pub rising : Rising (map strike_in ws)

-- the strike h can be tried beside the words
pub record Triable (s : Setting) (ws : List ℕ) (h : ℕ) : Type 0 where
  pub judged : Judged s h
  pub rising : Rising (map strike_in ws)

-- the permitted strikes from `low` to `high`, rising
abbrev pub permitted_between : Setting → List ℕ → ℕ → ℕ → List ℕ
permitted_between s ws low high = only (is_permitted_beside s (map standing_of ws)) (up_from (high + 1 - low) low)

-- the strikes of a range that are permitted beside the standing strikes
abbrev pub permitted_in : Listing → Range → List ℕ
permitted_in l range = permitted_between l.setting l.standing.now range.low range.high

-- a list of fewer strikes than the range begins at can go on with the multiples of a rung from there to its end
pub record Continuable (l : Listing) (r : Rung) (range : Range) : Type 0 where
  pub listable : Listable l.setting l.standing.now
  pub multiples : Multiples l.setting r range.low range.high
  pub fit : Fit l.setting range.low r
  pub least : 1 ≤ range.low
  pub some : range.low ≤ range.high
  pub last : range.high ≤ highest_strike
  pub fewer : l.count < range.low

-- and so it can with one rung after another, from where the range begins to its end
pub record Climbable (l : Listing) (rungs : List Rung) (range : Range) : Type 0 where
  pub listable : Listable l.setting l.standing.now
  pub climbs : (h : ℕ) → range.low ≤ h → h ≤ range.high → Climbs l.setting range.high h (rung_at rungs h)
  pub least : 1 ≤ range.low
  pub last : range.high ≤ highest_strike
  pub fewer : l.count < range.low

-- the first height above a range, or where it begins where it holds none
abbrev pub above : Range → ℕ
above range = max range.low (range.high + 1)

-- the strikes in range at the price p, from `least` on
abbrev pub range_at : Setting → ℕ → ℕ → Range
range_at s p least = record { low = max (low_end p) least; high = high_end s p }

-- those in range at the low, and above them those in range at the high
abbrev pub first_range : Setting → Range
first_range s = range_at s s.class.low 1

abbrev pub second_range : Setting → Range
second_range s = range_at s s.class.high (above (first_range s))

abbrev pub ranges_of : Setting → List Range
ranges_of s = first_range s ∷ second_range s ∷ []

-- the strike h is written, where there is a place for it
pub record Written (l : Listing) (h : ℕ) (l' : Listing) : Type 0 where
  pub setting : l'.setting ≡ l.setting
  pub place : l'.out.ghost_name ≡ l.out.ghost_name
  pub standing : l'.standing.now ≡ l.standing.now
  pub out : l'.out.now ≡ set l.out.now l.count h
  pub count : l'.count ≡ l.count + 1

-- the words ws' rise, and from the height h on the same strikes are permitted beside them as beside ws
pub record Alike (s : Setting) (ws ws' : List ℕ) (h : ℕ) : Type 0 where
  pub rising : Rising (map strike_in ws')
  pub same :
      (x : ℕ) → h ≤ x → is_permitted_beside s (map standing_of ws) x ≡ is_permitted_beside s (map standing_of ws') x

-- the permitted strikes of the range are listed, and it can go on above
pub record Continued (l : Listing) (range : Range) (l' : Listing) : Type 0 where
  pub setting : l'.setting ≡ l.setting
  pub place : l'.out.ghost_name ≡ l.out.ghost_name
  pub alike : Alike l.setting l.standing.now l'.standing.now (above range)
  pub out : l'.out.now ≡ sets l.out.now l.count (permitted_in l range)
  pub count : l'.count ≡ l.count + length (permitted_in l range)
  pub fewer : l'.count < above range

-- "`A`'s strikes exceed the second run, and then their count is the value"; else they are written to its front, and
-- "words past the count are unchanged"
pub record Filled (strikes v : List ℕ) (r : Answer) (v' : List ℕ) : Type 0 where
  pub answer :
      r ≡ cond (ltb (length v) (length strikes)) (Err (OutOfWords (length strikes))) (Ok (Listed (length strikes)))
  pub second : v' ≡ cond (ltb (length v) (length strikes)) v (strikes ++ drop (length strikes) v)
