-- Document 01, "One of each follows its class word, close first.", "with every field in its limits", and request #103,
-- "two kind 7 words (bits 0–19) after the volume word, low first": the words of a class's figures, and their limits.
-- Assumes nothing.
use Rattle.std.specs.Prelude.{ℕ, ◌+◌, Bool, ◌&&◌, List, ◌∷◌, nat_lt, slice_index}
use Rattle.word.specs.declared.class.ClassRecord.{ClassRecord}
use Rattle.word.specs.Limits.{is_class_number, is_volume, are_day_prices}
use Rattle.word.specs.Programs.{programs, are_designations, designations_in, designations_end}
use Rattle.word.specs.Kinds.{class_kind, close_kind, volume_kind, day_price_kind, key_of, is_of_kind, is_bare, below_kind}
use Rattle.word.specs.Codec.{Word, Class, Close, Volume, DayPrice}

-- "The words the facts take are 1 + 3 × classes + ..", and #103: "A class then takes five words": the words of a
-- class's figures
abbrev pub figures_length : ℕ
figures_length = 5

-- the class word of a class's figures
abbrev pub class_word : ClassRecord → Word
class_word r = Class r.number r.designations

-- "One of each follows its class word, close first.", and #103: "after the volume word, low first": the words of a
-- class's figures, then `rest`
abbrev pub figures_words : ClassRecord → List Word → List Word
figures_words r rest =
    class_word r ∷ Close r.close ∷ Volume r.volume ∷ DayPrice r.low ∷ DayPrice r.high ∷ rest

-- "with every field in its limits", and #103: "In every book all three are 0, or 1 ≤ low ≤ close ≤ high."
abbrev pub are_figures : ClassRecord → Bool
are_figures r =
    is_class_number r.number
    && (are_designations programs r.designations
    && (is_volume r.volume && are_day_prices r.low r.close r.high))

-- ---- the words that begin at an index of a run

-- what they say
abbrev pub figures_at : ℕ → List ℕ → ClassRecord
figures_at at ws =
    record {
      number = key_of class_kind (slice_index ws at);
      close = key_of close_kind (slice_index ws (at + 1));
      volume = key_of volume_kind (slice_index ws (at + 2));
      low = key_of day_price_kind (slice_index ws (at + 3));
      high = key_of day_price_kind (slice_index ws (at + 4));
      designations = designations_in (slice_index ws at);
    }

-- a class word whose number is above the one before it; no bit is set from where its last designation ends
abbrev pub is_class_above : ℕ → ℕ → Bool
is_class_above above w =
    is_bare class_kind designations_end w
    && (nat_lt above (key_of class_kind w) && are_designations programs (designations_in w))

abbrev pub is_volume_word : ℕ → Bool
is_volume_word w = is_of_kind volume_kind w && is_volume (below_kind w)

-- they are those of figures in their limits, of a class whose number is above the one before it
abbrev pub are_figures_at : ℕ → ℕ → List ℕ → Bool
are_figures_at above at ws =
    is_class_above above (slice_index ws at)
    && (is_volume_word (slice_index ws (at + 2))
    && (is_of_kind close_kind (slice_index ws (at + 1))
    && (is_of_kind day_price_kind (slice_index ws (at + 3))
    && (is_of_kind day_price_kind (slice_index ws (at + 4))
    && are_day_prices
    (below_kind (slice_index ws (at + 3))) (below_kind (slice_index ws (at + 1)))
    (below_kind (slice_index ws (at + 4)))))))
