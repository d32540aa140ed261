-- The words of a class's figures in a run: they pass their test exactly when they are those of figures in their limits,
-- which are what they say; by each word's test. Assumes nothing.
use Rattle.std.proofs.Common.{◌≡◌, ℕ, ◌+◌, ◌<◌, ◌≤◌, T, ltb, List, [], ◌∷◌, ◌++◌, map, length, get_or, drop, sym, ◌∙◌, add-one, arith, leb→le, drop-cons}
use Rattle.word.specs.declared.class.ClassRecord.{ClassRecord}
use Rattle.word.specs.Programs.{designations_in}
use Rattle.word.specs.Limits.{is_volume, are_day_prices, highest_price, highest_volume}
use Rattle.word.specs.Kinds.{key_of, below_kind, class_kind, close_kind, volume_kind, day_price_kind}
use Rattle.word.specs.Codec.{Word, Close, Volume, DayPrice, is_legal, packed}
use Rattle.word.specs.Figures.{figures_length, class_word, figures_words, are_figures, figures_at, is_class_above, is_volume_word, are_figures_at}
use Rattle.logic.proofs.Tests.{and_intro, ands}
use Rattle.word.proofs.RangeTests.{Ordered, day_prices}
use Rattle.word.proofs.Words.{class_fields}
use Rattle.word.proofs.RawWords.{fits, figures_legal, figures_fit, class_in, class_said, class_test, close_packed, close_field, volume_packed, volume_test, day_price_packed, day_price_field}

-- prices and a volume are within their own bits
close_key : (w : ℕ) → below_kind w ≤ highest_price → below_kind w ≡ key_of close_kind w
close_key w l = omega arith

day_price_key : (w : ℕ) → below_kind w ≤ highest_price → below_kind w ≡ key_of day_price_kind w
day_price_key w l = omega arith

volume_key : (w : ℕ) → T (is_volume_word w) → below_kind w ≡ key_of volume_kind w
volume_key w t = let low = leb→le (below_kind w) highest_volume (search ands) in omega arith

module _ (at : ℕ) (ws : List ℕ) (room : at + figures_length ≤ length ws) where
  -- the words of the figures
  abbrev w : ℕ
  w = get_or ws at 0

  abbrev c : ℕ
  c = get_or ws (at + 1) 0

  abbrev v : ℕ
  v = get_or ws (at + 2) 0

  abbrev l : ℕ
  l = get_or ws (at + 3) 0

  abbrev h : ℕ
  h = get_or ws (at + 4) 0

  -- the words from the place on, those of the figures one by one
  words_at : drop at ws ≡ w ∷ c ∷ v ∷ l ∷ h ∷ drop (at + figures_length) ws
  words_at =
      let two : at + 1 + 1 ≡ at + 2 = omega arith in
      let three : at + 2 + 1 ≡ at + 3 = omega arith in
      let four : at + 3 + 1 ≡ at + 4 = omega arith in
      let five : at + 4 + 1 ≡ at + 5 = omega arith in
      rw (
        next at (omega arith),
        next (at + 1) (omega arith),
        two,
        next (at + 2) (omega arith),
        three,
        next (at + 3) (omega arith),
        four,
        next (at + 4) (omega arith),
        five,
      )
    where
      next : (i : ℕ) → i < length ws → drop i ws ≡ get_or ws i 0 ∷ drop (i + 1) ws
      next i l = rw (add-one, drop-cons ws i 0)

  module _ (above : ℕ) where
    -- words that pass the test are those of the figures that they say
    pub figures_said :
        T (are_figures_at above at ws)
        → T (are_figures (figures_at at ws))
        × ((rest : List Word) → map packed rest ≡ drop (at + figures_length) ws
        → map packed (figures_words (figures_at at ws) rest) ≡ drop at ws)
    figures_said t =
        let class : T (is_class_above above w) = search ands in
        let volume : T (is_volume_word v) = search ands in
        let below : T (are_day_prices (below_kind l) (below_kind c) (below_kind h)) = search ands depth 8 in
        let o : Ordered (below_kind l) (below_kind c) (below_kind h) =
        day_prices (below_kind l) (below_kind c) (below_kind h) below in
        let said = class_said above w class in
        let legal : T (is_legal (class_in w)) = said.1 in
        let kc : below_kind c ≡ key_of close_kind c = close_key c (omega arith) in
        let kv : below_kind v ≡ key_of volume_kind v = volume_key v volume in
        let kl : below_kind l ≡ key_of day_price_kind l = day_price_key l (omega arith) in
        let kh : below_kind h ≡ key_of day_price_kind h = day_price_key h o.most in
        let few : T (is_volume (below_kind v)) = search ands in
        let contracts : T (is_volume (key_of volume_kind v)) = rw kv at few in
        let prices : T (are_day_prices (key_of day_price_kind l) (key_of close_kind c) (key_of day_price_kind h)) =
        rw (kl, kc, kh) at below in
        let ec : packed (Close (key_of close_kind c)) ≡ c = rw kc at (close_packed c (search ands)) in
        let ev : packed (Volume (key_of volume_kind v)) ≡ v = rw kv at (volume_packed v volume) in
        let el : packed (DayPrice (key_of day_price_kind l)) ≡ l = rw kl at (day_price_packed l (search ands)) in
        let eh : packed (DayPrice (key_of day_price_kind h)) ≡ h =
        rw kh at (day_price_packed h (search ands depth 8)) in (
          search (ands, and_intro) depth 12,
          λ rest e. (λ i. said.0 i ∷ ec i ∷ ev i ∷ el i ∷ eh i ∷ e i) ∙ sym words_at,
        )

    -- what words that are those of figures tell of them
    pub record Figured (r : ClassRecord) (rest : List Word) : Type 0 where
      pub test : T (are_figures_at above at ws)
      pub number : key_of class_kind w ≡ r.number
      pub designations : designations_in w ≡ r.designations
      pub after : map packed rest ≡ drop (at + figures_length) ws

    pub figures_tested :
        (r : ClassRecord) (rest : List Word) → T (are_figures r) → T (ltb above r.number)
        → map packed (figures_words r rest) ≡ drop at ws → Figured r rest
    figures_tested r rest limits k e =
        let all = e ∙ words_at in
        let ew : packed (class_word r) ≡ w = cc in
        let ec : packed (Close r.close) ≡ c = cc in
        let ev : packed (Volume r.volume) ≡ v = cc in
        let el : packed (DayPrice r.low) ≡ l = cc in
        let eh : packed (DayPrice r.high) ≡ h = cc in
        let legal = figures_legal r limits in
        let fields = class_fields w r.number r.designations (fits (class_word r) legal.class) ew in
        let class : T (is_class_above above w) = class_test above w r legal.class ew k in
        let volume : T (is_volume_word v) = volume_test v r.volume legal.volume ev in
        let close = close_field c r.close legal.close ec in
        let low = day_price_field l r.low legal.low el in
        let high = day_price_field h r.high legal.high eh in
        let ordered : T (are_day_prices r.low r.close r.high) = search ands in
        let prices : T (are_day_prices (below_kind l) (below_kind c) (below_kind h)) =
        rw (low.1, close.1, high.1) ordered in
        record {
          test = search and_intro depth 12;
          number = fields.0;
          designations = fields.1;
          after = cc;
        }

  -- words that are those of figures say them
  pub figures_read :
      (r : ClassRecord) (rest : List ℕ) → T (are_figures r) → map packed (figures_words r []) ++ rest ≡ drop at ws
      → figures_at at ws ≡ r
  figures_read r rest limits e =
      let all = e ∙ words_at in
      let ew : packed (class_word r) ≡ w = cc in
      let ec : packed (Close r.close) ≡ c = cc in
      let ev : packed (Volume r.volume) ≡ v = cc in
      let el : packed (DayPrice r.low) ≡ l = cc in
      let eh : packed (DayPrice r.high) ≡ h = cc in
      let fit = figures_fit r limits in
      let fields = class_fields w r.number r.designations fit.class ew in
      let price : key_of close_kind c ≡ r.close = omega (arith, fit.close) in
      let contracts : key_of volume_kind v ≡ r.volume = omega (arith, fit.volume) in
      let lowest : key_of day_price_kind l ≡ r.low = omega (arith, fit.low) in
      let highest : key_of day_price_kind h ≡ r.high = omega (arith, fit.high) in
      λ i.
      record {
        number = fields.0 i;
        close = price i;
        volume = contracts i;
        low = lowest i;
        high = highest i;
        designations = fields.1 i;
      }
