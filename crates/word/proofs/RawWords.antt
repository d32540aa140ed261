-- A raw word passes the test of its kind exactly when it is a packed word of that kind in its limits: by its fields.
-- Assumes nothing.
use Rattle.std.proofs.Common.{◌≡◌, ℕ, ◌+◌, ◌-◌, ◌*◌, ◌/◌, ◌^◌, ◌<◌, Bool, ◌&&◌, T, ltb, leb, sym, ap, ◌∙◌, subst, arith, le→leb, eqb→eq, ltb→lt, lt→ltb, leb→le, shr-shr}
use Rattle.word.specs.declared.class.ClassRecord.{ClassRecord}
use Rattle.word.specs.declared.kind.Kind.{Kind}
use Rattle.word.specs.Programs.{programs, are_designations, designation_in, designations_in, designations_end, designation_width, dollar_program, half_program, two_fifty_program}
use Rattle.word.specs.Codec.{Word, Head, Class, Close, Volume, Expiration, Strike, DayPrice, Counter, is_legal, packed, kind_placed, strike_said, Fits}
use Rattle.word.specs.Limits.{is_month, is_volume, is_close, is_ground, is_mark, highest_price, highest_strike, highest_class, highest_volume, last_month}
use Rattle.word.specs.Field.{field, end}
use Rattle.word.specs.Kinds.{kind_field, kind_of, key_of, is_of_kind, is_bare, below_kind, head_kind, used_field, class_kind, close_kind, volume_kind, expiration_kind, strike_kind, ground_field, put_field, call_field, day_price_kind, counter_kind, strikes_field}
use Rattle.word.specs.Figures.{are_figures, class_word, is_class_above, is_volume_word}
use Rattle.logic.proofs.Tests.{and_intro, ands, equal_test, T_true}
use Rattle.word.proofs.RangeTests.{Ordered, day_prices}
use Rattle.word.proofs.Words.{legal_fits, class_fields, strike_fields}

-- a legal word fits its bits
pub fits : (x : Word) → T (is_legal x) → Fits x
fits x legal = legal_fits x (T_true (is_legal x) legal)

-- a word of the kind with no other bit from the bit `end` on
abbrev pub IsBare : Kind → ℕ → ℕ → Type 0
IsBare k end w = w / 2 ^ end ≡ k.number * 2 ^ (kind_field.low - end)

pub bare : (k : Kind) (end w : ℕ) → T (is_bare k end w) → IsBare k end w
bare k end w t = eqb→eq (w / 2 ^ end) (k.number * 2 ^ (kind_field.low - end)) t

bare_test : (k : Kind) (end w : ℕ) → IsBare k end w → T (is_bare k end w)
bare_test k end w e = equal_test (w / 2 ^ end) (k.number * 2 ^ (kind_field.low - end)) e

-- ---- the head

pub head_packed :
    (w : ℕ) → IsBare head_kind (end used_field) w → packed (Head (key_of head_kind w) (field w used_field)) ≡ w
head_packed w top =
    let a : w / 2 ^ used_field.low / 2 ^ used_field.width ≡ w / 2 ^ end used_field =
    shr-shr w used_field.low used_field.width in
    omega arith

pub head_bare :
    (w now used : ℕ) → Fits (Head now used) → packed (Head now used) ≡ w → T (is_bare head_kind (end used_field) w)
head_bare w now used small e = bare_test head_kind (end used_field) w (omega arith)

-- ---- a counter

pub counter_packed :
    (w : ℕ) → IsBare counter_kind (end strikes_field) w
    → packed (Counter (key_of counter_kind w) (field w strikes_field)) ≡ w
counter_packed w top =
    let a : w / 2 ^ strikes_field.low / 2 ^ strikes_field.width ≡ w / 2 ^ end strikes_field =
    shr-shr w strikes_field.low strikes_field.width in
    omega arith

pub counter_bare :
    (w own strikes : ℕ) → Fits (Counter own strikes) → packed (Counter own strikes) ≡ w
    → T (is_bare counter_kind (end strikes_field) w)
counter_bare w own strikes small e = bare_test counter_kind (end strikes_field) w (omega arith)

-- ---- strikes

-- a word of a strike's kind with no bit beside a strike's
abbrev pub IsStrike : ℕ → Type 0
IsStrike w = IsBare strike_kind (end call_field) w

-- a strike word whose strike is above the one before it
abbrev pub is_strike_above : ℕ → ℕ → Bool
is_strike_above above w =
    is_bare strike_kind (end call_field) w
    && (is_ground (field w ground_field)
    && (ltb above (key_of strike_kind w) && leb (key_of strike_kind w) highest_strike))

marks_bits :
    (w : ℕ) → IsStrike w
    → w / 2 ^ end ground_field
    ≡ field w put_field + field w call_field * 2 + strike_kind.number * 2 ^ (kind_field.low - end ground_field)
marks_bits w top =
    let a : w / 2 ^ put_field.low / 2 ^ put_field.width ≡ w / 2 ^ end put_field =
    shr-shr w put_field.low put_field.width in
    let b : w / 2 ^ call_field.low / 2 ^ call_field.width ≡ w / 2 ^ end call_field =
    shr-shr w call_field.low call_field.width in
    omega arith

strike_bits : (w : ℕ) → IsStrike w → packed (strike_said w) ≡ w
strike_bits w top =
    let a : w / 2 ^ ground_field.low / 2 ^ ground_field.width ≡ w / 2 ^ end ground_field =
    shr-shr w ground_field.low ground_field.width in
    omega (arith, marks_bits w top)

pub strike_packed :
    (above w : ℕ) → T (is_strike_above above w) → (packed (strike_said w) ≡ w) × T (is_legal (strike_said w))
strike_packed above w t =
    let h = key_of strike_kind w in
    let l : above < h = ltb→lt above h (search ands) in
    let low : T (leb 1 h) = le→leb 1 h (omega arith) in
    let high : T (leb h highest_strike) = search ands in
    let on_ground : T (is_ground (field w ground_field)) = search ands in
    let put : T (is_mark (field w put_field)) = le→leb (field w put_field) 1 (omega arith) in
    let call : T (is_mark (field w call_field)) = le→leb (field w call_field) 1 (omega arith) in
    (strike_bits w (bare strike_kind (end call_field) w (search ands)), search and_intro)

pub strike_test :
    (above w h on_ground put call : ℕ) → T (is_legal (Strike h on_ground put call))
    → packed (Strike h on_ground put call) ≡ w
    → above < h → T (is_strike_above above w) × (key_of strike_kind w ≡ h)
strike_test above w h on_ground put call legal e l =
    let small = fits (Strike h on_ground put call) legal in
    let fields = strike_fields w h on_ground put call small e in
    let key : key_of strike_kind w ≡ h = fields.0 in
    let a : T (is_bare strike_kind (end call_field) w) = bare_test strike_kind (end call_field) w (omega arith) in
    let b : T (is_ground (field w ground_field)) = rw fields.1 (search ands) in
    let c : T (ltb above (key_of strike_kind w)) = rw key (lt→ltb above h l) in
    let d : T (leb (key_of strike_kind w) highest_strike) = rw key (search ands) in
    (search and_intro, key)

-- ---- a class's figures

-- what holds of each of their words
pub record OfEach (P : Word → Type 0) (r : ClassRecord) : Type 0 where
  pub class : P (class_word r)
  pub close : P (Close r.close)
  pub volume : P (Volume r.volume)
  pub low : P (DayPrice r.low)
  pub high : P (DayPrice r.high)

pub figures_legal : (r : ClassRecord) → T (are_figures r) → OfEach (λ x. T (is_legal x)) r
figures_legal r t =
    let o : Ordered r.low r.close r.high = day_prices r.low r.close r.high (search ands) in
    record {
      class = search (ands, and_intro);
      close = le→leb r.close highest_price (omega arith);
      volume = search ands;
      low = le→leb r.low highest_price (omega arith);
      high = le→leb r.high highest_price o.most;
    }

-- their words fit their bits
pub figures_fit : (r : ClassRecord) → T (are_figures r) → OfEach Fits r
figures_fit r t =
    let l = figures_legal r t in
    record {
      class = fits (class_word r) l.class;
      close = fits (Close r.close) l.close;
      volume = fits (Volume r.volume) l.volume;
      low = fits (DayPrice r.low) l.low;
      high = fits (DayPrice r.high) l.high;
    }

-- what a class word says
abbrev pub class_in : ℕ → Word
class_in w = Class (key_of class_kind w) (designations_in w)

-- what stands above its first designation
halves_bits :
    (w : ℕ) → IsBare class_kind designations_end w
    → w / 2 ^ end dollar_program.bits
    ≡ designation_in half_program w + designation_in two_fifty_program w * 2 ^ designation_width
    + class_kind.number * 2 ^ (kind_field.low - end dollar_program.bits)
halves_bits w top =
    let a : w / 2 ^ half_program.bits.low / 2 ^ designation_width ≡ w / 2 ^ end half_program.bits =
    shr-shr w half_program.bits.low designation_width in
    let b : w / 2 ^ two_fifty_program.bits.low / 2 ^ designation_width ≡ w / 2 ^ end two_fifty_program.bits =
    shr-shr w two_fifty_program.bits.low designation_width in
    omega arith

class_bits : (w : ℕ) → IsBare class_kind designations_end w → packed (class_in w) ≡ w
class_bits w top =
    let a : w / 2 ^ dollar_program.bits.low / 2 ^ designation_width ≡ w / 2 ^ end dollar_program.bits =
    shr-shr w dollar_program.bits.low designation_width in
    omega (arith, halves_bits w top)

pub class_said : (above w : ℕ) → T (is_class_above above w) → (packed (class_in w) ≡ w) × T (is_legal (class_in w))
class_said above w t =
    let n = key_of class_kind w in
    let top = bare class_kind designations_end w (search ands) in
    let l : above < n = ltb→lt above n (search ands) in
    let low : T (leb 1 n) = le→leb 1 n (omega arith) in
    let high : T (leb n highest_class) = le→leb n highest_class (omega arith) in
    let designations : T (are_designations programs (designations_in w)) = search ands in
    (class_bits w top, search and_intro)

pub class_test :
    (above w : ℕ) (r : ClassRecord) → T (is_legal (class_word r)) → packed (class_word r) ≡ w → T (ltb above r.number)
    → T (is_class_above above w)
class_test above w r legal q l =
    let f = class_fields w r.number r.designations (fits (class_word r) legal) q in
    let said : class_in w ≡ class_word r = λ i. Class (f.0 i) (f.1 i) in
    let whole : packed (class_in w) ≡ w = ap packed said ∙ q in
    let limits : T (is_legal (class_in w)) = subst (λ (x : Word). T (is_legal x)) (sym said) legal in
    let a : T (is_bare class_kind designations_end w) = bare_test class_kind designations_end w (omega arith) in
    let b : T (ltb above (key_of class_kind w)) = rw f.0 l in
    search (ands, and_intro)

-- ---- the words of a kind and one number

number_packed : (k : Kind) (w : ℕ) → kind_of w ≡ k.number → below_kind w + kind_placed k ≡ w
number_packed k w kind = omega arith

number_field :
    (k : Kind) (x w : ℕ) → x < 2 ^ kind_field.low → x + kind_placed k ≡ w → T (is_of_kind k w) × (below_kind w ≡ x)
number_field k x w l e =
    let kind : kind_of w ≡ k.number = omega arith in
    (equal_test (kind_of w) k.number kind, omega arith)

pub close_packed : (w : ℕ) → T (is_of_kind close_kind w) → packed (Close (below_kind w)) ≡ w
close_packed w t = number_packed close_kind w (eqb→eq (kind_of w) close_kind.number t)

pub close_field : (w p : ℕ) → T (is_close p) → packed (Close p) ≡ w → T (is_of_kind close_kind w) × (below_kind w ≡ p)
close_field w p legal e = number_field close_kind p w (omega (arith, leb→le p highest_price legal)) e

pub day_price_packed : (w : ℕ) → T (is_of_kind day_price_kind w) → packed (DayPrice (below_kind w)) ≡ w
day_price_packed w t = number_packed day_price_kind w (eqb→eq (kind_of w) day_price_kind.number t)

pub day_price_field :
    (w p : ℕ) → T (is_close p) → packed (DayPrice p) ≡ w → T (is_of_kind day_price_kind w) × (below_kind w ≡ p)
day_price_field w p legal e = number_field day_price_kind p w (omega (arith, leb→le p highest_price legal)) e

pub volume_packed : (w : ℕ) → T (is_volume_word w) → packed (Volume (below_kind w)) ≡ w
volume_packed w t = number_packed volume_kind w (eqb→eq (kind_of w) volume_kind.number (search ands))

pub volume_test : (w v : ℕ) → T (is_volume v) → packed (Volume v) ≡ w → T (is_volume_word w)
volume_test w v legal e =
    let f = number_field volume_kind v w (omega (arith, leb→le v highest_volume legal)) e in
    and_intro (is_of_kind volume_kind w) (is_volume (below_kind w)) f.0 (rw f.1 legal)

pub expiration_packed : (w : ℕ) → kind_of w ≡ expiration_kind.number → packed (Expiration (below_kind w)) ≡ w
expiration_packed w kind = number_packed expiration_kind w kind

pub expiration_field : (w m : ℕ) → T (is_month m) → packed (Expiration m) ≡ w → below_kind w ≡ m
expiration_field w m legal e = (number_field expiration_kind m w (omega (arith, leb→le m last_month legal)) e).1
