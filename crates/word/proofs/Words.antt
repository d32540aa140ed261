-- A word and what it says are each other's inverse: each kind by its fields, the rest from these by cases on the tests.
-- Assumes nothing.
use Rattle.std.proofs.Common.{◌≡◌, ℕ, ◌+◌, ◌-◌, ◌*◌, ◌^◌, ◌<◌, Bool, true, false, cond, ◌&&◌, T, eqb, List, [], ◌∷◌, get_or, sym, refl, ap, ◌∙◌, true≢false, arith, leb→le, ltb-true, eq-eqb, eqb-true, leb-true}
use Rattle.word.specs.Limits.{is_strike, is_month, is_class_number, is_length, is_designation, is_ground, is_mark}
use Rattle.word.specs.declared.field.Field.{Field}
use Rattle.word.specs.declared.kind.Kind.{Kind}
use Rattle.word.specs.Programs.{Program, programs, program_count, program, is_program, are_designations, designation_width, designation_in, designations_in, dollar_program, half_program, two_fifty_program}
use Rattle.word.specs.Field.{field, end}
use Rattle.word.specs.Kinds.{kind_field, kind_of, key_of, head_kind, used_field, class_kind, close_kind, volume_kind, expiration_kind, strike_kind, ground_field, put_field, call_field, day_price_kind, counter_kind, strikes_field}
use Rattle.word.specs.Codec.{is_legal, packed, shifted, kind_placed, FitEach, Fits, fields_as, reading, Word, Head, Class, Close, Volume, Expiration, Strike, DayPrice, Counter, Invalid}
use Rattle.logic.proofs.Tests.{parts, ands}
use Rattle.logic.proofs.Slices.{mapped_at}
use Rattle.word.proofs.RangeTests.{between_high}
use Rattle.word.proofs.Fields.{field_packed}

designations_fit : (gs : List Program) (ds : List ℕ) → are_designations gs ds ≡ true → FitEach gs ds
designations_fit [] [] legal = omega arith
designations_fit [] (d ∷ ds) legal = absurd (true≢false (sym legal))
designations_fit (g ∷ gs) [] legal = absurd (true≢false (sym legal))
designations_fit (g ∷ gs) (d ∷ ds) legal =
    let fits : is_designation d ≡ true = search parts in
    (omega (arith, leb-true), designations_fit gs ds (search parts))

-- limits are within the fields' bits
pub legal_fits : (x : Word) → is_legal x ≡ true → Fits x
legal_fits (Head now used) legal =
    let month : is_month now ≡ true = search parts in
    let length : is_length used ≡ true = search parts in
    omega (arith, leb-true, between_high)
legal_fits (Class number ds) legal =
    let class : is_class_number number ≡ true = search parts in
    (omega (arith, between_high), designations_fit programs ds (search parts))
legal_fits (Close price) legal = omega (arith, leb-true)
legal_fits (Volume contracts) legal = omega (arith, leb-true)
legal_fits (Expiration month) legal = omega (arith, leb-true)
legal_fits (Strike h on_ground put call) legal =
    let strike : is_strike h ≡ true = search parts in
    let grounded : is_ground on_ground ≡ true = search parts in
    let marks : (is_mark put ≡ true) × (is_mark call ≡ true) = (search parts, search parts) in
    omega (arith, leb-true, between_high)
legal_fits (DayPrice price) legal = omega (arith, leb-true)
legal_fits (Counter own strikes) legal =
    (ltb-true own (2 ^ counter_kind.width) (search parts), ltb-true strikes (2 ^ strikes_field.width) (search parts))
legal_fits Invalid legal = omega arith

-- the kind and the fields of a packed word are those that were packed

abbrev pub kind_in : Word → ℕ
kind_in (Head now used) = head_kind.number
kind_in (Class number ds) = class_kind.number
kind_in (Close price) = close_kind.number
kind_in (Volume contracts) = volume_kind.number
kind_in (Expiration month) = expiration_kind.number
kind_in (Strike h on_ground put call) = strike_kind.number
kind_in (DayPrice price) = day_price_kind.number
kind_in (Counter own strikes) = counter_kind.number
kind_in Invalid = 0

pub kind_packed : (x : Word) (w : ℕ) → Fits x → packed x ≡ w → kind_of w ≡ kind_in x
kind_packed (Head now used) w fits e = omega arith
kind_packed (Class number []) w fits e = absurd fits.1
kind_packed (Class number (d ∷ [])) w fits e = absurd fits.1.1
kind_packed (Class number (d ∷ h ∷ [])) w fits e = absurd fits.1.1.1
kind_packed (Class number (d ∷ h ∷ t ∷ [])) w fits e = omega arith
kind_packed (Class number (d ∷ h ∷ t ∷ x ∷ ds)) w fits e = absurd fits.1.1.1.1
kind_packed (Close price) w fits e = omega arith
kind_packed (Volume contracts) w fits e = omega arith
kind_packed (Expiration month) w fits e = omega arith
kind_packed (Strike h on_ground put call) w fits e = omega arith
kind_packed (DayPrice price) w fits e = omega arith
kind_packed (Counter own strikes) w fits e = omega arith
kind_packed Invalid w fits e = omega arith

-- the kind as it stands above a field
abbrev kind_above : Kind → Field → ℕ
kind_above k f = k.number * 2 ^ (kind_field.low - end f)

pub head_fields :
    (w now used : ℕ) → Fits (Head now used) → packed (Head now used) ≡ w
    → (key_of head_kind w ≡ now) × (field w used_field ≡ used)
head_fields w now used fits e = (
  omega arith,
  field_packed w now used (kind_above head_kind used_field) used_field (omega arith) (omega arith) (omega arith),
)

-- a class word's number, and its designation in each program
pub class_fields :
    (w number : ℕ) (ds : List ℕ) → Fits (Class number ds) → packed (Class number ds) ≡ w
    → (key_of class_kind w ≡ number) × (designations_in w ≡ ds)
class_fields w number [] fits e = absurd fits.1
class_fields w number (d ∷ []) fits e = absurd fits.1.1
class_fields w number (d ∷ h ∷ []) fits e = absurd fits.1.1.1
class_fields w number (d ∷ h ∷ t ∷ []) fits e =
    let below = number + shifted d dollar_program.bits in
    let first : designation_in dollar_program w ≡ d =
    field_packed w number d (h + t * 4 + kind_above class_kind dollar_program.bits) dollar_program.bits
    (omega arith) (omega arith) (omega arith) in
    let second : designation_in half_program w ≡ h =
    field_packed w below h (t + kind_above class_kind half_program.bits) half_program.bits
    (omega arith) (omega arith) (omega arith) in
    let third : designation_in two_fifty_program w ≡ t =
    field_packed w (below + shifted h half_program.bits) t (kind_above class_kind two_fifty_program.bits)
    two_fifty_program.bits (omega arith) (omega arith) (omega arith) in
    (omega arith, λ i. first i ∷ second i ∷ third i ∷ [])
class_fields w number (d ∷ h ∷ t ∷ x ∷ ds) fits e = absurd fits.1.1.1.1

-- its designations stand in the order of the programs
pub designation_said : (w p : ℕ) → T (is_program p)
    → designation_in (program p) w ≡ get_or (designations_in w) (p - 1) 0
designation_said w p k =
    sym
    (mapped_at (λ g. designation_in g w) dollar_program 0 programs (p - 1)
    (omega (arith, leb→le 1 p (search ands), leb→le p program_count (search ands))))

-- the number of a class word, by its designations one by one
pub class_packed :
    (number : ℕ) (ds : List ℕ) → Fits (Class number ds)
    → (get_or ds 0 0 < 2 ^ designation_width) × (get_or ds 1 0 < 2 ^ designation_width)
    × (get_or ds 2 0 < 2 ^ designation_width)
    × (packed (Class number ds)
    ≡ number + shifted (get_or ds 0 0) dollar_program.bits + shifted (get_or ds 1 0) half_program.bits
    + shifted (get_or ds 2 0) two_fifty_program.bits
    + kind_placed class_kind)
class_packed number [] fits = absurd fits.1
class_packed number (d ∷ []) fits = absurd fits.1.1
class_packed number (d ∷ h ∷ []) fits = absurd fits.1.1.1
class_packed number (d ∷ h ∷ t ∷ []) fits = (fits.1.0, fits.1.1.0, fits.1.1.1.0, omega arith)
class_packed number (d ∷ h ∷ t ∷ x ∷ ds) fits = absurd fits.1.1.1.1

pub strike_fields :
    (w h on_ground put call : ℕ) → Fits (Strike h on_ground put call) → packed (Strike h on_ground put call) ≡ w
    → (key_of strike_kind w ≡ h) × (field w ground_field ≡ on_ground) × (field w put_field ≡ put)
    × (field w call_field ≡ call)
strike_fields w h on_ground put call fits e =
    let marked = h + shifted on_ground ground_field in
    let above = call * 2 + kind_above strike_kind ground_field in (
      omega arith,
      field_packed w h on_ground (put + above) ground_field (omega arith) (omega arith) (omega arith),
      field_packed w marked put (call + kind_above strike_kind put_field) put_field (omega arith) (omega arith)
          (omega arith),
      field_packed w (marked + shifted put put_field) call (kind_above strike_kind call_field) call_field (omega arith)
          (omega arith) (omega arith),
    )

pub counter_fields :
    (w own strikes : ℕ) → Fits (Counter own strikes) → packed (Counter own strikes) ≡ w
    → (key_of counter_kind w ≡ own) × (field w strikes_field ≡ strikes)
counter_fields w own strikes fits e = (
  omega arith,
  field_packed w own strikes (kind_above counter_kind strikes_field) strikes_field (omega arith) (omega arith)
      (omega arith),
)

pub fields_packed : (x : Word) → Fits x → fields_as (kind_of (packed x)) (packed x) ≡ x
fields_packed x fits = ap (λ (k : ℕ). fields_as k (packed x)) (kind_packed x (packed x) fits refl) ∙ go x fits
  where
    go : (y : Word) → Fits y → fields_as (kind_in y) (packed y) ≡ y
    go (Head now used) f = let e = head_fields (packed (Head now used)) now used f refl in λ i. Head (e.0 i) (e.1 i)
    go (Class number ds) f =
        let e = class_fields (packed (Class number ds)) number ds f refl in
        λ i. Class (e.0 i) (e.1 i)
    go (Close price) f = let e : key_of close_kind (packed (Close price)) ≡ price = omega arith in ap Close e
    go (Volume contracts) f =
        let e : key_of volume_kind (packed (Volume contracts)) ≡ contracts = omega arith in ap Volume e
    go (Expiration month) f =
        let e : key_of expiration_kind (packed (Expiration month)) ≡ month = omega arith in ap Expiration e
    go (Strike h on_ground put call) f =
        let e = strike_fields (packed (Strike h on_ground put call)) h on_ground put call f refl in
        λ i. Strike (e.0 i) (e.1 i) (e.2 i) (e.3 i)
    go (DayPrice price) f = let e : key_of day_price_kind (packed (DayPrice price)) ≡ price = omega arith in
        ap DayPrice e
    go (Counter own strikes) f =
        let e = counter_fields (packed (Counter own strikes)) own strikes f refl in λ i. Counter (e.0 i) (e.1 i)
    go Invalid f = refl

-- reading a packed word gives its fields back
pub reading_packed : (x : Word) → is_legal x ≡ true → reading (packed x) ≡ x
unfolding reading
reading_packed x legal = rw (fields_packed x (legal_fits x legal), legal, eq-eqb (packed x) (packed x) refl)

-- two legal words are never packed alike
pub packed_injective : (x y : Word) → is_legal x ≡ true → is_legal y ≡ true → packed x ≡ packed y → x ≡ y
packed_injective x y hx hy e = sym (reading_packed x hx) ∙ ap reading e ∙ reading_packed y hy

-- what is chosen and not Invalid was chosen by a passed test
chosen : (test : Bool) (y x : Word) → cond test y Invalid ≡ x → (x ≡ Invalid → ⊥) → (test ≡ true) × (y ≡ x)
chosen true y x e valid = (refl, e)
chosen false y x e valid = absurd (valid (sym e))

-- whatever a word says, it is that thing's word: no limit broken, no stray bit
pub reading_says : (w : ℕ) (x : Word) → reading w ≡ x → (x ≡ Invalid → ⊥) → (is_legal x ≡ true) × (packed x ≡ w)
unfolding reading
reading_says w x e valid =
    let y = fields_as (kind_of w) w in
    let p = chosen (is_legal y && eqb (packed y) w) y x e valid in
    let passed : (is_legal y && eqb (packed y) w) ≡ true = p.0 in
    (sym (ap is_legal p.1) ∙ search parts, sym (ap packed p.1) ∙ eqb-true (packed y) w (search parts))
