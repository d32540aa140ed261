-- Every line of the form is read as it is written, its numbers capped: digit by digit, then number by number, by
-- recursion on the form.
use mathlib.Core.Path.{◌≡◌, refl, ap, ◌∙◌}
use Prim.Native.Nat.{ℕ, suc, ◌+◌, ◌*◌, ◌-◌, ◌≤◌, ◌<◌}
use native.Mathlib.Omega.{arith}
use native.Mathlib.Numerals.{add-one}
use mathlib.Core.List.{List, ◌∷◌, ◌++◌, map}
use lib.ListN.{length, set}
use lib.Seq.{sets}
use borrow.Author.Tests.{lt-leb, le-ltb, ne_eqb}
use Rattle.text.specs.declared.line.Phase.{Phase}
use Rattle.text.specs.declared.line.Phase.TheVariants.{Letter, Space, Zero, Number}
use Rattle.text.specs.declared.line.Line.{Line}
use Rattle.text.specs.Alphabet.{space, zero_digit, nine_digit, first_letter, last_letter, base}
use Rattle.text.specs.Reading.{numbers_kept, capped, zeros, empty_line, push_of, feed_by, feed_of, end_by, end_of, run_of, line_of}
use Rattle.text.specs.Grammar.{Digits, Numeral, Numerals, Formed, no_digits, a_digit, lone_zero, leading, no_numbers, a_number, value_from, spaced, line_text, held, line_for}

-- the cap may be applied at each digit
pub capped_more : (v d : ℕ) → capped (base * capped v + d) ≡ capped (base * v + d)
capped_more v d = omega arith

abbrev pub state : Phase → ℕ → ℕ → ℕ → List ℕ → Line
state p c v k ns = record { phase = p; letter = c; value = v; count = k; numbers = ns }

feed_digit : (b c v k : ℕ) (ns : List ℕ) → zero_digit ≤ b → b ≤ nine_digit
    → feed_of (state Number c (capped v) k ns) b ≡ state Number c (capped (base * v + (b - zero_digit))) k ns
unfolding feed_by
feed_digit b c v k ns low high =
    simp (
      ne_eqb b space (λ e. omega arith),
      le-ltb b zero_digit low,
      le-ltb nine_digit b high,
      capped_more v (b - zero_digit),
    )

run_digits : {ds : List ℕ} → Digits ds → (c v k : ℕ) (ns rest : List ℕ)
    → run_of (state Number c (capped v) k ns) (ds ++ rest)
    ≡ run_of (state Number c (capped (value_from v ds)) k ns) rest
unfolding run_of value_from
run_digits no_digits c v k ns rest = refl
run_digits (a_digit {b} {ds} low high more) c v k ns rest =
    ap (λ (l : Line). run_of l (ds ++ rest)) (feed_digit b c v k ns low high)
    ∙ run_digits more c (base * v + (b - zero_digit)) k ns rest

-- the phases in which a number may end
pub data Pending : Phase → Type 0 where
  at_zero : Pending Zero
  in_number : Pending Number

phase_of : {t : List ℕ} → Numeral t → Phase
phase_of lone_zero = Zero
phase_of (leading low high ds) = Number

pending : {t : List ℕ} (r : Numeral t) → Pending (phase_of r)
unfolding phase_of
pending lone_zero = at_zero
pending (leading low high ds) = in_number

-- a whole number is read
run_number : {t : List ℕ} (r : Numeral t) (c k : ℕ) (ns rest : List ℕ)
    → run_of (state Space c 0 k ns) (t ++ rest) ≡ run_of (state (phase_of r) c (held t) k ns) rest
unfolding run_of value_from feed_by phase_of
run_number lone_zero c k ns rest = refl
run_number (leading {b} {ds} low high more) c k ns rest =
    let first : feed_of (state Space c 0 k ns) b ≡ state Number c (capped (base * 0 + (b - zero_digit))) k ns =
    simp (le-ltb b zero_digit (omega arith), le-ltb nine_digit b high, ne_eqb b zero_digit (λ e. omega arith))
    (ap (λ (v : ℕ). state Number c v k ns) (omega arith)) in
    ap (λ (l : Line). run_of l (ds ++ rest)) first ∙ run_digits more c (base * 0 + (b - zero_digit)) k ns rest

pub push_room : (p q : Phase) (c v k : ℕ) (ns : List ℕ) → k < numbers_kept
    → push_of (state p c v k ns) q ≡ state q c 0 (k + 1) (set ns k v)
push_room p q c v k ns h = simp (lt-leb numbers_kept k h)

pub feed_space : {p : Phase} → Pending p → (c v k : ℕ) (ns : List ℕ) → k < numbers_kept
    → feed_of (state p c v k ns) space ≡ state Space c 0 (k + 1) (set ns k v)
unfolding feed_by
feed_space at_zero c v k ns h = push_room Zero Space c v k ns h
feed_space in_number c v k ns h = push_room Number Space c v k ns h

pub end_number : {p : Phase} → Pending p → (c v k : ℕ) (ns : List ℕ) → k < numbers_kept
    → end_of (state p c v k ns) ≡ state Letter c 0 (k + 1) (set ns k v)
unfolding end_by
end_number at_zero c v k ns h = push_room Zero Letter c v k ns h
end_number in_number c v k ns h = push_room Number Letter c v k ns h

-- the numbers after one that is read but not ended
run_rest : {ts : List (List ℕ)} → Numerals ts → {p : Phase} → Pending p → (c v k : ℕ) (ns : List ℕ)
    → k + length ts < numbers_kept
    → end_of (run_of (state p c v k ns) (spaced ts))
    ≡ state Letter c 0 (k + 1 + length ts) (sets ns k (v ∷ map held ts))
unfolding run_of spaced
run_rest no_numbers w c v k ns h =
    end_number w c v k ns (omega arith) ∙ ap (λ (j : ℕ). state Letter c 0 j (set ns k v)) (omega arith)
run_rest (a_number {t} {ts} r rs) {p} w c v k ns h =
    ap (λ (l : Line). end_of (run_of l (t ++ spaced ts))) (feed_space w c v k ns (omega arith))
    ∙ ap end_of (run_number r c (k + 1) (set ns k v) (spaced ts))
    ∙ run_rest rs (pending r) c (held t) (k + 1) (set ns k v) (omega arith)
    ∙ ap (λ (j : ℕ). state Letter c 0 j (sets (set ns k v) (k + 1) (held t ∷ map held ts))) (omega arith)
    ∙ ap (λ (j : ℕ). state Letter c 0 (k + 1 + suc (length ts)) (sets (set ns k v) j (held t ∷ map held ts)))
    (add-one k)

read_text : (c : ℕ) {ts : List (List ℕ)} → first_letter ≤ c → c ≤ last_letter → Numerals ts → length ts ≤ numbers_kept
    → line_of (line_text c ts) ≡ line_for c ts
unfolding run_of spaced feed_by end_by
read_text c low high no_numbers h =
    let first : feed_of empty_line c ≡ state Letter c 0 0 zeros =
    simp (le-ltb c first_letter low, le-ltb last_letter c high) in
    ap end_of first
read_text c low high (a_number {t} {ts} r rs) h =
    let first : feed_of empty_line c ≡ state Letter c 0 0 zeros =
    simp (le-ltb c first_letter low, le-ltb last_letter c high) in
    ap (λ (l : Line). end_of (run_of (feed_of l space) (t ++ spaced ts))) first
    ∙ ap end_of (run_number r c 0 zeros (spaced ts))
    ∙ run_rest rs (pending r) c (held t) 0 zeros (omega arith)
    ∙ ap (λ (j : ℕ). state Letter c 0 j (sets zeros 0 (held t ∷ map held ts))) (omega arith)

-- a line of the form with at most five numbers is read as it is written
pub complete : {s : List ℕ} {c : ℕ} {ts : List (List ℕ)} → Formed s c ts → length ts ≤ numbers_kept
    → line_of s ≡ line_for c ts
complete {s} {c} {ts} f few = ap line_of f.same ∙ read_text c f.low f.high f.numerals few
