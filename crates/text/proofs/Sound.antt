-- No other line is read as well formed: what may follow each phase, by recursion on the bytes that are left.
use mathlib.Core.Path.{◌≡◌, refl, ap, subst, ◌∙◌}
use mathlib.Core.Logic.{◌⊎◌, inl, inr, ⊎_elim}
use mathlib.Core.Bool.{true, false}
use mathlib.Core.List.{List, [], ◌∷◌, ◌++◌}
use Prim.Native.Nat.{ℕ, ◌+◌, ◌*◌, ◌-◌, ◌≤◌, ◌<◌}
use native.Mathlib.Omega.{arith}
use lib.Dec.{leb}
use lib.ListN.{length, set}
use borrow.Author.Tests.{le-leb, lt-ltb, le-ltb, eq-eqb, ne_eqb}
use Rattle.text.specs.declared.line.Phase.{Phase}
use Rattle.text.specs.declared.line.Phase.TheVariants.{Start, Letter, Space, Zero, Number, Malformed}
use Rattle.text.specs.declared.line.Line.{Line}
use Rattle.text.specs.Alphabet.{space, zero_digit, nine_digit, first_letter, last_letter, base}
use Rattle.text.specs.Reading.{numbers_kept, capped, zeros, malformed_line, push_of, feed_by, feed_of, end_by, end_of, run_of, line_of}
use Rattle.text.specs.Grammar.{Digits, Numeral, Numerals, Formed, no_digits, a_digit, lone_zero, leading, no_numbers, a_number, spaced, line_text}
use Rattle.logic.proofs.Tests.{bool_cases, lt_or_le, eq_or_not}
use Rattle.text.proofs.Complete.{state, push_room}

-- the line is well formed if s follows the state l
abbrev Ends : Line → List ℕ → Type 0
Ends l s = (end_of (run_of l s)).phase ≡ Letter

pub run_malformed : (s : List ℕ) → run_of malformed_line s ≡ malformed_line
unfolding run_of feed_by
run_malformed [] = refl
run_malformed (b ∷ s) = run_malformed s

malformed_never : (s : List ℕ) → Ends malformed_line s → ⊥
unfolding end_by
malformed_never s h =
    let e : (end_of (run_of malformed_line s)).phase ≡ Malformed =
    ap (λ (l : Line). (end_of l).phase) (run_malformed s) in
    let z : ◌≡◌ {A = ℕ} 0 1 = cc in
    omega arith

-- one byte on
on : (b : ℕ) (s : List ℕ) (l l' : Line) → feed_of l b ≡ l' → Ends l (b ∷ s) → Ends l' s
unfolding run_of
on b s l l' e h = subst (λ (m : Line). Ends m s) e h

-- what may follow a phase with k numbers ended
unfoldable pub Follows : ℕ → Phase → List ℕ → Type 0
Follows k Start s = (c : ℕ) × (ts : List (List ℕ)) × (first_letter ≤ c) × (c ≤ last_letter) × Numerals ts
    × (length ts ≤ numbers_kept) × (s ≡ line_text c ts)
Follows k Letter s = (ts : List (List ℕ)) × Numerals ts × (k + length ts ≤ numbers_kept) × (s ≡ spaced ts)
Follows k Space s = (t : List ℕ) × (ts : List (List ℕ)) × Numeral t × Numerals ts × (k + 1 + length ts ≤ numbers_kept)
    × (s ≡ t ++ spaced ts)
Follows k Zero s = (ts : List (List ℕ)) × Numerals ts × (k + 1 + length ts ≤ numbers_kept) × (s ≡ spaced ts)
Follows k Number s = (ds : List ℕ) × (ts : List (List ℕ)) × Digits ds × Numerals ts
    × (k + 1 + length ts ≤ numbers_kept) × (s ≡ ds ++ spaced ts)
Follows k Malformed s = ⊥

push_full : (p q : Phase) (c v k : ℕ) (ns : List ℕ) → numbers_kept ≤ k → push_of (state p c v k ns) q ≡ malformed_line
push_full p q c v k ns h = simp (le-leb numbers_kept k h)

malformed_phase : (l : Line) → l ≡ malformed_line → l.phase ≡ Letter → ⊥
malformed_phase l e h =
    let b : l.phase ≡ Malformed = ap (λ (m : Line). m.phase) e in
    let z : ◌≡◌ {A = ℕ} 0 1 = cc in
    omega arith

-- a number may end where fewer than five have
push_ends : (p : Phase) (c v k : ℕ) (ns : List ℕ) → (push_of (state p c v k ns) Letter).phase ≡ Letter
    → k < numbers_kept
push_ends p c v k ns h = ⊎_elim (λ lt. lt) (λ full. absurd (malformed_phase _ (push_full p Letter c v k ns full) h))
    (lt_or_le k numbers_kept)

pub follows : (s : List ℕ) (p : Phase) (c v k : ℕ) (ns : List ℕ) → k ≤ numbers_kept → Ends (state p c v k ns) s
    → Follows k p s
unfolding Follows run_of feed_by end_by spaced
follows [] Start c v k ns few h = absurd (malformed_never [] h)
follows [] Letter c v k ns few h = ([], no_numbers, omega arith, refl)
follows [] Space c v k ns few h = absurd (malformed_never [] h)
follows [] Zero c v k ns few h = ([], no_numbers, omega (arith, push_ends Zero c v k ns h), refl)
follows [] Number c v k ns few h = ([], [], no_digits, no_numbers, omega (arith, push_ends Number c v k ns h), refl)
follows [] Malformed c v k ns few h = malformed_never [] h
follows (b ∷ s) Start c v k ns few h =
    ⊎_elim
    (λ (under : b < first_letter). absurd
    (malformed_never s (on b s (state Start c v k ns) malformed_line (simp (lt-ltb b first_letter under)) h)))
    (λ (low : first_letter ≤ b).
    ⊎_elim
    (λ (over : last_letter < b). absurd
    (malformed_never s (on b s (state Start c v k ns) malformed_line
    (simp (le-ltb b first_letter low, lt-ltb last_letter b over)) h)))
    (λ (high : b ≤ last_letter).
    let r = follows s Letter b 0 0 zeros (omega arith)
    (on b s (state Start c v k ns) (state Letter b 0 0 zeros)
    (simp (le-ltb b first_letter low, le-ltb last_letter b high)) h) in
    (b, r.0, low, high, r.1, omega (arith, r.2), ap (λ (l : List ℕ). b ∷ l) r.3))
    (lt_or_le last_letter b))
    (lt_or_le b first_letter)
follows (b ∷ s) Letter c v k ns few h =
    ⊎_elim
    (λ (e : b ≡ space).
    let r = follows s Space c v k ns few
    (on b s (state Letter c v k ns) (state Space c v k ns) (simp (eq-eqb b space e)) h) in (
      r.0 ∷ r.1,
      a_number r.2 r.3,
      omega (arith, r.4),
      ap (λ (x : ℕ). x ∷ s) e ∙ ap (λ (l : List ℕ). space ∷ l) r.5,
    ))
    (λ differs. absurd (malformed_never s
    (on b s (state Letter c v k ns) malformed_line (simp (ne_eqb b space differs)) h)))
    (eq_or_not b space)
follows (b ∷ s) Space c v k ns few h =
    ⊎_elim
    (λ (under : b < zero_digit). absurd
    (malformed_never s (on b s (state Space c v k ns) malformed_line (simp (lt-ltb b zero_digit under)) h)))
    (λ (low : zero_digit ≤ b).
    ⊎_elim
    (λ (over : nine_digit < b). absurd
    (malformed_never s (on b s (state Space c v k ns) malformed_line
    (simp (le-ltb b zero_digit low, lt-ltb nine_digit b over)) h)))
    (λ (high : b ≤ nine_digit).
    ⊎_elim
    (λ (e : b ≡ zero_digit).
    let r = follows s Zero c 0 k ns few
    (on b s (state Space c v k ns) (state Zero c 0 k ns)
    (simp (le-ltb b zero_digit low, le-ltb nine_digit b high, eq-eqb b zero_digit e)) h) in
    (zero_digit ∷ [], r.0, lone_zero, r.1, r.2, ap (λ (x : ℕ). x ∷ s) e ∙ ap (λ (l : List ℕ). zero_digit ∷ l) r.3))
    (λ differs.
    let r = follows s Number c (b - zero_digit) k ns few
    (on b s (state Space c v k ns) (state Number c (b - zero_digit) k ns)
    (simp (le-ltb b zero_digit low, le-ltb nine_digit b high, ne_eqb b zero_digit differs)) h) in
    (b ∷ r.0, r.1, leading (omega (arith, differs)) high r.2, r.3, r.4, ap (λ (l : List ℕ). b ∷ l) r.5))
    (eq_or_not b zero_digit))
    (lt_or_le nine_digit b))
    (lt_or_le b zero_digit)
follows (b ∷ s) Zero c v k ns few h =
    ⊎_elim
    (λ (e : b ≡ space).
    ⊎_elim
    (λ (room : k < numbers_kept).
    let r = follows s Space c 0 (k + 1) (set ns k v) (omega arith)
    (on b s (state Zero c v k ns) (state Space c 0 (k + 1) (set ns k v))
    (simp (eq-eqb b space e) (push_room Zero Space c v k ns room)) h) in (
      r.0 ∷ r.1,
      a_number r.2 r.3,
      omega (arith, r.4),
      ap (λ (x : ℕ). x ∷ s) e ∙ ap (λ (l : List ℕ). space ∷ l) r.5,
    ))
    (λ (full : numbers_kept ≤ k). absurd
    (malformed_never s (on b s (state Zero c v k ns) malformed_line
    (simp (eq-eqb b space e) (push_full Zero Space c v k ns full)) h)))
    (lt_or_le k numbers_kept))
    (λ differs. absurd (malformed_never s
    (on b s (state Zero c v k ns) malformed_line (simp (ne_eqb b space differs)) h)))
    (eq_or_not b space)
follows (b ∷ s) Number c v k ns few h =
    ⊎_elim
    (λ (e : b ≡ space).
    ⊎_elim
    (λ (room : k < numbers_kept).
    let r = follows s Space c 0 (k + 1) (set ns k v) (omega arith)
    (on b s (state Number c v k ns) (state Space c 0 (k + 1) (set ns k v))
    (simp (eq-eqb b space e) (push_room Number Space c v k ns room)) h) in (
      [],
      r.0 ∷ r.1,
      no_digits,
      a_number r.2 r.3,
      omega (arith, r.4),
      ap (λ (x : ℕ). x ∷ s) e ∙ ap (λ (l : List ℕ). space ∷ l) r.5,
    ))
    (λ (full : numbers_kept ≤ k). absurd
    (malformed_never s (on b s (state Number c v k ns) malformed_line
    (simp (eq-eqb b space e) (push_full Number Space c v k ns full)) h)))
    (lt_or_le k numbers_kept))
    (λ differs.
    ⊎_elim
    (λ (under : b < zero_digit). absurd
    (malformed_never s (on b s (state Number c v k ns) malformed_line
    (simp (ne_eqb b space differs, lt-ltb b zero_digit under)) h)))
    (λ (low : zero_digit ≤ b).
    ⊎_elim
    (λ (over : nine_digit < b). absurd
    (malformed_never s (on b s (state Number c v k ns) malformed_line
    (simp (ne_eqb b space differs, le-ltb b zero_digit low, lt-ltb nine_digit b over)) h)))
    (λ (high : b ≤ nine_digit).
    let r = follows s Number c (capped (base * v + (b - zero_digit))) k ns few
    (on b s (state Number c v k ns) (state Number c (capped (base * v + (b - zero_digit))) k ns)
    (simp (ne_eqb b space differs, le-ltb b zero_digit low, le-ltb nine_digit b high)) h) in
    (b ∷ r.0, r.1, a_digit low high r.2, r.3, r.4, ap (λ (l : List ℕ). b ∷ l) r.5))
    (lt_or_le nine_digit b))
    (lt_or_le b zero_digit))
    (eq_or_not b space)
follows (b ∷ s) Malformed c v k ns few h = malformed_never s h

-- a line that has ended is at Letter, or is the malformed one
pushed_line : (l : Line) → ((push_of l Letter).phase ≡ Letter) ⊎ (push_of l Letter ≡ malformed_line)
pushed_line l =
    let full = leb numbers_kept l.count in
    ⊎_elim (λ (e : full ≡ true). inr (rw e)) (λ (e : full ≡ false). inl (rw e)) (bool_cases full)

pub ended : (p : Phase) (l : Line) → l.phase ≡ p → ((end_by p l).phase ≡ Letter) ⊎ (end_by p l ≡ malformed_line)
unfolding end_by
ended Start l e = inr refl
ended Letter l e = inl e
ended Space l e = inr refl
ended Zero l e = pushed_line l
ended Number l e = pushed_line l
ended Malformed l e = inr refl

-- a line that is read as well formed has the form, with at most five numbers
pub sound : (s : List ℕ) → (line_of s).phase ≡ Letter
    → (c : ℕ) × (ts : List (List ℕ)) × Formed s c ts × (length ts ≤ numbers_kept)
unfolding Follows
sound s h =
    let r = follows s Start 0 0 0 zeros (omega arith) h in
    (r.0, r.1, record { low = r.2; high = r.3; numerals = r.4; same = r.6 }, r.5)
