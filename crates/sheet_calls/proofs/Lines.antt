-- A line is read as the call that it is, its numbers capped, and as malformed where it is of no form: by whether the
-- reading ends well. Assumes nothing.
use mathlib.Core.Path.{◌≡◌, refl, sym, ap, ◌∙◌}
use mathlib.Core.Logic.{◌⊎◌, inl, inr, ⊎_elim}
use mathlib.Core.Bool.{Bool, true, false, ◌&&◌}
use mathlib.Core.List.{List, [], ◌∷◌, map, map-map}
use Prim.Native.Nat.{ℕ, suc, ◌≤◌, ◌<◌}
use native.Mathlib.Omega.{arith}
use lib.ListN.{length, take}
use lib.Seq.{sets}
use borrow.Author.Tests.{le-leb}
use Rattle.word.specs.Limits.{between}
use Rattle.logic.specs.Lists.{every}
use Rattle.book.specs.Calls.{malformed}
use Rattle.book.specs.Letters.{call_of}
use Rattle.text.specs.declared.line.Phase.TheVariants.{Letter}
use Rattle.text.specs.declared.line.Line.{Line}
use Rattle.text.specs.Alphabet.{first_letter, last_letter}
use Rattle.text.specs.Reading.{numbers_kept, capped, zeros, malformed_line, empty_line, run_of, line_of}
use Rattle.text.specs.Grammar.{Formed, number_in, is_numeral, first_part, later_parts, held}
use Rattle.logic.proofs.Tests.{parts, bool_cases, lt_or_le}
use Rattle.text.proofs.Complete.{complete}
use Rattle.text.proofs.Sound.{ended, sound}
use Rattle.text.proofs.LineParts.{between_both, numerals_true, true_numerals, joined, first_formed, later_formed}
use Rattle.sheet_calls.specs.LineCalls.{call_of_parts, call_in, call_held}

-- ---- the call that a line is

-- a line of the form is the call of its letter and numbers
pub formed_call : {s : List ℕ} {c : ℕ} {ts : List (List ℕ)} → Formed s c ts → call_in s ≡ call_of c (map number_in ts)
unfolding call_of_parts
formed_call {s} {c} {ts} f =
    rw (first_formed f, later_formed f)
    (simp (le-leb first_letter c f.low, le-leb c last_letter f.high, numerals_true f.numerals))

-- any line is malformed, or it is of the form
parted :
    (s first : List ℕ) → first_part s ≡ first
    → (call_of_parts first (later_parts s) ≡ malformed) ⊎ ((c : ℕ) × Formed s c (later_parts s))
unfolding call_of_parts
parted s [] e = inl refl
parted s (c ∷ []) e =
    let test : Bool = between first_letter last_letter c && every is_numeral (later_parts s) in
    ⊎_elim
    (λ (h : test ≡ true).
    let range = between_both first_letter last_letter c (search parts) in
    let numerals = true_numerals (later_parts s) (search parts) in
    inr (c, record { low = range.0; high = range.1; numerals = numerals; same = rw e at (joined s) }))
    (λ (h : test ≡ false). inl (rw h))
    (bool_cases test)
parted s (c ∷ d ∷ more) e = inl refl

pub formed_or_malformed : (s : List ℕ) → (call_in s ≡ malformed) ⊎ ((c : ℕ) × Formed s c (later_parts s))
formed_or_malformed s = parted s (first_part s) refl

-- ---- the call that is read

-- the numbers that a line of the form keeps
numbers_kept_lem : (ns : List ℕ) → length ns ≤ numbers_kept → take (length ns) (sets zeros 0 ns) ≡ ns
numbers_kept_lem [] h = refl
numbers_kept_lem (a ∷ []) h = refl
numbers_kept_lem (a ∷ b ∷ []) h = refl
numbers_kept_lem (a ∷ b ∷ d ∷ []) h = refl
numbers_kept_lem (a ∷ b ∷ d ∷ e ∷ []) h = refl
numbers_kept_lem (a ∷ b ∷ d ∷ e ∷ f ∷ []) h = refl
numbers_kept_lem (a ∷ b ∷ d ∷ e ∷ f ∷ g ∷ more) h = absurd (omega arith)

length_held : (ts : List (List ℕ)) → length (map held ts) ≡ length ts
length_held [] = refl
length_held (t ∷ ts) = ap suc (length_held ts)

-- no call has more than five numbers
too_many : (c : ℕ) (ts : List (List ℕ)) → numbers_kept < length ts → call_of c (map number_in ts) ≡ malformed
unfolding call_of
too_many c [] h = refl
too_many c (a ∷ []) h = absurd (omega arith)
too_many c (a ∷ b ∷ []) h = absurd (omega arith)
too_many c (a ∷ b ∷ d ∷ []) h = absurd (omega arith)
too_many c (a ∷ b ∷ d ∷ e ∷ []) h = refl
too_many c (a ∷ b ∷ d ∷ e ∷ f ∷ []) h = absurd (omega arith)
too_many c (a ∷ b ∷ d ∷ e ∷ f ∷ g ∷ more) h = refl

-- the call on the sheet, and the call that is held of it
pub record CallRead (s : List ℕ) : Type 0 where
  pub letter : ℕ
  pub numbers : List ℕ
  pub on_sheet : call_in s ≡ call_of letter numbers
  pub is_held : call_held (line_of s) ≡ call_of letter (map capped numbers)

-- a line of the form is read as its call
formed_read : {s : List ℕ} {c : ℕ} {ts : List (List ℕ)} → Formed s c ts → length ts ≤ numbers_kept → CallRead s
formed_read {s} {c} {ts} f few =
    let all : take (length ts) (sets zeros 0 (map held ts)) ≡ map held ts =
    ap (λ (k : ℕ). take k (sets zeros 0 (map held ts))) (sym (length_held ts))
    ∙ numbers_kept_lem (map held ts) (rw (length_held ts) few) in
    record {
      letter = c;
      numbers = map number_in ts;
      on_sheet = formed_call f;
      is_held = ap call_held (complete f few) ∙ ap (call_of c) (all ∙ sym (map-map capped number_in ts));
    }

-- one that is malformed and read so names no call
malformed_read : {s : List ℕ} → call_in s ≡ malformed → line_of s ≡ malformed_line → CallRead s
unfolding call_of
malformed_read is unread = record { letter = 0; numbers = []; on_sheet = is; is_held = ap call_held unread }

-- Every line is read as the call that it is, each number capped: in both directions, since it is of the form, or
-- malformed and read so.
pub call_read : (s : List ℕ) → CallRead s
call_read s =
    let read : Line = run_of empty_line s in
    ⊎_elim
    (λ (h : (line_of s).phase ≡ Letter).
    let r = sound s h in
    formed_read r.2 r.3)
    (λ (unread : line_of s ≡ malformed_line).
    ⊎_elim
    (λ (e : call_in s ≡ malformed). malformed_read e unread)
    (λ r.
    ⊎_elim
    (λ many. malformed_read (formed_call r.1 ∙ too_many r.0 (later_parts s) many) unread)
    (λ few. formed_read r.1 few)
    (lt_or_le numbers_kept (length (later_parts s))))
    (formed_or_malformed s))
    (ended read.phase read refl)
