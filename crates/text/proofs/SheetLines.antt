-- The lines of a sheet one by one: the line that begins at a place, those after it, and its end, by the byte there and
-- where a search for a line feed stops. Assumes nothing.
use Prim.Native.Nat.{ℕ, suc, ◌+◌, ◌≤◌, ◌<◌}
use mathlib.Core.Path.{◌≡◌, refl, sym, ap, ◌∙◌}
use mathlib.Core.Bool.{true, false, not}
use mathlib.Core.Logic.{⊎_elim}
use mathlib.Core.List.{List, [], ◌∷◌}
use native.Mathlib.Omega.{arith}
use native.Mathlib.Numerals.{add-one, one-add}
use lib.Dec.{eqb}
use lib.ListN.{length, take, drop, get_or, drop_of_length-le}
use lib.Seq.{drop-cons, drop-drop}
use borrow.Author.Tests.{lt-ltb, le-ltb, eq-eqb, ne_eqb}
use Rattle.std.specs.List.{position, position_or_len}
use Rattle.std.specs.Option.{unwrap_or}
use Rattle.std.proofs.lemmas.List.Sums.{prefix_len-le-length}
use Rattle.std.proofs.lemmas.List.Recursion.{is_position_or_len}
use Rattle.logic.proofs.Tests.{bool_cases, lt_or_le}
use Rattle.logic.proofs.Slices.{drop_min}
use Rattle.text.specs.Alphabet.{line_feed}
use Rattle.text.specs.SheetLines.{with_byte, lines_of, line_end, line_at, next_line}

line_first :
    (b : ℕ) (s : List ℕ)
    → lines_of (b ∷ s) ≡ take (line_end (b ∷ s)) (b ∷ s) ∷ lines_of (drop (suc (line_end (b ∷ s))) (b ∷ s))
unfolding lines_of line_end
line_first b [] =
    ⊎_elim (λ (e : eqb b line_feed ≡ true). rw e) (λ (e : eqb b line_feed ≡ false). rw e) (bool_cases (eqb b line_feed))
line_first b (d ∷ s) =
    ⊎_elim
    (λ (e : eqb b line_feed ≡ true). rw e)
    (λ (e : eqb b line_feed ≡ false). rw e (ap (with_byte b) (line_first d s)))
    (bool_cases (eqb b line_feed))

-- the lines from a place on: the one that begins there, and those after it
pub line_next :
    (sheet : List ℕ) (from : ℕ) → from < length sheet
    → lines_of (drop from sheet) ≡ line_at sheet from ∷ lines_of (drop (next_line sheet from) sheet)
line_next sheet from l =
    let s = drop from sheet in
    let first : lines_of s ≡ line_at sheet from ∷ lines_of (drop (suc (line_end s)) s) =
    rw (drop-cons sheet from 0 l) (line_first (get_or sheet from 0) (drop (suc from) sheet)) in
    let after : from + suc (line_end s) ≡ suc (from + line_end s) = omega arith in
    first ∙ rw (drop_min sheet (suc (from + line_end s)), drop-drop (suc (line_end s)) from sheet, after)

-- ---- the line end

-- the line end from a place on, by the byte there
module _ (s : List ℕ) (i : ℕ) where
  pub end_here : i < length s → get_or s i 0 ≡ line_feed → line_end (drop i s) ≡ 0
  unfolding line_end
  end_here l e = rw (drop-cons s i 0 l, eq-eqb (get_or s i 0) line_feed e)

  pub end_later : i < length s → (get_or s i 0 ≡ line_feed → ⊥) → line_end (drop i s) ≡ suc (line_end (drop (i + 1) s))
  unfolding line_end
  end_later l differs = rw (add-one, drop-cons s i 0 l, ne_eqb (get_or s i 0) line_feed differs)

  pub end_none : length s ≤ i → line_end (drop i s) ≡ 0
  unfolding line_end
  end_none l = rw (drop_of_length-le s l)

pub ruleset end_laws = (end_here, end_later, end_none)

-- it is where a search for a line feed ends
end_place : (s : List ℕ) → line_end s ≡ position_or_len (λ b. eqb b line_feed) s
unfolding line_end
end_place s = is_position_or_len line_end (λ b. eqb b line_feed) refl (λ b t. rw one-add) s

pub end_within : (s : List ℕ) → line_end s ≤ length s
end_within s = rw (end_place s) (prefix_len-le-length (λ b. not (eqb b line_feed)) s)

pub end_found : (s : List ℕ) → unwrap_or (position (λ b. eqb b line_feed) s) (length s) ≡ line_end s
end_found s =
    let place = position_or_len (λ b. eqb b line_feed) s in
    ⊎_elim
    (λ (h : place < length s). rw (lt-ltb place (length s) h) (sym (end_place s)))
    (λ (h : length s ≤ place). rw (le-ltb place (length s) h) (omega (arith, end_place s, end_within s)))
    (lt_or_le place (length s))
