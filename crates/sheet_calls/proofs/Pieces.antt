-- What the bytes of a sheet make, in pieces or whole, is what the calls of its lines ask for: the line so far is what
-- its bytes read give, and the call of capped numbers that is held is judged and answered like the call on the sheet.
-- By recursion on the sheet. Assumes nothing.
use Prim.Native.Nat.{ℕ}
use mathlib.Core.Path.{◌≡◌, refl, sym, ap, ◌∙◌}
use mathlib.Core.Logic.{⊎_elim}
use mathlib.Core.Bool.{Bool, true, false, cond}
use mathlib.Core.List.{List, [], ◌∷◌, ◌++◌, map, append_assoc, append-nil}
use lib.Dec.{eqb}
use Rattle.book.specs.Calls.{Call, steps}
use Rattle.book.specs.CallLists.{second_after}
use Rattle.book.specs.Letters.{call_of}
use Rattle.text.specs.declared.line.Phase.{Phase}
use Rattle.text.specs.declared.line.Phase.TheVariants.{Start, Letter, Space, Zero, Number, Malformed}
use Rattle.text.specs.declared.line.Line.{Line}
use Rattle.text.specs.Alphabet.{line_feed}
use Rattle.text.specs.Reading.{capped, empty_line, feed_by, feed_of, end_of, run_of}
use Rattle.text.specs.SheetLines.{with_byte, lines_of}
use Rattle.logic.proofs.Tests.{bool_cases}
use Rattle.sheet_calls.specs.LineCalls.{call_in, call_held}
use Rattle.sheet_calls.specs.Sheets.{calls_in}
use Rattle.sheet_calls.specs.Pieces.{Reader, call_ended, call_made, byte_read, bytes_read, has_begun, last_ended, replies_to, calls_made}
use Rattle.sheet_calls.proofs.Limited.{same_answer, same_written, same_step}
use Rattle.sheet_calls.proofs.Lines.{call_read}

-- ---- one line

-- the bytes of a line in two parts
run_append : (l : Line) (a b : List ℕ) → run_of l (a ++ b) ≡ run_of (run_of l a) b
unfolding run_of
run_append l [] b = refl
run_append l (x ∷ a) b = run_append (feed_of l x) a b

-- either of two lines that have begun
begun_either :
    (b : Bool) (k l : Line) → has_begun k.phase ≡ true → has_begun l.phase ≡ true
    → has_begun (cond b k l).phase ≡ true
begun_either true k l this other = this
begun_either false k l this other = other

-- a line with a byte more has begun
begun_fed : (p : Phase) (l : Line) (b : ℕ) → has_begun (feed_by p l b).phase ≡ true
unfolding feed_by has_begun
begun_fed Start l b = search begun_either
begun_fed Letter l b = search begun_either
begun_fed Space l b = search begun_either
begun_fed Zero l b = search begun_either
begun_fed Number l b = search begun_either
begun_fed Malformed l b = refl

begun_run : (l : Line) (b : ℕ) (s : List ℕ) → has_begun (run_of l (b ∷ s)).phase ≡ true
unfolding run_of
begun_run l b [] = begun_fed l.phase l b
begun_run l b (d ∷ s) = begun_run (feed_of l b) d s

-- ---- its call

same_made :
    (n room c : ℕ) (ns : List ℕ) (r : Reader)
    → call_made n room (call_of c (map capped ns)) r ≡ call_made n room (call_of c ns) r
unfolding call_made
same_made n room c ns r =
    let f = r.facts in
    rw (same_step f c ns n, same_written f c ns n room, same_answer f c ns n room)

-- ---- the lines of a sheet that begins with the bytes l, none of which ends a line

abbrev with_front : List ℕ → List (List ℕ) → List (List ℕ)
with_front [] ls = ls
with_front (c ∷ l) [] = (c ∷ l) ∷ []
with_front (c ∷ l) (k ∷ ls) = (c ∷ (l ++ k)) ∷ ls

front_ended : (l : List ℕ) (ls : List (List ℕ)) → with_front l ([] ∷ ls) ≡ l ∷ ls
front_ended [] ls = refl
front_ended (c ∷ l) ls = rw (append-nil l)

front_byte : (l : List ℕ) (b : ℕ) (ls : List (List ℕ)) → with_front l (with_byte b ls) ≡ with_front (l ++ (b ∷ [])) ls
front_byte [] b [] = refl
front_byte [] b (k ∷ ls) = refl
front_byte (c ∷ l) b [] = refl
front_byte (c ∷ l) b (k ∷ ls) = rw (append_assoc l (b ∷ []) k)

-- ---- a reader whose line has been read up to the bytes l

module _ (n room : ℕ) where
  line_made :
      (r : Reader) (l : List ℕ) → r.line ≡ run_of empty_line l
      → call_made n room (call_ended r) r ≡ call_made n room (call_in l) r
  line_made r l e =
      let read = call_read l in
      ap (λ (x : Call). call_made n room x r) (ap (λ (k : Line). call_held (end_of k)) e ∙ read.is_held)
      ∙ same_made n room read.letter read.numbers r
      ∙ ap (λ (x : Call). call_made n room x r) (sym read.on_sheet)

  made_first :
      (x : Call) (xs : List Call) (r : Reader)
      → calls_made n room xs (call_made n room x r) ≡ calls_made n room (x ∷ xs) r
  unfolding call_made steps second_after replies_to
  made_first x xs r = simp append_assoc

  made_none : (r : Reader) → r.line ≡ empty_line → r ≡ calls_made n room [] r
  unfolding steps second_after replies_to
  made_none r e = λ i. record { line = e i; facts = r.facts; second = r.second; text = sym (append-nil r.text) i }

  -- its calls are those of the lines that begin with l
  read_from : (s : List ℕ) (r : Reader) (l : List ℕ) → r.line ≡ run_of empty_line l
      → last_ended n room (bytes_read n room r s) ≡ calls_made n room (map call_in (with_front l (lines_of s))) r
  unfolding last_ended bytes_read byte_read call_made lines_of run_of has_begun
  read_from [] r [] e =
      let not-begun : has_begun r.line.phase ≡ false = ap (λ (k : Line). has_begun k.phase) e in
      rw not-begun (made_none r e)
  read_from [] r (c ∷ l) e =
      let begun : has_begun r.line.phase ≡ true =
      ap (λ (k : Line). has_begun k.phase) e ∙ begun_run empty_line c l in
      let x : Call = call_in (c ∷ l) in
      rw begun (line_made r (c ∷ l) e ∙ made_none (call_made n room x r) refl ∙ made_first x [] r)
  read_from (b ∷ s) r l e =
      ⊎_elim
      (λ (is : eqb b line_feed ≡ true).
      let x : Call = call_in l in
      let made : byte_read n room r b ≡ call_made n room x r = rw is (line_made r l e) in
      let lines : with_front l (lines_of (b ∷ s)) ≡ l ∷ lines_of s = rw is (front_ended l (lines_of s)) in
      ap (λ (q : Reader). last_ended n room (bytes_read n room q s)) made
      ∙ read_from s (call_made n room x r) [] refl
      ∙ made_first x (calls_in s) r
      ∙ ap (λ (ls : List (List ℕ)). calls_made n room (map call_in ls) r) (sym lines))
      (λ (is : eqb b line_feed ≡ false).
      let fed : Reader = record { line = feed_of r.line b; facts = r.facts; second = r.second; text = r.text } in
      let made : byte_read n room r b ≡ fed = rw is in
      let lines : with_front l (lines_of (b ∷ s)) ≡ with_front (l ++ (b ∷ [])) (lines_of s) =
      rw is (front_byte l b (lines_of s)) in
      ap (λ (q : Reader). last_ended n room (bytes_read n room q s)) made
      ∙ read_from s fed (l ++ (b ∷ [])) (ap (λ (k : Line). feed_of k b) e ∙ sym (run_append empty_line l (b ∷ [])))
      ∙ ap (λ (ls : List (List ℕ)). calls_made n room (map call_in ls) r) (sym lines))
      (bool_cases (eqb b line_feed))

  -- a whole sheet from a line that has not begun, its last line ended with it
  pub sheet_read : (s : List ℕ) (r : Reader) → r.line ≡ empty_line
      → last_ended n room (bytes_read n room r s) ≡ calls_made n room (calls_in s) r
  unfolding run_of
  sheet_read s r e = read_from s r [] e
