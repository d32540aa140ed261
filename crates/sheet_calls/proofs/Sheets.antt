-- A sheet read line by line: what the lines that are left make of the present words is what the whole sheet makes of
-- the first ones; by what one call makes of any words. Assumes nothing.
use Prim.Native.Nat.{ℕ, suc, ◌+◌, ◌*◌, ◌≤◌, ◌<◌}
use mathlib.Core.Path.{◌≡◌, refl, sym, ap, ◌∙◌, subst}
use mathlib.Core.Bool.{Bool, true, false}
use mathlib.Core.Logic.{⊎_elim}
use mathlib.Core.List.{List, [], ◌∷◌, map}
use native.Mathlib.Omega.{arith}
use lib.ListN.{length, drop, set, length-drop}
use Rattle.std.proofs.lemmas.List.{nil_from_length}
use lib.Seq.{sets}
use Rattle.word.specs.Answers.{Answer}
use Rattle.word.specs.Answers.{answer_number, answer_value}
use Rattle.book.specs.Books.{is_book}
use Rattle.book.specs.Calls.{Call, steps}
use Rattle.book.specs.CallLists.{answers_to, told, second_after}
use Rattle.book.specs.Made.{Made}
use Rattle.text.specs.SheetLines.{lines_of, line_at, next_line}
use Rattle.logic.proofs.Tests.{T_true, true_T, bool_cases}
use Rattle.book.proofs.Layouts.{book_facts}
use Rattle.book.proofs.Followed.{made_book}
use Rattle.text.proofs.SheetLines.{line_next}
use Rattle.sheet_calls.specs.LineCalls.{call_in, call_held}
use Rattle.sheet_calls.specs.Sheets.{calls_in, answers_over, words_after, second_over, SheetRun}
use Rattle.sheet_calls.proofs.CallsRead.{made_read}
use Rattle.text.specs.declared.line.Line.{Line}
use Rattle.text.specs.Reading.{line_of}
use native.Mathlib.Numerals.{add-one}

-- ---- one call of a list, over any words

record Next (x : Call) (w v : List ℕ) (r : Answer) (w' v' : List ℕ) : Type 0 where
  book : is_book w' ≡ is_book w
  answers : (xs : List Call) → answers_over w (length v) (x ∷ xs) ≡ r ∷ answers_over w' (length v) xs
  words : (xs : List Call) → words_after w (x ∷ xs) ≡ words_after w' xs
  second : (xs : List Call) → second_over w (x ∷ xs) v ≡ second_over w' xs v'

next :
    {x : Call} {w v w' v' : List ℕ} {r : Answer} → Made x w v r w' v' → length v' ≡ length v → Next x w v r w' v'
unfolding steps answers_to second_after
next {x} {w} {v} {w'} {v'} {r} m room = go (is_book w) refl
  where
    go : (b : Bool) → is_book w ≡ b → Next x w v r w' v'
    go true e =
        let left = made_book (true_T (is_book w) e) m in
        let still : is_book w' ≡ true = T_true (is_book w') left.0 in
        record {
          book = still ∙ sym e;
          answers = λ xs. rw (m.answer, e, still, left.1, left.2);
          words = λ xs. rw (e, still, left.1, left.2);
          second = λ xs. rw (room, m.second, e, still, left.1, left.2);
        }
    go false e =
        let same : w' ≡ w = rw e at m.words in
        record {
          book = ap is_book same;
          answers = λ xs. rw (m.answer, same, e);
          words = λ xs. rw (same, e);
          second = λ xs. rw (m.second, same, e);
        }

none_left :
    (w v : List ℕ) (room : ℕ) → (answers_over w room [] ≡ []) × (words_after w [] ≡ w) × (second_over w [] v ≡ v)
unfolding steps answers_to second_after
none_left w v room =
    ⊎_elim
    (λ (e : is_book w ≡ true). (rw e, rw e (book_facts w (true_T (is_book w) e)).1, rw e))
    (λ (e : is_book w ≡ false). (rw e, rw e, rw e))
    (bool_cases (is_book w))

-- ---- a sheet of which `lines` lines have been read, and `left` is left

pub record SheetSoFar
    (w₀ v₀ sheet answers₀ w v answers : List ℕ) (lines : ℕ) (left : List ℕ) : Type 0
  where
    pub few : lines + length left ≤ length sheet
    pub room : length v ≡ length v₀
    pub counted : lines + length (lines_of left) ≡ length (lines_of sheet)
    pub answered :
        sets answers (2 * lines) (told (answers_over w (length v₀) (calls_in left)))
        ≡ sets answers₀ 0 (told (answers_over w₀ (length v₀) (calls_in sheet)))
    pub words : words_after w (calls_in left) ≡ words_after w₀ (calls_in sheet)
    pub second : second_over w (calls_in left) v ≡ second_over w₀ (calls_in sheet) v₀

module _
    {w₀ v₀ sheet answers₀ w v answers left : List ℕ}
    {lines : ℕ}
    (i : SheetSoFar w₀ v₀ sheet answers₀ w v answers lines left)
  where
    -- one line more
    pub read_more :
        {line : Line} {x : Call} {left' w' v' numbered answers' : List ℕ} {r : Answer} {number value : ℕ}
        → 0 < length left
        → line ≡ line_of (line_at left 0) → left' ≡ drop (next_line left 0) left → Made x w v r w' v'
        → x ≡ call_held line → length v' ≡ length v → number ≡ answer_number r → value ≡ answer_value r
        → numbered ≡ set answers (2 * lines) number → answers' ≡ set numbered (2 * lines + 1) value
        → SheetSoFar w₀ v₀ sheet answers₀ w' v' answers' (lines + 1) left'
    read_more {line} {x} {left'} {w'} {v'} {numbered} {answers'} {r} some first after m call room number-is value-is
        put then =
        let split = line_next left 0 some in
        let calls = ap (map call_in) split in
        let rest = calls_in (drop (next_line left 0) left) in
        let made = next (made_read (line_at left 0) first (rw call at m)) room in
        let later = answers_over w' (length v₀) rest in
        let said : answers_over w (length v₀) (calls_in left) ≡ r ∷ later =
        ap (answers_over w (length v₀)) calls
        ∙ subst
        (λ (n : ℕ). answers_over w n (call_in (line_at left 0) ∷ rest) ≡ r ∷ answers_over w' n rest)
        i.room
        (made.answers rest) in
        let two : 2 * (lines + 1) ≡ suc (suc (2 * lines)) = omega arith in
        rw after
        (record {
          few = omega (arith, length-drop (next_line left 0) left);
          room = room ∙ i.room;
          counted = omega (arith, ap length split, i.counted);
          answered =
              rw (two, then, put, number-is, value-is, add-one)
              (ap (λ (rs : List Answer). sets answers (2 * lines) (told rs)) (sym said) ∙ i.answered);
          words = sym (ap (words_after w) calls ∙ made.words rest) ∙ i.words;
          second = sym (ap (λ (xs : List Call). second_over w xs v) calls ∙ made.second rest) ∙ i.second;
        })

    pub read_done : length left ≡ 0 → SheetRun w₀ v₀ sheet answers₀ lines w v answers
    unfolding lines_of
    read_done last =
        let none : left ≡ [] = nil_from_length left last in
        let done = none_left w v (length v₀) in
        record {
          lines = omega (arith, rw none at i.counted);
          answered =
              sym (ap (λ (rs : List Answer). sets answers (2 * lines) (told rs)) done.0) ∙ rw none at i.answered;
          words = sym done.1 ∙ rw none at i.words;
          second = sym done.2 ∙ rw none at i.second;
        }
