-- What is carried from one part of the input to the next is what the bytes of both leave: a reader that has printed
-- nothing begins where the last one ended, and what is printed changes nothing else. Assumes nothing.
use Prim.Native.Nat.{ℕ, ◌≤◌, ◌<◌, zero-le}
use mathlib.Core.Path.{◌≡◌, refl, sym, ap, ◌∙◌}
use mathlib.Core.Bool.{true, false}
use mathlib.Core.List.{List, [], ◌∷◌, ◌++◌, append_assoc, append-nil}
use mathlib.Core.Logic.{⊎_elim}
use native.Mathlib.Omega.{arith}
use lib.Dec.{T, eqb}
use lib.ListN.{length, take, drop, length-append, take-append-drop}
use lib.Seq.{take_at}
use borrow.Author.Tests.{eqb-false}
use Rattle.book.specs.Facts.{fresh}
use Rattle.book.specs.Layout.{layout, facts_of}
use Rattle.book.specs.Books.{is_well_formed, is_book}
use Rattle.book.proofs.Layouts.{facts_of_layout, book_layout, book_facts, fresh_well_formed}
use Rattle.logic.proofs.Tests.{bool_cases}
use Rattle.text.specs.Alphabet.{line_feed}
use Rattle.text.specs.declared.line.Phase.{Phase}
use Rattle.text.specs.declared.line.Phase.TheVariants.{Start, Letter, Space, Zero, Number, Malformed}
use Rattle.text.specs.declared.line.Line.{Line}
use Rattle.sheet_calls.specs.declared.piece.PieceProgress.{PieceProgress}
use Rattle.text.specs.Reading.{empty_line, end_of}
use Rattle.sheet_calls.specs.LineCalls.{call_held}
use Rattle.sheet_calls.specs.Sheets.{calls_in}
use Rattle.sheet_calls.specs.Pieces.{Reader, call_made, byte_read, bytes_read, has_begun, last_ended, calls_made}
use Rattle.sheet_calls.specs.Pieces.{Ended, Holds, begun, Pieced}
use Rattle.text.specs.Printing.{line_room}
use Rattle.sheet_calls.proofs.Readers.{unprinted, bytes_append, bytes_unprinted, last_unprinted}
use Rattle.sheet_calls.proofs.Readers.{taken_within, taken_some}
use Rattle.sheet_calls.proofs.Pieces.{sheet_read}
use Rattle.sheet.specs.declared.Turn.{Turn}
use Rattle.sheet.specs.InputRead.{book_length, Left, Carried, AfterBytes, FrontRead, TurnTaken}
use Rattle.sheet.specs.InputRead.{AllRead, SomeRead, SheetRead}

-- ---- a fresh book of the program's length

fresh_fits : T (is_well_formed book_length fresh)
fresh_fits = fresh_well_formed book_length tt

pub fresh_book : {w : List ℕ} → w ≡ layout book_length fresh → T (is_book w)
fresh_book is = rw is (book_layout book_length fresh fresh_fits)

-- ---- what is carried does not depend on what was printed

left_same : {n : ℕ} {r q : Reader} {w v : List ℕ} → unprinted r ≡ unprinted q → Left n r w v → Left n q w v
left_same {n} e l =
    record {
      words = l.words ∙ ap (λ (x : Reader). layout n x.facts) e;
      second = l.second ∙ ap (λ (x : Reader). x.second) e;
    }

carried_same :
    {n : ℕ} {r q : Reader} {w v : List ℕ} {line : Line} → unprinted r ≡ unprinted q → Carried n r w v line
    → Carried n q w v line
carried_same e c =
    record {
      book = c.book;
      facts_are = c.facts_are ∙ ap (λ (x : Reader). x.facts) e;
      left = left_same e c.left;
      line_is = c.line_is ∙ ap (λ (x : Reader). x.line) e;
    }

-- a reader begins with what is carried
begun_same :
    {n : ℕ} {r : Reader} {w v : List ℕ} {line : Line} → Carried n r w v line
    → unprinted (begun w v line) ≡ unprinted r
begun_same c = λ i. record { line = c.line_is i; facts = c.facts_are i; second = c.left.second i; text = [] }

pub carried_start : (w v : List ℕ) (line : Line) → T (is_book w) → Carried (length w) (begun w v line) w v line
carried_start w v line book =
    record {
      book = book;
      facts_are = refl;
      left = record { words = sym (book_facts w book).1; second = refl };
      line_is = refl;
    }

-- where a read fails
pub none_read : {w v s : List ℕ} {line : Line} → T (is_book w) → FrontRead w v line s w v
unfolding bytes_read
none_read {w} {v} {line = line} book =
    record { read = 0; within = zero-le; next = line; carried = carried_start w v line book }

-- bytes more
carried_more :
    {n room : ℕ} {r : Reader} {w v w' v' : List ℕ} {line line' : Line} (s : List ℕ) → Carried n r w v line
    → length w ≡ n → length v ≡ room → AfterBytes w v line s w' v' line' → Carried n (bytes_read n room r s) w' v' line'
carried_more {n} {room} {r} {w} {v} {line = line} s c size long more =
    carried_same (bytes_unprinted n room (begun w v line) r s (begun_same c)) (rw (size, long) at more)

held_on :
    {n put : ℕ} {r : Reader} {out w v out' : List ℕ} {line : Line} → Holds n out r w v out' line put
    → Carried n r w v line
held_on h =
    record {
      book = h.book;
      facts_are = h.facts_are;
      left = record { words = h.words; second = h.second_is };
      line_is = h.line_is;
    }

-- ---- a piece of which `rest` is left

pub record PieceSoFar
    (w v piece : List ℕ) (line₀ : Line) (run second : List ℕ) (line : Line) (rest : List ℕ) : Type 0
  where
    pub bytes : List ℕ
    pub split : piece ≡ bytes ++ rest
    pub carried : AfterBytes w v line₀ bytes run second line

pub reading_start : (w v piece : List ℕ) (line : Line) → T (is_book w) → PieceSoFar w v piece line w v line piece
unfolding bytes_read
reading_start w v piece line book = record { bytes = []; split = refl; carried = carried_start w v line book }

module _
    {w v piece : List ℕ}
    {line₀ : Line}
    {run second : List ℕ}
    {line : Line}
    {rest : List ℕ}
    (g : PieceSoFar w v piece line₀ run second line rest)
  where
    pub reading_more :
        {out run' second' out' : List ℕ} {r : PieceProgress} → length run ≡ length w → length second ≡ length v
        → Pieced run second rest out line r run' second' out'
        → PieceSoFar w v piece line₀ run' second' r.line (drop r.read rest)
    reading_more {r = r} size room p =
        let n = length w in
        let m = length v in
        let more = take r.read rest in
        record {
          bytes = g.bytes ++ more;
          split =
              g.split ∙ ap (λ (s : List ℕ). g.bytes ++ s) (sym (take-append-drop r.read rest))
              ∙ sym (append_assoc g.bytes more (drop r.read rest));
          carried =
              rw (bytes_append n m (begun w v line₀) g.bytes more)
              (carried_more more g.carried size room (held_on p.holds));
        }

    -- where a write fails
    pub reading_cut : FrontRead w v line₀ piece run second
    reading_cut =
        record {
          read = length g.bytes;
          within = omega (arith, ap length g.split, length-append g.bytes rest);
          next = line;
          carried = rw (g.split, take_at g.bytes rest (length g.bytes) refl) g.carried;
        }

-- some of the bytes that are left is read, and no more than there is
pub some_read :
    {run second rest out run' second' out' : List ℕ} {line : Line} {r : PieceProgress} → false ≡ eqb (length rest) 0
    → line_room (length second) ≤ length out → Pieced run second rest out line r run' second' out'
    → (0 < r.read) × (r.read ≤ length rest)
some_read {run} {second} {rest} {out} {line = line} some enough p =
    let n = length run in
    let m = length second in
    let start = begun run second line in
    let all = taken_within n m (length out) start rest in
    let any = eqb-false (length rest) 0 (sym some) in
    let one = taken_some n m (length out) start rest (omega (arith, any)) (omega arith) in
    (omega (arith, p.taken), omega (arith, p.taken))

-- ---- the turns

pub all_start : (w v : List ℕ) {line : Line} → T (is_book w) → line ≡ empty_line → AllRead w v line w v
unfolding bytes_read
all_start w v book empty = record { bytes = []; carried = rw empty (carried_start w v empty_line book) }

module _
    {w v : List ℕ}
    {line : Line}
    {run second : List ℕ}
    (g : AllRead w v line run second)
    (size : length run ≡ length w)
    (room : length second ≡ length v)
  where
    read_on :
        {run' second' : List ℕ} {next : Line} (s : List ℕ) → AfterBytes run second line s run' second' next
        → AllRead w v next run' second'
    read_on s after =
        record {
          bytes = g.bytes ++ s;
          carried =
              rw (bytes_append (length w) (length v) (begun w v empty_line) g.bytes s)
              (carried_more s g.carried size room after);
        }

    pub all_more :
        {run' second' input : List ℕ} {r : Turn} → TurnTaken run second line r run' second' input
        → AllRead w v r.line run' second'
    all_more {input = input} {r = r} turn = read_on (take r.count input) turn.carried

    -- where a turn fails
    pub some_more : {run' second' s : List ℕ} → FrontRead run second line s run' second' → SomeRead w v run' second'
    some_more {s = s} cut = record { line = cut.next; all = read_on (take cut.read s) cut.carried }

-- ---- the last line

-- one that has not begun
pub last_none : {w v : List ℕ} (line : Line) → T (is_book w) → line.phase ≡ Start
    → Left (length w) (last_ended (length w) (length v) (begun w v line)) w v
unfolding last_ended has_begun
last_none {w} {v} line book is =
    let none : has_begun line.phase ≡ false = rw is in
    rw none (carried_start w v line book).left

-- one that has begun
pub last_made : {w v out w' v' out' : List ℕ} {at r : ℕ} (line : Line) → has_begun line.phase ≡ true
    → Ended (call_held (end_of line)) w v out at r w' v' out'
    → Left (length w) (last_ended (length w) (length v) (begun w v line)) w' v'
unfolding last_ended call_made
last_made line begins ended = rw begins (record { words = ended.words; second = ended.second })

pub phase_begun : (p : Phase) → (p ≡ Start → ⊥) → has_begun p ≡ true
unfolding has_begun
phase_begun Start differs = absurd (differs refl)
phase_begun Letter differs = refl
phase_begun Space differs = refl
phase_begun Zero differs = refl
phase_begun Number differs = refl
phase_begun Malformed differs = refl

-- ---- the lines that have been read to their ends, wherever the input breaks off

-- bytes that end with a line, and leave the book and the second run as those of r do
record WholeLines (n m : ℕ) (start r : Reader) : Type 0 where
  bytes : List ℕ
  ended : (bytes_read n m start bytes).line ≡ empty_line
  facts_are : (bytes_read n m start bytes).facts ≡ r.facts
  second_is : (bytes_read n m start bytes).second ≡ r.second

module _ (n m : ℕ) (start : Reader) where
  whole_more : (s : List ℕ) (b : ℕ) → WholeLines n m start (bytes_read n m start s)
      → WholeLines n m start (bytes_read n m start (s ++ b ∷ []))
  unfolding bytes_read byte_read call_made
  whole_more s b h =
      let more = bytes_append n m start s (b ∷ []) in
      ⊎_elim
      (λ (e : eqb b line_feed ≡ true).
      record { bytes = s ++ b ∷ []; ended = rw (more, e) refl; facts_are = refl; second_is = refl })
      (λ (e : eqb b line_feed ≡ false).
      record {
        bytes = h.bytes;
        ended = h.ended;
        facts_are = rw (more, e) h.facts_are;
        second_is = rw (more, e) h.second_is;
      })
      (bool_cases (eqb b line_feed))

  whole_on : (s t : List ℕ) → WholeLines n m start (bytes_read n m start s)
      → WholeLines n m start (bytes_read n m start (s ++ t))
  whole_on s [] h = rw append-nil h
  whole_on s (b ∷ t) h =
      let same : (s ++ b ∷ []) ++ t ≡ s ++ (b ∷ t) = append_assoc s (b ∷ []) t in
      rw (← same) (whole_on (s ++ b ∷ []) t (whole_more s b h))

  whole_lines : (s : List ℕ) → start.line ≡ empty_line → WholeLines n m start (bytes_read n m start s)
  unfolding bytes_read
  whole_lines s e = whole_on [] s (record { bytes = []; ended = e; facts_are = refl; second_is = refl })

-- ---- the whole sheet

-- a fresh book of the words w, and what is left after the bytes s
sheet_made :
    {w v w' v' : List ℕ} (s : List ℕ) → w ≡ layout book_length fresh
    → Left (length w)
    (last_ended (length w) (length v) (bytes_read (length w) (length v) (begun w v empty_line) s)) w' v'
    → SheetRead w v w' v'
sheet_made {w} {v} {w'} {v'} s is left =
    let n = length w in
    let m = length v in
    let start = begun w v empty_line in
    let facts : facts_of w ≡ fresh = ap facts_of is ∙ facts_of_layout book_length fresh fresh_fits in
    let done : Left n (calls_made n m (calls_in s) start) w' v' = rw (sheet_read n m s start refl) at left in
    record { bytes = s; words = rw facts at done.words; second = rw facts at done.second }

-- where the input breaks off: the calls of its whole lines have been made
pub sheet_cut : {w v w' v' : List ℕ} → w ≡ layout book_length fresh → SomeRead w v w' v' → SheetRead w v w' v'
unfolding last_ended has_begun
sheet_cut {w} {v} {w'} {v'} is some =
    let n = length w in
    let m = length v in
    let start = begun w v empty_line in
    let carried = some.all.carried in
    let whole = whole_lines n m start some.all.bytes refl in
    let held = bytes_read n m start whole.bytes in
    let left : Left n held w' v' =
    record {
      words = carried.left.words ∙ ap (layout n) (sym whole.facts_are);
      second = carried.left.second ∙ sym whole.second_is;
    } in
    let none : has_begun held.line.phase ≡ false = rw whole.ended refl in
    sheet_made whole.bytes is (rw none left)

pub sheet_left :
    {w v w₁ v₁ w' v' : List ℕ} {line : Line} → w ≡ layout book_length fresh → AllRead w v line w₁ v₁
    → length w₁ ≡ length w → length v₁ ≡ length v
    → Left (length w₁) (last_ended (length w₁) (length v₁) (begun w₁ v₁ line)) w' v' → SheetRead w v w' v'
sheet_left {w} {v} {w₁} {v₁} {w'} {v'} {line} is all size room left =
    let n = length w in
    let m = length v in
    let now = bytes_read n m (begun w v empty_line) all.bytes in
    let ended : Left n (last_ended n m (begun w₁ v₁ line)) w' v' = rw (size, room) at left in
    let made : Left n (last_ended n m now) w' v' =
    left_same (last_unprinted n m (begun w₁ v₁ line) now (begun_same all.carried)) ended in
    sheet_made all.bytes is made
