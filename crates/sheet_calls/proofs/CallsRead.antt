-- The call of a line that has been read, made on any words: what it makes of them is what the call on the sheet makes,
-- since the plain book judges both alike. Assumes nothing.
use Prim.Native.Nat.{ℕ}
use mathlib.Core.Path.{◌≡◌}
use mathlib.Core.List.{List}
use lib.ListN.{length}
use Rattle.word.specs.Answers.{Answer}
use Rattle.book.specs.Layout.{facts_of}
use Rattle.book.specs.Made.{Made}
use Rattle.text.specs.declared.line.Line.{Line}
use Rattle.text.specs.Reading.{line_of}
use Rattle.sheet_calls.specs.LineCalls.{call_in, call_held}
use Rattle.sheet_calls.proofs.Limited.{same_answer, same_written, same_step}
use Rattle.sheet_calls.proofs.Lines.{call_read}

-- the call of the line l, which has been read in s
pub made_read :
    (s : List ℕ) {w v w' v' : List ℕ} {r : Answer} {l : Line} → l ≡ line_of s → Made (call_held l) w v r w' v'
    → Made (call_in s) w v r w' v'
made_read s {w} {v} e m =
    let f = facts_of w in
    let read = call_read s in
    let c = read.letter in
    let ns = read.numbers in
    let held = rw (e, read.is_held) at m in
    rw read.on_sheet
    (record {
      answer = rw (same_answer f c ns (length w) (length v)) at held.answer;
      words = rw (same_step f c ns (length w)) at held.words;
      second = rw (same_written f c ns (length w) (length v)) at held.second;
    })
