-- A piece read byte by byte, and line by line: what the state holds after each byte or line is what the reader holds,
-- by the byte, and from the contract of a line that ends. Assumes nothing.
use Prim.Native.Nat.{ℕ, suc, ◌+◌, ◌-◌, ◌≤◌, ◌<◌, zero-le}
use mathlib.Core.Path.{◌≡◌, refl, sym, ap, subst, ◌∙◌}
use mathlib.Core.Logic.{⊎_elim}
use mathlib.Core.Bool.{true, false, ◌||◌, ◌&&◌}
use mathlib.Core.List.{List, [], ◌∷◌, ◌++◌}
use native.Mathlib.Numerals.{add-one}
use native.Mathlib.Omega.{arith}
use lib.Dec.{T, eqb, ltb}
use lib.ListN.{length, take, drop, get_or, length-append, length-drop, drop_of_length-le}
use lib.Seq.{take-suc, take-add, drop-cons, drop-drop, length-sets}
use borrow.Author.Tests.{ltb-false, eqb-false, eq-eqb, ne_eqb, lt-ltb, le-ltb}
use Rattle.book.specs.Layout.{facts_of}
use Rattle.book.specs.Books.{is_book, is_well_formed}
use Rattle.book.specs.Calls.{Call, step}
use Rattle.text.specs.declared.line.Line.{Line}
use Rattle.text.specs.Alphabet.{line_feed}
use Rattle.text.specs.Reading.{empty_line, feed_of, end_of, run_of}
use Rattle.text.specs.Printing.{line_room}
use Rattle.text.specs.SheetLines.{line_end}
use Rattle.text.specs.WholeLines.{line_after, WholeAt}
use Rattle.book.proofs.Layouts.{facts_of_layout, book_facts}
use Rattle.book.proofs.Keep.{step_keeps}
use Rattle.book.proofs.Followed.{layout_size}
use Rattle.logic.proofs.Tests.{bool_cases, eq_or_not, nors}
use Rattle.text.proofs.AnswerTexts.{stores_after}
use Rattle.sheet_calls.specs.LineCalls.{call_held}
use Rattle.sheet_calls.specs.Pieces.{reply_to, Reader, call_ended, call_made, byte_read, bytes_read, has_begun, last_ended, bytes_taken, FirstTaken, Ended, Holds, begun, LinesRead, Pieced}
use Rattle.sheet_calls.specs.declared.piece.Lines.{Lines}

-- ---- the bytes in turn

-- in two parts
pub bytes_append :
    (n room : ℕ) (r : Reader) (a b : List ℕ)
    → bytes_read n room r (a ++ b) ≡ bytes_read n room (bytes_read n room r a) b
unfolding bytes_read
bytes_append n room r [] b = refl
bytes_append n room r (x ∷ a) b = bytes_append n room (byte_read n room r x) a b

byte_more : (n room : ℕ) (r : Reader) (piece : List ℕ) (i : ℕ) → i < length piece
    → bytes_read n room r (take (i + 1) piece)
    ≡ byte_read n room (bytes_read n room r (take i piece)) (get_or piece i 0)
unfolding bytes_read
byte_more n room r piece i h = rw (add-one, take-suc piece i 0, bytes_append)

-- ---- what a reader holds, but for what it has printed

abbrev pub unprinted : Reader → Reader
unprinted r = record { line = r.line; facts = r.facts; second = r.second; text = [] }

-- it does not depend on what was printed before
module _ (n room : ℕ) where
  byte_unprinted : (r : Reader) (b : ℕ)
      → unprinted (byte_read n room r b) ≡ unprinted (byte_read n room (unprinted r) b)
  unfolding byte_read call_made
  byte_unprinted r b =
      ⊎_elim (λ (e : eqb b line_feed ≡ true). rw e) (λ (e : eqb b line_feed ≡ false). rw e)
      (bool_cases (eqb b line_feed))

  pub bytes_unprinted :
      (r q : Reader) (s : List ℕ) → unprinted r ≡ unprinted q
      → unprinted (bytes_read n room r s) ≡ unprinted (bytes_read n room q s)
  unfolding bytes_read
  bytes_unprinted r q [] e = e
  bytes_unprinted r q (b ∷ s) e =
      let same = ap (λ (x : Reader). unprinted (byte_read n room x b)) e in
      bytes_unprinted (byte_read n room r b) (byte_read n room q b) s
      (byte_unprinted r b ∙ same ∙ sym (byte_unprinted q b))

  ended_unprinted : (r : Reader) → unprinted (last_ended n room r) ≡ unprinted (last_ended n room (unprinted r))
  unfolding last_ended call_made
  ended_unprinted r =
      let begins = has_begun r.line.phase in
      ⊎_elim (λ (e : begins ≡ true). rw e) (λ (e : begins ≡ false). rw e) (bool_cases begins)

  pub last_unprinted :
      (r q : Reader) → unprinted r ≡ unprinted q → unprinted (last_ended n room r) ≡ unprinted (last_ended n room q)
  last_unprinted r q e =
      let same = ap (λ (x : Reader). unprinted (last_ended n room x)) e in
      ended_unprinted r ∙ same ∙ sym (ended_unprinted q)

-- ---- the bytes that are taken, where `size` bytes can be printed

-- a byte that ends no line leaves what is printed
fed_text : (n room : ℕ) (r : Reader) (b : ℕ) → (b ≡ line_feed → ⊥) → (byte_read n room r b).text ≡ r.text
unfolding byte_read
fed_text n room r b differs = rw (ne_eqb b line_feed differs)

module _ (n room size : ℕ) where
  pub taken_within : (r : Reader) (s : List ℕ) → bytes_taken n room size r s ≤ length s
  unfolding bytes_taken
  taken_within r [] = zero-le
  taken_within r (b ∷ s) =
      ⊎_elim
      (λ (e : (eqb b line_feed && ltb size (length r.text + line_room room)) ≡ true). rw e zero-le)
      (λ (e : (eqb b line_feed && ltb size (length r.text + line_room room)) ≡ false).
      rw e (omega (arith, taken_within (byte_read n room r b) s)))
      (bool_cases (eqb b line_feed && ltb size (length r.text + line_room room)))

  first_none : (r : Reader) (s : List ℕ) → FirstTaken n room size r s 0
  unfolding bytes_read
  first_none r s = omega arith

  -- a byte that ends no line, or one whose answer finds room
  first_byte : (r : Reader) (b : ℕ) (s : List ℕ) → (b ≡ line_feed → length r.text + line_room room ≤ size)
      → FirstTaken n room size r (b ∷ s) 1
  unfolding bytes_taken bytes_read
  first_byte r b s fits =
      ⊎_elim
      (λ (is : b ≡ line_feed). rw (eq-eqb b line_feed is, le-ltb size (length r.text + line_room room) (fits is))
      (omega arith))
      (λ differs. rw (ne_eqb b line_feed differs) (omega arith))
      (eq_or_not b line_feed)

  -- a line that ends in s, and whose answer finds room
  first_line : (r : Reader) (s : List ℕ) → line_end s < length s → length r.text + line_room room ≤ size
      → FirstTaken n room size r s (suc (line_end s))
  unfolding bytes_taken bytes_read line_end
  first_line r [] ends fits = absurd (omega arith)
  first_line r (b ∷ s) ends fits =
      ⊎_elim
      (λ (is : b ≡ line_feed). rw (eq-eqb b line_feed is)
      (rw (eq-eqb b line_feed is) at (first_byte r b s (λ _. fits))))
      (λ differs.
      let later = rw (ne_eqb b line_feed differs) at ends in
      let same = ap length (fed_text n room r b differs) in
      rw (ne_eqb b line_feed differs) (omega (arith, first_line (byte_read n room r b) s (omega arith) (omega arith))))
      (eq_or_not b line_feed)

  -- k bytes, and then j more
  first_more : (r : Reader) (s : List ℕ) (k j : ℕ) → FirstTaken n room size r s k
      → FirstTaken n room size (bytes_read n room r (take k s)) (drop k s) j → FirstTaken n room size r s (k + j)
  first_more r s k j first then =
      rw (take-add k j s, bytes_append n room r (take k s) (take j (drop k s)), ← drop-drop j k s)
      (omega (arith, first, then))

  pub taken_some : (r : Reader) (s : List ℕ) → 0 < length s → length r.text + line_room room ≤ size
      → 0 < bytes_taken n room size r s
  taken_some r [] some fits = absurd (omega arith)
  taken_some r (b ∷ s) some fits = omega (arith, first_byte r b s (λ _. fits))

-- ---- one byte more

module _
    {n : ℕ}
    (room : ℕ)
    {out₀ : List ℕ}
    {r : Reader}
    {run second out : List ℕ}
    {line : Line}
    {put : ℕ}
    (h : Holds n out₀ r run second out line put)
    (b : ℕ)
  where
    holds_fed :
        {line' : Line} → (b ≡ line_feed → ⊥) → line' ≡ feed_of line b
        → Holds n out₀ (byte_read n room r b) run second out line' put
    unfolding byte_read
    holds_fed differs fed =
        rw (ne_eqb b line_feed differs)
        (record {
          book = h.book;
          size = h.size;
          facts_are = h.facts_are;
          words = h.words;
          second_is = h.second_is;
          line_is = fed ∙ ap (λ (l : Line). feed_of l b) h.line_is;
          printed = h.printed;
          put_is = h.put_is;
          fits = h.fits;
        })

    holds_ended :
        {run' second' out' : List ℕ} {line' : Line} {put' : ℕ} → length second ≡ room → b ≡ line_feed
        → Ended (call_held (end_of line)) run second out put put' run' second' out' → line' ≡ empty_line
        → Holds n out₀ (byte_read n room r b) run' second' out' line' put'
    unfolding byte_read call_made
    holds_ended {run'} {second'} {out'} {line'} {put'} long is ended empty =
        let x = call_ended r in
        let same : call_held (end_of line) ≡ x = ap (λ (l : Line). call_held (end_of l)) h.line_is in
        let e : Ended x run second out put put' run' second' out' =
        subst (λ (y : Call). Ended y run second out put put' run' second' out') same ended in
        let f = r.facts in
        let words = rw (h.size, h.facts_are) at e.words in
        let good : T (is_well_formed n f) = rw (h.size, h.facts_are) at (book_facts run h.book).0 in
        let next : T (is_well_formed n (step n x f)) = step_keeps n x f good in
        let reply : List ℕ = reply_to n room x f in
        let next-at = rw (h.size, h.facts_are, long) at e.next in
        let printed = rw (h.size, h.facts_are, long) at e.printed in
        rw (eq-eqb b line_feed is)
        (record {
          book = ended.book;
          size = ap length words ∙ layout_size n (step n x f) next;
          facts_are = ap facts_of words ∙ facts_of_layout n (step n x f) next;
          words = words;
          second_is = rw (h.size, h.facts_are, long, h.second_is) at e.second;
          line_is = empty;
          printed = stores_after out₀ out out' r.text reply 0 put (omega (arith, h.put_is)) h.printed printed;
          put_is = omega (arith, next-at, h.put_is, length-append r.text reply);
          fits = omega (arith, ended.fits, ap length h.printed, length-sets out₀ 0 r.text);
        })

-- ---- a line more, which ends in s

holds_line :
    {n : ℕ} (room : ℕ) {out₀ : List ℕ} (s : List ℕ) {r : Reader} {run second out : List ℕ} {line : Line} {put : ℕ}
    → Holds n out₀ r run second out line put
    → {run' second' out' : List ℕ} {put' : ℕ} → length second ≡ room → line_end s < length s
    → Ended (call_held (line_after line s)) run second out put put' run' second' out'
    → Holds n out₀ (bytes_read n room r (take (suc (line_end s)) s)) run' second' out' empty_line put'
unfolding bytes_read line_end run_of
holds_line room [] h size ends ended = absurd (omega arith)
holds_line room (b ∷ s) h size ends ended =
    ⊎_elim
    (λ (is : b ≡ line_feed). rw (eq-eqb b line_feed is)
    (holds_ended room h b size is (rw (eq-eqb b line_feed is) at ended) refl))
    (λ differs.
    rw (ne_eqb b line_feed differs)
    (holds_line room s (holds_fed room h b differs refl) size (omega (arith, rw (ne_eqb b line_feed differs) at ends))
    (rw (ne_eqb b line_feed differs) at ended)))
    (eq_or_not b line_feed)

-- ---- the lines from `from` on: those up to the place `read` have been read

pub lines_none :
    (w v piece : List ℕ) (from : ℕ) (out : List ℕ) (at : ℕ) → T (is_book w) → from ≤ length piece → at ≤ length out
    → LinesRead w v piece from out at (record { read = from; put = at }) w v out
unfolding bytes_read
lines_none w v piece from out at book within fits =
    let none : from - from ≡ 0 = omega arith in
    record {
      book = book;
      fits = fits;
      onward = omega arith;
      within = within;
      holds = λ front before h. rw none h;
      taken = λ front before h. rw none (first_none (length w) (length v) (length out) before (drop from piece));
    }

-- one line more, which ends at a line end, where there is room for its answer
module _
    {w v piece : List ℕ}
    {from : ℕ}
    {out₀ : List ℕ}
    {at : ℕ}
    {run second out : List ℕ}
    {put read : ℕ}
    (g : LinesRead w v piece from out₀ at (record { read = read; put = put }) run second out)
    (room : length second ≡ length v)
    (long : length out ≡ length out₀)
    (end : ℕ)
    (test : (eqb end (length piece) || ltb (length out - put) (line_room (length second))) ≡ false)
  where
    enough : put + line_room (length second) ≤ length out
    enough =
        let some : line_room (length second) ≤ length out - put =
        ltb-false (length out - put) (line_room (length second)) (search nors) in
        omega (arith, some)

    pub line_more :
        {line : Line} {run' second' out' : List ℕ} {put' : ℕ} → WholeAt piece read (record { line = line; end = end })
        → Ended (call_held line) run second out put put' run' second' out'
        → LinesRead w v piece from out₀ at (record { read = end + 1; put = put' }) run' second' out'
    line_more is ended =
        let n = length w in
        let m = length v in
        let s = drop read piece in
        let whole = drop from piece in
        let inside : end < length piece =
        omega (arith, eqb-false end (length piece) (search nors), is.within) in
        let ends : line_end s < length s = omega (arith, is.end_is, length-drop read piece) in
        let upto : end + 1 - from ≡ (read - from) + suc (line_end s) = omega (arith, is.end_is, g.onward) in
        let here : from + (read - from) ≡ read = omega (arith, g.onward) in
        let rest : drop (read - from) whole ≡ s = rw (drop-drop (read - from) from piece, here) in
        let bytes : take (end + 1 - from) whole ≡ take (read - from) whole ++ take (suc (line_end s)) s =
        rw (upto, take-add (read - from) (suc (line_end s)) whole, rest) in
        record {
          book = ended.book;
          fits = omega (arith, ended.fits, long);
          onward = omega (arith, is.end_is, g.onward);
          within = omega arith;
          holds = λ front before h.
              rw (bytes, bytes_append n m before (take (read - from) whole) (take (suc (line_end s)) s))
              (holds_line m s (g.holds front before h) room ends (rw is.line_is at ended));
          taken = λ front before h.
              let now : Reader = bytes_read n m before (take (read - from) whole) in
              let put_is = (g.holds front before h).put_is in
              rw upto
              (first_more n m (length out₀) before whole (read - from) (suc (line_end s)) (g.taken front before h)
              (rw rest (first_line n m (length out₀) now s ends (omega (arith, enough, room, long)))));
        }

-- ---- the loop: `read` bytes of the piece have been read

pub record Feeding
    (w v piece out₀ : List ℕ) (line₀ : Line) (run second out : List ℕ) (line : Line) (put read : ℕ) : Type 0
  where
    pub holds :
        Holds (length w) out₀ (bytes_read (length w) (length v) (begun w v line₀) (take read piece))
        run second out line put
    pub taken : FirstTaken (length w) (length v) (length out₀) (begun w v line₀) piece read
    pub within : read ≤ length piece
    pub room : length second ≡ length v
    pub long : length out ≡ length out₀

pub feeding_start : (w v piece out : List ℕ) (line : Line) → T (is_book w) → Feeding w v piece out line w v out line 0 0
unfolding bytes_read
feeding_start w v piece out line book =
    record {
      holds = record {
        book = book;
        size = refl;
        facts_are = refl;
        words = sym (book_facts w book).1;
        second_is = refl;
        line_is = refl;
        printed = refl;
        put_is = refl;
        fits = zero-le;
      };
      taken = first_none (length w) (length v) (length out) (begun w v line) piece;
      within = zero-le;
      room = refl;
      long = refl;
    }

module _
    {w v piece out₀ : List ℕ}
    {line₀ : Line}
    {run second out : List ℕ}
    {line : Line}
    {put read : ℕ}
    (g : Feeding w v piece out₀ line₀ run second out line put read)
  where
    -- what the reader holds here
    abbrev here : Reader
    here = bytes_read (length w) (length v) (begun w v line₀) (take read piece)

    -- one byte more
    byte_taken :
        read < length piece → (get_or piece read 0 ≡ line_feed → line_room (length second) ≤ length out - put)
        → FirstTaken (length w) (length v) (length out₀) (begun w v line₀) piece (read + 1)
    byte_taken h fits =
        let b = get_or piece read 0 in
        first_more (length w) (length v) (length out₀) (begun w v line₀) piece read 1 g.taken
        (rw (drop-cons piece read 0 h)
        (first_byte (length w) (length v) (length out₀) here b (drop (suc read) piece)
        (λ is. omega (arith, fits is, g.holds.put_is, g.holds.fits, g.room, g.long))))

    pub feeding_fed :
        {line' : Line} → read < length piece → (get_or piece read 0 ≡ line_feed → ⊥)
        → line' ≡ feed_of line (get_or piece read 0)
        → Feeding w v piece out₀ line₀ run second out line' put (read + 1)
    feeding_fed h differs fed =
        record {
          holds =
              rw (byte_more (length w) (length v) (begun w v line₀) piece read h)
              (holds_fed (length v) g.holds (get_or piece read 0) differs fed);
          taken = byte_taken h (λ is. absurd (differs is));
          within = omega arith;
          room = g.room;
          long = g.long;
        }

    pub feeding_ended :
        {run' second' out' : List ℕ} {line' : Line} {put' : ℕ} → read < length piece → get_or piece read 0 ≡ line_feed
        → line_room (length second) ≤ length out - put
        → Ended (call_held (end_of line)) run second out put put' run' second' out' → line' ≡ empty_line
        → length second' ≡ length second → length out' ≡ length out
        → Feeding w v piece out₀ line₀ run' second' out' line' put' (read + 1)
    feeding_ended h is fits ended empty room long =
        record {
          holds =
              rw (byte_more (length w) (length v) (begun w v line₀) piece read h)
              (holds_ended (length v) g.holds (get_or piece read 0) g.room is ended empty);
          taken = byte_taken h (λ _. fits);
          within = omega arith;
          room = room ∙ g.room;
          long = long ∙ g.long;
        }

    -- whole lines more
    pub feeding_lines :
        {run' second' out' : List ℕ} {r : Lines} → line ≡ empty_line
        → LinesRead run second piece read out put r run' second' out'
        → length second' ≡ length second → length out' ≡ length out
        → Feeding w v piece out₀ line₀ run' second' out' line r.put r.read
    feeding_lines {r = r} empty lines room long =
        let more : read + (r.read - read) ≡ r.read = omega (arith, lines.onward) in
        let lines-read = take (r.read - read) (drop read piece) in
        let bytes : take r.read piece ≡ take read piece ++ lines-read =
        ap (λ (k : ℕ). take k piece) (sym more) ∙ take-add read (r.read - read) piece in
        let held = rw empty at g.holds in
        record {
          holds =
              rw (bytes, bytes_append (length w) (length v) (begun w v line₀) (take read piece) lines-read, empty)
              ((rw (g.holds.size, g.room) at lines.holds) out₀ here held);
          taken =
              rw more at
              (first_more (length w) (length v) (length out₀) (begun w v line₀) piece read (r.read - read) g.taken
              ((rw (g.holds.size, g.room, g.long) at lines.taken) out₀ here held));
          within = lines.within;
          room = room ∙ g.room;
          long = long ∙ g.long;
        }

    -- a line end that finds no room
    pub feeding_full :
        read < length piece → get_or piece read 0 ≡ line_feed → length out - put < line_room (length second)
        → Pieced w v piece out₀ line₀ (record { line = line; read = read; put = put }) run second out
    unfolding bytes_taken
    feeding_full h is full =
        let much = lt-ltb (length out₀) (length here.text + line_room (length v)) in
        let none : bytes_taken (length w) (length v) (length out₀) here (drop read piece) ≡ 0 =
        rw (
          drop-cons piece read 0 h,
          eq-eqb (get_or piece read 0) line_feed is,
          much (omega (arith, g.holds.put_is, g.room, g.long)),
        ) in
        record { taken = omega (arith, g.taken); holds = g.holds }

    pub feeding_done :
        length piece ≤ read
        → Pieced w v piece out₀ line₀ (record { line = line; read = read; put = put }) run second out
    unfolding bytes_taken
    feeding_done all =
        let none : bytes_taken (length w) (length v) (length out₀) here (drop read piece) ≡ 0 =
        rw (drop_of_length-le piece all) in
        record { taken = omega (arith, g.taken); holds = g.holds }
