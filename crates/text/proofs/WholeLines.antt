-- A line read number by number is what its bytes give one by one: a number that has been read and not ended goes on as
-- a line at Letter that has it, and five numbers and a space end malformed. By recursion on the digits, and by the
-- byte after them. Assumes nothing.
use Prim.Native.Nat.{ℕ, ◌+◌, ◌*◌, ◌-◌, ◌≤◌, ◌<◌}
use mathlib.Core.Path.{◌≡◌, refl, sym, ap, ◌∙◌}
use mathlib.Core.Logic.{◌⊎◌, inl, inr, ⊎_elim}
use mathlib.Core.Bool.{Bool, true, false, and-false, true≢false}
use mathlib.Core.List.{List, [], ◌∷◌}
use native.Mathlib.Omega.{arith}
use lib.ListN.{length, take, drop, get_or, set, length-drop}
use borrow.Author.Tests.{lt-ltb, le-ltb, lt-leb, eq-eqb, ne_eqb}
use Rattle.std.specs.Prelude.{Some, None, MatchOption}
use Rattle.std.proofs.lemmas.List.{take_rest}
use Rattle.text.specs.declared.line.Phase.{Phase}
use Rattle.text.specs.declared.line.Phase.TheVariants.{Letter, Space, Zero, Number}
use Rattle.text.specs.declared.line.Line.{Line}
use Rattle.text.specs.Alphabet.{line_feed, space, zero_digit, nine_digit, first_letter, last_letter, base}
use Rattle.text.specs.Reading.{numbers_kept, capped, zeros, empty_line, malformed_line, feed_by, feed_of, end_by, end_of, run_of}
use Rattle.text.specs.Grammar.{is_digit}
use Rattle.text.specs.SheetLines.{line_end}
use Rattle.text.specs.WholeLines.{digits_read, numeral_read, with_number, line_after, line_rest, FormedRead, FormlessRead, WholeAt}
use Rattle.logic.proofs.Tests.{bool_cases, lt_or_le, eq_or_not}
use Rattle.text.proofs.Complete.{Pending, at_zero, in_number, state, feed_space, end_number}
use Rattle.text.proofs.Sound.{Follows, follows, run_malformed, ended}
use Rattle.text.proofs.SheetLines.{end_within}
use Rattle.text.proofs.LineParts.{between_true, between_both}

-- the bytes after the first, as the pattern of a slice has them
abbrev after_first : List ℕ → List ℕ
after_first s = take (length s - 1) (drop 1 s)

-- ---- digits and numbers, by the first byte

no_digit : (b : ℕ) → (b < zero_digit) ⊎ (nine_digit < b) → is_digit b ≡ false
no_digit b out =
    ⊎_elim (λ under. simp (lt-leb zero_digit b under)) (λ over. simp (lt-leb b nine_digit over, and-false)) out

not_digit : (b : ℕ) → is_digit b ≡ false → (b < zero_digit) ⊎ (nine_digit < b)
not_digit b e =
    ⊎_elim
    (λ (under : b < zero_digit). inl under)
    (λ (low : zero_digit ≤ b).
    ⊎_elim
    (λ (over : nine_digit < b). inr over)
    (λ (high : b ≤ nine_digit).
    let z : ◌≡◌ {A = Bool} true false = sym (between_true zero_digit nine_digit b low high) ∙ e in
    absurd (true≢false z))
    (lt_or_le nine_digit b))
    (lt_or_le b zero_digit)

module _ (v : ℕ) where
  pub digits_done : (s : List ℕ) → (get_or s 0 0 < zero_digit) ⊎ (nine_digit < get_or s 0 0) → digits_read v s ≡ (v, s)
  unfolding digits_read
  digits_done [] out = refl
  digits_done (b ∷ s) out = rw (no_digit b out)

  pub digits_more : (s : List ℕ) → zero_digit ≤ get_or s 0 0 → get_or s 0 0 ≤ nine_digit
      → digits_read v s ≡ digits_read (capped (base * v + (get_or s 0 0 - zero_digit))) (after_first s)
  unfolding digits_read
  digits_more [] least most = absurd (omega arith)
  digits_more (b ∷ s) least most = rw (take_rest (b ∷ s) 1, between_true zero_digit nine_digit b least most)

pub ruleset digit_laws = (digits_done, digits_more)

pub numeral_other : (s : List ℕ) → (get_or s 0 0 < zero_digit) ⊎ (nine_digit < get_or s 0 0) → numeral_read s ≡ None
unfolding numeral_read
numeral_other [] out = refl
numeral_other (b ∷ s) out =
    let differs : b ≡ zero_digit → ⊥ = λ is. ⊎_elim (λ under. omega arith) (λ over. omega arith) out in
    rw (ne_eqb b zero_digit differs, no_digit b out)

pub numeral_zero : (s : List ℕ) → get_or s 0 0 ≡ zero_digit → numeral_read s ≡ Some (0, after_first s)
unfolding numeral_read
numeral_zero [] is = absurd (omega arith)
numeral_zero (b ∷ s) is = rw (take_rest (b ∷ s) 1, eq-eqb b zero_digit is)

pub numeral_digits : (s : List ℕ) → zero_digit ≤ get_or s 0 0 → (get_or s 0 0 ≡ zero_digit → ⊥)
    → get_or s 0 0 ≤ nine_digit → numeral_read s ≡ Some (digits_read (get_or s 0 0 - zero_digit) (after_first s))
unfolding numeral_read
numeral_digits [] least other most = absurd (omega arith)
numeral_digits (b ∷ s) least other most =
    rw (take_rest (b ∷ s) 1, ne_eqb b zero_digit other, between_true zero_digit nine_digit b least most)

pub ruleset numeral_laws = (numeral_other, numeral_zero, numeral_digits)

-- ---- a line that goes on as another

-- a line that goes on in s ends as another does in t, and so do the bytes
pub record Goes (l : Line) (s : List ℕ) (m : Line) (t : List ℕ) : Type 0 where
  pub same : line_after l s ≡ line_after m t
  pub rest : line_rest s ≡ line_rest t

goes_on : {l m n : Line} {s t u : List ℕ} → Goes l s m t → Goes m t n u → Goes l s n u
goes_on a b = record { same = a.same ∙ b.same; rest = a.rest ∙ b.rest }

-- goes on so, and t has no more bytes than s
pub record GoesWithin (l : Line) (s : List ℕ) (m : Line) (t : List ℕ) : Type 0 where
  pub goes : Goes l s m t
  pub fewer : length t ≤ length s

within_on : {l m n : Line} {s t u : List ℕ} → GoesWithin l s m t → GoesWithin m t n u → GoesWithin l s n u
within_on a b = record { goes = goes_on a.goes b.goes; fewer = omega (arith, a.fewer, b.fewer) }

after_end : (l : Line) (b : ℕ) (s : List ℕ) → b ≡ line_feed → line_after l (b ∷ s) ≡ end_of l
unfolding line_end run_of
after_end l b s is = rw (eq-eqb b line_feed is)

-- by one byte
fed : (l m : Line) (b : ℕ) (s : List ℕ) → (b ≡ line_feed → ⊥) → feed_of l b ≡ m → GoesWithin l (b ∷ s) m s
unfolding line_end run_of
fed l m b s differs is = record {
  goes =
      record {
        same = rw (ne_eqb b line_feed differs) (ap (λ (n : Line). line_after n s) is);
        rest = rw (ne_eqb b line_feed differs);
      };
  fewer = omega arith;
}

after_malformed : (s : List ℕ) → line_after malformed_line s ≡ malformed_line
unfolding end_by
after_malformed s = ap end_of (run_malformed (take (line_end s) s))

refused : (l : Line) (b : ℕ) (s : List ℕ) → (b ≡ line_feed → ⊥) → feed_of l b ≡ malformed_line
    → line_after l (b ∷ s) ≡ malformed_line
refused l b s differs is = (fed l malformed_line b s differs is).goes.same ∙ after_malformed s

-- ---- a number that has been read and not ended goes on as a line that has it

module _ (c k : ℕ) (ns : List ℕ) (few : k < numbers_kept) where
  -- at a byte that ends it, or is refused
  number_ended : {p : Phase} → Pending p → (v b : ℕ) (s : List ℕ)
      → ((b ≡ space → ⊥) → feed_of (state p c v k ns) b ≡ malformed_line)
      → GoesWithin (state p c v k ns) (b ∷ s) (state Letter c 0 (k + 1) (set ns k v)) (b ∷ s)
  unfolding feed_by end_by
  number_ended {p} w v b s out =
      let now = state p c v k ns in
      let next = state Letter c 0 (k + 1) (set ns k v) in
      let same : line_after now (b ∷ s) ≡ line_after next (b ∷ s) =
      ⊎_elim
      (λ (is : b ≡ line_feed). after_end now b s is ∙ end_number w c v k ns few ∙ sym (after_end next b s is))
      (λ differs.
      ⊎_elim
      (λ (is : b ≡ space).
      let spaced : Line = state Space c 0 (k + 1) (set ns k v) in
      (fed now spaced b s differs (ap (feed_of now) is ∙ feed_space w c v k ns few)).goes.same
      ∙ sym (fed next spaced b s differs (simp (eq-eqb b space is))).goes.same)
      (λ (other : b ≡ space → ⊥).
      refused now b s differs (out other) ∙ sym (refused next b s differs (simp (ne_eqb b space other))))
      (eq_or_not b space))
      (eq_or_not b line_feed) in
      record { goes = record { same = same; rest = refl }; fewer = omega arith }

  zero_read : (s : List ℕ) → GoesWithin (state Zero c 0 k ns) s (state Letter c 0 (k + 1) (set ns k 0)) s
  unfolding feed_by end_by run_of line_end
  zero_read [] = record { goes = record { same = end_number at_zero c 0 k ns few; rest = refl }; fewer = omega arith }
  zero_read (b ∷ s) = number_ended at_zero 0 b s (λ other. simp (ne_eqb b space other))

  digits_go : (s : List ℕ) (v : ℕ)
      → let read = digits_read v s in
      GoesWithin (state Number c v k ns) s (state Letter c 0 (k + 1) (set ns k read.0)) read.1
  unfolding feed_by end_by run_of line_end digits_read
  digits_go [] v =
      record { goes = record { same = end_number in_number c v k ns few; rest = refl }; fewer = omega arith }
  digits_go (b ∷ s) v =
      ⊎_elim
      (λ (e : is_digit b ≡ true).
      let range = between_both zero_digit nine_digit b e in
      let more : Line = state Number c (capped (base * v + (b - zero_digit))) k ns in
      let is : feed_of (state Number c v k ns) b ≡ more =
      simp (
        ne_eqb b space (λ is. omega (arith, range.0)),
        le-ltb b zero_digit range.0,
        le-ltb nine_digit b range.1,
      ) in
      rw e (within_on (fed (state Number c v k ns) more b s (λ is. omega (arith, range.0)) is)
      (digits_go s (capped (base * v + (b - zero_digit))))))
      (λ (e : is_digit b ≡ false).
      rw e
      (number_ended in_number v b s
      (λ other.
      ⊎_elim
      (λ under. simp (ne_eqb b space other, lt-ltb b zero_digit under))
      (λ over. simp (ne_eqb b space other, le-ltb b zero_digit (omega arith), lt-ltb nine_digit b over))
      (not_digit b e))))
      (bool_cases (is_digit b))

  -- a number after a space, or none
  numeral_go : (s : List ℕ)
      → MatchOption (numeral_read s) (line_after (state Space c 0 k ns) s ≡ malformed_line)
      (λ read. GoesWithin (state Space c 0 k ns) s (state Letter c 0 (k + 1) (set ns k read.0)) read.1)
  unfolding feed_by end_by run_of line_end numeral_read
  numeral_go [] = refl
  numeral_go (b ∷ s) =
      let now = state Space c 0 k ns in
      ⊎_elim
      (λ (is : b ≡ zero_digit).
      let zero-fed : feed_of now b ≡ state Zero c 0 k ns =
      simp (le-ltb b zero_digit (omega arith), le-ltb nine_digit b (omega arith), eq-eqb b zero_digit is) in
      rw (eq-eqb b zero_digit is)
      (within_on (fed now (state Zero c 0 k ns) b s (λ e. omega arith) zero-fed) (zero_read s)))
      (λ differs.
      ⊎_elim
      (λ (e : is_digit b ≡ true).
      let range = between_both zero_digit nine_digit b e in
      let more : Line = state Number c (b - zero_digit) k ns in
      let first : feed_of now b ≡ more =
      simp (le-ltb b zero_digit range.0, le-ltb nine_digit b range.1, ne_eqb b zero_digit differs) in
      rw (ne_eqb b zero_digit differs, e)
      (within_on (fed now more b s (λ is. omega (arith, range.0)) first) (digits_go s (b - zero_digit))))
      (λ (e : is_digit b ≡ false).
      let out : line_after now (b ∷ s) ≡ malformed_line =
      ⊎_elim
      (λ (is : b ≡ line_feed). after_end now b s is)
      (λ ends.
      refused now b s ends
      (⊎_elim
      (λ under. simp (lt-ltb b zero_digit under))
      (λ over. simp (le-ltb b zero_digit (omega arith), lt-ltb nine_digit b over))
      (not_digit b e)))
      (eq_or_not b line_feed) in
      rw (ne_eqb b zero_digit differs, e) out)
      (bool_cases (is_digit b)))
      (eq_or_not b zero_digit)

-- a sixth number
sixth_refused : (c v : ℕ) (ns s : List ℕ) → line_after (state Space c v numbers_kept ns) s ≡ malformed_line
unfolding Follows
sixth_refused c v ns s =
    let bytes = take (line_end s) s in
    let read : Line = run_of (state Space c v numbers_kept ns) bytes in
    ⊎_elim
    (λ (h : (end_of read).phase ≡ Letter).
    let r = follows bytes Space c v numbers_kept ns (omega arith) h in
    absurd (omega (arith, r.4)))
    (λ e. e)
    (ended read.phase read refl)

-- ---- the line at the front of s

pub letter_other : (s : List ℕ) → (get_or s 0 0 < first_letter) ⊎ (last_letter < get_or s 0 0)
    → line_after empty_line s ≡ malformed_line
unfolding feed_by end_by run_of line_end
letter_other [] out = refl
letter_other (b ∷ s) out =
    ⊎_elim
    (λ (is : b ≡ line_feed). after_end empty_line b s is)
    (λ differs.
    refused empty_line b s differs
    (⊎_elim
    (λ under. simp (lt-ltb b first_letter under))
    (λ over. simp (le-ltb b first_letter (omega arith), lt-ltb last_letter b over))
    out))
    (eq_or_not b line_feed)

-- it has the form as far as it has been read, up to `rest`
pub record LineGoing (s : List ℕ) (line : Line) (rest : List ℕ) : Type 0 where
  pub few : line.count ≤ numbers_kept
  pub shape : line ≡ state Letter line.letter 0 line.count line.numbers
  pub goes : Goes empty_line s (state Letter line.letter 0 line.count line.numbers) rest

pub letter_first : (s : List ℕ) → first_letter ≤ get_or s 0 0 → get_or s 0 0 ≤ last_letter
    → LineGoing s (state Letter (get_or s 0 0) 0 0 zeros) (after_first s)
unfolding feed_by
letter_first [] least most = absurd (omega arith)
letter_first (b ∷ s) least most =
    let letter : feed_of empty_line b ≡ state Letter b 0 0 zeros =
    simp (le-ltb b first_letter least, le-ltb last_letter b most) in
    record {
      few = omega arith;
      shape = refl;
      goes =
          rw (take_rest (b ∷ s) 1)
          (fed empty_line (state Letter b 0 0 zeros) b s (λ e. omega arith) letter).goes;
    }

module _ {s : List ℕ} {line : Line} where
  going_space : (b : ℕ) (t : List ℕ) → LineGoing s line (b ∷ t) → b ≡ space
      → Goes empty_line s (state Space line.letter 0 line.count line.numbers) t
  unfolding feed_by
  going_space b t g is =
      let now = state Letter line.letter 0 line.count line.numbers in
      let spaced : Line = state Space line.letter 0 line.count line.numbers in
      goes_on g.goes (fed now spaced b t (λ e. omega arith) (simp (eq-eqb b space is))).goes

  pub going_full : (rest : List ℕ) → LineGoing s line rest → get_or rest 0 0 ≡ space → numbers_kept ≤ line.count
      → line_after empty_line s ≡ malformed_line
  going_full [] g is full = absurd (omega arith)
  going_full (b ∷ t) g is full =
      (going_space b t g is).same
      ∙ ap (λ (k : ℕ). line_after (state Space line.letter 0 k line.numbers) t) (omega (arith, g.few))
      ∙ sixth_refused line.letter 0 line.numbers t

  pub going_none : (rest : List ℕ) → LineGoing s line rest → get_or rest 0 0 ≡ space
      → numeral_read (after_first rest) ≡ None → line_after empty_line s ≡ malformed_line
  going_none [] g is none = absurd (omega arith)
  going_none (b ∷ t) g is none =
      let none-left = rw (take_rest (b ∷ t) 1) at none in
      ⊎_elim
      (λ few. (going_space b t g is).same ∙ rw none-left at (numeral_go line.letter line.count line.numbers few t))
      (λ full. going_full (b ∷ t) g is full)
      (lt_or_le line.count numbers_kept)

  pub going_more : (rest : List ℕ) → LineGoing s line rest → {v : ℕ} {next : Line} {after : List ℕ}
      → get_or rest 0 0 ≡ space → numeral_read (after_first rest) ≡ Some (v, after) → line.count < numbers_kept
      → next ≡ with_number line v → LineGoing s next after
  going_more [] g is read few next-is = absurd (omega arith)
  going_more (b ∷ t) g {v} {next} {after} is read few next-is =
      let read-left = rw (take_rest (b ∷ t) 1) at read in
      let more : GoesWithin (state Space line.letter 0 line.count line.numbers) t
      (state Letter line.letter 0 (line.count + 1) (set line.numbers line.count v)) after =
      rw read-left at (numeral_go line.letter line.count line.numbers few t) in
      rw next-is
      (record {
        few = omega arith;
        shape = ap (λ (l : Line). with_number l v) g.shape;
        goes = goes_on (going_space b t g is) more.goes;
      })

  pub going_other : (rest : List ℕ) → LineGoing s line rest → 1 ≤ length rest → (get_or rest 0 0 ≡ space → ⊥)
      → (get_or rest 0 0 ≡ line_feed → ⊥) → line_after empty_line s ≡ malformed_line
  unfolding feed_by
  going_other [] g some other differs = absurd (omega arith)
  going_other (b ∷ t) g some other differs =
      g.goes.same
      ∙ refused (state Letter line.letter 0 line.count line.numbers) b t differs (simp (ne_eqb b space other))

  pub going_ended : (rest : List ℕ) → LineGoing s line rest → length rest < 1 → FormedRead s line rest
  unfolding end_by run_of line_end
  going_ended [] g none = record { line_is = g.shape ∙ sym g.goes.same; rest_is = sym g.goes.rest }
  going_ended (b ∷ t) g none = absurd (omega arith)

  pub going_line_feed : (rest : List ℕ) → LineGoing s line rest → get_or rest 0 0 ≡ line_feed → FormedRead s line rest
  unfolding end_by run_of line_end
  going_line_feed [] g is = absurd (omega arith)
  going_line_feed (b ∷ t) g is =
      let now = state Letter line.letter 0 line.count line.numbers in
      record {
        line_is = g.shape ∙ sym (after_end now b t is) ∙ sym g.goes.same;
        rest_is = sym (g.goes.rest ∙ rw (eq-eqb b line_feed is));
      }

pub ruleset line_laws = (
  letter_other,
  letter_first,
  going_none,
  going_full,
  going_other,
  going_ended,
  going_line_feed,
)

-- ---- the same, with what is left of s where the line shows to be malformed

-- it has the form up to `rest`, and no more bytes are left than there were
pub record LineLeft (s : List ℕ) (line : Line) (rest : List ℕ) : Type 0 where
  pub going : LineGoing s line rest
  pub fewer : length rest ≤ length s

pub formless_letter : (s : List ℕ) → (get_or s 0 0 < first_letter) ⊎ (last_letter < get_or s 0 0) → FormlessRead s s
formless_letter s out = record { line_is = letter_other s out; rest_is = refl; within = omega arith }

pub left_first : (s : List ℕ) → first_letter ≤ get_or s 0 0 → get_or s 0 0 ≤ last_letter
    → LineLeft s (state Letter (get_or s 0 0) 0 0 zeros) (after_first s)
left_first [] least most = absurd (omega arith)
left_first (b ∷ s) least most =
    record { going = letter_first (b ∷ s) least most; fewer = rw (take_rest (b ∷ s) 1) (omega arith) }

-- the bytes after a number end as those from its front on, and are no more
numeral_left : (s : List ℕ) {v : ℕ} {after : List ℕ} → numeral_read s ≡ Some (v, after)
    → GoesWithin (state Space 0 0 0 zeros) s (state Letter 0 0 1 (set zeros 0 v)) after
numeral_left s read = rw read at (numeral_go 0 0 zeros (omega arith) s)

module _ {s : List ℕ} {line : Line} where
  formless : (rest : List ℕ) → LineLeft s line rest → line_after empty_line s ≡ malformed_line → FormlessRead s rest
  formless rest g malformed = record { line_is = malformed; rest_is = g.going.goes.rest; within = g.fewer }

  pub formless_none : (rest : List ℕ) → LineLeft s line rest → get_or rest 0 0 ≡ space
      → numeral_read (after_first rest) ≡ None → FormlessRead s rest
  formless_none rest g is none = formless rest g (going_none rest g.going is none)

  pub going_sixth : (rest : List ℕ) → LineLeft s line rest → {v : ℕ} {after : List ℕ} → get_or rest 0 0 ≡ space
      → numeral_read (after_first rest) ≡ Some (v, after) → numbers_kept ≤ line.count → FormlessRead s after
  going_sixth [] g is read full = absurd (omega arith)
  going_sixth (b ∷ t) g is read full =
      let more = numeral_left t (rw (take_rest (b ∷ t) 1) at read) in
      record {
        line_is = going_full (b ∷ t) g.going is full;
        rest_is = (going_space b t g.going is).rest ∙ more.goes.rest;
        within = omega (arith, g.fewer, more.fewer);
      }

  pub formless_other : (rest : List ℕ) → LineLeft s line rest → 1 ≤ length rest → (get_or rest 0 0 ≡ space → ⊥)
      → (get_or rest 0 0 ≡ line_feed → ⊥) → FormlessRead s rest
  formless_other rest g some other differs = formless rest g (going_other rest g.going some other differs)

  pub left_more : (rest : List ℕ) → LineLeft s line rest → {v : ℕ} {next : Line} {after : List ℕ}
      → get_or rest 0 0 ≡ space → numeral_read (after_first rest) ≡ Some (v, after) → line.count < numbers_kept
      → next ≡ with_number line v → LineLeft s next after
  left_more [] g is read few next-is = absurd (omega arith)
  left_more (b ∷ t) g is read few next-is =
      let more = numeral_left t (rw (take_rest (b ∷ t) 1) at read) in
      record { going = going_more (b ∷ t) g.going is read few next-is; fewer = omega (arith, g.fewer, more.fewer) }

pub ruleset left_laws = (
  formless_letter,
  left_first,
  formless_none,
  going_sixth,
  formless_other,
)

-- ---- the line that begins at a place

-- the bytes of a sheet from a place on, as a slice has them
abbrev bytes_from : List ℕ → ℕ → List ℕ
bytes_from sheet from = take (length sheet - from) (drop from sheet)

module _ (sheet : List ℕ) (from : ℕ) (begins : from < length sheet) where
  left_within : from + line_end (drop from sheet) ≤ length sheet
  left_within = omega (arith, end_within (drop from sheet), length-drop from sheet)

  pub whole_formed : (line : Line) (rest : List ℕ) → FormedRead (bytes_from sheet from) line rest
      → WholeAt sheet from (record { line = line; end = length sheet - length rest })
  whole_formed line rest read =
      let s = drop from sheet in
      let read-on : FormedRead s line rest = rw (take_rest sheet from) at read in
      let left : length rest ≡ length s - line_end s =
      ap length read-on.rest_is ∙ length-drop (line_end s) s in
      record {
        end_is = omega (arith, left, left_within, length-drop from sheet);
        within = omega arith;
        line_is = read-on.line_is;
      }

  pub whole_malformed : (end : ℕ) → line_after empty_line (bytes_from sheet from) ≡ malformed_line
      → end ≡ line_end (bytes_from sheet from)
      → WholeAt sheet from (record { line = malformed_line; end = from + end })
  whole_malformed end malformed is =
      record {
        end_is = ap (λ (k : ℕ). from + k) (rw (take_rest sheet from) at is);
        within = rw (is, take_rest sheet from) left_within;
        line_is = sym (rw (take_rest sheet from) at malformed);
      }

  pub whole_formless : (rest : List ℕ) (end : ℕ) → FormlessRead (bytes_from sheet from) rest → end ≡ line_end rest
      → WholeAt sheet from (record { line = malformed_line; end = length sheet - length rest + end })
  whole_formless rest end read is =
      let s = bytes_from sheet from in
      let whole = whole_malformed (line_end s) read.line_is refl in
      let bytes : length s ≡ length sheet - from = ap length (take_rest sheet from) ∙ length-drop from sheet in
      let left : length s - line_end s ≡ length rest - line_end rest =
      sym (length-drop (line_end s) s) ∙ ap length read.rest_is ∙ length-drop (line_end rest) rest in
      let end-is : length sheet - length rest + end ≡ from + line_end s =
      omega (arith, is, bytes, left, read.within, end_within rest) in
      rw end-is whole

pub ruleset passing_laws = (end_within, whole_formless)
