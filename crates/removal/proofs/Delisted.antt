-- Words taken out of the run of a book: those after them move down, and with the strike no longer counted the run is
-- the layout of the facts whose words are left. On the run's parts. Assumes nothing.
use Prim.Native.Nat.{ℕ, ◌+◌, ◌-◌, ◌≤◌, ◌<◌}
use mathlib.Core.Path.{◌≡◌, refl, sym, ap, ◌∙◌}
use mathlib.Core.Bool.{Bool, true, false, cond, not}
use mathlib.Core.List.{List, [], ◌∷◌, ◌++◌, map, append_assoc}
use native.Mathlib.Omega.{arith}
use lib.Dec.{T}
use lib.ListN.{length, get_or, set, take, drop, replicate, length-append, length-map}
use lib.Seq.{get_or-append-add}
use borrow.Rule.Slice.PartMut.{mid_of, put_mid, Post-is}
use Rattle.word.specs.Limits.{longest_run}
use Rattle.word.specs.Head.{first_place}
use Rattle.word.specs.Codec.{Word, Head, packed}
use Rattle.word.specs.Programs.{is_program}
use Rattle.word.specs.Counters.{AreAmong, strikes_for, strikes_said, without, strike_of, strike_among, strikes_taken}
use Rattle.word.proofs.RawWords.{fits}
use Rattle.word.proofs.Counters.{by_program_lem}
use Rattle.book.specs.Facts.{Facts, strikes_on}
use Rattle.book.specs.Layout.{strike_word, expiration_unless, used, counter_words, layout, facts_of}
use Rattle.book.specs.Uncounted.{uncounted}
use Rattle.book.specs.Places.{strike_place}
use Rattle.book.specs.Books.{is_book}
use Rattle.book.specs.Views.{class}
use Rattle.book.specs.Changes.{update, strike_removed}
use Rattle.book.proofs.LegalWords.{strike_legal}
use Rattle.book.proofs.Counted.{strike_packed, strike_adds, strike_owns}
use Rattle.book.proofs.Recounted.{own_spliced, strikes_spliced, strikes_less, strikes_among_lem, strikes_written}
use Rattle.book.proofs.Splices.{Spliced, used_spliced, place_inside, Delisting, delisting}
use Rattle.book.proofs.SplicedRuns.{front, back, zeros, place_is, run_was, run_is}
use Rattle.book.proofs.Runs.{standing_within}
use Rattle.place.proofs.Heads.{book_good, book_room, book_long}
use Rattle.gap.specs.Gaps.{closed}
use Rattle.removal.specs.RemovalsAsked.{Delistable}
use Rattle.removal.specs.Removal.{remove_words}
use Rattle.gap.proofs.GapsInside.{closed_inside}
use Rattle.logic.proofs.Slices.{zeros_joined}

-- ---- k words less from `at` on

-- the words used from `at` on with their gap closed, back in their place, and the head that counts what is left
pub closed_between :
    (ws part : List ℕ) (at end k month : ℕ) → end ≡ used (facts_of ws) → month ≡ (facts_of ws).now → at ≤ end
    → part ≡ closed k (mid_of at (end - at) ws)
    → set (put_mid at (end - at) ws part) 0 (packed (Head month (end - k))) ≡ remove_words k at ws
unfolding remove_words
closed_between ws part at end k month all now inside moved =
    (λ i. set (take at ws ++ (moved i ++ Post-is at end ws inside i)) 0 (packed (Head (now i) (end - k))))
    ∙ (λ i.
    set (take at ws ++ (closed k (take (all i - at) (drop at ws)) ++ drop (all i) ws)) 0
    (packed (Head (facts_of ws).now (all i - k))))

module _
    (ws : List ℕ) (t : T (is_book ws)) {at : ℕ} {old : List Word} {g : Facts} (s : Spliced at old [] (facts_of ws) g)
    (k : ℕ) (e : length old ≡ k) where
  abbrev f : Facts
  f = facts_of ws

  abbrev a : List ℕ
  a = front ws t s

  abbrev b : List ℕ
  b = map packed old

  abbrev c : List ℕ
  c = back ws t s

  abbrev d : List ℕ
  d = zeros ws t s

  abbrev freed : List ℕ
  freed = replicate k 0

  abbrev head : ℕ
  head = packed (Head f.now (used f - k))

  was : ws ≡ a ++ ((b ++ c) ++ d)
  was = run_was ws t s ∙ ap (λ (l : List ℕ). a ++ l) (sym (append_assoc b c d))

  place : length a ≡ at
  place = sym (place_is ws t s)

  long : length (b ++ c) ≡ used f - at
  long =
      omega (
        arith,
        length-append b c,
        length-map old packed,
        length-map s.back packed,
        s.place,
        ap length s.was ∙ length-append s.front (old ++ s.back),
        length-append old s.back,
      )

  past : freed ++ d ≡ replicate (length ws - (used f - k)) 0
  past = zeros_joined k (length ws - used f) (length ws - (used f - k)) (omega (arith, book_room ws t, place_inside s))

  taken_out : remove_words k at ws ≡ uncounted (length ws) f g
  taken_out =
      sym (closed_between ws _ at (used f) k f.now refl refl (omega (arith, place_inside s)) refl)
      ∙ (λ i. set (put_mid at (used f - at) (was i) (closed k (mid_of at (used f - at) (was i)))) 0 head)
      ∙ ap (λ (l : List ℕ). set l 0 head)
      (closed_inside a b c d at (used f - at) k place long (length-map old packed ∙ e))
      ∙ ap
      (λ (l : List ℕ). head ∷ (map packed (counter_words f.classes) ++ (map packed s.front ++ (c ++ l)))) past
      ∙ run_is ws t s (used f - k) (omega (arith, used_spliced s))

-- where the word of a strike stands: among those used, behind the head and the counters
pub record Standing (at : ℕ) (ws : List ℕ) : Type 0 where
  pub after : first_place < at
  pub inside : at < used (facts_of ws)
  pub room : used (facts_of ws) ≤ length ws
  pub short : length ws ≤ longest_run

module _ (ws : List ℕ) (at : ℕ) (alone : Bool) (x : Delistable ws at alone) where
  pub standing : Standing at ws
  standing =
      let within =
      standing_within (length ws) (facts_of ws) x.class x.month x.strike (book_good ws x.book) x.is_open x.standing in
      record {
        after = omega (arith, x.place);
        inside = omega (arith, x.place, within);
        room = book_room ws x.book;
        short = (book_long ws x.book).1;
      }

  -- the strike's word taken out, and its expiration's where it is alone behind that
  pub delisted :
      (b : Bool) → alone ≡ b → (from : ℕ) → from ≡ at - cond {A = ℕ} b 1 0
      → remove_words (cond {A = ℕ} b 2 1) from ws
      ≡ uncounted (length ws) (facts_of ws)
      (update (strike_removed x.month x.strike (class (facts_of ws) x.class)) (facts_of ws))
  delisted b is from place =
      let d =
      delisting (length ws) (facts_of ws) x.class (book_good ws x.book) x.is_open x.month x.strike b x.standing
      (sym is ∙ x.last) in
      let k = cond {A = ℕ} b 2 1 in
      ap (λ (i : ℕ). remove_words k i ws) (place ∙ ap (λ (i : ℕ). i - cond {A = ℕ} b 1 0) x.place)
      ∙ taken_out ws x.book d.spliced k (gone b (strike_word d.it))
    where
      gone : (b : Bool) (w : Word) → length (expiration_unless (not b) x.month (w ∷ [])) ≡ cond {A = ℕ} b 2 1
      gone true w = refl
      gone false w = refl

-- ---- the strike no longer counted

module _ (ws : List ℕ) (at : ℕ) (alone : Bool) (x : Delistable ws at alone) where
  abbrev before : Facts
  before = facts_of ws

  abbrev delisted_facts : Facts
  delisted_facts = update (strike_removed x.month x.strike (class before x.class)) before

  D : Delisting (length ws) before x.class (book_good ws x.book) x.is_open x.month x.strike alone
  D =
      delisting (length ws) before x.class (book_good ws x.book) x.is_open x.month x.strike alone
      x.standing x.last

  -- the word at `at` is the strike's
  word_read : get_or ws at 0 ≡ packed (strike_word D.it)
  word_read = go alone refl D.spliced
    where
      go :
          (b : Bool) → alone ≡ b
          → Spliced (strike_place x.class x.month x.strike before - cond {A = ℕ} b 1 0)
          (expiration_unless (not b) x.month (strike_word D.it ∷ [])) [] before delisted_facts
          → get_or ws at 0 ≡ packed (strike_word D.it)
      go true e s =
          let place : at ≡ length (front ws x.book s) + 1 = omega (arith, x.place, place_is ws x.book s) in
          (λ i. get_or (run_was ws x.book s i) (place i) 0)
          ∙ get_or-append-add (front ws x.book s) _ 1 0
      go false e s =
          let place : at ≡ length (front ws x.book s) + 0 = omega (arith, x.place, place_is ws x.book s) in
          (λ i. get_or (run_was ws x.book s i) (place i) 0)
          ∙ get_or-append-add (front ws x.book s) _ 0 0

  -- the strike for each program
  abbrev gone : List ℕ
  gone = strike_among (get_or ws at 0)

  one_less :
      (p : ℕ) → T (is_program p)
      → strikes_on p delisted_facts.classes + strikes_for gone p ≡ strikes_on p before.classes
  one_less p k =
      omega (
        arith,
        strikes_spliced D.spliced p,
        strike_adds p (not alone) x.month D.it,
        by_program_lem (λ q. strike_of q (get_or ws at 0)) p k,
        ap (strike_of p) word_read,
        strike_packed p (strike_word D.it)
            (fits (strike_word D.it) (strike_legal before.now D.it D.limits)),
      )

  pub delisted_among :
      (run strikes : List ℕ) → run ≡ uncounted (length ws) before delisted_facts → strikes ≡ gone
      → AreAmong (strikes_said run) strikes
  delisted_among run strikes r s =
      rw (r, s) (strikes_among_lem (length ws) before delisted_facts (book_good ws x.book) gone one_less)

  pub delisted_counted :
      strikes_taken gone (uncounted (length ws) before delisted_facts) ≡ layout (length ws) delisted_facts
  delisted_counted =
      strikes_written (length ws) before delisted_facts (book_good ws x.book)
      (without (strikes_said (uncounted (length ws) before delisted_facts)) gone)
      (λ p k. omega (arith, own_spliced D.spliced p, strike_owns p (not alone) x.month D.it))
      (strikes_less (length ws) before delisted_facts (book_good ws x.book) gone one_less)
