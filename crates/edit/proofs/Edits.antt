-- What each edit of the words of a book asks and makes of its facts: the edit's words between those that stay, by the
-- laws of runs. Assumes nothing.
use Prim.Native.Nat.{ℕ, ◌+◌, ◌-◌, ◌^◌, ◌≤◌, ◌<◌}
use mathlib.Core.Path.{◌≡◌, refl, ap, ◌∙◌}
use mathlib.Core.Bool.{Bool, true, false, cond}
use mathlib.Core.List.{List, [], ◌∷◌, map}
use native.Mathlib.Omega.{arith}
use lib.Dec.{T}
use lib.ListN.{length, get_or, set}
use lib.Seq.{sets}
use Rattle.word.specs.declared.class.ClassRecord.{ClassRecord}
use Rattle.word.specs.Codec.{Strike, packed, Fits}
use Rattle.word.specs.Class.{opened, designation}
use Rattle.word.specs.Caps.{own}
use Rattle.word.specs.Programs.{is_program}
use Rattle.word.specs.Counters.{Addable, strikes_for, strike_of, strike_among, together, strikes_said, strikes_added, own_set}
use Rattle.word.specs.Field.{field}
use Rattle.word.specs.Kinds.{key_of, strike_kind, ground_field, counter_kind}
use Rattle.word.proofs.Words.{strike_fields}
use Rattle.book.specs.Facts.{Series, Facts, with_figures, owned, strikes_on}
use Rattle.word.specs.Figures.{figures_length, figures_words, are_figures}
use Rattle.book.specs.Layout.{expiration_unless, strike_word, layout, facts_of}
use Rattle.book.specs.Books.{is_book}
use Rattle.book.specs.Views.{class}
use Rattle.book.specs.Changes.{update, new_series, strike_added, marks_set, class_opened}
use Rattle.book.specs.Places.{StrikeStands, class_place, has_expiration, strike_place}
use Rattle.book.specs.Uncounted.{uncounted}
use Rattle.word.proofs.RawWords.{fits}
use Rattle.book.proofs.LegalWords.{strike_legal}
use Rattle.logic.proofs.Tests.{and_intro}
use Rattle.word.proofs.EachProgram.{each_program}
use Rattle.word.proofs.Counters.{by_program_lem, one_few}
use Rattle.book.proofs.ProgramTable.{tabled}
use Rattle.book.proofs.Counted.{own_by, strike_packed, strike_adds, strike_owns, words_own, strikes_few}
use Rattle.book.proofs.Recounted.{own_spliced, strikes_spliced, old_within, counted_alike, strikes_more, strikes_written, own_written}
use Rattle.book.proofs.Splices.{Spliced, used_spliced, figures_spliced, opened_spliced, listed_spliced, marking}
use Rattle.book.proofs.Runs.{strike_within, standing_within}
use Rattle.place.proofs.Heads.{book_good, book_form, book_room, book_long}
use Rattle.place.proofs.Found.{class_within, class_room}
use Rattle.edit.specs.Insertion.{HasRoom, insert_words}
use Rattle.edit.specs.EditsAsked.{Storable, Refigured, Redesignable, Markable, Openable, Insertable}
use Rattle.edit.proofs.EditedRuns.{old_read, stored, inserted}

module _ (ws : List ℕ) (at : ℕ) where
  abbrev f : Facts
  f = facts_of ws

  -- ---- figures stored

  module _ (r : ClassRecord) (x : Storable ws at r) where
    pub figures_room : at + figures_length ≤ length ws
    figures_room =
        omega (arith, x.place, class_room ws x.book r.number x.is_open, book_room ws x.book)

    abbrev refigured : Facts
    refigured = update (with_figures r (class f r.number)) f

    abbrev old_figures : ClassRecord
    old_figures = (class f r.number).figures

    figures_between :
        Spliced (class_place r.number f) (figures_words old_figures []) (figures_words r []) f refigured
    figures_between = figures_spliced (length ws) f r.number (book_good ws x.book) x.is_open r refl

    pub figures_written : sets ws at (map packed (figures_words r [])) ≡ uncounted (length ws) f refigured
    figures_written =
        ap (λ (i : ℕ). sets ws i (map packed (figures_words r []))) x.place ∙ stored ws x.book figures_between refl

    strikes_kept : (p : ℕ) → T (is_program p) → strikes_on p f.classes ≡ strikes_on p refigured.classes
    strikes_kept p k = omega (arith, strikes_spliced figures_between p)

    own_alike :
        (p : ℕ) → designation p r ≡ designation p old_figures → owned p f.classes ≡ owned p refigured.classes
    own_alike p e = omega (arith, own_spliced figures_between p, ap own e)

    pub figures_stored :
        Refigured ws r → sets ws at (map packed (figures_words r [])) ≡ layout (length ws) refigured
    figures_stored kept =
        figures_written
        ∙ counted_alike (length ws) f refigured
        (λ p k. own_alike p (ap (λ (ds : List ℕ). get_or ds (p - 1) 0) kept)) strikes_kept

  -- ---- a designation stored

  module _ (r : ClassRecord) (p was : ℕ) (x : Redesignable ws at r p was) where
    abbrev book : T (is_book ws)
    book = x.storable.book

    -- the class is counted as it was, and there is room for one more
    pub own_room : (own was ≤ owned p f.classes) × (owned p f.classes + 1 < 2 ^ counter_kind.width)
    own_room = (
      omega (
        arith,
        old_within (figures_between r x.storable) (own_by p),
        words_own p f.classes,
        ap own x.before,
      ),
      omega (arith, (book_form ws book).caps p x.numbered, (tabled p x.numbered).cap),
    )

    pub designation_stored :
        (count : ℕ) → count ≡ owned p f.classes - own was + own (designation p r)
        → own_set p count (uncounted (length ws) f (refigured r x.storable))
        ≡ layout (length ws) (refigured r x.storable)
    designation_stored count e =
        own_written (length ws) f (refigured r x.storable) (book_good ws book) p x.numbered count
        (omega (arith, e, own_room, own_spliced (figures_between r x.storable) p, ap own x.before))
        (λ q k apart. own_alike r x.storable q (x.others q k apart))
        (strikes_kept r x.storable)

  -- ---- marks stored

  pub marks_room : (a b : ℕ) → Markable ws at a b → at < length ws
  marks_room a b x =
      let s = x.strike in
      let good = book_good ws x.book in
      omega (
        arith,
        s.place,
        standing_within (length ws) f s.class s.month s.strike good s.is_open s.standing,
        book_room ws x.book,
      )

  pub marks_stored :
      (a b : ℕ) → T (is_book ws) → (x : StrikeStands f at)
      → set ws at (packed (Strike (key_of strike_kind (get_or ws at 0)) (field (get_or ws at 0) ground_field) a b))
      ≡ layout (length ws) (update (marks_set x.month x.strike a b (class f x.class)) f)
  marks_stored a b t x =
      let one = marking (length ws) f x.class (book_good ws t) x.is_open x.month x.strike x.standing in
      let it = one.it in
      let e = x.place in
      let old : get_or ws at 0 ≡ packed (strike_word it) =
      ap (λ (i : ℕ). get_or ws i 0) e ∙ old_read ws t (one.spliced a b) refl in
      let read =
      strike_fields (packed (strike_word it)) it.strike it.on_ground it.put it.call
      (fits (strike_word it) (strike_legal f.now it one.limits)) refl in
      let strike = ap (λ (w : ℕ). key_of strike_kind w) old ∙ read.0 in
      let on_ground = ap (λ (w : ℕ). field w ground_field) old ∙ read.1 in
      (λ i. set ws (e i) (packed (Strike (strike i) (on_ground i) a b)))
      ∙ stored ws t (one.spliced a b) refl
      ∙ counted_alike (length ws) f (update (marks_set x.month x.strike a b (class f x.class)) f)
      (λ p k. omega (arith, own_spliced (one.spliced a b) p))
      (λ p k. omega (arith, strikes_spliced (one.spliced a b) p))

  -- ---- a class put in

  module _ (c : ℕ) (x : Openable ws at c) where
    pub opened_limits : (r : ClassRecord) → r ≡ opened c → T (are_figures r)
    opened_limits r e = let t = x.number in rw e (search and_intro)

    pub opened_room : HasRoom figures_length at ws
    opened_room =
        record { book = x.book; inside = omega (arith, x.place, class_within ws x.book c); room = x.room }

    pub class_inserted :
        insert_words at (map packed (figures_words (opened c) [])) ws ≡ layout (length ws) (class_opened c f)
    class_inserted =
        let between = opened_spliced (length ws) f c (book_good ws x.book) x.is_closed in
        ap (λ (i : ℕ). insert_words i (map packed (figures_words (opened c) [])) ws) x.place
        ∙ inserted ws x.book between refl
        ∙ counted_alike (length ws) f (class_opened c f)
        (each_program _ (
          omega (arith, own_spliced between 1),
          (omega (arith, own_spliced between 2), (omega (arith, own_spliced between 3), tt)),
        ))
        (λ p k. omega (arith, strikes_spliced between p))

  -- ---- a strike put in

  module _ (stands : Bool) (m h on_ground : ℕ) (x : Insertable ws at stands m h on_ground) where
    pub listed_fits : Fits (Strike h on_ground 0 0)
    listed_fits = let t = x.strike in let u = x.on in fits (Strike h on_ground 0 0) (search and_intro)

    pub listed_room : HasRoom (cond {A = ℕ} stands 1 2) at ws
    listed_room =
        let within = strike_within (length ws) f x.class m (book_good ws x.book) x.is_open h in
        record { book = x.book; inside = omega (arith, x.place, within); room = x.room }

    abbrev new : Series
    new = new_series m h on_ground

    abbrev listed : Facts
    listed = update (strike_added new (class f x.class)) f

    words_between :
        Spliced (strike_place x.class m h f) []
        (expiration_unless (has_expiration x.class m f) m (strike_word new ∷ [])) f listed
    words_between = listed_spliced (length ws) f x.class (book_good ws x.book) x.is_open new x.absent

    pub strike_inserted :
        insert_words at (map packed (expiration_unless stands m (strike_word new ∷ []))) ws
        ≡ uncounted (length ws) f listed
    strike_inserted =
        (λ i. insert_words (x.place i) (map packed (expiration_unless (x.expiration i) m (strike_word new ∷ []))) ws)
        ∙ inserted ws x.book words_between refl

    -- the new strike for each program
    abbrev one : List ℕ
    one = strike_among (packed (strike_word new))

    strike_counted :
        (p : ℕ) → T (is_program p)
        → strikes_on p f.classes + strikes_for one p ≡ strikes_on p listed.classes
    strike_counted p k =
        omega (
          arith,
          strikes_spliced words_between p,
          strike_adds p (has_expiration x.class m f) m new,
          by_program_lem (λ q. strike_of q (packed (strike_word new))) p k,
          strike_packed p (strike_word new) listed_fits,
        )

    -- the strikes of each program with the new one
    new_strikes :
        (p : ℕ) → T (is_program p)
        → strikes_for (together (strikes_said (uncounted (length ws) f listed)) one) p
        ≡ strikes_on p listed.classes
    new_strikes = strikes_more (length ws) f listed (book_good ws x.book) one strike_counted

    pub strike_addable :
        (run : List ℕ) → length run ≡ length ws → run ≡ uncounted (length ws) f listed → Addable run one
    strike_addable run long e = record {
      room = omega (arith, long, book_long ws x.book);
      few = one_few (packed (strike_word new));
      all = λ p k.
          omega (
            arith,
            ap (λ (l : List ℕ). strikes_for (together (strikes_said l) one) p) e,
            new_strikes p k,
            strikes_few p listed.classes,
            used_spliced words_between,
            added stands,
            x.room,
            book_long ws x.book,
            ap (λ (b : Bool). length (expiration_unless b m (strike_word new ∷ []))) x.expiration,
          );
    }
      where
        added : (b : Bool) → length (expiration_unless b m (strike_word new ∷ [])) ≡ cond {A = ℕ} b 1 2
        added true = refl
        added false = refl

    pub strike_written : strikes_added one (uncounted (length ws) f listed) ≡ layout (length ws) listed
    strike_written =
        strikes_written (length ws) f listed (book_good ws x.book)
        (together (strikes_said (uncounted (length ws) f listed)) one)
        (λ p k. omega (arith, own_spliced words_between p, strike_owns p (has_expiration x.class m f) m new))
        new_strikes
