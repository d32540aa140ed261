-- The counters after an edit of facts, and the run in which they are written: by what the words that go and come add to
-- them. Assumes nothing.
use Prim.Native.Nat.{ℕ, ◌+◌, ◌-◌, ◌≤◌}
use mathlib.Core.Path.{◌≡◌, refl, sym, ap, ◌∙◌}
use mathlib.Core.Bool.{Bool, true, false, cond}
use mathlib.Core.List.{List, [], ◌∷◌, ◌++◌, map}
use native.Mathlib.Omega.{arith}
use lib.Dec.{T, eqb, leb}
use lib.ListN.{length, replicate}
use Rattle.std.specs.Prelude.{Ok, Err}
use Rattle.logic.specs.Lists.{sum}
use Rattle.logic.proofs.Tests.{ands, T_true, true_T}
use Rattle.logic.proofs.Lists.{sum_append}
use Rattle.word.specs.Codec.{Word, Head, Counter, packed, Fits}
use Rattle.word.specs.declared.answer.Refusal.TheVariants.{BeyondLimits}
use Rattle.word.specs.Head.{first_place, own_in, strikes_in}
use Rattle.word.specs.Programs.{programs, is_program}
use Rattle.word.specs.Counters.{counts_in, strikes_for, strikes_said, together, without, AreAmong, own_set, with_strikes}
use Rattle.word.proofs.Words.{counter_fields}
use Rattle.word.proofs.RawWords.{fits}
use Rattle.word.proofs.EachProgram.{each_program}
use Rattle.word.proofs.Counters.{by_program_lem}
use Rattle.book.specs.Facts.{Facts, owned, strikes_on}
use Rattle.book.specs.Layout.{classes_words, counter_of, used, layout, facts_of}
use Rattle.book.specs.Books.{is_well_formed, is_book}
use Rattle.book.specs.CounterReads.{counts_of, counter_read, counter_said}
use Rattle.book.specs.Uncounted.{uncounted}
use Rattle.book.proofs.Counted.{own_by, strike_by, words_own, words_strikes}
use Rattle.book.proofs.Forms.{well}
use Rattle.book.proofs.Layouts.{counter_legal, book_facts}
use Rattle.book.proofs.Splices.{Spliced}

-- ---- what an edit changes

-- of anything that words add to
sum_spliced :
    {at : ℕ} {old new : List Word} {f g : Facts} → Spliced at old new f g → (adds : Word → ℕ)
    → sum adds (classes_words g.classes []) + sum adds old ≡ sum adds (classes_words f.classes []) + sum adds new
sum_spliced {at} {old} {new} {f} {g} s adds =
    let a = s.front in
    let b = s.back in
    omega (
      arith,
      ap (sum adds) s.was ∙ sum_append adds a (old ++ b),
      ap (sum adds) s.is ∙ sum_append adds a (new ++ b),
      sum_append adds old b,
      sum_append adds new b,
    )

module _ {at : ℕ} {old new : List Word} {f g : Facts} (s : Spliced at old new f g) (p : ℕ) where
  pub own_spliced : owned p g.classes + sum (own_by p) old ≡ owned p f.classes + sum (own_by p) new
  own_spliced = omega (arith, sum_spliced s (own_by p), words_own p f.classes, words_own p g.classes)

  pub strikes_spliced :
      strikes_on p g.classes + sum (strike_by p) old ≡ strikes_on p f.classes + sum (strike_by p) new
  strikes_spliced =
      omega (arith, sum_spliced s (strike_by p), words_strikes p f.classes, words_strikes p g.classes)

-- no more go than there are
module _ {at : ℕ} {old new : List Word} {f g : Facts} (s : Spliced at old new f g) (adds : Word → ℕ) where
  pub old_within : sum adds old ≤ sum adds (classes_words f.classes [])
  old_within =
      omega (
        arith,
        ap (sum adds) s.was ∙ sum_append adds s.front (old ++ s.back),
        sum_append adds old s.back,
      )

-- ---- the counters written

module _ (n : ℕ) (f g : Facts) where
  -- there is nothing to write where both count the same
  pub counted_alike :
      ((p : ℕ) → T (is_program p) → owned p f.classes ≡ owned p g.classes)
      → ((p : ℕ) → T (is_program p) → strikes_on p f.classes ≡ strikes_on p g.classes)
      → uncounted n f g ≡ layout n g
  unfolding uncounted layout
  counted_alike own strikes =
      let same : (p : ℕ) → T (is_program p) → counter_of f.classes p ≡ counter_of g.classes p =
      λ p k. λ i. Counter (own p k i) (strikes p k i) in
      ap
      (λ (l : List Word).
      map packed (Head g.now (used g) ∷ (l ++ classes_words g.classes [])) ++ replicate (n - used g) 0)
      (λ i. same 1 tt i ∷ same 2 tt i ∷ same 3 tt i ∷ [])

  module _ (good : T (is_well_formed n f)) where
    holds : (p : ℕ) → T (is_program p) → Fits (counter_of f.classes p)
    holds p k = fits (counter_of f.classes p) (counter_legal n f good p k)

    -- what the counters say before they are written
    pub own_said : (p : ℕ) → T (is_program p) → own_in p (uncounted n f g) ≡ owned p f.classes
    unfolding uncounted
    own_said =
        each_program _ (
          (counter_fields _ _ _ (holds 1 tt) refl).0,
          ((counter_fields _ _ _ (holds 2 tt) refl).0, ((counter_fields _ _ _ (holds 3 tt) refl).0, tt)),
        )

    pub strikes_said_lem : (p : ℕ) → T (is_program p) → strikes_in p (uncounted n f g) ≡ strikes_on p f.classes
    unfolding uncounted
    strikes_said_lem =
        each_program _ (
          (counter_fields _ _ _ (holds 1 tt) refl).1,
          ((counter_fields _ _ _ (holds 2 tt) refl).1, ((counter_fields _ _ _ (holds 3 tt) refl).1, tt)),
        )

    said_for : (p : ℕ) → T (is_program p) → strikes_for (strikes_said (uncounted n f g)) p ≡ strikes_on p f.classes
    said_for p k = by_program_lem (λ q. strikes_in q (uncounted n f g)) p k ∙ strikes_said_lem p k

    -- with more of them, or with some less, they are those of g
    pub strikes_more :
        (more : List ℕ)
        → ((p : ℕ) → T (is_program p) → strikes_on p f.classes + strikes_for more p ≡ strikes_on p g.classes)
        → (p : ℕ) → T (is_program p)
        → strikes_for (together (strikes_said (uncounted n f g)) more) p ≡ strikes_on p g.classes
    strikes_more more added p k =
        by_program_lem (λ q. strikes_for (strikes_said (uncounted n f g)) q + strikes_for more q) p k
        ∙ omega (arith, said_for p k, added p k)

    module _
        (some : List ℕ)
        (removed :
        (p : ℕ) → T (is_program p) → strikes_on p g.classes + strikes_for some p ≡ strikes_on p f.classes) where
      pub strikes_less :
          (p : ℕ) → T (is_program p)
          → strikes_for (without (strikes_said (uncounted n f g)) some) p ≡ strikes_on p g.classes
      strikes_less p k =
          by_program_lem (λ q. strikes_for (strikes_said (uncounted n f g)) q - strikes_for some q) p k
          ∙ omega (arith, said_for p k, removed p k)

      -- .. and no more are taken than are said
      pub strikes_among_lem : AreAmong (strikes_said (uncounted n f g)) some
      strikes_among_lem p k = omega (arith, said_for p k, removed p k)

    -- strikes counted anew
    pub strikes_written :
        (strikes : List ℕ) → ((p : ℕ) → T (is_program p) → owned p f.classes ≡ owned p g.classes)
        → ((p : ℕ) → T (is_program p) → strikes_for strikes p ≡ strikes_on p g.classes)
        → with_strikes programs strikes (uncounted n f g) ≡ layout n g
    unfolding uncounted layout
    strikes_written strikes own same =
        let kept : (p : ℕ) → T (is_program p) → own_in p (uncounted n f g) ≡ owned p g.classes =
        λ p k. own_said p k ∙ own p k in
        λ i.
        packed (Head g.now (used g))
        ∷ packed (Counter (kept 1 tt i) (same 1 tt i))
        ∷ packed (Counter (kept 2 tt i) (same 2 tt i))
        ∷ packed (Counter (kept 3 tt i) (same 3 tt i))
        ∷ (map packed (classes_words g.classes []) ++ replicate (n - used g) 0)

    -- own classes of one program counted anew
    pub own_written :
        (p : ℕ) → T (is_program p) → (own : ℕ) → own ≡ owned p g.classes
        → ((q : ℕ) → T (is_program q) → eqb q p ≡ false → owned q f.classes ≡ owned q g.classes)
        → ((q : ℕ) → T (is_program q) → strikes_on q f.classes ≡ strikes_on q g.classes)
        → own_set p own (uncounted n f g) ≡ layout n g
    unfolding uncounted layout
    own_written =
        each_program _ (
          λ own e others same.
              λ i. run (Counter (e i) (left same 1 tt i)) (other 1 others same 2 tt refl i)
              (other 1 others same 3 tt refl i),
          (
            λ own e others same.
                λ i. run (other 2 others same 1 tt refl i) (Counter (e i) (left same 2 tt i))
                (other 2 others same 3 tt refl i),
            (
              λ own e others same.
                  λ i. run (other 3 others same 1 tt refl i) (other 3 others same 2 tt refl i)
                  (Counter (e i) (left same 3 tt i)),
              tt,
            ),
          ),
        )
      where
        run : Word → Word → Word → List ℕ
        run a b c =
            packed (Head g.now (used g))
            ∷ packed a
            ∷ packed b
            ∷ packed c
            ∷ (map packed (classes_words g.classes []) ++ replicate (n - used g) 0)

        left :
            ((q : ℕ) → T (is_program q) → strikes_on q f.classes ≡ strikes_on q g.classes)
            → (q : ℕ) → T (is_program q) → strikes_in q (uncounted n f g) ≡ strikes_on q g.classes
        left same q k = strikes_said_lem q k ∙ same q k

        other :
            (p : ℕ) → ((q : ℕ) → T (is_program q) → eqb q p ≡ false → owned q f.classes ≡ owned q g.classes)
            → ((q : ℕ) → T (is_program q) → strikes_on q f.classes ≡ strikes_on q g.classes)
            → (q : ℕ) → T (is_program q) → eqb q p ≡ false → counter_of f.classes q ≡ counter_of g.classes q
        other p others same q k apart = λ i. Counter (others q k apart i) (same q k i)

-- ---- a book has its counters written

pub book_counts :
    (ws : List ℕ) → T (is_book ws) → (p : ℕ) → T (is_program p) → counts_in p ws ≡ counts_of p (facts_of ws)
unfolding uncounted layout
book_counts ws book p k =
    let n = length ws in
    let f = facts_of ws in
    let is : uncounted n f f ≡ ws = (book_facts ws book).1 in
    let good = (book_facts ws book).0 in
    ap (counts_in p) (sym is)
    ∙ (λ i. record { own = own_said n f f good p k i; strikes = strikes_said_lem n f f good p k i })

-- so that what stands there is what a reader is answered
pub known_read : (p : ℕ) (w : List ℕ) → T (is_book w) → counter_said p w ≡ counter_read p w
known_read p w book =
    let long = (well (length w) (facts_of w) (book_facts w book).0).run in
    let first : T (leb first_place (length w)) = search ands in
    rw (T_true (leb first_place (length w)) first, T_true (is_book w) book) (go (is_program p) refl)
  where
    go :
        (b : Bool) → is_program p ≡ b
        → cond b (Ok (counts_in p w)) (Err BeyondLimits)
        ≡ cond b (Ok (counts_of p (facts_of w))) (Err BeyondLimits)
    go true e = ap Ok (book_counts w book p (true_T (is_program p) e))
    go false e = refl
