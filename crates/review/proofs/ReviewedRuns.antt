-- Steps of the review on the run of a book, and the free words closed up, give the words of the class after them, with
-- the counters of before; all steps are those of `R`. On the run's parts. Assumes nothing.
use Prim.Native.Nat.{ℕ, ◌+◌, ◌-◌, ◌≤◌}
use mathlib.Core.Path.{◌≡◌, refl, sym, ap, ◌∙◌}
use mathlib.Core.List.{List, [], ◌∷◌, ◌++◌, map, append_assoc}
use native.Mathlib.Omega.{arith}
use lib.Dec.{T}
use lib.ListN.{length, set, replicate, length-append, length-map, length-replicate}
use borrow.Rule.Slice.PartMut.{mid_of, put_mid}
use Rattle.logic.proofs.Slices.{zeros_joined, part_is, put_part}
use Rattle.word.specs.Limits.{last_month, longest_run}
use Rattle.word.specs.Head.{first_place}
use Rattle.word.specs.Codec.{Head, packed}
use Rattle.gap.specs.Gaps.{closed}
use Rattle.gap.proofs.GapsInside.{closed_inside}
use Rattle.book.specs.Facts.{Series, OpenClass, Facts, with_series}
use Rattle.book.specs.Layout.{series_words, used, counter_words, layout, facts_of}
use Rattle.book.specs.Uncounted.{uncounted}
use Rattle.book.specs.Books.{is_class}
use Rattle.book.specs.Views.{class}
use Rattle.book.specs.Changes.{update, class_reviewed, reviewed_count}
use Rattle.book.proofs.ClassWords.{class_good}
use Rattle.book.proofs.Splices.{Spliced, used_spliced, series_spliced}
use Rattle.book.proofs.SplicedRuns.{front, back, zeros, place_is, run_was, run_is}
use Rattle.place.proofs.Heads.{book_good, book_room, book_long, book_month}
use Rattle.place.proofs.Found.{class_room}
use Rattle.review.specs.declared.steps.ReviewState.{ReviewState}
use Rattle.review.specs.ReviewSteps.{after_steps, gone_count, words_of_series}
use Rattle.review.specs.StepStates.{Reached}
use Rattle.review.specs.ReviewsAsked.{Reviewable, Steppable}
use Rattle.review.proofs.PlacedSeries.{words_many}
use Rattle.review.proofs.StepTaken.{At}
use Rattle.review.proofs.StepsCounted.{lowest, highest, behind, all_is, reached_at}
use Rattle.review.proofs.ReviewLaws.{all_gone, all_reviewed}

module _ (a p z q c d : List ℕ) where
  regroup_before : a ++ ((p ++ (z ++ q)) ++ (c ++ d)) ≡ (a ++ p) ++ ((z ++ (q ++ c)) ++ d)
  regroup_before = simp append_assoc

  regroup_after : (a ++ p) ++ ((q ++ c) ++ d) ≡ a ++ ((p ++ q) ++ (c ++ d))
  regroup_after = simp append_assoc

-- the numbers that a review reckons with: the words from `from` to `to` are a part of the `end` words used of `long`
pub record Numbers (from to end month long : ℕ) : Type 0 where
  pub after : first_place ≤ from
  pub part : from ≤ to
  pub inside : to ≤ end
  pub room : end ≤ long
  pub short : long ≤ longest_run
  pub current : month ≤ last_month

module _ {ws : List ℕ} {from to price : ℕ} (X : Reviewable ws from to price) where
  abbrev f : Facts
  f = facts_of ws

  abbrev x : OpenClass
  x = class f X.number

  limits : T (is_class f.now x)
  limits = class_good (length ws) f X.number (book_good ws X.book) X.is_open

  abbrev old : List ℕ
  old = words_of_series x.series

  long : length old ≡ to - from
  long = omega (arith, X.ends, length-map (series_words 0 x.series []) packed)

  pub numbers : (end month : ℕ) → end ≡ used f → month ≡ f.now → Numbers from to end month (length ws)
  numbers end month all now =
      let within = class_room ws X.book X.number X.is_open in
      record {
        after = omega (arith, X.begins);
        part = omega (arith, X.ends);
        inside = omega (arith, X.begins, X.ends, within);
        room = omega (arith, book_room ws X.book);
        short = (book_long ws X.book).1;
        current = omega (arith, book_month ws X.book);
      }

  -- the class's series in the run, and in its place the words of any others
  spliced :
      (ss : List Series)
      → Spliced from (series_words 0 x.series []) (series_words 0 ss []) f
      (update (with_series ss x) f)
  spliced ss = rw X.begins (series_spliced (length ws) f X.number (book_good ws X.book) X.is_open ss)

  part_of : mid_of from (to - from) ws ≡ old
  part_of =
      let s = spliced [] in
      ap (mid_of from (to - from)) (run_was ws X.book s)
      ∙ part_is (front ws X.book s) old (back ws X.book s ++ zeros ws X.book s) from (to - from)
      (sym (place_is ws X.book s)) long

  pub asks : Steppable price (mid_of from (to - from) ws)
  asks = record {
    month = f.now;
    class = x;
    limits = limits;
    close = X.close;
    words = part_of;
    short = omega (arith, ap length part_of, long, numbers (used f) f.now refl refl);
  }

  -- n steps, and the free words closed up
  module _
      {n : ℕ} {ys : List ℕ} {k : ReviewState}
      (made : (Y : Steppable price (mid_of from (to - from) ws)) → Reached n Y.class ys k) where
    R : Reached n x ys k
    unfolding asks
    R = made asks

    abbrev lower : List Series
    lower = lowest f.now x limits n ys k

    abbrev low : List ℕ
    low = words_of_series lower

    abbrev high : List ℕ
    high = behind f.now x limits n ys k

    A : At x lower (highest f.now x limits n ys k) ys k
    A = reached_at f.now x limits n ys k R

    pub reached_numbers : (k.read + k.emptied ≤ k.written) × (k.written ≤ to - from)
    reached_numbers = omega (arith, A.free, A.total, long)

    pub removed_is : k.written - k.read - k.emptied ≡ gone_count n x
    removed_is = omega (arith, R.free)

    abbrev kept : List Series
    kept = (after_steps n x).series

    abbrev gap : ℕ
    gap = k.written - k.read

    abbrev at : ℕ
    at = from + k.read

    abbrev between : List ℕ
    between = put_mid from (to - from) ws ys

    abbrev head : ℕ
    head = packed (Head f.now (used f - gap))

    S : Spliced from (series_words 0 x.series []) (series_words 0 kept []) f (update (after_steps n x) f)
    S = spliced kept

    abbrev a : List ℕ
    a = front ws X.book S

    abbrev c : List ℕ
    c = back ws X.book S

    abbrev d : List ℕ
    d = zeros ws X.book S

    abbrev free : List ℕ
    free = replicate gap 0

    kept_words : low ++ high ≡ map packed (series_words 0 kept [])
    kept_words = sym (all_is f.now x limits n ys k)

    between_is : between ≡ (a ++ low) ++ ((free ++ (high ++ c)) ++ d)
    between_is =
        ap (λ (l : List ℕ). put_mid from (to - from) l ys) (run_was ws X.book S)
        ∙ put_part a old (c ++ d) from (to - from) (sym (place_is ws X.book S)) long ys
        ∙ ap (λ (l : List ℕ). a ++ (l ++ (c ++ d))) A.words
        ∙ regroup_before a low free high c d

    place : length (a ++ low) ≡ at
    place = omega (arith, length-append a low, A.read, place_is ws X.book S)

    size : length (free ++ (high ++ c)) ≡ used f - at
    size =
        omega (
          arith,
          length-append free (high ++ c),
          length-append high c,
          length-replicate {A = ℕ} gap 0,
          length-map S.back packed,
          S.place,
          ap length S.was ∙ length-append S.front (series_words 0 x.series [] ++ S.back),
          length-append (series_words 0 x.series []) S.back,
          length-map (series_words 0 x.series []) packed,
          A.total,
          reached_numbers,
        )

    past : free ++ d ≡ replicate (length ws - (used f - gap)) 0
    past =
        zeros_joined gap (length ws - used f) (length ws - (used f - gap))
        (omega (arith, book_room ws X.book, reached_numbers, numbers (used f) f.now refl refl))

    less : used (update (after_steps n x) f) ≡ used f - gap
    less =
        omega (
          arith,
          used_spliced S,
          length-map (series_words 0 x.series []) packed,
          length-map (series_words 0 kept []) packed,
          ap length kept_words,
          length-append low high,
          A.read,
          A.total,
          reached_numbers,
        )

    closed_up :
        set (put_mid at (used f - at) between (closed gap (mid_of at (used f - at) between))) 0 head
        ≡ uncounted (length ws) f (update (after_steps n x) f)
    closed_up =
        (λ i. set (put_mid at (used f - at) (between_is i)
        (closed gap (mid_of at (used f - at) (between_is i)))) 0 head)
        ∙ ap (λ (l : List ℕ). set l 0 head)
        (closed_inside (a ++ low) free (high ++ c) d at (used f - at) gap place size (length-replicate gap 0))
        ∙ ap (λ (l : List ℕ). set l 0 head) (regroup_after a low free high c (free ++ d))
        ∙ (λ i.
        head
        ∷ (map packed (counter_words f.classes) ++ (map packed S.front ++ (kept_words i ++ (c ++ past i)))))
        ∙ run_is ws X.book S (used f - gap) less

    -- by what the code's parts give
    pub highest_reviewed :
        (end month : ℕ) → end ≡ used f → month ≡ f.now → (zs : List ℕ)
        → zs ≡ closed gap (mid_of at (end - at) between)
        → set (put_mid at (end - at) between zs) 0 (packed (Head month (end - gap)))
        ≡ uncounted (length ws) f (update (after_steps n x) f)
    highest_reviewed end month all now zs e =
        ap (λ (l : List ℕ). set (put_mid at (end - at) between l) 0 (packed (Head month (end - gap)))) e
        ∙ (λ i.
        set (put_mid at (all i - at) between (closed gap (mid_of at (all i - at) between))) 0
        (packed (Head (now i) (all i - gap))))
        ∙ closed_up

  -- as many steps as there are words are all steps
  pub all_steps :
      (r : ℕ) (ys : List ℕ)
      → (r ≡ gone_count (to - from) x) × (ys ≡ layout (length ws) (update (after_steps (to - from) x) f))
      → (r ≡ reviewed_count x) × (ys ≡ layout (length ws) (update (class_reviewed x) f))
  all_steps r ys made =
      let n = to - from in
      let enough : length x.series ≤ n = omega (arith, words_many x.series, long) in (
        made.0 ∙ all_gone f.now x limits n enough,
        made.1
            ∙ ap (λ (y : OpenClass). layout (length ws) (update y f)) (all_reviewed f.now x limits n enough),
      )
