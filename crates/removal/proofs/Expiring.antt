-- The loop of an expiry, class by class: what is written, what is still to be moved and what the classes ahead will
-- leave are together the words that stay; and what is counted is what goes. Assumes nothing.
use Prim.Native.Nat.{ℕ, ◌+◌, ◌-◌, ◌^◌, ◌≤◌, ◌<◌}
use mathlib.Core.Path.{◌≡◌, refl, sym, ap, ◌∙◌}
use mathlib.Core.Bool.{Bool}
use mathlib.Core.List.{List, [], ◌∷◌, ◌++◌, map, map-append, append_assoc, append-nil}
use native.Mathlib.Omega.{arith}
use lib.Dec.{T}
use lib.ListN.{length, take, drop, set, replicate, length-append, length-map}
use lib.Seq.{drop-drop, drop_at, length-take-le}
use borrow.Rule.Slice.PartMut.{put_mid, mid_len}
use Rattle.word.specs.Kinds.{kind_field, class_kind, expiration_kind}
use Rattle.word.specs.Head.{first_place}
use Rattle.word.specs.Codec.{Word, Head, is_legal, packed}
use Rattle.word.specs.Programs.{program_count, is_program}
use Rattle.word.specs.Counters.{AreAmong, strikes_for, strikes_said, strike_of, strikes_among, together, without, strikes_taken}
use Rattle.word.proofs.EachProgram.{each_program}
use Rattle.word.proofs.Counters.{by_program_lem}
use Rattle.logic.specs.Lists.{every, sum, first_at}
use Rattle.logic.proofs.Lists.{sum_few}
use Rattle.book.specs.Facts.{OpenClass, Facts, owned, strikes_on}
use Rattle.word.specs.Figures.{figures_words, figures_length}
use Rattle.book.specs.Layout.{classes_words, used, counter_words, head_words, layout, facts_of}
use Rattle.book.specs.Uncounted.{uncounted}
use Rattle.book.specs.Books.{is_class, is_book}
use Rattle.book.specs.Changes.{month_set}
use Rattle.logic.proofs.Tests.{ands}
use Rattle.logic.proofs.Slices.{zeros_joined, stretch, drop_later, stretch_parts, stretch_known}
use Rattle.book.proofs.Runs.{run_parts}
use Rattle.book.proofs.Counted.{strike_by, strike_few, strikes_packed}
use Rattle.book.proofs.Recounted.{strikes_less, strikes_among_lem, strikes_written}
use Rattle.place.specs.Search.{is_up_to}
use Rattle.place.proofs.Heads.{book_good, book_form, book_is, book_room}
use Rattle.place.proofs.Found.{body}
use Rattle.removal.specs.Expiry.{MovedTo}
use Rattle.removal.proofs.Expired.{kept_from, class_parts, kept_own}

module _ (m : ℕ) (ws : List ℕ) where
  abbrev facts : Facts
  facts = facts_of ws

  -- the words that the classes xs leave
  abbrev left : List OpenClass → List ℕ
  left xs = map packed (classes_words (map (kept_from m) xs) [])

  -- the old head, and the words that stay
  abbrev whole : List ℕ
  whole = map packed (head_words facts) ++ left facts.classes

  -- the index after the figures of a class
  abbrev listed : ℕ → ℕ
  listed at = at + figures_length

  -- by these tests what stays of a class is sought, and then the next class
  abbrev is_staying : ℕ → Bool
  is_staying w = is_up_to expiration_kind m w

  abbrev is_next : ℕ → Bool
  is_next w = is_up_to class_kind 0 w

  -- the strikes of the program p that the classes xs leave
  abbrev left_on : ℕ → List OpenClass → ℕ
  left_on p xs = strikes_on p (map (kept_from m) xs)

  -- `gone` are the strikes of each program that have gone
  pub record Expiring (run : List ℕ) (written kept at : ℕ) (gone : List ℕ) : Type 0 where
    pub long : length run ≡ length ws
    pub begun : first_place ≤ written
    pub behind : written ≤ kept
    pub passed : kept ≤ at
    pub within : at ≤ used facts
    pub room : used facts ≤ length ws
    pub unread : drop kept run ≡ drop kept ws
    pub classes : List OpenClass
    pub good : T (every (is_class facts.now) classes)
    pub ahead : stretch at (used facts) ws ≡ map packed (classes_words classes [])
    pub made : take written run ++ (stretch kept at ws ++ left classes) ≡ whole
    pub few : (p : ℕ) → T (is_program p) → strikes_for gone p ≤ at
    pub counted :
        (p : ℕ) → T (is_program p)
        → strikes_for gone p + strikes_on p classes + left_on p facts.classes
        ≡ strikes_on p facts.classes + left_on p classes

  pub expire_start : T (is_book ws) → Expiring ws first_place first_place first_place (replicate program_count 0)
  expire_start book =
      let words = classes_words facts.classes [] in
      let first : take first_place ws ≡ map packed (head_words facts) =
      ap (take first_place)
      (sym (book_is ws book)
      ∙ run_parts (length ws) facts (head_words facts) words []
      (ap (λ (l : List Word). head_words facts ++ l) (sym (append-nil words)))) in
      record {
        long = refl;
        begun = omega arith;
        behind = omega arith;
        passed = omega arith;
        within = omega arith;
        room = book_room ws book;
        unread = refl;
        classes = facts.classes;
        good = (book_form ws book).limits;
        ahead = body ws book (used facts) refl;
        made = ap (λ (l : List ℕ). l ++ left facts.classes) first;
        few = each_program _ (omega arith, (omega arith, (omega arith, tt)));
        counted = each_program _ (omega arith, (omega arith, (omega arith, tt)));
      }

  -- ---- at a class

  -- the words of the class at `at`, by what goes and what stays, and those of the classes after it
  pub record AtClass (run : List ℕ) (written kept at : ℕ) (gone : List ℕ) : Type 0 where
    pub room : listed at ≤ used facts
    pub going : List Word
    pub staying : List Word
    pub after : List OpenClass
    pub good : T (every (is_class facts.now) after)
    pub words :
        stretch (listed at) (used facts) ws
        ≡ map packed going ++ (map packed staying ++ map packed (classes_words after []))
    pub stays : first_at is_staying (stretch (listed at) (used facts) ws) ≡ length going
    pub next : first_at is_next (map packed staying ++ map packed (classes_words after [])) ≡ length staying
    pub made : take written run ++ (stretch kept (listed at) ws ++ (map packed staying ++ left after)) ≡ whole
    pub legal : T (every is_legal going)
    pub counted :
        (p : ℕ) → T (is_program p)
        → strikes_for gone p + sum (strike_by p) going + strikes_on p after + left_on p facts.classes
        ≡ strikes_on p facts.classes + left_on p after

  module _ {run : List ℕ} {written kept at : ℕ} {gone : List ℕ} (E : Expiring run written kept at gone) where
    pub at_class : m < 2 ^ kind_field.low → at < used facts → AtClass run written kept at gone
    at_class small l = go E.classes E.good E.ahead E.made E.counted
      where
        go :
            (xs : List OpenClass) → T (every (is_class facts.now) xs)
            → stretch at (used facts) ws ≡ map packed (classes_words xs [])
            → take written run ++ (stretch kept at ws ++ left xs) ≡ whole
            → ((p : ℕ) → T (is_program p)
            → strikes_for gone p + strikes_on p xs + left_on p facts.classes
            ≡ strikes_on p facts.classes + left_on p xs)
            → AtClass run written kept at gone
        go [] good ahead made counted = absurd (omega (arith, mid_len at (used facts) ws E.room, ap length ahead))
        go (x ∷ xs) good ahead made counted =
            let p = class_parts m small facts.now x xs good in
            let figures = figures_words x.figures [] in
            let rest = p.going ++ (p.staying ++ classes_words xs []) in
            let words : stretch at (used facts) ws ≡ map packed figures ++ map packed rest =
            ahead ∙ ap (map packed) p.are ∙ map-append packed figures rest in
            let room : listed at ≤ used facts =
            omega (
              arith,
              mid_len at (used facts) ws E.room,
              ap length words,
              length-append (map packed figures) (map packed rest),
            ) in
            let known =
            stretch_known at (listed at) (used facts) ws (omega arith) room E.room (map packed figures)
            (map packed rest) words (omega arith) in
            let apart :
            map packed rest
            ≡ map packed p.going ++ (map packed p.staying ++ map packed (classes_words xs [])) =
            simp map-append in
            record {
              room = room;
              going = p.going;
              staying = p.staying;
              after = xs;
              good = search ands;
              words = known.1 ∙ apart;
              stays = ap (first_at is_staying) known.1 ∙ p.stays;
              next =
                  ap (first_at is_next) (sym (map-append packed p.staying (classes_words xs []))) ∙ p.next;
              made =
                  ap (λ (l : List ℕ). take written run ++ (l ++ (map packed p.staying ++ left xs)))
                  (stretch_parts kept at (listed at) ws E.passed (omega arith)
                  ∙ ap (λ (l : List ℕ). stretch kept at ws ++ l) known.0)
                  ∙ regroup (take written run) (stretch kept at ws) figures p.staying
                  (classes_words (map (kept_from m) xs) [])
                  ∙ ap (λ (l : List Word). take written run ++ (stretch kept at ws ++ map packed l)) (sym p.left)
                  ∙ made;
              legal = p.legal;
              counted = λ q k. omega (arith, counted q k, p.counted q);
            }
          where
            regroup :
                (a b : List ℕ) (f s r : List Word)
                → a ++ ((b ++ map packed f) ++ (map packed s ++ map packed r))
                ≡ a ++ (b ++ map packed (f ++ (s ++ r)))
            regroup a b f s r = simp (map-append, append_assoc)

    -- where what stays begins
    module _
        (C : AtClass run written kept at gone) (stays : ℕ)
        (e : stays ≡ listed at + first_at is_staying (stretch (listed at) (used facts) run)) where
      there : stays ≡ listed at + length C.going
      there =
          let l = E.passed in
          e
          ∙ ap (λ (l : List ℕ). listed at + first_at is_staying (take (used facts - listed at) l))
          (drop_later kept (listed at) run ws (omega arith) E.unread)
          ∙ ap (λ (k : ℕ). listed at + k) C.stays

      -- the turn is done: what is written now, and what is still to be moved
      expire_next :
          (run' : List ℕ) (written' kept' next : ℕ) (gone' : List ℕ)
          → ((p : ℕ) → T (is_program p) → strikes_for gone' p ≡ strikes_for gone p + sum (strike_by p) C.going)
          → length run' ≡ length ws → first_place ≤ written' → written' ≤ kept'
          → kept' ≤ stays → drop kept' run' ≡ drop kept' ws
          → take written' run' ++ stretch kept' stays ws ≡ take written run ++ stretch kept (listed at) ws
          → next ≡ stays + first_at is_next (stretch stays (used facts) run')
          → Expiring run' written' kept' next gone'
      expire_next run' written' kept' next gone' more long begun behind passed unread same n =
          let staying = map packed C.staying in
          let rest = map packed (classes_words C.after []) in
          let parts :
          length (stretch (listed at) (used facts) ws)
          ≡ length C.going + (length C.staying + length rest) =
          ap length C.words ∙ simp (length-append, length-map) in
          let size : length (stretch (listed at) (used facts) ws) ≡ used facts - listed at =
          mid_len (listed at) (used facts) ws E.room in
          let room = C.room in
          let went = length-map C.going packed in
          let stood = length-map C.staying packed in
          let from-stays =
          (stretch_known (listed at) stays (used facts) ws (omega (arith, there)) (omega (arith, there)) E.room
          (map packed C.going) (staying ++ rest) C.words (omega (arith, there))).1 in
          let to : next ≡ stays + length C.staying =
          n
          ∙ ap (λ (l : List ℕ). stays + first_at is_next (take (used facts - stays) l))
          (drop_later kept' stays run' ws passed unread)
          ∙ ap (λ (l : List ℕ). stays + first_at is_next l) from-stays
          ∙ ap (λ (k : ℕ). stays + k) C.next in
          let known =
          stretch_known stays next (used facts) ws (omega arith) (omega (arith, there)) E.room staying rest
          from-stays (omega arith) in
          record {
            long = long;
            begun = begun;
            behind = behind;
            passed = omega arith;
            within = omega (arith, there);
            room = E.room;
            unread = unread;
            classes = C.after;
            good = C.good;
            ahead = known.1;
            made =
                ap (λ (l : List ℕ). take written' run' ++ (l ++ left C.after))
                (stretch_parts kept' stays next ws passed (omega arith)
                ∙ ap (λ (l : List ℕ). stretch kept' stays ws ++ l) known.0)
                ∙ regroup (take written' run') (stretch kept' stays ws) staying (left C.after)
                ∙ ap (λ (l : List ℕ). l ++ (staying ++ left C.after)) same
                ∙ append_assoc (take written run) (stretch kept (listed at) ws) (staying ++ left C.after)
                ∙ C.made;
            few = λ p k.
                omega (arith, more p k, E.few p k, sum_few (strike_by p) (strike_few p) C.going, there);
            counted = λ p k. omega (arith, more p k, C.counted p k);
          }
        where
          regroup : (a b c d : List ℕ) → a ++ ((b ++ c) ++ d) ≡ (a ++ b) ++ (c ++ d)
          regroup a b c d = simp append_assoc

      -- the words that go are those of the strikes that go
      words_gone : stretch (listed at) stays run ≡ map packed C.going
      words_gone =
          let p = E.passed in
          let room = C.room in
          let others = map packed C.staying ++ map packed (classes_words C.after []) in
          let all = length-append (map packed C.going) others in
          let size = mid_len (listed at) (used facts) ws E.room in
          let went = length-map C.going packed in
          ap (λ (l : List ℕ). take (stays - listed at) l) (drop_later kept (listed at) run ws (omega arith) E.unread)
          ∙ (stretch_known (listed at) stays (used facts) ws (omega (arith, there))
          (omega (arith, there, ap length C.words)) E.room (map packed C.going) others C.words
          (omega (arith, there))).0

      those_gone :
          (gone' : List ℕ) → gone' ≡ together gone (strikes_among (stretch (listed at) stays run))
          → (p : ℕ) → T (is_program p) → strikes_for gone' p ≡ strikes_for gone p + sum (strike_by p) C.going
      those_gone gone' e p k =
          let among = strikes_among (stretch (listed at) stays run) in
          ap (λ (l : List ℕ). strikes_for l p) e
          ∙ by_program_lem (λ q. strikes_for gone q + strikes_for among q) p k
          ∙ ap (λ (n : ℕ). strikes_for gone p + n)
          (by_program_lem (λ q. sum (strike_of q) (stretch (listed at) stays run)) p k
          ∙ ap (sum (strike_of p)) words_gone
          ∙ strikes_packed p C.going C.legal)

      -- no month goes
      pub expire_stay :
          (next : ℕ) → stays ≤ listed at → next ≡ stays + first_at is_next (stretch stays (used facts) run)
          → Expiring run written kept next gone
      expire_stay next l n =
          let p = E.passed in
          let q : stays ≡ listed at = omega (arith, there) in
          expire_next run written kept next gone
          (λ p k. omega (arith, sum_few (strike_by p) (strike_few p) C.going, there))
          E.long E.begun E.behind (omega arith) E.unread
          (ap (λ (k : ℕ). take written run ++ stretch kept k ws) q) n

      -- the words before those that go are moved
      pub expire_move :
          (run' : List ℕ) (written' next : ℕ) (gone' : List ℕ)
          → gone' ≡ together gone (strikes_among (stretch (listed at) stays run))
          → length run' ≡ length run → stays ≤ used facts
          → MovedTo written kept (listed at) run run' → written' ≡ written + (listed at - kept)
          → next ≡ stays + first_at is_next (stretch stays (used facts) run')
          → Expiring run' written' stays next gone'
      expire_move run' written' next gone' more long l M w n =
          let p = E.passed in
          let b = E.begun in
          let d = E.behind in
          let none : stays - stays ≡ 0 = omega arith in
          expire_next run' written' stays next gone' (those_gone gone' more) (long ∙ E.long) (omega arith)
          (omega (arith, there)) (omega arith)
          (drop_later (listed at) stays run' ws (omega (arith, there))
          (M.past ∙ drop_later kept (listed at) run ws (omega arith) E.unread))
          (ap (λ (k : ℕ). take written' run' ++ take k (drop stays ws)) none
          ∙ append-nil (take written' run')
          ∙ ap (λ (k : ℕ). take k run') w
          ∙ M.front
          ∙ ap (λ (l : List ℕ). take written run ++ take (listed at - kept) l) E.unread)
          n

    -- ---- no class is left

    none_left : (xs : List OpenClass) → length (classes_words xs []) ≡ 0 → left xs ≡ []
    none_left [] e = refl
    none_left (x ∷ xs) e = absurd (omega arith)

    none_counted :
        (p : ℕ) (xs : List OpenClass) → length (classes_words xs []) ≡ 0 → (strikes_on p xs ≡ 0) × (left_on p xs ≡ 0)
    none_counted p [] e = (refl, refl)
    none_counted p (x ∷ xs) e = absurd (omega arith)

    empty : used facts ≤ at → length (classes_words E.classes []) ≡ 0
    empty l =
        omega (
          arith,
          mid_len at (used facts) ws E.room,
          ap length E.ahead,
          length-map (classes_words E.classes []) packed,
        )

    -- what is left is moved, the words after it are zeroed, and the head is written
    pub expire_done :
        T (is_book ws) → (end : ℕ) → end ≡ used facts → end ≤ at → (run' : List ℕ) (r : ℕ) → length run' ≡ length run
        → MovedTo written kept end run run' → r ≡ written + (end - kept) → (zs : List ℕ)
        → zs ≡ replicate (length (stretch r end run')) 0
        → set (put_mid r (end - r) run' zs) 0 (packed (Head m r)) ≡ uncounted (length ws) facts (month_set m facts)
    unfolding month_set layout uncounted
    expire_done book end e l run' r long M count zs z =
        let n = length ws in
        let g = month_set m facts in
        let words = head_words facts ++ classes_words facts.classes [] in
        let passed = E.passed in
        let within = E.within in
        let behind = E.behind in
        let room = E.room in
        let same = E.long in
        let last : end ≡ at = omega arith in
        let front : take r run' ≡ whole =
        ap (λ (k : ℕ). take k run') count
        ∙ M.front
        ∙ ap (λ (l : List ℕ). take written run ++ take (end - kept) l) E.unread
        ∙ ap (λ (k : ℕ). take written run ++ stretch kept k ws) last
        ∙ ap (λ (l : List ℕ). take written run ++ l) (sym (append-nil (stretch kept at ws)))
        ∙ ap (λ (l : List ℕ). take written run ++ (stretch kept at ws ++ l))
        (sym (none_left E.classes (empty (omega arith))))
        ∙ E.made in
        let all : r ≡ used g =
        omega (
          arith,
          length-take-le r run' (omega arith),
          ap length front,
          length-map (classes_words g.classes []) packed,
        ) in
        let past : drop end run' ≡ replicate (n - used facts) 0 =
        M.past
        ∙ drop_later kept end run ws (omega arith) E.unread
        ∙ ap (drop end) (sym (book_is ws book))
        ∙ drop_at (map packed words) (replicate (n - used facts) 0) end (length-map words packed ∙ omega arith) in
        let to : r + (end - r) ≡ end = omega arith in
        let rest : drop (end - r) (drop r run') ≡ replicate (n - used facts) 0 =
        drop-drop (end - r) r run' ∙ ap (λ (k : ℕ). drop k run') to ∙ past in
        let zeros : zs ≡ replicate (end - r) 0 =
        z ∙ ap (λ (k : ℕ). replicate k 0) (mid_len r end run' (omega arith)) in
        let freed = zeros_joined (end - r) (n - used facts) (n - used g) (omega arith) in
        (λ i. set (front i ++ (zeros i ++ rest i)) 0 (packed (Head m (all i))))
        ∙ ap
        (λ (l : List ℕ).
        packed (Head m (used g)) ∷ (map packed (counter_words facts.classes) ++ (left facts.classes ++ l)))
        freed

    -- what has gone is what the counters count too many
    gone_less :
        used facts ≤ at → (p : ℕ) → T (is_program p)
        → strikes_on p (month_set m facts).classes + strikes_for gone p ≡ strikes_on p facts.classes
    unfolding month_set
    gone_less l p k = omega (arith, E.counted p k, none_counted p E.classes (empty l))

    pub gone_among :
        T (is_book ws) → used facts ≤ at → (run' : List ℕ) → run' ≡ uncounted (length ws) facts (month_set m facts)
        → AreAmong (strikes_said run') gone
    gone_among book l run' e =
        rw e (strikes_among_lem (length ws) facts (month_set m facts) (book_good ws book) gone (gone_less l))

    own_kept : (p : ℕ) → T (is_program p) → owned p facts.classes ≡ owned p (month_set m facts).classes
    unfolding month_set
    own_kept p k = sym (kept_own m p facts.classes)

    pub gone_counted :
        T (is_book ws) → used facts ≤ at
        → strikes_taken gone (uncounted (length ws) facts (month_set m facts)) ≡ layout (length ws) (month_set m facts)
    gone_counted book l =
        strikes_written (length ws) facts (month_set m facts) (book_good ws book)
        (without (strikes_said (uncounted (length ws) facts (month_set m facts))) gone) own_kept
        (strikes_less (length ws) facts (month_set m facts) (book_good ws book) gone (gone_less l))
