-- A run is a book exactly when its length, its head, the words used, the strikes counted and the words past those used
-- pass their tests: by the layout of the facts. Assumes nothing.
use Prim.Native.Nat.{ℕ, ◌-◌, ◌≤◌}
use mathlib.Core.Path.{◌≡◌, refl, sym, ap, ◌∙◌}
use mathlib.Core.Logic.{◌↔◌}
use mathlib.Core.Bool.{Bool, true, false, ◌&&◌, and-false}
use mathlib.Core.List.{List, [], ◌∷◌, ◌++◌, map}
use native.Mathlib.Omega.{arith}
use lib.ListN.{length, take, drop, get_or, replicate, length-map, length-drop, length-replicate, take-append-drop}
use lib.Seq.{drop-cons, take_all, take_at, drop_at, drop-append-le, get_or-take, length-take-le}
use lib.Dec.{T, leb, ltb, leb→le, le→leb, eqb→eq}
use Rattle.logic.specs.Lists.{every, sum}
use Rattle.word.specs.Kinds.{head_kind, used_field, counter_kind, strikes_field}
use Rattle.word.specs.Head.{is_head, is_counter, are_counters, first_place, month_in, used_in, own_in, strikes_in}
use Rattle.word.specs.Programs.{is_program, program_count}
use Rattle.word.specs.Counters.{strike_of}
use Rattle.word.specs.Codec.{Word, Head, Counter, is_legal, packed, Fits}
use Rattle.word.specs.Limits.{is_length, last_month}
use Rattle.word.specs.Field.{field, end}
use Rattle.book.specs.Facts.{OpenClass, Facts, number, owned, strikes_on}
use Rattle.book.specs.Layout.{classes_words, counter_of, used, head_words, layout, facts_of}
use Rattle.book.specs.Books.{is_class, is_well_formed, is_book}
use Rattle.word.proofs.EachProgram.{each_program}
use Rattle.word.proofs.Words.{head_fields, counter_fields}
use Rattle.word.proofs.RawWords.{fits, bare, head_packed, head_bare, counter_packed, counter_bare}
use Rattle.logic.proofs.Tests.{and_left, and_right, and_intro, ands, true_T, equal_test, same_bool, refuted}
use Rattle.book.proofs.Counted.{strikes_packed, words_strikes}
use Rattle.book.proofs.Forms.{Well, well, well_formed}
use Rattle.book.proofs.Layouts.{counter_legal, facts_legal, words_legal, used_taken, book_facts, book_exactly}
use Rattle.scan.specs.Stretches.{leads, AllClasses, are_counted, is_zero}
use Rattle.scan.proofs.Zeros.{zeros_replicate, replicate_zeros}
use Rattle.scan.proofs.CountedZeros.{counted_further}

-- the words used, and those past them, as parts of the run are lent
abbrev pub words_used : List ℕ → List ℕ
words_used ws = take (used_in ws) ws

abbrev pub words_past : List ℕ → List ℕ
words_past ws = take (length ws - used_in ws) (drop (used_in ws) ws)

record Parts (ws : List ℕ) : Type 0 where
  long : T (is_length (length ws))
  head : T (is_head ws)
  classes : AllClasses (month_in ws) (words_used ws)
  strikes : T (are_counted (words_used ws))
  zeros : T (every is_zero (words_past ws))

-- the counters are among the words used
used_counter :
    (ws : List ℕ) → first_place ≤ used_in ws → (p : ℕ) → T (is_program p) → get_or (words_used ws) p 0 ≡ get_or ws p 0
used_counter ws low p k =
    get_or-take (used_in ws) ws p 0 (omega (arith, leb→le p program_count (search ands)))

-- the counters say the strikes of every program exactly when they pass the test
strikes_counted :
    (ws : List ℕ)
    → T (are_counted ws)
    ↔ ((p : ℕ) → T (is_program p) → strikes_in p ws ≡ sum (strike_of p) (drop first_place ws))
strikes_counted ws = (
  λ t.
      each_program _ (
        eqb→eq (strikes_in 1 ws) (among 1) (search ands),
        (eqb→eq (strikes_in 2 ws) (among 2) (search ands), (eqb→eq (strikes_in 3 ws) (among 3) (search ands), tt)),
      ),
  λ same.
      let one = equal_test (strikes_in 1 ws) (among 1) (same 1 tt) in
      let two = equal_test (strikes_in 2 ws) (among 2) (same 2 tt) in
      let three = equal_test (strikes_in 3 ws) (among 3) (same 3 tt) in
      search and_intro,
)
  where
    among : ℕ → ℕ
    among p = sum (strike_of p) (drop first_place ws)

-- those among the words of classes
strikes_among_lem :
    (now p : ℕ) (xs : List OpenClass) → T (every (is_class now) xs)
    → sum (strike_of p) (map packed (classes_words xs [])) ≡ strikes_on p xs
strikes_among_lem now p xs legal =
    let words = classes_words xs [] in
    strikes_packed p words (true_T (every is_legal words) (words_legal now xs legal)) ∙ words_strikes p xs

-- the words before the first class, one by one
first_words :
    (ws : List ℕ) → first_place ≤ length ws
    → ws ≡ get_or ws 0 0 ∷ get_or ws 1 0 ∷ get_or ws 2 0 ∷ get_or ws 3 0 ∷ drop first_place ws
first_words ws l =
    drop-cons ws 0 0 (omega arith)
    ∙ ap (λ (v : List ℕ). get_or ws 0 0 ∷ v)
    (drop-cons ws 1 0 (omega arith)
    ∙ ap (λ (v : List ℕ). get_or ws 1 0 ∷ v)
    (drop-cons ws 2 0 (omega arith) ∙ ap (λ (v : List ℕ). get_or ws 2 0 ∷ v) (drop-cons ws 3 0 (omega arith))))

-- the first class's number is above 0
numbered : (now : ℕ) (xs : List OpenClass) → T (every (is_class now) xs) → T (leads (λ x. ltb 0 (number x)) xs)
numbered now [] legal = tt
numbered now (x ∷ xs) legal = search ands depth 12

-- ---- from facts to parts

module _ (ws : List ℕ) (f : Facts) (good : T (is_well_formed (length ws) f)) (laid : layout (length ws) f ≡ ws) where
  abbrev n : ℕ
  n = length ws

  abbrev xs : List OpenClass
  xs = f.classes

  -- the words of the head, its counters and the classes
  abbrev words : List Word
  words = head_words f ++ classes_words xs []

  abbrev zeros : List ℕ
  zeros = replicate (n - used f) 0

  form : Well n f
  form = well n f good

  room : used f ≤ n
  room = omega (arith, used_taken f, form.room)

  legal : T (every is_legal words)
  legal = facts_legal n f good

  -- the head and the counters fit their bits, stand in the run, say what they count and pass their tests
  head_holds : Fits (Head f.now (used f))
  head_holds = let all = legal in fits (Head f.now (used f)) (search ands)

  counter_holds : (p : ℕ) → T (is_program p) → Fits (counter_of xs p)
  counter_holds p k = fits (counter_of xs p) (counter_legal n f good p k)

  head_word : packed (Head f.now (used f)) ≡ get_or ws 0 0
  unfolding layout
  head_word = ap (λ (l : List ℕ). get_or l 0 0) laid

  counter_word : (p : ℕ) → T (is_program p) → packed (counter_of xs p) ≡ get_or ws p 0
  unfolding layout
  counter_word =
      each_program _ (
        ap (λ (l : List ℕ). get_or l 1 0) laid,
        (ap (λ (l : List ℕ). get_or l 2 0) laid, (ap (λ (l : List ℕ). get_or l 3 0) laid, tt)),
      )

  head_says : (month_in ws ≡ f.now) × (used_in ws ≡ used f)
  head_says = head_fields (get_or ws 0 0) f.now (used f) head_holds head_word

  counter_says : (p : ℕ) → T (is_program p) → (own_in p ws ≡ owned p xs) × (strikes_in p ws ≡ strikes_on p xs)
  counter_says p k = counter_fields (get_or ws p 0) (owned p xs) (strikes_on p xs) (counter_holds p k)
      (counter_word p k)

  -- the counters say it among the words used, too
  used_says :
      (p : ℕ) → T (is_program p)
      → (own_in p (words_used ws) ≡ owned p xs) × (strikes_in p (words_used ws) ≡ strikes_on p xs)
  used_says p k =
      let low : first_place ≤ used_in ws = omega (arith, head_says) in
      rw (used_counter ws low p k) (counter_says p k)

  counter_test : (p : ℕ) → T (is_program p) → T (is_counter (get_or ws p 0))
  counter_test p k = counter_bare (get_or ws p 0) (owned p xs) (strikes_on p xs) (counter_holds p k) (counter_word p k)

  head_test : T (is_head ws)
  head_test =
      let u = used f in
      let top = head_bare (get_or ws 0 0) f.now u head_holds head_word in
      let low : T (leb first_place u) = le→leb first_place u (omega arith) in
      let within : T (leb u n) = le→leb u n room in
      let one = counter_test 1 tt in
      let two = counter_test 2 tt in
      let three = counter_test 3 tt in
      let counters : T (are_counters ws) = search and_intro in
      rw head_says.1 (search and_intro)

  -- the words used, and those past them
  words_count : length (map packed words) ≡ used f
  words_count = length-map words packed ∙ omega arith

  used_are : words_used ws ≡ map packed words
  unfolding layout
  used_are =
      ap (take (used_in ws)) (sym laid)
      ∙ take_at (map packed words) zeros (used_in ws) (omega (arith, head_says, words_count))

  past_are : words_past ws ≡ zeros
  unfolding layout
  past_are =
      let rest : drop (used f) ws ≡ zeros =
      ap (drop (used f)) (sym laid) ∙ drop_at (map packed words) zeros (used f) words_count in
      rw (head_says.1, rest) (take_all (n - used f) zeros (omega (arith, length-replicate {A = ℕ} (n - used f) 0)))

  parts_from : Parts ws
  parts_from =
      let classes : map packed (classes_words xs []) ≡ drop first_place (words_used ws) =
      sym (ap (drop first_place) used_are) in
      record {
        long = form.run;
        head = head_test;
        classes =
            rw head_says.0
            (record {
              classes = xs;
              holds = classes;
              legal = form.limits;
              rising = form.order;
              leading = numbered f.now xs form.limits;
              counted = λ p k. omega (arith, used_says p k);
              capped = λ p k. omega (arith, used_says p k, form.caps p k);
            });
        strikes =
            (strikes_counted (words_used ws)).1
            (λ p k.
            (used_says p k).1
            ∙ sym (strikes_among_lem f.now p xs form.limits)
            ∙ ap (sum (strike_of p)) classes);
        zeros = rw past_are (zeros_replicate (n - used f));
      }

-- ---- from parts to facts

module _ (ws : List ℕ) (p : Parts ws) where
  told : Facts
  told = record { now = month_in ws; classes = p.classes.classes }

  within : (first_place ≤ used_in ws) × (used_in ws ≤ length ws)
  within =
      let head : T (is_head ws) = p.head in
      (leb→le first_place (used_in ws) (search ands), leb→le (used_in ws) (length ws) (search ands))

  used_long : length (words_used ws) ≡ used_in ws
  used_long = length-take-le (used_in ws) ws within.1

  told_used : used told ≡ used_in ws
  unfolding told
  told_used =
      omega (
        arith,
        within,
        used_long,
        length-drop first_place (words_used ws),
        length-map (classes_words told.classes []) packed,
        ap length p.classes.holds,
      )

  -- what the counters say is so
  told_own : (q : ℕ) → T (is_program q) → owned q told.classes ≡ own_in q ws
  unfolding told
  told_own q k =
      let own : owned q told.classes ≡ own_in q (words_used ws) = omega (arith, p.classes.counted q k) in
      rw (used_counter ws within.0 q k) at own

  told_strikes : (q : ℕ) → T (is_program q) → strikes_on q told.classes ≡ strikes_in q ws
  unfolding told
  told_strikes q k =
      sym (strikes_among_lem (month_in ws) q told.classes p.classes.legal)
      ∙ ap (sum (strike_of q)) p.classes.holds
      ∙ sym ((strikes_counted (words_used ws)).0 p.strikes q k)
      ∙ ap (λ (w : ℕ). field w strikes_field) (used_counter ws within.0 q k)

  told_good : T (is_well_formed (length ws) told)
  unfolding told
  told_good =
      well_formed (length ws) told
      (record {
        run = p.long;
        room = omega (arith, used_taken told, told_used, within);
        month = le→leb (month_in ws) last_month (omega arith);
        limits = p.classes.legal;
        order = p.classes.rising;
        caps = λ q k. omega (arith, p.classes.counted q k, p.classes.capped q k);
      })

  -- each word before the first class is laid out
  told_head : packed (Head (month_in ws) (used told)) ≡ get_or ws 0 0
  told_head =
      let t : T (is_head ws) = p.head in
      let w = get_or ws 0 0 in
      rw told_used (head_packed w (bare head_kind (end used_field) w (search ands)))

  told_test : (q : ℕ) → T (is_program q) → T (is_counter (get_or ws q 0))
  told_test =
      let t : T (is_head ws) = p.head in
      each_program _ (search ands, (search ands, (search ands, tt)))

  told_counter : (q : ℕ) → T (is_program q) → packed (counter_of told.classes q) ≡ get_or ws q 0
  told_counter q k =
      let w = get_or ws q 0 in
      (λ i. packed (Counter (told_own q k i) (told_strikes q k i)))
      ∙ counter_packed w (bare counter_kind (end strikes_field) w (told_test q k))

  -- so are the words from it on
  told_rest :
      map packed (classes_words told.classes []) ++ replicate (length ws - used told) 0 ≡ drop first_place ws
  unfolding told
  told_rest =
      let n = length ws in
      let u = used_in ws in
      let all : words_past ws ≡ drop u ws = take_all (n - u) (drop u ws) (omega (arith, length-drop u ws)) in
      let zeros : replicate (n - used told) 0 ≡ drop u ws =
      rw (told_used, ← length-drop u ws) (replicate_zeros (drop u ws) (rw all at p.zeros)) in
      (λ i. p.classes.holds i ++ zeros i)
      ∙ sym (drop-append-le first_place (words_used ws) (drop u ws) (omega (arith, used_long, within)))
      ∙ ap (drop first_place) (take-append-drop u ws)

  told_laid : layout (length ws) told ≡ ws
  unfolding told layout
  told_laid =
      (λ i. told_head i ∷ told_counter 1 tt i ∷ told_counter 2 tt i ∷ told_counter 3 tt i ∷ told_rest i)
      ∙ sym (first_words ws (omega (arith, within)))

book_parts : (ws : List ℕ) → T (is_book ws) ↔ Parts ws
book_parts ws = (
  λ t. let b = book_facts ws t in parts_from ws (facts_of ws) b.0 b.1,
  λ p. (book_exactly ws).1 (told ws p, (told_good ws p, told_laid ws p)),
)

-- ---- what each test of the code tells

-- two tests are one beside a third, where they are when that passes
where_passed : (a b c : Bool) → (T c → a ≡ b) → (a && c) ≡ (b && c)
where_passed a b true e = rw (e tt) refl
where_passed a b false e = and-false a ∙ sym (and-false b)

module _ (ws : List ℕ) where
  pub head_within : is_head ws ≡ true → (first_place ≤ used_in ws) × (used_in ws ≤ length ws)
  head_within t =
      let head = true_T (is_head ws) t in
      (leb→le first_place (used_in ws) (search ands), leb→le (used_in ws) (length ws) (search ands))

  pub wrong_length : is_length (length ws) ≡ false → false ≡ is_book ws
  wrong_length t = refuted (is_book ws) (λ b. rw t at ((book_parts ws).0 b).long)

  pub wrong_head : is_head ws ≡ false → false ≡ is_book ws
  wrong_head t = refuted (is_book ws) (λ b. rw t at ((book_parts ws).0 b).head)

  pub wrong_classes : (AllClasses (month_in ws) (words_used ws) → ⊥) → false ≡ is_book ws
  wrong_classes wrong = refuted (is_book ws) (λ b. wrong ((book_parts ws).0 b).classes)

  -- the head and the classes passed
  pub counts_left :
      is_length (length ws) ≡ true → is_head ws ≡ true → AllClasses (month_in ws) (words_used ws)
      → are_counted (words_used ws) && every is_zero (words_past ws) ≡ is_book ws
  counts_left l h classes =
      let strikes = are_counted (words_used ws) in
      let zeros = every is_zero (words_past ws) in
      same_bool (strikes && zeros) (is_book ws)
      (λ both.
      (book_parts ws).1 (record {
        long = true_T (is_length (length ws)) l;
        head = true_T (is_head ws) h;
        classes = classes;
        strikes = and_left strikes zeros both;
        zeros = and_right strikes zeros both;
      }))
      (λ b. and_intro strikes zeros ((book_parts ws).0 b).strikes ((book_parts ws).0 b).zeros)

  -- the same where strikes are counted up to an end past the words used: where those past them are not all zero, what
  -- is counted does not matter
  pub counts_further :
      (to : ℕ) → used_in ws ≤ to → to ≤ length ws
      → is_length (length ws) ≡ true → is_head ws ≡ true → AllClasses (month_in ws) (words_used ws)
      → are_counted (take to ws) && every is_zero (words_past ws) ≡ is_book ws
  counts_further to l e long h classes =
      where_passed (are_counted (take to ws)) (are_counted (words_used ws)) (every is_zero (words_past ws))
      (λ z.
      counted_further ws (used_in ws) to (head_within h).0 l e
      (rw (take_all (length ws - used_in ws) (drop (used_in ws) ws)
      (omega (arith, length-drop (used_in ws) ws))) at z))
      ∙ counts_left long h classes
