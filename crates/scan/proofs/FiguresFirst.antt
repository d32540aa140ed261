-- The words of a class's figures at the front of the words of classes: by cases on the classes, and by the words' test.
-- Assumes nothing.
use Prim.Native.Nat.{ℕ, zero-le, ◌+◌, ◌-◌, ◌≤◌}
use mathlib.Core.Path.{◌≡◌, ap, ◌∙◌}
use mathlib.Core.Logic.{◌↔◌}
use mathlib.Core.Bool.{◌&&◌}
use mathlib.Core.List.{List, [], ◌∷◌, map}
use native.Mathlib.Omega.{arith}
use lib.ListN.{length, drop, get_or, length-drop}
use lib.Dec.{T, ltb, le→leb}
use Rattle.logic.specs.Lists.{rises, every}
use Rattle.word.specs.Caps.{own}
use Rattle.word.specs.Class.{designation}
use Rattle.word.specs.Codec.{packed}
use Rattle.word.specs.Figures.{figures_length, figures_at, are_figures, are_figures_at}
use Rattle.word.specs.Kinds.{key_of, class_kind}
use Rattle.word.specs.Programs.{program, is_program, designation_in}
use Rattle.word.proofs.FigureWords.{figures_said, figures_tested}
use Rattle.word.proofs.Words.{designation_said}
use Rattle.book.specs.Facts.{Series, OpenClass, number, is_below, precedes, owned}
use Rattle.book.specs.Layout.{series_words, classes_words}
use Rattle.book.specs.Books.{is_series, is_class}
use Rattle.logic.proofs.Tests.{and_intro, ands}
use Rattle.scan.specs.Stretches.{leads, may_follow, SeriesThen, ClassesWhere, Classes}
use Rattle.scan.proofs.Series.{rises_first}

-- the words of figures at i pass their test, and the words after them are those of the class's series and of classes
-- that may follow it
pub record FiguresThen (now last : ℕ) (counts said : ℕ → ℕ) (i : ℕ) (ws : List ℕ) : Type 0 where
  pub figures : T (are_figures_at last i ws)
  pub rest :
      let w = get_or ws i 0 in
      ClassesWhere now (key_of class_kind w) (λ p. counts p + own (designation_in (program p) w)) said
      (λ xs. SeriesThen now 0 (may_follow 0) xs (drop (i + figures_length) ws))

-- any series may come first
any_first : (ss : List Series) → T (leads (may_follow 0) ss)
any_first [] = tt
any_first (s ∷ ss) = le→leb 0 s.month zero-le

module _ (now last : ℕ) (counts said : ℕ → ℕ) (i : ℕ) (ws : List ℕ) (room : i + figures_length ≤ length ws) where
  figures_from : Classes now last counts said (drop i ws) → FiguresThen now last counts said i ws
  figures_from r = go r.classes r.holds r.legal r.rising r.leading r.counted
    where
      go :
          (xs : List OpenClass) → map packed (classes_words xs []) ≡ drop i ws → T (every (is_class now) xs)
          → T (rises is_below xs) → T (leads (λ x. ltb last (number x)) xs)
          → ((p : ℕ) → T (is_program p) → counts p + owned p xs ≡ said p)
          → FiguresThen now last counts said i ws
      go [] e legal rising leading counted = absurd (omega (arith, ap length e, length-drop i ws))
      go (x ∷ xs) e legal rising leading counted =
          let f = x.figures in
          let limits : T (are_figures f) = search ands in
          let told =
          figures_tested i ws room last f (series_words 0 x.series (classes_words xs [])) limits leading e in
          let same : (p : ℕ) → T (is_program p) → designation_in (program p) (get_or ws i 0) ≡ designation p f =
          λ p k. designation_said (get_or ws i 0) p k ∙ ap (λ ds. get_or ds (p - 1) 0) told.designations in
          let order : T (leads (is_below x) xs && rises is_below xs) = rw (rises_first is_below x xs) at rising in
          record {
            figures = told.test;
            rest =
                record {
                  classes = xs;
                  holds =
                      record {
                        series = x.series;
                        words = told.after;
                        legal = search ands;
                        rising = search ands;
                        leading = any_first x.series;
                      };
                  legal = search ands;
                  rising = search ands;
                  leading = rw told.number (search ands);
                  counted = λ p k. rw (same p k) (omega (arith, counted p k));
                  capped = r.capped;
                };
          }

  figures_to : FiguresThen now last counts said i ws → Classes now last counts said (drop i ws)
  figures_to r =
      let xs = r.rest.classes in
      let s = r.rest.holds in
      let x : OpenClass = record { figures = figures_at i ws; series = s.series } in
      let test : T (are_figures_at last i ws) = r.figures in
      let told = figures_said i ws room last test in
      let figures : T (are_figures (figures_at i ws)) = told.0 in
      let series : T (every (is_series now) s.series) = s.legal in
      let rising : T (rises precedes s.series) = s.rising in
      let rest : T (every (is_class now) xs) = r.rest.legal in
      record {
        classes = x ∷ xs;
        holds = told.1 (series_words 0 s.series (classes_words xs [])) s.words;
        legal = search and_intro;
        rising =
            rw (rises_first is_below x xs)
            (and_intro (leads (is_below x) xs) (rises is_below xs) r.rest.leading r.rest.rising);
        leading = search ands;
        counted = λ p k. rw (← designation_said (get_or ws i 0) p k) (omega (arith, r.rest.counted p k));
        capped = r.rest.capped;
      }

  pub figures : Classes now last counts said (drop i ws) ↔ FiguresThen now last counts said i ws
  figures = (figures_from, figures_to)
